use Rattle.std.proofs.Common.{List, length, map, sym, ap, ◌∙◌, subst}
use Rattle.std.specs.Prelude.{All}
use Rattle.version_cell.specs.Sets.{ArePassesOf}
use Rattle.app_threads.specs.declared.done.Done.{Done}
use Rattle.script_runner.specs.Finishing.{HasStoredAll, unwatched}
use Rattle.script_runner.proofs.Finishing.{AreEnds, bank-level, ends-script, finishes, may-level, targets-met}
use Rattle.script_runner.proofs.ending.finish.Goals as goal

pub meet_all-requires-clause-own : goal.meet_all-requires-clause-own
meet_all-requires-clause-own g c = λ k d lt. (c.requires.own k d lt).0

pub level_all-requires-clause-targets : goal.level_all-requires-clause-targets
level_all-requires-clause-targets g c = targets-met c.args.session c.meet_all.new.session c.in_ok-meet_all.ensures.rest c.args.targets.now c.requires.targets

pub level_all-requires-clause-own : goal.level_all-requires-clause-own
level_all-requires-clause-own g c =
    let targets = c.args.targets.now.cells in
    subst (λ (l : List Done). All (λ (done : Done). ArePassesOf targets done.watches) l) (sym {A = List Done} c.in_ok-meet_all.ensures.same) (λ k d lt. (c.requires.own k d lt).1)

pub pass-requires-clause-bank : goal.pass-requires-clause-bank
pass-requires-clause-bank g c =
    bank-level c.meet_all.new.session c.level_all.new.session c.level_all.ensures.rest c.args.bank.now c.in_ok-meet_all.ensures.bank

pub pass-requires-clause-may : goal.pass-requires-clause-may
pass-requires-clause-may g c =
    may-level c.args.session c.meet_all.new.session c.level_all.new.session c.in_ok-meet_all.ensures.rest c.level_all.ensures.rest c.requires.may

pub returns : goal.returns
returns g c =
    let bank = c.args.bank.now in
    let targets = c.args.targets.now.cells in
    let dones = c.args.dones.items in
    let left = c.deref.result.now in
    let old = c.args.session in
    let met = c.meet_all.new.session in
    let level = c.level_all.new.session in
    let new = c.pass.new.session in
    let told = g.L.Link.told c.args.link.now in
    let after = g.L.Link.told c.pass.new.link in
    let m = c.in_ok-meet_all.ensures in
    let l = c.level_all.ensures in
    let are : AreEnds bank targets old met level new dones left told after = record {
      samples = m.rest;
      more = m.more;
      met_all = m.met;
      stood = m.stands;
      stores = l.rest;
      stored = subst (HasStoredAll met (length targets)) m.same l.stored;
      left_are = ap (λ (ds : List Done). map unwatched ds) c.deref.ensures.value ∙ l.dones ∙ ap (λ (ds : List Done). map unwatched ds) m.same;
      stood_level = l.stands;
      passed = c.in_ok-pass.ensures.passes;
      bank_old = c.requires.bank;
      bank_met = m.bank;
      bank_new = c.in_ok-pass.ensures.bank;
    } in
    let of_script = ends-script bank targets old met level new dones left told after are c.requires.script in
    let e = c.close.ensures in
    record {
      finishes = finishes bank targets old met level new dones left told after c.close.result are of_script (e.whole of_script.whole) e.histories e.watches e.of;
      link = c.pass.ensures.link;
    }
