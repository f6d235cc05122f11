use Rattle.std.proofs.Common.{◌+◌, ◌∙◌, refl}
use Rattle.session_parts.specs.declared.round.Round.{Round}
use Rattle.session_parts.proofs.HaltedTick.{halts-tick}
use Rattle.session_parts.proofs.Rounds.{round-ticked}
use Rattle.session_parts.proofs.round.Round.tick.Goals as goal

pub pass_all-requires-clause-may : goal.pass_all-requires-clause-may
pass_all-requires-clause-may g c =
    let may = c.requires.may in
    let begun = c.begin.ensures.begun in
    let holds = c.begin.ensures.holds in
    record {
      good = may.good;
      holds = holds.publisher;
      metas_are = may.metas_are;
      rows_are = may.rows_are;
      goes_on = begun.goes_on c.args.told.now.metas.now 1 may.goes_on;
      counts_are = holds.tree;
      spent = begun.spent;
    }

pub returns-clause-holds : goal.returns-clause-holds
returns-clause-holds g c =
    let holds = c.begin.ensures.holds in
    record {
      publisher = c.pass_all.ensures.holds;
      subscriber = holds.subscriber;
      tree = c.pass_all.ensures.tree ∙ holds.tree;
      buffers = holds.buffers;
    }

pub returns-clause-moment : goal.returns-clause-moment
returns-clause-moment g c = c.begin.ensures.begun.moment

pub returns-clause-goes_on : goal.returns-clause-goes_on
returns-clause-goes_on g c =
    λ turns goes.
    c.pass_all.ensures.goes_on turns (c.begin.ensures.begun.goes_on c.args.told.now.metas.now (turns + 1) goes)

pub returns-clause-logs : goal.returns-clause-logs
returns-clause-logs g c = λ most all. c.pass_all.ensures.logs most (c.begin.ensures.begun.logs most all)

pub returns-clause-ticked : goal.returns-clause-ticked
returns-clause-ticked g c =
    λ is_done t is stands.
    let mid = c.begin.new.self in
    let new : Round = record mid { publisher = c.pass_all.new.self; tree = c.pass_all.new.tree } in
    let begun = c.begin.ensures.begun in
    round-ticked t c.args.told.now c.args.self.now mid new (g.L.Link.told c.args.link.now) (g.L.Link.told c.pass_all.new.link) is begun refl
    (c.pass_all.ensures.passed is_done t is (begun.sent t is stands)) stands

pub returns-clause-halted : goal.returns-clause-halted
returns-clause-halted g c =
    λ no_memory t is stands.
    halts-tick t c.pass_all.new.self (g.L.Link.told c.args.link.now) (g.L.Link.told c.pass_all.new.link)
    (c.pass_all.ensures.halted no_memory t is (c.begin.ensures.begun.sent t is stands))
