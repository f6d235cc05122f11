use Rattle.std.proofs.Common.{◌<◌, List, length, map, refl, sym, ap, ◌∙◌, subst, arith}
use Rattle.std.specs.Prelude.{IsSome}
use Rattle.version_cell.specs.Known.{Known}
use Rattle.version_cell.specs.Passes.{AddsLater, shared_by}
use Rattle.version_cell.specs.Sets.{ArePassesOf, ChangesAt, JoinEach, cell_at, pass_at}
use Rattle.pubsub_engine.specs.Holding.{passes_of}
use Rattle.script_player.specs.declared.hand.Hand.{Hand}
use Rattle.script_player.proofs.Staying.{samples-change}
use Rattle.script_player.proofs.HandWrites.{IsWrite, has_written, keep_authors, still_behind}
use Rattle.script_player.proofs.hand.Hand.write.Goals as goal

pub place-version-requires-clause-numbered : goal.place-version-requires-clause-numbered
place-version-requires-clause-numbered g c =
    let within : c.args.set < length c.args.self.now.passes = omega (arith, c.requires.set, c.requires.own.count) in
    subst IsSome (sym (c.join.ensures.joins c.args.set within).more.author) c.requires.numbered

pub place-version-requires-clause-left : goal.place-version-requires-clause-left
place-version-requires-clause-left g c =
    let within : c.args.set < length c.args.self.now.passes = omega (arith, c.requires.set, c.requires.own.count) in
    c.passes_see_on.ensures.left (pass_at c.args.self.now.passes c.args.set) (pass_at c.join.new.passes c.args.set)
    (c.join.ensures.joins c.args.set within).more c.requires.left

pub returns : goal.returns
returns g c =
    let bank = c.args.bank.now in
    let set = c.args.set in
    let cell = cell_at bank set in
    let patch = c.args.patch.now in
    let old = c.args.session.now in
    let new = c.meet.new.self in
    let hand = c.args.self.now in
    let made = c.split.new.passes in
    let after : Hand = record hand { passes = made; versions = c.push.new.self } in
    let joined = c.join.new.passes in
    let same = c.split.ensures.same in
    let placed = c.place-version.ensures in
    let w : IsWrite cell set patch (passes_of old) (passes_of new) hand after = record {
      within = omega (arith, c.requires.set, c.requires.bank.passes.count);
      count = c.requires.own.count ∙ sym c.requires.bank.passes.count;
      count_new = c.meet.ensures.bank.passes.count ∙ sym c.requires.bank.passes.count;
      behind = c.requires.behind;
      joined = joined;
      takes_in = subst (λ (l : List Known). JoinEach hand.passes l joined) c.in_ok-seen.ensures.given c.join.ensures.joins;
      adds = subst (λ (l : List Known). AddsLater cell patch (pass_at joined set) (pass_at l set)) (sym same) placed.placed;
      others = subst (λ (l : List Known). ChangesAt set joined l) (sym same) placed.others;
      count_after = ap (λ (l : List Known). length l) same ∙ placed.own.count ∙ sym c.requires.bank.passes.count;
      given = subst (λ (l : List Known). JoinEach l (map shared_by made) (passes_of new)) c.share.ensures.same
          (subst (λ (l : List Known). JoinEach (passes_of c.share.new.self) l (passes_of new))
          (c.in_ok-shown.ensures.given ∙ ap (map shared_by) (sym same)) c.meet.ensures.joins);
    } in
    record {
      session = c.meet.ensures.session;
      bank = c.meet.ensures.bank;
      own = subst (ArePassesOf bank) (sym same) placed.own;
      wrote = has_written cell set patch (passes_of old) (passes_of new) hand after w c.place-version.result
          (placed.version ∙ ap (λ (l : List Known). length (pass_at l set).seen) (sym same)) c.in_ok-push.ensures.items refl;
      authors = keep_authors cell set patch (passes_of old) (passes_of new) hand after w;
      behind = still_behind cell set patch (passes_of old) (passes_of new) hand after w;
      samples = samples-change old c.share.new.self new c.share.ensures.rest c.meet.ensures.rest;
      stands = λ p steps stood. c.meet.ensures.stands p steps (c.share.ensures.stands p steps stood);
    }
