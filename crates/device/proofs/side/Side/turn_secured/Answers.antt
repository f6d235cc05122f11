use Rattle.std.proofs.Common.{◌≡◌, ℕ, List, refl, subst, sym, ap, ◌∙◌}
use Rattle.std.specs.Prelude.{Bool, false, Some}
use Rattle.dataset_meta.specs.Metas.{MetaData}
use Rattle.writer_group.specs.Needs.{need_with}
use Rattle.writer_group.specs.Standing.{HasRoomFor, HasTickedAt, MayTickAt, index_of, input_of}
use Rattle.std.proofs.lemmas.Bool.{false≢true}
use Rattle.std.proofs.lemmas.Option.{same_Some}
use Rattle.writer_group.specs.Parts.{no_group}
use Rattle.device.specs.Sides.{numbered}
use Rattle.device.proofs.side.Side.turn_secured.Goals as goal

pub returns-clause-turned : goal.returns-clause-turned
returns-clause-turned c =
    let config = c.args.config.now in
    let moment = c.args.moment in
    let rows = c.args.rows.now in
    let old = c.args.self.now.group in
    let by_on = subst (λ (on : List Bool). HasTickedAt config (input_of moment false c.as_slice-metas.result.now rows on (Some c.args.sender.now)) old c.tick_within.new.self c.tick_within.new.out)
    c.deref-2.ensures.value c.tick_within.ensures.stands in
    record {
      stands = subst (λ (metas : List MetaData). HasTickedAt config (input_of moment false metas rows c.args.self.now.on.items (Some c.args.sender.now)) old c.tick_within.new.self c.tick_within.new.out)
          c.as_slice-metas.ensures by_on;
      made_is = c.tick_within.ensures.count;
      on = refl;
      index = refl;
    }

pub returns-then-not-may_tick-clause-may_not : goal.returns-then-not-may_tick-clause-may_not
returns-then-not-may_tick-clause-may_not c =
    let config = c.args.config.now in
    λ may. false≢true (c.if-not-may_tick.ensures.1
    (subst (λ (on : List Bool). MayTickAt config config.dataset c.args.rows.now on (Some c.args.sender.now) c.args.self.now.group) (sym c.deref.ensures.value) may))

pub returns-clause-numbers : goal.returns-clause-numbers
returns-clause-numbers c =
    let config = c.args.config.now in
    let sender = c.args.sender.now in
    let made = c.tick_within.result in
    let is : Some c.tick_within.new.sender.0 ≡ Some (numbered config (index_of c.args.self.now.group) made sender) = c.tick_within.ensures.sender no_group in
    same_Some c.tick_within.new.sender.0 (numbered config c.args.self.now.index made sender) (is ∙ ap (λ (index : ℕ). Some (numbered config index made sender)) c.requires.side.index)

pub returns-clause-reserved : goal.returns-clause-reserved
returns-clause-reserved c =
    let config = c.args.config.now in
    let room : HasRoomFor config c.as_slice-metas.result.now c.args.out.now =
    subst (λ (metas : List MetaData). HasRoomFor config metas c.args.out.now) (sym c.as_slice-metas.ensures) c.requires.reserved in
    subst (λ (metas : List MetaData). HasRoomFor config metas c.tick_within.new.out) c.as_slice-metas.ensures
    (c.tick_within.ensures.room (need_with config c.as_slice-metas.result.now) room)
