use Rattle.std.proofs.Common.{◌<◌, ◌+◌, ℕ, List, None, sym, subst, length}
use Rattle.ps_config.specs.declared.parts.GroupPart.{GroupPart}
use Rattle.writer_group.specs.Standing.{HasTicked, IsGroup, IsMadeFor, MayGoOn, MayTick, index_of, input_of, metas_for}
use Rattle.writer_group.specs.Turns.{GroupDeed}
use Rattle.session_parts.proofs.Taking.{at-index, from-index}
use Rattle.session_parts.proofs.publisher.turn_open.Goals as goal

pub tick-requires-clause-index : goal.tick-requires-clause-index
tick-requires-clause-index c = subst (λ (i : ℕ). i < length c.args.told.now.config.now.group) (sym c.requires.may.index) c.requires.may.within

pub tick-requires-clause-turn : goal.tick-requires-clause-turn
tick-requires-clause-turn c =
    let told = c.args.told.now in
    at-index (MayTick told.config.now told.metas.now told.rows.now c.args.on.now None c.args.group.now) told.config.now c.args.g (index_of c.args.group.now) c.requires.may.index
    c.requires.may.within c.requires.may.may

pub returns-clause-turned : goal.returns-clause-turned
returns-clause-turned c =
    let told = c.args.told.now in
    let e = c.tick.ensures in
    let old = c.args.group.now in
    let new = c.tick.new.self in
    record {
      stands = from-index (λ (part : GroupPart). (past : List GroupDeed) → IsGroup (metas_for part told.metas.now) part past old
          → HasTicked told.config.now part past (input_of told.moment told.closing told.metas.now told.rows.now c.args.on.now None) new c.tick.new.out)
          told.config.now c.args.g (index_of old) c.requires.may.index e.stands;
      goes_on = from-index (λ (part : GroupPart). (turns : ℕ) → MayGoOn (metas_for part told.metas.now) part (turns + 1) old → MayGoOn (metas_for part told.metas.now) part turns new)
          told.config.now c.args.g (index_of old) c.requires.may.index e.goes_on;
      logs = e.logs;
      made = from-index (λ (part : GroupPart). IsMadeFor told.config.now part new) told.config.now c.args.g (index_of old) c.requires.may.index e.made;
      index = e.index;
      count_is = e.count;
      reserved = e.reserved;
    }
