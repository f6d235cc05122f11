use Rattle.lane_groups.proofs.Turned.{done-made, done-next, done-turn, is-begun, is-done, may-all}
use Rattle.lane_groups.proofs.lane.LaneMakerWork.turn.Goals as goal

pub begin-requires-clause-good : goal.begin-requires-clause-good
begin-requires-clause-good c = c.requires.may.work_is.good

pub begin-requires-clause-lane : goal.begin-requires-clause-lane
begin-requires-clause-lane c = c.requires.may.lane_is

pub pass_all-requires : goal.pass_all-requires
pass_all-requires c =
    may-all c.args.work.now.turns.now c.args.number c.turn_at-turn.result.now c.told_of-told.result c.args.self.now c.begin.new.self c.requires.number c.turn_at-turn.ensures c.args.work.now.config.now
    c.told_of-told.ensures
    (is-begun c.args.work.now c.args.number c.turn_at-turn.result.now c.args.self.now c.begin.new.self c.requires.number c.turn_at-turn.ensures c.requires.may c.begin.ensures.keygroup c.begin.ensures.begun)

pub returns-clause-turns : goal.returns-clause-turns
returns-clause-turns c =
    done-turn c.args.work.now c.args.number c.args.self.now c.pass_all.new.self c.requires.number c.requires.may
    (is-done c.args.work.now.turns.now c.args.number c.turn_at-turn.result.now c.told_of-told.result c.args.self.now c.begin.new.self c.requires.number c.turn_at-turn.ensures c.pass_all.new.self
    c.pass_all.ensures.keygroup c.pass_all.ensures.passed c.args.work.now.config.now c.told_of-told.ensures
    (is-begun c.args.work.now c.args.number c.turn_at-turn.result.now c.args.self.now c.begin.new.self c.requires.number c.turn_at-turn.ensures c.requires.may c.begin.ensures.keygroup c.begin.ensures.begun))

pub returns-clause-next : goal.returns-clause-next
returns-clause-next c =
    done-next c.args.work.now c.args.number c.args.self.now c.pass_all.new.self c.requires.number c.requires.may
    (is-done c.args.work.now.turns.now c.args.number c.turn_at-turn.result.now c.told_of-told.result c.args.self.now c.begin.new.self c.requires.number c.turn_at-turn.ensures c.pass_all.new.self
    c.pass_all.ensures.keygroup c.pass_all.ensures.passed c.args.work.now.config.now c.told_of-told.ensures
    (is-begun c.args.work.now c.args.number c.turn_at-turn.result.now c.args.self.now c.begin.new.self c.requires.number c.turn_at-turn.ensures c.requires.may c.begin.ensures.keygroup c.begin.ensures.begun))

pub returns-clause-has_made : goal.returns-clause-has_made
returns-clause-has_made c =
    done-made c.args.work.now c.args.number c.args.self.now c.pass_all.new.self c.requires.number c.requires.may
    (is-done c.args.work.now.turns.now c.args.number c.turn_at-turn.result.now c.told_of-told.result c.args.self.now c.begin.new.self c.requires.number c.turn_at-turn.ensures c.pass_all.new.self
    c.pass_all.ensures.keygroup c.pass_all.ensures.passed c.args.work.now.config.now c.told_of-told.ensures
    (is-begun c.args.work.now c.args.number c.turn_at-turn.result.now c.args.self.now c.begin.new.self c.requires.number c.turn_at-turn.ensures c.requires.may c.begin.ensures.keygroup c.begin.ensures.begun))

pub returns-clause-fit : goal.returns-clause-fit
returns-clause-fit c =
    (is-done c.args.work.now.turns.now c.args.number c.turn_at-turn.result.now c.told_of-told.result c.args.self.now c.begin.new.self c.requires.number c.turn_at-turn.ensures c.pass_all.new.self
    c.pass_all.ensures.keygroup c.pass_all.ensures.passed c.args.work.now.config.now c.told_of-told.ensures
    (is-begun c.args.work.now c.args.number c.turn_at-turn.result.now c.args.self.now c.begin.new.self c.requires.number c.turn_at-turn.ensures c.requires.may c.begin.ensures.keygroup c.begin.ensures.begun)).fit
