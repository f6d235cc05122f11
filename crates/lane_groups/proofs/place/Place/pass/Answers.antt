use Rattle.lane_groups.proofs.Passing.{passes-by, passes-turn, still-may}
use Rattle.lane_groups.proofs.place.Place.pass.Goals as goal

pub turn-requires-clause-may : goal.turn-requires-clause-may
turn-requires-clause-may c = still-may c.args.told.now c.args.g c.args.self.now c.forget.new.self c.args.sender.now c.requires.may c.forget.ensures

pub turn-requires-clause-unspent : goal.turn-requires-clause-unspent
turn-requires-clause-unspent c = c.has_turn.ensures.unspent c.if-has_turn.true

pub returns-then-has_turn : goal.returns-then-has_turn
returns-then-has_turn c =
    passes-turn c.args.told.now c.args.g c.args.self.now c.forget.new.self c.args.sender.now c.requires.may c.forget.ensures c.has_turn.result c.turn.new.self c.turn.new.sender c.if-has_turn.true
    c.has_turn.ensures.has c.turn.ensures c.a_datagram_is_not_empty.ensures

pub returns-else-has_turn : goal.returns-else-has_turn
returns-else-has_turn c =
    passes-by c.args.told.now c.args.g c.args.self.now c.forget.new.self c.args.sender.now c.requires.may c.forget.ensures c.has_turn.result c.if-has_turn.false c.has_turn.ensures.has
