use Rattle.std.proofs.Common.{Option, Some, refl, sym, ap, subst}
use Rattle.message_guard.specs.Senders.{SenderState}
use Rattle.session_parts.specs.Ticking.{MayTurn, TakesTurn}
use Rattle.lane_groups.specs.Passing.{HasAdvanced}
use Rattle.lane_groups.proofs.place.turn_with.Goals as goal

pub turn_open-requires-clause-may : goal.turn_open-requires-clause-may
turn_open-requires-clause-may c = subst (λ (s : Option SenderState). MayTurn c.args.told.now c.args.g c.args.on.now s c.args.group.now) c.in-None.is c.requires.may

pub turn_secured-requires-clause-may : goal.turn_secured-requires-clause-may
turn_secured-requires-clause-may c = subst (λ (s : Option SenderState). MayTurn c.args.told.now c.args.g c.args.on.now s c.args.group.now) c.in-Some.is c.requires.may

pub returns-in-None-clause-turned : goal.returns-in-None-clause-turned
returns-in-None-clause-turned c =
    subst (λ (s : Option SenderState). TakesTurn c.args.told.now c.args.g c.args.on.now s c.turn_open.result c.args.group.now c.turn_open.new.group c.turn_open.new.out) (sym c.in-None.is) c.turn_open.ensures.turned

pub returns-in-Some-clause-turned : goal.returns-in-Some-clause-turned
returns-in-Some-clause-turned c =
    subst (λ (s : Option SenderState). TakesTurn c.args.told.now c.args.g c.args.on.now s c.turn_secured.result c.args.group.now c.turn_secured.new.group c.turn_secured.new.out) (sym c.in-Some.is)
    c.turn_secured.ensures.turned

pub returns-in-None-clause-sender : goal.returns-in-None-clause-sender
returns-in-None-clause-sender c =
    subst (λ (s : Option SenderState). HasAdvanced c.args.told.now c.args.g c.turn_open.result s s) (sym c.in-None.is) (record { advanced = refl; sender_is = tt })

pub returns-in-Some-clause-sender : goal.returns-in-Some-clause-sender
returns-in-Some-clause-sender c =
    subst (λ (s : Option SenderState). HasAdvanced c.args.told.now c.args.g c.turn_secured.result s (Some c.turn_secured.new.sender)) (sym c.in-Some.is)
    (record { advanced = ap Some c.turn_secured.ensures.sender; sender_is = c.turn_secured.ensures.sender_is })
