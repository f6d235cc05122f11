use Rattle.writer_group.specs.Needs.{largest_need}
use Rattle.writer_group.proofs.Needs.{room-largest}
use Rattle.writer_group.proofs.group.Group.tick.Goals as goal

pub tick_within-requires-clause-room : goal.tick_within-requires-clause-room
tick_within-requires-clause-room c = room-largest c.args.config.now c.args.metas.now c.args.out.now c.requires.reserved

pub tick_within-requires-in-Some-clause-room : goal.tick_within-requires-in-Some-clause-room
tick_within-requires-in-Some-clause-room c = room-largest c.args.config.now c.args.metas.now c.args.out.now c.requires.reserved

pub returns-in-None-clause-stands : goal.returns-in-None-clause-stands
returns-in-None-clause-stands c = rw c.in-None.is c.tick_within.ensures.stands

pub returns-in-None-clause-reserved : goal.returns-in-None-clause-reserved
returns-in-None-clause-reserved c = c.tick_within.ensures.room largest_need c.requires.reserved

pub returns-in-Some-clause-stands : goal.returns-in-Some-clause-stands
returns-in-Some-clause-stands c = rw c.in-Some.is c.tick_within-in-Some.ensures.stands

pub returns-in-Some-clause-sender_stays : goal.returns-in-Some-clause-sender_stays
returns-in-Some-clause-sender_stays c = rw c.in-Some.is c.tick_within-in-Some.ensures.sender_stays

pub returns-in-Some-clause-sender : goal.returns-in-Some-clause-sender
returns-in-Some-clause-sender c = rw c.in-Some.is c.tick_within-in-Some.ensures.sender

pub returns-in-Some-clause-reserved : goal.returns-in-Some-clause-reserved
returns-in-Some-clause-reserved c = c.tick_within-in-Some.ensures.room largest_need c.requires.reserved
