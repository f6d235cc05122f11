use Rattle.std.proofs.Common.{refl}
use Rattle.device.proofs.looking.look.Goals as goal

pub returns-then-not-is_due-clause-did : goal.returns-then-not-is_due-clause-did
returns-then-not-is_due-clause-did c = record { due = c.if-not-is_due.ensures; stays = refl }

pub returns-in-None-clause-did : goal.returns-in-None-clause-did
returns-in-None-clause-did c = record { due = c.if-not-is_due.ensures; may_not = c.in-None.ensures.may_not; stays = c.in-None.ensures.not }

pub returns-in-Some-clause-did : goal.returns-in-Some-clause-did
returns-in-Some-clause-did c = record {
  due = c.if-not-is_due.ensures;
  moment = c.moment_of-moment.result;
  moment_is = c.moment_of-moment.ensures;
  turned = c.in-Some.ensures.turned;
}
