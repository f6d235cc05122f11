use Rattle.device.proofs.making.sender_with.Goals as goal

pub returns-clause-resumed : goal.returns-clause-resumed
returns-clause-resumed c = record {
  sets_are = c.resume.ensures.sets;
  keys = c.resume.ensures.token;
  random = c.resume.ensures.random;
  first_block = c.resume.ensures.first_block;
  used_is = c.resume.ensures.used;
  unfronted = c.resume.ensures.unfronted;
}
