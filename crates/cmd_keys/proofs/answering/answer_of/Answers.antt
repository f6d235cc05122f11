use Rattle.cmd_keys.proofs.Groups.{found_named}
use Rattle.cmd_keys.proofs.answering.answer_of.Goals as goal

pub answer_by-requires-clause-named : goal.answer_by-requires-clause-named
answer_by-requires-clause-named c = found_named c.as_slice.result.now c.args.request.now.group c.in-Some.group.now c.in-Some.ensures.found
