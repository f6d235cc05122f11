use Rattle.session_parts.proofs.Causes.{refused-one}
use Rattle.session_parts.proofs.tally.Tally.note.Goals as goal

pub returns-in-Err : goal.returns-in-Err
returns-in-Err c =
    λ list h.
    refused-one list c.args.answer.now c.in-Err.refusal c.args.self.now c.count-in-Err.new.self c.cause_of.result c.in-Err.is c.cause_of.ensures.place c.cause_of.ensures.bound c.count-in-Err.ensures h
