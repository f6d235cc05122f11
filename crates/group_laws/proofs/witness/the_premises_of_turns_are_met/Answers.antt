use Rattle.group_laws.proofs.Meeting.{chunked-comes, cut-answers, fixed-comes, many, secured-comes, signed-answers, slotted-answers, three-types, three_is_read, turn-facts}
use Rattle.group_laws.proofs.witness.the_premises_of_turns_are_met.Goals as goal

pub returns-clause-accepted : goal.returns-clause-accepted
returns-clause-accepted c = three_is_read

pub returns-clause-types : goal.returns-clause-types
returns-clause-types c = three-types

pub returns-clause-secured : goal.returns-clause-secured
returns-clause-secured c = secured-comes turn-facts

pub returns-clause-fixed : goal.returns-clause-fixed
returns-clause-fixed c = fixed-comes turn-facts

pub returns-clause-chunked : goal.returns-clause-chunked
returns-clause-chunked c = chunked-comes turn-facts

pub returns-clause-one_signed : goal.returns-clause-one_signed
returns-clause-one_signed c = (many turn-facts).0

pub returns-clause-one_slotted : goal.returns-clause-one_slotted
returns-clause-one_slotted c = (many turn-facts).1

pub returns-clause-two_chunks : goal.returns-clause-two_chunks
returns-clause-two_chunks c = (many turn-facts).2

pub returns-clause-signed_answer : goal.returns-clause-signed_answer
returns-clause-signed_answer c = signed-answers

pub returns-clause-slotted_answer : goal.returns-clause-slotted_answer
returns-clause-slotted_answer c = slotted-answers

pub returns-clause-chunked_answer : goal.returns-clause-chunked_answer
returns-clause-chunked_answer c = cut-answers
