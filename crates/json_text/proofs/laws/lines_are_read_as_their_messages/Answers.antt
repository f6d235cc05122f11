use Rattle.json_text.proofs.Read.{read-all}
use Rattle.json_text.proofs.laws.lines_are_read_as_their_messages.Goals as goal

pub returns : goal.returns
returns c = read-all
