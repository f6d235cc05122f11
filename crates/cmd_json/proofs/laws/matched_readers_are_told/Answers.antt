use Rattle.cmd_json.proofs.Matching.{told-if-matched}
use Rattle.cmd_json.proofs.laws.matched_readers_are_told.Goals as goal

pub returns : goal.returns
returns c = told-if-matched
