use Rattle.cmd_json.proofs.Jsoned.{are-own}
use Rattle.cmd_json.proofs.laws.lines_have_their_writers_frames.Goals as goal

pub returns : goal.returns
returns c = are-own c.what_the_laws_below_say.ensures
