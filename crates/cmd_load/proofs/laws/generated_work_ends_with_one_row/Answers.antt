use Rattle.cmd_load.proofs.Last.{law_ticks, law_versions, law_newest}
use Rattle.cmd_load.proofs.laws.generated_work_ends_with_one_row.Goals as goal

pub returns : goal.returns
returns c = record { ticks = law_ticks; versions = law_versions; newest = law_newest }
