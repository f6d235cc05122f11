use Rattle.version_cell.proofs.Spellings.{equal_parts}
use Rattle.version_cell.proofs.laws.spellings_have_equal_parts.Goals as goal

pub returns : goal.returns
returns c = equal_parts
