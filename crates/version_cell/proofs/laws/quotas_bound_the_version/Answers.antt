use Rattle.version_cell.proofs.Models.{quota_known, version_bound}
use Rattle.version_cell.proofs.laws.quotas_bound_the_version.Goals as goal

pub returns : goal.returns
returns c = record { quotas = λ cell p author is own lt. quota_known cell p is own author lt; version = version_bound }
