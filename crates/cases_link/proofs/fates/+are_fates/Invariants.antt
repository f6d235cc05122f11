use Rattle.std.proofs.Common.{length}
use Rattle.cases_link.proofs.fates.+are_fates.Given as goal

-- each call has one fate fewer
abbrev pub decreases-are_fates : goal.decreases-are_fates
decreases-are_fates l = length l.fates.now
