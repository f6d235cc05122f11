use Rattle.std.proofs.Common.{◌≡◌, take}
use Rattle.dataset_meta.proofs.meta.copies.Given as goal

-- the data sets so far
abbrev pub invariant-loop-meta : goal.invariant-loop-meta
invariant-loop-meta l = l.copies.items ≡ take l.meta-index l.metas
