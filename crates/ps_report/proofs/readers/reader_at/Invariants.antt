use Rattle.std.proofs.Common.{◌≡◌, ◌<◌, length, drop, slice_get}
use Rattle.ps_report.specs.Conditions.{readers_of}
use Rattle.ps_report.proofs.readers.reader_at.Given as goal

abbrev pub invariant-loop-group : goal.invariant-loop-group
invariant-loop-group l =
    (l.left < length (readers_of (drop l.group-index l.groups)))
    × (slice_get (readers_of (drop l.group-index l.groups)) l.left ≡ slice_get (readers_of l.groups) l.index)
