use Rattle.std.proofs.Common.{◌≡◌, drop}
use Rattle.json_frames.specs.Reading.{set_of}
use Rattle.json_tap.proofs.Sets.{pairs}
use Rattle.json_tap.proofs.part.set_in.Given as goal

-- the id isn't that of a writer so far
abbrev pub invariant-loop-writer : goal.invariant-loop-writer
invariant-loop-writer l = set_of (pairs (drop l.writer-index l.writers)) l.id ≡ set_of (pairs l.writers) l.id
