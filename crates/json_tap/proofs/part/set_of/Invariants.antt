use Rattle.std.proofs.Common.{◌≡◌, drop}
use Rattle.json_frames.specs.Reading.{set_of}
use Rattle.json_tap.specs.Transcoding.{sets_of}
use Rattle.json_tap.proofs.Sets.{sets_in}
use Rattle.json_tap.proofs.part.set_of.Given as goal

-- the id isn't that of a writer of the groups so far
abbrev pub invariant-loop-group : goal.invariant-loop-group
invariant-loop-group l = set_of (sets_in (drop l.group-index l.config.group)) l.writer ≡ set_of (sets_of l.config) l.writer
