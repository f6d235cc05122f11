use Rattle.std.proofs.Common.{length}
use Rattle.payload_layout.specs.Payloads.{part_size}
use Rattle.payload_layout.proofs.Packs.{packs-frames}
use Rattle.payload_layout.proofs.laws.packed_frames_are_the_frames.Goals as goal

pub returns : goal.returns
returns c = record {
  frames = λ room frames. packs-frames length room frames;
  parts = λ room parts. packs-frames part_size room parts;
}
