use Rattle.std.proofs.Common.{length}
use Rattle.payload_layout.specs.Payloads.{part_size}
use Rattle.payload_layout.proofs.Packs.{packs-sound}
use Rattle.payload_layout.proofs.laws.packs_fit_or_are_cut.Goals as goal

pub returns : goal.returns
returns c = record {
  frames = λ room frames. packs-sound length room frames;
  parts = λ room parts. packs-sound part_size room parts;
}
