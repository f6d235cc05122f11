use Rattle.std.proofs.Common.{length}
use Rattle.payload_layout.specs.Payloads.{part_size}
use Rattle.payload_layout.proofs.Packs.{packs-sized}
use Rattle.payload_layout.proofs.laws.packs_are_told_by_sizes.Goals as goal

pub returns : goal.returns
returns c = record {
  frames = λ room frames. packs-sized length room frames;
  parts = λ room parts. packs-sized part_size room parts;
}
