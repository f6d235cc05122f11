use Rattle.std.proofs.Common.{length}
use Rattle.payload_layout.specs.Payloads.{part_size}
use Rattle.payload_layout.proofs.Greedy.{packs-full}
use Rattle.payload_layout.proofs.laws.packs_are_filled.Goals as goal

pub returns : goal.returns
returns c = record {
  frames = λ room frames before pack next after. packs-full length room frames before pack next after;
  parts = λ room parts before pack next after. packs-full part_size room parts before pack next after;
}
