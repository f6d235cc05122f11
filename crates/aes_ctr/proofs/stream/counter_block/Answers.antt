use Rattle.std.proofs.Common.{ℕ, List, ◌++◌, slice_index, refl, ap, sym, ◌∙◌}
use Rattle.std.specs.Int.{w32, to_be_bytes}
use Rattle.aes_ctr.specs.InPlanes.{values}
use Rattle.aes_ctr.proofs.Lists.{values_of, lanes_are, bytes_before}
use Rattle.aes_ctr.proofs.Streaming.{digits, digits_are, digits_fit}
use Rattle.aes_ctr.proofs.stream.counter_block.Goals as goal

pub returns-clause-block : goal.returns-clause-block
returns-clause-block c =
    ap (λ (r : List ℕ). values (slice_index c.args.front.now) 0 12 ++ r) (digits_are c.args.counter)
    ∙ sym (ap (λ (xs : List ℕ). xs ++ to_be_bytes w32 c.args.counter) (values_of c.args.front.now 12 c.told-front))

pub returns-clause-lanes : goal.returns-clause-lanes
returns-clause-lanes c =
    lanes_are (values (slice_index c.args.front.now) 0 12 ++ digits c.args.counter) refl
    (bytes_before (slice_index c.args.front.now) 0 12 (digits c.args.counter) c.requires (digits_fit c.args.counter))
