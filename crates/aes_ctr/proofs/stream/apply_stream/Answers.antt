use Rattle.std.proofs.Common.{◌≡◌, ◌+◌, length, slice_index, ℕ, ◌-◌, ◌*◌, ◌/◌, ◌<◌, ◌∙◌, bit_xor, refl, ap, ap₂, arith, inl, inr}
use Rattle.std.proofs.lemmas.Bool.{cases_lt}
use Rattle.aes_ctr.specs.Blocks.{stream_byte}
use Rattle.aes_ctr.specs.Keyed.{encrypted}
use Rattle.aes_ctr.proofs.Streaming.{in_pads, streamed_is}
use Rattle.aes_ctr.proofs.stream.apply_stream.Goals as goal

pub each-preserved : goal.each-preserved
each-preserved c = record {
  done = λ k below inside. elim (cases_lt k (128 * c.each.c)) [
    | inl lt ↦ c.add_pads.ensures.below k lt ∙ c.each.invariant.done k lt (omega arith)
    | inr ge ↦
        let j : ℕ = (k - 128 * c.each.c) / 16 in
        let hj : j < 8 = omega arith in
        c.add_pads.ensures.inside k ge (omega arith) (omega arith)
        ∙ ap₂ bit_xor (c.each.invariant.left k ge)
        (in_pads (encrypted c.args.key.now) c.args.front.now c.args.first_block c.each.c k _ _
        (c.encrypt_eight-pads.ensures.blocks j hj ∙ ap (encrypted c.args.key.now) (c.counter_blocks.ensures.blocks j hj)) refl ge)
  ];
  left = λ k h. c.add_pads.ensures.above k (omega arith) ∙ c.each.invariant.left k (omega arith);
}

pub returns-clause-whole : goal.returns-clause-whole
returns-clause-whole c =
    let same : length c.each.bytes ≡ length c.args.bytes.now = omega arith in
    streamed_is (encrypted c.args.key.now) c.args.front.now c.args.first_block 0 c.args.bytes.now c.each.bytes same (λ k h.
    let here : k ≡ 0 + k = omega arith in
    c.each.invariant.done k (omega arith) (omega arith)
    ∙ ap (λ (i : ℕ). bit_xor (slice_index c.args.bytes.now k) (stream_byte (encrypted c.args.key.now) c.args.front.now c.args.first_block i)) here)
