use Rattle.std.proofs.Common.{◌≡◌, ℕ, suc, ◌+◌, ◌-◌, length, List, refl, arith, ap, ap₂, ◌∙◌}
use Rattle.aes_ctr.specs.Cipher.{shift_rows, sub_bytes, mix_columns, add_states, round_key, after_round, cipher}
use Rattle.aes_ctr.proofs.cipher.encrypt_eight.Goals as goal

-- the S-box before the rows move, and after
swapped_steps : (s : List ℕ) → sub_bytes (shift_rows s) ≡ shift_rows (sub_bytes s)
unfolding sub_bytes shift_rows
swapped_steps s = refl

pub rounds-init : goal.rounds-init
unfolding after_round
rounds-init c = record {
  full = c.add-s.ensures.full;
  blocks = λ ws keys j hj. c.add-s.ensures.blocks j
      ∙ ap₂ add_states (c.to_planes.ensures.blocks j hj) (c.planes.ensures.blocks j ∙ (keys 0 (omega arith)).1 j hj);
}

pub rounds-preserved : goal.rounds-preserved
unfolding after_round
rounds-preserved c =
    let here : c.rounds.r ≡ suc (c.rounds.r - 1) = omega arith in
    let next : c.rounds.r + 1 - 1 ≡ suc (c.rounds.r - 1) = omega arith in
    record {
      full = c.add-s-in-rounds.ensures.full;
      blocks = λ ws keys j hj. rw next (c.add-s-in-rounds.ensures.blocks j
          ∙ ap₂ add_states (c.mix_columns.ensures.blocks j ∙ ap mix_columns (c.sub_bytes.ensures.blocks j hj ∙ ap sub_bytes (c.shift_rows.ensures.blocks j)
          ∙ swapped_steps _ ∙ ap (λ s. shift_rows (sub_bytes s)) (c.rounds.invariant.blocks ws keys j hj)))
          (c.planes-in-rounds.ensures.blocks j ∙ (keys c.rounds.r (omega arith)).1 j hj ∙ ap (round_key ws) here));
    }

pub returns-clause-blocks : goal.returns-clause-blocks
unfolding cipher
returns-clause-blocks c ws keys j hj =
    let last : length c.args.keys.now - 1 ≡ suc (length c.args.keys.now - 2) = omega arith in
    let done : c.rounds.r - 1 ≡ length c.args.keys.now - 2 = omega arith in
    c.from_planes.ensures.blocks j hj ∙ c.add.ensures.blocks j
    ∙ ap₂ add_states (c.sub_bytes-2.ensures.blocks j hj ∙ ap sub_bytes (c.shift_rows-2.ensures.blocks j)
    ∙ swapped_steps _ ∙ ap (λ s. shift_rows (sub_bytes s)) (rw done at (c.rounds.invariant.blocks ws keys j hj)))
    (c.planes-2.ensures.blocks j ∙ (keys (length c.args.keys.now - 1) (omega arith)).1 j hj ∙ ap (round_key ws) last)
