use Rattle.std.proofs.Common.{◌≡◌, ℕ, ◌<◌, ◌-◌, List, [], length, slice_index_or}
use Rattle.aes_ctr.specs.Cipher.{after_round}
use Rattle.aes_ctr.specs.InPlanes.{IsPlanes, block_in}
use Rattle.aes_ctr.specs.RoundKeys.{AreRoundKeys}
use Rattle.aes_ctr.proofs.cipher.encrypt_eight.Given as goal

abbrev pub invariant-rounds : goal.invariant-rounds
invariant-rounds l = record {
  full : IsPlanes l.s;
  blocks : (ws : List (List ℕ)) → AreRoundKeys l.keys ws (length l.keys)
      → (j : ℕ) → j < 8 → block_in l.s j ≡ after_round ws (slice_index_or l.fn.blocks j []) (l.r - 1);
}
