use Rattle.std.proofs.Common.{◌≡◌, ℕ, List, ◌<◌, ◌≤◌, bit_xor, get_or}
use Rattle.hmac_sign.proofs.hmac.with_pad.Given as goal

-- the bytes below the index are mixed with the pad, and the others are the block's
pub record IsMixedBelow (block mixed : List ℕ) (pad index : ℕ) : Type 0 where
  pub below : (k : ℕ) → k < index → get_or mixed k 0 ≡ bit_xor (get_or block k 0) pad
  pub above : (k : ℕ) → index ≤ k → get_or mixed k 0 ≡ get_or block k 0

abbrev pub invariant-loop-byte : goal.invariant-loop-byte
invariant-loop-byte l = IsMixedBelow l.block l.byte-items l.pad l.byte-index
