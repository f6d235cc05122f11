use Rattle.std.proofs.Common.{◌≡◌, ℕ, List, ◌+◌, ◌-◌, ◌<◌, ◌≤◌, bit_xor, get_or}
use Rattle.aes_ctr.proofs.stream.add_pad.Given as goal

-- the bytes from start up to end have the pad added, and the others are as they were
pub record Added (old new pad : List ℕ) (start end : ℕ) : Type 0 where
  pub inside : (k : ℕ) → start ≤ k → k < end → get_or new k 0 ≡ bit_xor (get_or old k 0) (get_or pad (k - start) 0)
  pub below : (k : ℕ) → k < start → get_or new k 0 ≡ get_or old k 0
  pub above : (k : ℕ) → end ≤ k → get_or new k 0 ≡ get_or old k 0

abbrev pub invariant-whole : goal.invariant-whole
invariant-whole l = Added l.initial.bytes l.bytes l.block l.start (l.start + l.i)

abbrev pub invariant-part : goal.invariant-part
invariant-part l = Added l.initial.bytes l.bytes l.block l.start l.i
