use Rattle.std.proofs.Common.{◌≡◌, ℕ, ◌*◌, ◌<◌, drop, get_or, length}
use Rattle.byteorder.specs.Endian.{little_number}
use Rattle.stored_state.proofs.reading.words_in.Given as goal

abbrev pub invariant-loop-i : goal.invariant-loop-i
invariant-loop-i l = record {
  count : length l.words ≡ 72;
  each : (k d : ℕ) → k < l.i → get_or l.words k d ≡ little_number 4 (drop (4 * k) l.bytes);
}
