use Rattle.std.proofs.Common.{◌≡◌, ℕ, ◌<◌, ◌^◌, get_or, length}
use Rattle.device.specs.Storing.{IsWordAt}
use Rattle.device.proofs.publisher.Publisher.words.Given as goal

abbrev pub invariant-loop-i : goal.invariant-loop-i
invariant-loop-i l = record {
  count : length l.words ≡ 72;
  each : (place : ℕ) → place < l.i → IsWordAt l.ahead l.self place (get_or l.words place 0);
  fit : (place : ℕ) → place < l.i → get_or l.words place 0 < 2 ^ 32;
}
