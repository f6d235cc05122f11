-- What stands in a range of bytes in which others were laid.
use Rattle.std.proofs.Common.{◌≡◌, ℕ, ◌+◌, ◌-◌, ◌≤◌, List, ◌++◌, length, take, drop, refl, ap, ◌∙◌, arith, append_assoc}
use Rattle.std.specs.Prelude.{slice_range}
use Rattle.std.proofs.lemmas.List.{length-take-le, take_at, drop_at, length-drop}
use Rattle.ua_binary.specs.Writing.{laid}
use Rattle.fixed_layout.proofs.SlotLaws.{take-laid, laid-behind}

-- a range in front of what was laid
pub range-before : (bytes : List ℕ) (at : ℕ) (text : List ℕ) (start end : ℕ) → start ≤ end → end ≤ at → at ≤ length bytes
    → slice_range (laid bytes at text) start end ≡ slice_range bytes start end
range-before bytes at text start end rising within room =
    ap (λ (l : List ℕ). take (end - start) l) (laid-behind bytes at text start (omega arith) room)
    ∙ take-laid (drop start bytes) (at - start) text (end - start) (omega (arith, length-drop start bytes)) (omega arith)

-- what was laid
pub range-laid : (bytes : List ℕ) (at : ℕ) (text : List ℕ) (end : ℕ) → at ≤ length bytes → end ≡ at + length text
    → slice_range (laid bytes at text) at end ≡ text
range-laid bytes at text end room is =
    let front : length (take at bytes) ≡ at = length-take-le at bytes room in
    let rest = drop (at + length text) bytes in
    let behind : drop at (laid bytes at text) ≡ text ++ rest =
    ap (λ (l : List ℕ). drop at l) (append_assoc (take at bytes) text rest) ∙ drop_at (take at bytes) (text ++ rest) at front in
    let long : end - at ≡ length text = omega arith in
    ap (λ (l : List ℕ). take (end - at) l) behind ∙ ap (λ (n : ℕ). take n (text ++ rest)) long ∙ take_at text rest (length text) refl
