-- Frames that stand one behind another: their bytes are one range.
use Rattle.std.proofs.Common.{◌≡◌, ℕ, zero, suc, ◌+◌, ◌-◌, ◌<◌, ◌≤◌, List, [], ◌∷◌, ◌++◌, length, take, drop, drop-drop, take-add, get_or, refl, sym, ap, ◌∙◌, arith, All}
use Rattle.std.specs.Prelude.{slice_range}
use Rattle.std.specs.List.{flat_map}
use Rattle.std.proofs.lemmas.List.{get_or-drop, length-drop}
use Rattle.std.proofs.lemmas.List.Elements.{All-drop, All-head, All-tail, All-take}
use Rattle.writer_group.specs.declared.spelled.SpelledFrame.{SpelledFrame}
use Rattle.writer_group.specs.Holding.{IsWithin, StandFrom, spelled_at}

pub stand-push : (start : ℕ) (frames : List SpelledFrame) (frame : SpelledFrame) (end : ℕ) → StandFrom start frames end → frame.start ≡ end
    → StandFrom start (frames ++ frame ∷ []) frame.end
stand-push start [] frame end stand is = (is ∙ sym stand, refl)
stand-push start (first ∷ frames) frame end stand is = (stand.0, stand-push first.end frames frame end stand.1 is)

-- the frames from an index on, and the first frames
stand-drop : (start : ℕ) (frames : List SpelledFrame) (end index : ℕ) (d : SpelledFrame) → index < length frames → StandFrom start frames end
    → StandFrom (get_or frames index d).start (drop index frames) end
stand-drop start [] end index d within stand = absurd (omega arith)
stand-drop start (frame ∷ frames) end zero d within stand = (refl, stand.1)
stand-drop start (frame ∷ frames) end (suc index) d within stand = stand-drop frame.end frames end index d (omega arith) stand.1

stand-take : (start : ℕ) (frames : List SpelledFrame) (end last : ℕ) (d : SpelledFrame) → last < length frames → StandFrom start frames end
    → StandFrom start (take (suc last) frames) (get_or frames last d).end
stand-take start [] end last d within stand = absurd (omega arith)
stand-take start (frame ∷ frames) end zero d within stand = (stand.0, refl)
stand-take start (frame ∷ frames) end (suc last) d within stand = (stand.0, stand-take frame.end frames end last d (omega arith) stand.1)

stand-rises : (most start : ℕ) (frames : List SpelledFrame) (end : ℕ) → All (IsWithin most) frames → StandFrom start frames end → start ≤ end
stand-rises most start [] end within stand = omega (arith, stand)
stand-rises most start (frame ∷ frames) end within stand =
    let first : IsWithin most frame = All-head (IsWithin most) frame frames within in
    omega (arith, first.rising, stand.0, stand-rises most frame.end frames end (All-tail (IsWithin most) frame frames within) stand.1)

-- two ranges one behind the other
range-then : (bytes : List ℕ) (start middle end : ℕ) → start ≤ middle → middle ≤ end → slice_range bytes start middle ++ slice_range bytes middle end ≡ slice_range bytes start end
range-then bytes start middle end one two =
    let long : end - start ≡ (middle - start) + (end - middle) = omega arith in
    let place : start + (middle - start) ≡ middle = omega arith in
    sym (
    ap (λ (n : ℕ). take n (drop start bytes)) long
    ∙ take-add (middle - start) (end - middle) (drop start bytes)
    ∙ ap (λ (l : List ℕ). slice_range bytes start middle ++ take (end - middle) l) (drop-drop (middle - start) start bytes)
    ∙ ap (λ (n : ℕ). slice_range bytes start middle ++ take (end - middle) (drop n bytes)) place
    )

texts-joined : (bytes : List ℕ) (most start : ℕ) (frames : List SpelledFrame) (end : ℕ) → All (IsWithin most) frames → StandFrom start frames end
    → flat_map (λ (f : SpelledFrame). (spelled_at bytes f).bytes) frames ≡ slice_range bytes start end
texts-joined bytes most start [] end within stand =
    let none : end - start ≡ 0 = omega (arith, stand) in
    sym (ap (λ (n : ℕ). take n (drop start bytes)) none)
texts-joined bytes most start (frame ∷ frames) end within stand =
    let first : IsWithin most frame = All-head (IsWithin most) frame frames within in
    let rest = All-tail (IsWithin most) frame frames within in
    ap (λ (l : List ℕ). slice_range bytes frame.start frame.end ++ l) (texts-joined bytes most frame.end frames end rest stand.1)
    ∙ range-then bytes frame.start frame.end end first.rising (stand-rises most frame.end frames end rest stand.1)
    ∙ ap (λ (n : ℕ). slice_range bytes n end) stand.0

-- the bytes of some frames from an index on
pub part-joined : (bytes : List ℕ) (most start : ℕ) (frames : List SpelledFrame) (end first count : ℕ) (d : SpelledFrame) → All (IsWithin most) frames → StandFrom start frames end
    → 0 < count → first + count ≤ length frames
    → flat_map (λ (f : SpelledFrame). (spelled_at bytes f).bytes) (take count (drop first frames)) ≡ slice_range bytes (get_or frames first d).start (get_or frames (first + count - 1) d).end
part-joined bytes most start frames end first zero d within stand some inside = absurd (omega arith)
part-joined bytes most start frames end first (suc more) d within stand some inside =
    let mine = drop first frames in
    let begin = (get_or frames first d).start in
    let long : more < length mine = omega (arith, length-drop first frames) in
    let behind = stand-take begin mine end more d long (stand-drop start frames end first d (omega arith) stand) in
    let here : first + more ≡ first + suc more - 1 = omega arith in
    let last : get_or mine more d ≡ get_or frames (first + suc more - 1) d = get_or-drop first frames more d ∙ ap (λ (n : ℕ). get_or frames n d) here in
    texts-joined bytes most begin (take (suc more) mine) (get_or mine more d).end (All-take (IsWithin most) (suc more) mine (All-drop (IsWithin most) first frames within)) behind
    ∙ ap (λ (f : SpelledFrame). slice_range bytes begin f.end) last

-- where they begin and end
pub record IsPart (bytes : List ℕ) (frames : List SpelledFrame) (first count : ℕ) (d : SpelledFrame) : Type 0 where
  pub rising : (get_or frames first d).start ≤ (get_or frames (first + count - 1) d).end
  pub within : (get_or frames (first + count - 1) d).end ≤ length bytes

pub part-within : (bytes : List ℕ) (most start : ℕ) (frames : List SpelledFrame) (end first count : ℕ) (d : SpelledFrame) → All (IsWithin most) frames → most ≤ length bytes → StandFrom start frames end
    → 0 < count → first + count ≤ length frames → IsPart bytes frames first count d
part-within bytes most start frames end first zero d within small stand some inside = absurd (omega arith)
part-within bytes most start frames end first (suc more) d within small stand some inside =
    let mine = drop first frames in
    let begin = (get_or frames first d).start in
    let long : more < length mine = omega (arith, length-drop first frames) in
    let behind = stand-take begin mine end more d long (stand-drop start frames end first d (omega arith) stand) in
    let here : first + more ≡ first + suc more - 1 = omega arith in
    let last : get_or mine more d ≡ get_or frames (first + suc more - 1) d = get_or-drop first frames more d ∙ ap (λ (n : ℕ). get_or frames n d) here in
    let rises = stand-rises most begin (take (suc more) mine) (get_or mine more d).end (All-take (IsWithin most) (suc more) mine (All-drop (IsWithin most) first frames within)) behind in
    let own : IsWithin most (get_or frames (first + suc more - 1) d) = within (first + suc more - 1) d (omega arith) in
    record { rising = omega (arith, rises, ap (λ (f : SpelledFrame). f.end) last); within = omega (arith, own.within) }
