-- A refusal more is counted.
use Rattle.std.proofs.Common.{◌≡◌, refl, sym, ap, ◌∙◌, subst, arith, zero-add, ℕ, ◌+◌, ◌-◌, ◌^◌, ◌<◌, ◌≢◌, ◌⊎◌, inl, inr, Bool, true, false, cond, min, List, [], ◌∷◌, ◌++◌, map, length, get_or, set, eq-eqb}
use Rattle.std.specs.Prelude.{◌==◌, count_by, sum_by, slice_index, is_ok, Result, Err}
use Rattle.std.specs.List.{range_with_len}
use Rattle.std.proofs.lemmas.Bool.Decides.{eqb_tells}
use Rattle.std.proofs.lemmas.List.{get_or-map, get_or-set_other, get_or-set_same, get_or_append_left, length-set, set-append_left}
use Rattle.std.proofs.lemmas.List.Sums.{sum_by-cons}
use Rattle.std.proofs.lemmas.List.FromFn.{fill_by_all, get_or-range_with_len, length-map-range_with_len, length-range_with_len}
use Rattle.reader_group.specs.declared.refusal.Refusal.{Refusal}
use Rattle.reader_group.specs.declared.refusal.Taken.{Taken}
use Rattle.session_parts.specs.declared.tally.Tally.{Tally}
use Rattle.session_parts.specs.Standing.{IsTallyOf}
use Rattle.session_model.specs.Answers.{bad_parts, cause_of, causes_by, counted, has_cause}
use Rattle.session_model.proofs.Sending.{count-cons}

-- how often the refusal with this place came
abbrev times : List (Result Taken Refusal) → ℕ → ℕ
times list place = counted (count_by (has_cause place) list)

times-are : (list : List (Result Taken Refusal)) (place : ℕ) → place < 19 → get_or (map (times list) (range_with_len 0 19)) place 0 ≡ times list place
times-are list place low =
    get_or-map (times list) (range_with_len 0 19) place 0 0 (omega (arith, length-range_with_len 0 19, low)) ∙ ap (times list) (get_or-range_with_len 0 19 place 0 low ∙ zero-add place)

-- a refusal counts for its own place alone
own-place : (place : ℕ) (list : List (Result Taken Refusal)) (refusal : Refusal) → cause_of refusal ≡ place → min (times list place + 1) (2 ^ 64 - 1) ≡ times (Err refusal ∷ list) place
own-place place list refusal is =
    more (count_by (has_cause place) list)
    ∙ ap (λ (b : Bool). counted (cond b 1 0 + count_by (has_cause place) list)) (sym (eq-eqb (cause_of refusal) place is))
    ∙ ap counted (sym (count-cons (has_cause place) (Err refusal) list))
  where
    more : (n : ℕ) → min (counted n + 1) (2 ^ 64 - 1) ≡ counted (cond true 1 0 + n)
    more n = omega arith

other-place : (place : ℕ) (list : List (Result Taken Refusal)) (refusal : Refusal) → (cause_of refusal == place) ≡ false → times list place ≡ times (Err refusal ∷ list) place
other-place place list refusal differ =
    ap counted (sym (zero-add (count_by (has_cause place) list)))
    ∙ ap (λ (b : Bool). counted (cond b 1 0 + count_by (has_cause place) list)) (sym differ)
    ∙ ap counted (sym (count-cons (has_cause place) (Err refusal) list))

refused-more : (list : List (Result Taken Refusal)) (refusal : Refusal) (v : ℕ) → cause_of refusal < 19 → v ≡ min (times list (cause_of refusal) + 1) (2 ^ 64 - 1)
    → set (map (times list) (range_with_len 0 19)) (cause_of refusal) v ≡ map (times (Err refusal ∷ list)) (range_with_len 0 19)
refused-more list refusal v low is =
    fill_by_all (times (Err refusal ∷ list)) (set old (cause_of refusal) v) 19 0 (length-set old (cause_of refusal) v ∙ length-map-range_with_len (times list) 0 19)
    (λ k within. each k within (eqb_tells (cause_of refusal) k))
  where
    old : List ℕ
    old = map (times list) (range_with_len 0 19)

    there : cause_of refusal < length old
    there = omega (arith, low, length-map-range_with_len (times list) 0 19)

    each : (k : ℕ) → k < 19 → ((cause_of refusal == k) ≡ true) × (cause_of refusal ≡ k) ⊎ ((cause_of refusal == k) ≡ false) × (cause_of refusal ≢ k) → get_or (set old (cause_of refusal) v) k 0 ≡ times (Err refusal ∷ list) k
    each k within (inl same) =
        ap (λ (j : ℕ). get_or (set old (cause_of refusal) v) j 0) (sym same.1) ∙ get_or-set_same old (cause_of refusal) v 0 there
        ∙ is ∙ own-place (cause_of refusal) list refusal refl ∙ ap (times (Err refusal ∷ list)) same.1
    each k within (inr other) =
        get_or-set_other old (cause_of refusal) k v 0 (λ same. other.1 (sym same)) ∙ times-are list k within ∙ other-place k list refusal other.0

pub cause-more : (list : List (Result Taken Refusal)) (refusal : Refusal) (causes : List ℕ) → cause_of refusal < 19 → causes ≡ causes_by list
    → set causes (cause_of refusal) (min (slice_index causes (cause_of refusal) + 1) (2 ^ 64 - 1)) ≡ causes_by (Err refusal ∷ list)
cause-more list refusal causes low is =
    ap (λ (l : List ℕ). set l (cause_of refusal) (min (slice_index l (cause_of refusal) + 1) (2 ^ 64 - 1))) is
    ∙ set-append_left old (counted (sum_by bad_parts list) ∷ []) (cause_of refusal) _ there
    ∙ ap (λ (l : List ℕ). l ++ counted (sum_by bad_parts list) ∷ [])
    (refused-more list refusal _ low (ap (λ (n : ℕ). min (n + 1) (2 ^ 64 - 1)) (get_or_append_left old (counted (sum_by bad_parts list) ∷ []) 0 (cause_of refusal) there ∙ times-are list (cause_of refusal) low)))
    ∙ ap (λ (n : ℕ). map (times (Err refusal ∷ list)) (range_with_len 0 19) ++ counted n ∷ []) (sym (sum_by-cons bad_parts (Err refusal) list ∙ zero-add (sum_by bad_parts list)))
  where
    old : List ℕ
    old = map (times list) (range_with_len 0 19)

    there : cause_of refusal < length old
    there = omega (arith, low, length-map-range_with_len (times list) 0 19)

pub refused-one : (list : List (Result Taken Refusal)) (answer : Result Taken Refusal) (refusal : Refusal) (old new : Tally) (place : ℕ) → answer ≡ Err refusal → place ≡ cause_of refusal → place < 19
    → new ≡ record old { causes = set old.causes place (min (slice_index old.causes place + 1) (2 ^ 64 - 1)) }
    → IsTallyOf list old → IsTallyOf (answer ∷ list) new
refused-one list answer refusal old new place is at low changed tally =
    subst (λ (a : Result Taken Refusal). IsTallyOf (a ∷ list) new) (sym is) (record {
      taken = ap (λ (t : Tally). t.taken) changed ∙ tally.taken ∙ ap counted (sym (count-cons is_ok (Err refusal) list ∙ zero-add (count_by is_ok list)));
      causes = ap (λ (t : Tally). t.causes) changed
          ∙ ap (λ (n : ℕ). set old.causes n (min (slice_index old.causes n + 1) (2 ^ 64 - 1))) at
          ∙ cause-more list refusal old.causes (subst (λ (n : ℕ). n < 19) at low) tally.causes;
    })
