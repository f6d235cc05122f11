-- A record, by the break at it and then by what the frame is.
use Rattle.std.proofs.Common.{◌≡◌, refl, sym, ap, ◌∙◌, ℕ, Bool, true, false, Option, Some, None, arith}
use Rattle.std.specs.Prelude.{is_some, not, if◌then◌else◌}
use Rattle.seq_number.specs.Numbers.{newer}
use Rattle.pubsub_model.specs.declared.reading.Break.{Break}
use Rattle.frame_codec.specs.Frames.{Content}
use Rattle.dataset_reader.specs.declared.took.Outcome.{Outcome}
use Rattle.dataset_reader.specs.declared.took.Took.{Took}
use Rattle.dataset_reader.specs.Kept.{Kept}
use Rattle.dataset_reader.specs.Cases.{placed_case, placed_at, following_case, has_passed, break_at, breaks_run, due, noted_if, record_case, with_break}

-- a newer one is a record, which breaks the run or doesn't
followed : (breaks : Bool) (kept : Kept) (content : Content) (number place last : ℕ) → breaks_run content number last ≡ breaks →
    let broke : Option Break = if breaks then Some (record { expected = due last; got = number }) else None in
    following_case kept content number place last breaks ≡ with_break broke (record_case (noted_if (placed_at kept place) broke) content number (is_some broke))
followed true kept content number place last is = refl
followed false kept content number place last is = refl

record_on : (is_newer : Bool) (kept : Kept) (content : Content) (number place last : ℕ) → newer place last ≡ is_newer → not is_newer ≡ false →
    let broke = break_at content number (Some last) in
    placed_case kept content number place (Some last) ≡ with_break broke (record_case (noted_if (placed_at kept place) broke) content number (is_some broke))
record_on true kept content number place last is gone = rw is (followed (breaks_run content number last) kept content number place last refl)
record_on false kept content number place last is gone = absurd (grind arith)

pub recorded : (kept : Kept) (content : Content) (number place : ℕ) (last : Option ℕ) (broke : Option Break) → has_passed place last ≡ false → broke ≡ break_at content number last
    → placed_case kept content number place last ≡ with_break broke (record_case (noted_if (placed_at kept place) broke) content number (is_some broke))
recorded kept content number place None broke gone is = rw is refl
recorded kept content number place (Some last) broke gone is = rw is (record_on (newer place last) kept content number place last refl gone)

-- what a record leaves, and what it is answered
pub ends : (old stepped new : Kept) (content : Content) (number place : ℕ) (last : Option ℕ) (broke : Option Break) (breaks : Bool) (outcome : Outcome)
    → has_passed place last ≡ false → broke ≡ break_at content number last → stepped ≡ noted_if (placed_at old place) broke → breaks ≡ is_some broke
    → new ≡ (record_case stepped content number breaks).0 → outcome ≡ (record_case stepped content number breaks).1
    → (new ≡ (placed_case old content number place last).0) × Path Took (record { outcome = outcome; broke = broke }) (placed_case old content number place last).1
ends old stepped new content number place last broke breaks outcome gone broke_is stepped_is breaks_is new_is outcome_is =
    let is = sym (recorded old content number place last broke gone broke_is) in
    let same : record_case stepped content number breaks ≡ record_case (noted_if (placed_at old place) broke) content number (is_some broke) = rw (stepped_is, breaks_is) refl in
    let answer : Outcome → Took = λ o. record { outcome = o; broke = broke } in (
      new_is ∙ ap (λ (t : Kept × Outcome). t.0) same ∙ ap (λ (t : Kept × Took). t.0) is,
      ap answer (outcome_is ∙ ap (λ (t : Kept × Outcome). t.1) same) ∙ ap (λ (t : Kept × Took). t.1) is,
    )
