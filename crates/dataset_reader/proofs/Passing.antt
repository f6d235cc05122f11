-- The counts of what a reader passed over.
use Rattle.std.proofs.Common.{◌≡◌, ℕ, ◌+◌, ◌-◌, ◌^◌, Bool, true, cond, List, [], ◌∷◌, refl, sym, ◌∙◌, ap, arith}
use Rattle.std.specs.Prelude.{count_by, min}
use Rattle.std.proofs.lemmas.List.Sums.{sum_by-cons}
use Rattle.dataset_reader.specs.declared.passed.Passed.{Passed}
use Rattle.dataset_reader.specs.declared.took.Outcome.{Outcome}
use Rattle.dataset_reader.specs.declared.took.Outcome.TheVariants as outcomes
use Rattle.dataset_reader.specs.Passed.{AreCounted, counted, is_older, is_unnumbered, is_wrong_major, one_more, passed_in}

more : (is_cause : Outcome → Bool) (outcome : Outcome) (before : List Outcome) (count : ℕ) → is_cause outcome ≡ true
    → count ≡ min (count_by is_cause before) (2 ^ 64 - 1) → one_more count ≡ min (count_by is_cause (outcome ∷ before)) (2 ^ 64 - 1)
more is_cause outcome before count has is =
    let behind : count_by is_cause (outcome ∷ before) ≡ 1 + count_by is_cause before =
    sum_by-cons (λ (o : Outcome). cond (is_cause o) 1 0) outcome before ∙ ap (λ (b : Bool). cond b 1 0 + count_by is_cause before) has in
    omega (arith, is, behind)

-- the counts of one answer more
counted_more : (before : List Outcome) (p : Passed) (outcome : Outcome) → AreCounted before p → AreCounted (outcome ∷ before) (counted p outcome)
counted_more before p outcomes.Held h = record {
  wrong_major = h.wrong_major;
  unnumbered = h.unnumbered;
  older = h.older;
}
counted_more before p outcomes.Alive h = record {
  wrong_major = h.wrong_major;
  unnumbered = h.unnumbered;
  older = h.older;
}
counted_more before p (outcomes.Waiting why) h = record {
  wrong_major = h.wrong_major;
  unnumbered = h.unnumbered;
  older = h.older;
}
counted_more before p outcomes.Older h = record {
  wrong_major = h.wrong_major;
  unnumbered = h.unnumbered;
  older = more is_older outcomes.Older before p.older refl h.older;
}
counted_more before p (outcomes.WrongMajor got) h = record {
  wrong_major = more is_wrong_major (outcomes.WrongMajor got) before p.wrong_major refl h.wrong_major;
  unnumbered = h.unnumbered;
  older = h.older;
}
counted_more before p outcomes.Unnumbered h = record {
  wrong_major = h.wrong_major;
  unnumbered = more is_unnumbered outcomes.Unnumbered before p.unnumbered refl h.unnumbered;
  older = h.older;
}

pub all_counted : (answers : List Outcome) → AreCounted answers (passed_in answers)
all_counted [] = record { wrong_major = refl; unnumbered = refl; older = refl }
all_counted (outcome ∷ before) = counted_more before (passed_in before) outcome (all_counted before)
