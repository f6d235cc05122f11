-- The reads of a sample, one cell after another.
use Rattle.std.proofs.Common.{◌≡◌, refl, sym, ap, ◌∙◌, subst, arith, ℕ, ◌+◌, ◌<◌, ◌≤◌, ◌≢◌, ◌⊎◌, inl, inr, true, false, List, length, map, get_or}
use Rattle.std.specs.Prelude.{◌==◌, slice_set}
use Rattle.std.proofs.lemmas.Bool.Decides.{eqb_tells}
use Rattle.std.proofs.lemmas.List.{get_or-map, get_or-set_other, get_or-set_same, get_or_default, length-map, same_lists}
use Rattle.version_cell.specs.Known.{Known, nothing}
use Rattle.version_cell.specs.Passes.{SeesLawful, SeesMore}
use Rattle.version_cell.specs.Sets.{ChangesAt, pass_at}
use Rattle.writer_group.specs.declared.sampled.Sampled.{Sampled}
use Rattle.writer_group.specs.Turns.{no_sample}
use Rattle.pubsub_engine.specs.Standing.{sample_of, samples_of}

-- the first n cells were read
pub record HasTaken (n : ℕ) (first passes : List Known) (taken : List Sampled) : Type 0 where
  pub samples : (k : ℕ) → k < n → get_or taken k no_sample ≡ sample_of (pass_at passes k)
  pub more : (k : ℕ) → k < n → SeesMore (pass_at first k) (pass_at passes k)
  pub lawful : (k : ℕ) → k < n → SeesLawful (pass_at passes k)
  pub left : (k : ℕ) → n ≤ k → pass_at passes k ≡ pass_at first k

pub taken-none : (first : List Known) (taken : List Sampled) → HasTaken 0 first first taken
taken-none first taken = record {
  samples = λ k low. absurd (omega (arith, low));
  more = λ k low. absurd (omega (arith, low));
  lawful = λ k low. absurd (omega (arith, low));
  left = λ k at. refl;
}

same-pass : (n k : ℕ) (old new : List Known) → ChangesAt n old new → k ≢ n → pass_at new k ≡ pass_at old k
same-pass n k old new changes apart = ap (λ (l : List Known). pass_at l k) changes ∙ get_or-set_other old n k (pass_at new n) nothing apart

pub taken-more : (n : ℕ) (first old new : List Known) (taken : List Sampled) (x : Sampled) → n < length taken → ChangesAt n old new → SeesMore (pass_at old n) (pass_at new n)
    → SeesLawful (pass_at new n) → x ≡ sample_of (pass_at new n) → HasTaken n first old taken → HasTaken (n + 1) first new (slice_set taken n x)
taken-more n first old new taken x low changes more lawful is so_far = record {
  samples = λ k below. by_case (λ k. get_or (slice_set taken n x) k no_sample ≡ sample_of (pass_at new k)) k below (get_or-set_same taken n x no_sample low ∙ is)
      (λ apart before. get_or-set_other taken n k x no_sample apart ∙ so_far.samples k before ∙ ap sample_of (sym (same-pass n k old new changes apart)));
  more = λ k below. by_case (λ k. SeesMore (pass_at first k) (pass_at new k)) k below (subst (λ (p : Known). SeesMore p (pass_at new n)) (so_far.left n (omega arith)) more)
      (λ apart before. subst (λ (p : Known). SeesMore (pass_at first k) p) (sym (same-pass n k old new changes apart)) (so_far.more k before));
  lawful = λ k below. by_case (λ k. SeesLawful (pass_at new k)) k below lawful
      (λ apart before. subst SeesLawful (sym (same-pass n k old new changes apart)) (so_far.lawful k before));
  left = λ k at. same-pass n k old new changes (λ same. omega (arith, same, at)) ∙ so_far.left k (omega (arith, at));
}
  where
    by_case : (P : ℕ → Type 0) (k : ℕ) → k < n + 1 → P n → (k ≢ n → k < n → P k) → P k
    by_case P k below here other = of (eqb_tells n k)
      where
        of : ((n == k) ≡ true) × (n ≡ k) ⊎ ((n == k) ≡ false) × (n ≢ k) → P k
        of (inl same) = subst P same.1 here
        of (inr apart) = other (λ same. apart.1 (sym same)) (omega (arith, below, apart.1))

pub taken-all : (n : ℕ) (first passes : List Known) (taken : List Sampled) → HasTaken n first passes taken → n ≡ length taken → length passes ≡ length taken → taken ≡ samples_of passes
taken-all n first passes taken so_far all same =
    same_lists taken (map sample_of passes) (sym (length-map passes sample_of ∙ same)) (λ k d low.
    get_or_default taken k d no_sample low
    ∙ so_far.samples k (omega (arith, low, all))
    ∙ sym (get_or-map sample_of passes k nothing d (omega (arith, low, same))))
