-- The first of many moments, and the moments of groups.
use Rattle.std.proofs.Common.{◌≡◌, ℕ, ◌+◌, ◌-◌, ◌^◌, ◌<◌, ◌≤◌, ◌⊎◌, inl, inr, true, false, get_or, nat_le, sym, subst, arith, ◌∙◌}
use Rattle.std.specs.Prelude.{Option, Some, None, min}
use Rattle.std.proofs.lemmas.Bool.{cases_lt}
use Rattle.std.proofs.lemmas.Bool.Decides.{leb_tells}
use Rattle.ps_config.specs.declared.parts.Config.{Config}
use Rattle.ps_config.specs.declared.parts.GroupPart.{GroupPart}
use Rattle.writer_group.specs.Parts.{no_group}
use Rattle.writer_group.specs.Standing.{IsGood, IsMadeFor, IsNeverDue, TellsDue, TellsDueFrom, index_of}
use Rattle.writer_group.specs.Turns.{last_moment}
use Rattle.reader_group.specs.declared.group.ReaderGroup.{ReaderGroup}
use Rattle.device.specs.Due.{IsFirst, IsInTime, TellsFirst, earlier}
use Rattle.device.specs.Sides.{IsSide}
use Rattle.device.specs.declared.side.Side.{Side}

-- ---- the earlier of two

pub first-both : (now : ℕ) (Calm Due One OneDue Other OtherDue : ℕ → Type 0) (one other : Option ℕ) → ((t : ℕ) → One t → Other t → Calm t) → ((t : ℕ) → OneDue t → Due t)
    → ((t : ℕ) → OtherDue t → Due t) → TellsFirst now One OneDue one → TellsFirst now Other OtherDue other → TellsFirst now Calm Due (earlier one other)
first-both now Calm Due One OneDue Other OtherDue None None both due other_due first second = λ t low high. both t (first t low high) (second t low high)
first-both now Calm Due One OneDue Other OtherDue None (Some n) both due other_due first second = record {
  from_now = second.from_now;
  within = second.within;
  calm = λ t low below. let high = second.within in both t (first t low (omega (arith, below, high))) (second.calm t low below);
  due = other_due n second.due;
}
first-both now Calm Due One OneDue Other OtherDue (Some m) None both due other_due first second = record {
  from_now = first.from_now;
  within = first.within;
  calm = λ t low below. let high = first.within in both t (first.calm t low below) (second t low (omega (arith, below, high)));
  due = due m first.due;
}
first-both now Calm Due One OneDue Other OtherDue (Some m) (Some n) both due other_due first second = by_case (cases_lt n m)
  where
    by_case : (n < m) ⊎ (m ≤ n) → IsFirst now Calm Due (min m n)
    by_case (inl less) =
        let is : n ≡ min m n = omega (arith, less) in
        subst (λ (k : ℕ). IsFirst now Calm Due k) is (record {
          from_now = second.from_now;
          within = second.within;
          calm = λ t low below. both t (first.calm t low (omega (arith, below, less))) (second.calm t low below);
          due = other_due n second.due;
        })
    by_case (inr less) =
        let is : m ≡ min m n = omega (arith, less) in
        subst (λ (k : ℕ). IsFirst now Calm Due k) is (record {
          from_now = first.from_now;
          within = first.within;
          calm = λ t low below. both t (first.calm t low below) (second.calm t low (omega (arith, below, less)));
          due = due m first.due;
        })

-- the same of other words
pub first-then : (now : ℕ) (Calm Due Other OtherDue : ℕ → Type 0) (one : Option ℕ) → ((t : ℕ) → Calm t → Other t) → ((t : ℕ) → Due t → OtherDue t) → TellsFirst now Calm Due one
    → TellsFirst now Other OtherDue one
first-then now Calm Due Other OtherDue None calm due first = λ t low high. calm t (first t low high)
first-then now Calm Due Other OtherDue (Some m) calm due first = record {
  from_now = first.from_now;
  within = first.within;
  calm = λ t low below. calm t (first.calm t low below);
  due = due m first.due;
}

-- ---- a group

reached-not : (interval last t : ℕ) → 1 ≤ interval → t < last + interval → false ≡ nat_le interval (t - last)
reached-not interval last t some early = elim (leb_tells interval (t - last)) [
  | inl met ↦ let passed = met.1 in absurd (omega (arith, some, early, passed))
  | inr other ↦ sym other.0
]

reached : (interval last t : ℕ) → last + interval ≤ t → true ≡ nat_le interval (t - last)
reached interval last t late = elim (leb_tells interval (t - last)) [
  | inl met ↦ sym met.0
  | inr other ↦ let early = other.1 in absurd (omega (arith, late, early))
]

-- whichever group of whichever configuration it was made for, that has an interval
some-interval : (config any : Config) (part : GroupPart) (side : Side) → IsGood config → IsSide config side → IsMadeFor any part side.group → 1 ≤ part.interval
some-interval config any part side good is made =
    let at = is.keeps_to.index in
    let own : IsMadeFor config (get_or config.group (index_of side.group) no_group) side.group = is.keeps_to.made no_group in
    let least = (good.sound.groups (index_of side.group) no_group at).interval.0 in
    subst (λ (n : ℕ). 1 ≤ n) (sym own.interval ∙ made.interval) least

pub due-not : (config : Config) (side : Side) (moment t : ℕ) → IsGood config → IsSide config side → TellsDueFrom side.group moment → t < moment → TellsDue side.group t false
due-not config side moment t good is tells early =
    λ any part metas past made stands.
    let from = tells any part metas past made stands in
    reached-not part.interval (last_moment past) t (some-interval config any part side good is made) (omega (arith, early, from))

pub due-then : (side : Side) (moment t : ℕ) → TellsDueFrom side.group moment → moment ≤ t → TellsDue side.group t true
due-then side moment t tells late =
    λ any part metas past made stands.
    let from = tells any part metas past made stands in
    reached part.interval (last_moment past) t (omega (arith, late, from))

pub due-never : (config : Config) (side : Side) (t : ℕ) → IsGood config → IsSide config side → IsNeverDue side.group → t < 2 ^ 64 → TellsDue side.group t false
due-never config side t good is never low =
    λ any part metas past made stands.
    let past_all = never any part metas past made stands in
    reached-not part.interval (last_moment past) t (some-interval config any part side good is made) (omega (arith, low, past_all))

-- ---- readers

pub not-come : (moment t : ℕ) → t < moment → nat_le moment t ≡ false
not-come moment t early = elim (leb_tells moment t) [
  | inl met ↦ let come = met.1 in absurd (omega (arith, early, come))
  | inr other ↦ other.0
]

-- one reader more
pub in-time-more : (t k : ℕ) (group : ReaderGroup) → ((reader : ℕ) → reader < k → IsInTime t reader group) → IsInTime t k group → (reader : ℕ) → reader < k + 1 → IsInTime t reader group
in-time-more t k group far one reader low = by_case (cases_lt reader k)
  where
    by_case : (reader < k) ⊎ (k ≤ reader) → IsInTime t reader group
    by_case (inl below) = far reader below
    by_case (inr last) = let same : k ≡ reader = omega (arith, low, last) in subst (λ (r : ℕ). IsInTime t r group) same one
