-- The lines of one group or writer more.
use Rattle.std.proofs.Common.{◌≡◌, inl, inr, ℕ, ◌+◌, ◌<◌, List, ◌++◌, length, sym, ap, ◌∙◌, subst, arith}
use Rattle.std.specs.List.{flat_map, range_with_len}
use Rattle.std.proofs.lemmas.Bool.Decides.{eqb_tells}
use Rattle.std.proofs.lemmas.List.{flat_map_more}
use Rattle.std.proofs.lemmas.Option.{slice_get_cases}
use Rattle.ps_config.specs.declared.parts.Config.{Config}
use Rattle.report_laws.specs.Numbers.{IsNumber}
use Rattle.writer_group.specs.declared.group.Group.{Group}
use Rattle.writer_group.specs.Parts.{group_at}
use Rattle.writer_group.specs.Standing.{IsGroup, IsMadeFor, KeepsLogs, metas_for}
use Rattle.session_model.specs.Answers.{counted}
use Rattle.session_model.specs.Deeds.{Deed, group_past}
use Rattle.session_parts.proofs.Counting.{range-more}
use Rattle.lane_groups.specs.declared.lane.Lane.{Lane}
use Rattle.cmd_lanes.specs.Standing.{HaveGroups, IsGroupOf, StandAll}

pub lines-more : (f : ℕ → List ℕ) (n : ℕ) (first so_far new line : List ℕ) → so_far ≡ first ++ flat_map f (range_with_len 0 n) → new ≡ so_far ++ line → line ≡ f n
    → new ≡ first ++ flat_map f (range_with_len 0 (n + 1))
lines-more f n first so_far new line was now is =
    now ∙ ap (λ (l : List ℕ). so_far ++ l) is ∙ ap (λ (l : List ℕ). l ++ f n) was
    ∙ flat_map_more f first (range_with_len 0 n) n
    ∙ ap (λ (l : List ℕ). first ++ flat_map f l) (sym (range-more n))

-- what holds of the first indexes and of the next
pub one-more : (P : ℕ → Type 0) (n : ℕ) → ((i : ℕ) → i < n → P i) → P n → (i : ℕ) → i < n + 1 → P i
one-more P n before here i low = elim (eqb_tells i n) [ inl same ↦ subst P (sym same.1) here | inr other ↦ before i (below i n low other.1) ]
  where
    below : (a b : ℕ) → a < b + 1 → (a ≡ b → ⊥) → a < b
    below a b lt apart = omega arith

pub counted-number : (n : ℕ) → IsNumber (counted n)
counted-number n = omega arith

-- ---- a group in its lane

pub group-made : (config : Config) (lanes : List Lane) (g : ℕ) (group : Group) → HaveGroups config lanes → g < length config.group → IsGroupOf lanes g group
    → IsMadeFor config (group_at config g) group
group-made config lanes g group have low is =
    elim ((slice_get_cases lanes is.lane).1) [
      | inl at ↦ is.made at.0 config low (have.each is.lane at.0 is.within)
      | inr past ↦ absurd (omega (arith, is.within, past.0))
    ]

pub group-logs : (config : Config) (lanes : List Lane) (g : ℕ) (group : Group) → HaveGroups config lanes → g < length config.group → IsGroupOf lanes g group → KeepsLogs group
group-logs config lanes g group have low is =
    elim ((slice_get_cases lanes is.lane).1) [
      | inl at ↦ is.logs at.0 config low (have.each is.lane at.0 is.within)
      | inr past ↦ absurd (omega (arith, is.within, past.0))
    ]

pub group-stands : (config : Config) (deeds : List Deed) (lanes : List Lane) (g : ℕ) (group : Group) → StandAll config deeds lanes → g < length config.group → IsGroupOf lanes g group
    → IsGroup (metas_for (group_at config g) config.dataset) (group_at config g) (group_past config g deeds) group
group-stands config deeds lanes g group stand low is =
    elim ((slice_get_cases lanes is.lane).1) [
      | inl at ↦ is.stands at.0 config deeds low (stand is.lane at.0 is.within)
      | inr past ↦ absurd (omega (arith, is.within, past.0))
    ]
