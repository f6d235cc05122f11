-- The loops that find sources by their names.
use Rattle.std.proofs.Common.{◌≡◌, ◌≢◌, sym, ap, ◌∙◌, subst, arith, ℕ, ◌+◌, ◌<◌, ◌⊎◌, inl, inr, true, false, List, length, get_or, slice_get, Some}
use Rattle.std.specs.Prelude.{◌==◌}
use Rattle.std.specs.Str.{bytes_eq}
use Rattle.std.proofs.lemmas.Bool.{false≢true}
use Rattle.std.proofs.lemmas.Bool.Decides.{eqb_tells}
use Rattle.std.proofs.lemmas.List.{get_or_read}
use Rattle.std.proofs.lemmas.Option.{get_or_from_slice_get}
use Rattle.std.proofs.lemmas.Slice.Eq.{bytes_eq-Decides}
use Rattle.dataset_meta.specs.Metas.{MetaData, no_meta}
use Rattle.ps_config.specs.declared.parts.Config.{Config}
use Rattle.writer_group.specs.Standing.{IsGood}
use Rattle.session_model.specs.Sets.{meta_in}
use Rattle.gateway_core.specs.Sources.{HaveSources, IsSourceOf}
use Rattle.gateway_core.proofs.Named.{is-source, name-there, names_of}

-- ---- among names

-- where the name isn't at this place either
pub not-more : (names : List (List ℕ)) (k : ℕ) (item name : List ℕ) → item ≡ get_or names k item → bytes_eq item name ≡ false
    → ((j : ℕ) → j < k → slice_get names j ≢ Some name) → (j : ℕ) → j < k + 1 → slice_get names j ≢ Some name
not-more names k item name is other before j low at = by_case (eqb_tells j k)
  where
    by_case : ((j == k) ≡ true) × (j ≡ k) ⊎ ((j == k) ≡ false) × (j ≢ k) → ⊥
    by_case (inl same) =
        let here : item ≡ name = is ∙ ap (λ (i : ℕ). get_or names i item) (sym same.1) ∙ get_or_from_slice_get names j name item at in
        false≢true (sym other ∙ (bytes_eq-Decides item name).1 here)
    by_case (inr apart) = before j (omega (arith, low, apart.1)) at

-- ---- the source of a data set

-- the reader with this index is the source of the data set with this one
abbrev pub IsFound : Config → Config → ℕ → ℕ → Type 0
IsFound first second set source = IsSourceOf first (meta_in second.dataset set) source

same-meta : (second : Config) (n : ℕ) (meta : MetaData) (metas : List MetaData) → metas ≡ second.dataset → n < length metas → meta ≡ get_or metas n meta → meta ≡ meta_in second.dataset n
same-meta second n meta metas are low is = get_or_read metas n meta low is no_meta ∙ ap (λ (l : List MetaData). get_or l n no_meta) are

-- its name is among those of the readers
pub name-found : (first second : Config) (sources : List ℕ) (n : ℕ) (meta : MetaData) (metas : List MetaData) (names : List (List ℕ)) (name : List ℕ) → HaveSources first second sources
    → metas ≡ second.dataset → n < length metas → meta ≡ get_or metas n meta → names ≡ names_of first → name ≡ meta.name → (x : ℕ) × (slice_get names x ≡ Some name)
name-found first second sources n meta metas names name have are low is names_are name_is = (
  get_or sources n 0,
  ap (λ (l : List (List ℕ)). slice_get l (get_or sources n 0)) names_are
      ∙ name-there first (meta_in second.dataset n) (get_or sources n 0) (have.each n (subst (λ (l : List MetaData). n < length l) are low))
      ∙ ap (λ (m : MetaData). Some m.name) (sym (same-meta second n meta metas are low is))
      ∙ ap (λ (x : List ℕ). Some x) (sym name_is),
)

-- and the reader that has it is the source
pub found-is : (first second : Config) (sources : List ℕ) (n found : ℕ) (meta : MetaData) (metas : List MetaData) (names : List (List ℕ)) (name : List ℕ) → IsGood first → HaveSources first second sources
    → metas ≡ second.dataset → n < length metas → meta ≡ get_or metas n meta → names ≡ names_of first → name ≡ meta.name → slice_get names found ≡ Some name → IsFound first second n found
found-is first second sources n found meta metas names name good have are low is names_are name_is at =
    is-source first (meta_in second.dataset n) (get_or sources n 0) found good (have.each n (subst (λ (l : List MetaData). n < length l) are low))
    (ap (λ (l : List (List ℕ)). slice_get l found) (sym names_are) ∙ at ∙ ap (λ (x : List ℕ). Some x) name_is ∙ ap (λ (m : MetaData). Some m.name) (same-meta second n meta metas are low is))
