-- What a reader holds, by its data set.
use Rattle.std.proofs.Common.{◌≡◌, ℕ, zero, suc, ◌-◌, ◌<◌, ◌≤◌, List, [], ◌∷◌, ◌++◌, length, get_or, Option, Some, refl, sym, ap, ◌∙◌, subst, inl, inr, arith}
use Rattle.std.specs.List.{slice_get}
use Rattle.std.proofs.lemmas.Bool.{cases_lt}
use Rattle.std.proofs.lemmas.Option.{slice_get_past, slice_get_read}
use Rattle.ua_values.specs.declared.value.Value.{Value}
use Rattle.dataset_meta.specs.DataValues.{DataValue}
use Rattle.dataset_meta.specs.Metas.{MetaData}
use Rattle.row_words.specs.Belonging.{row_in}
use Rattle.pubsub_model.specs.declared.reading.Why.{Why}
use Rattle.ps_config.specs.declared.parts.ReaderPart.{ReaderPart}
use Rattle.ps_report.specs.declared.closed.HeldEnd.{HeldEnd}
use Rattle.ps_report.specs.Conditions.{BelongsTo}
use Rattle.ps_report.specs.Lines.{fields_text, numbered_text}
use Rattle.ps_report.specs.Reports.{row_text, held_as, load_held_as}

-- the data set of a row is there
pub there : (sets : List MetaData) (i : ℕ) (words : List ℕ) → BelongsTo (slice_get sets i) words → i < length sets
there sets i words is =
    elim (cases_lt i (length sets)) [
      | inl inside ↦ inside
      | inr past ↦ absurd (subst (λ (o : Option MetaData). BelongsTo o words) (slice_get_past sets i past) is)
    ]

pub set_read : (sets : List MetaData) (i : ℕ) (words : List ℕ) (meta : MetaData) → BelongsTo (slice_get sets i) words → meta ≡ get_or sets i meta → slice_get sets i ≡ Some meta
set_read sets i words meta belongs is = slice_get_read sets (length sets) i meta refl (there sets i words belongs) is

pub held_is : (sets : List MetaData) (part : ReaderPart) (why : Why) (o : Option HeldEnd) (held : HeldEnd) (meta : MetaData)
    → o ≡ Some held → slice_get sets part.dataset ≡ Some meta
    → held_as sets part why o ≡ numbered_text held.number held.version ++ fields_text meta.fields (row_in meta.fields held.row.words)
unfolding held_as row_text
held_is sets part why o held meta is set =
    ap (held_as sets part why) is
    ∙ ap (λ (s : Option MetaData). numbered_text held.number held.version ++ row_text s held.row.words) set

pub load_is : (sets : List MetaData) (part : ReaderPart) (why : Why) (o : Option HeldEnd) (held : HeldEnd) (meta : MetaData)
    → o ≡ Some held → slice_get sets part.dataset ≡ Some meta
    → load_held_as sets part why o ≡ fields_text meta.fields (row_in meta.fields held.row.words)
unfolding load_held_as row_text
load_is sets part why o held meta is set =
    ap (load_held_as sets part why) is ∙ ap (λ (s : Option MetaData). row_text s held.row.words) set

-- a value and a status are those of the field
pub data_is : (y : DataValue) (value : Value) (status : ℕ) → y.value ≡ value → y.status ≡ status → record { value = value; status = status } ≡ y
data_is y value status same good =
    sym (ap (λ (v : Value). let d : DataValue = record { value = v; status = y.status } in d) same
    ∙ ap (λ (s : ℕ). let d : DataValue = record { value = value; status = s } in d) good)

-- an element of two lists joined
pub slice_get_front : {A : Type 0} (a b : List A) (i : ℕ) → i < length a → slice_get (a ++ b) i ≡ slice_get a i
slice_get_front [] b i inside = absurd (omega arith)
slice_get_front (x ∷ a) b zero inside = refl
slice_get_front (x ∷ a) b (suc i) inside = slice_get_front a b i (omega arith)

pub slice_get_behind : {A : Type 0} (a b : List A) (i : ℕ) → length a ≤ i → slice_get b (i - length a) ≡ slice_get (a ++ b) i
slice_get_behind [] b i past = ap (slice_get b) (omega arith)
slice_get_behind (x ∷ a) b zero past = absurd (omega arith)
slice_get_behind (x ∷ a) b (suc i) past = ap (slice_get b) (omega arith) ∙ slice_get_behind a b i (omega arith)
