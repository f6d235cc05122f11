-- What the value of a field is refused for, and an index.
use Rattle.std.proofs.Common.{◌≡◌, ℕ, ◌<◌, ◌≤◌, ◌^◌, Bool, true, false, List, [], ◌∷◌, ◌++◌, length, Option, Some, None, Result, Ok, Err, refl, sym, ap, ◌∙◌, subst, ◌⊎◌, inl, inr, arith}
use Rattle.std.specs.Prelude.{◌↔◌, slice_get, if◌then◌else◌}
use Rattle.std.proofs.lemmas.Option.{slice_get_past}
use Rattle.std.specs.Int.{w16, to_le_bytes}
use Rattle.ua_values.specs.declared.value.Value.{Value}
use Rattle.ua_values.specs.Values.{Fits}
use Rattle.ua_binary.specs.declared.data_value.Measured.{Measured}
use Rattle.ua_binary.specs.declared.fault.ValueFault.{ValueFault}
use Rattle.ua_binary.specs.declared.fault.ValueFault.TheVariants as values
use Rattle.ua_binary.specs.Reading.{◌>>=◌}
use Rattle.ua_binary.specs.ReadingValues.{variant_at, data_value_at}
use Rattle.dataset_meta.specs.declared.field.Field.{Field}
use Rattle.dataset_meta.specs.DataValues.{DataValue}
use Rattle.dataset_meta.specs.Metas.{MetaData}
use Rattle.dataset_meta.specs.Rows.{put_in}
use Rattle.frame_codec.specs.declared.fault.FrameFault.{FrameFault}
use Rattle.frame_codec.specs.declared.fault.FrameFault.TheVariants.{Short, KindOut, BadValue, BadIndex}
use Rattle.frame_codec.specs.Contents.{fault_of, in_frame, good, suits, kept, given, field_at, present, surplus_at, put_at, change_at}
use Rattle.frame_codec.specs.Refusals.{IsOwnFault, FitsIn, RefusesVariant, RefusesDataValue, RefusesSurplus}
use Rattle.frame_codec.proofs.ContentGrammar.{fits-suits, suits-fits}
use Rattle.frame_codec.proofs.FaultLaws.{count_read}

no_fault : {A : Type 0} {x : A} {fault : FrameFault} → Path (Result A FrameFault) (Ok x) (Err fault) → ⊥
no_fault e = cc

one_fault : {A : Type 0} {one other : FrameFault} → Path (Result A FrameFault) (Err one) (Err other) → one ≡ other
one_fault e = cc

-- a value that is read, in the place of a field's
suits_not : (field : Field) (value : Value) → (b : Bool) → suits field value ≡ b → (¬ Fits value field.kind field.cap) → b ≡ false
suits_not field value true is unfit = absurd (unfit (fits-suits field value is))
suits_not field value false is unfit = refl

abbrev with_rest : Result DataValue FrameFault → List ℕ → Result (DataValue × List ℕ) FrameFault
with_rest found rest = found >>= λ x. Ok (x, rest)

taken : Bool → Field → Option Value → ℕ → List ℕ → Result (DataValue × List ℕ) FrameFault
taken quality field value status rest = with_rest (given quality field value status) rest

taken_refused : (quality : Bool) (field : Field) (value : Option Value) (status : ℕ) (rest : List ℕ) (fault : FrameFault) → taken quality field value status rest ≡ Err fault → (fault ≡ BadValue) × ¬ FitsIn field value
unfolding taken
taken_refused quality field None status rest fault e = (sym (one_fault e), λ fits. fits)
taken_refused quality field (Some value) status rest fault e = by_suits (suits field value) refl e
  where
    by_suits : (b : Bool) → suits field value ≡ b → with_rest (if b then Ok (kept quality value status) else Err BadValue) rest ≡ Err fault
        → (fault ≡ BadValue) × ¬ Fits value field.kind field.cap
    by_suits true is e = absurd (no_fault e)
    by_suits false is e = (sym (one_fault e), λ fits. absurd (let no : Path Bool false true = sym is ∙ suits-fits field value fits in cc))

refused_taken : (quality : Bool) (field : Field) (value : Option Value) (status : ℕ) (rest : List ℕ) → (¬ FitsIn field value) → taken quality field value status rest ≡ Err BadValue
unfolding taken
refused_taken quality field None status rest unfit = refl
refused_taken quality field (Some value) status rest unfit = rw (suits_not field value (suits field value) refl unfit) refl

-- a value's own fault
own_fault : (A : Type 0) {B : Type 0} (own : ValueFault) (fault : FrameFault) → Path (Result B FrameFault) (Err (fault_of own)) (Err fault) → IsOwnFault {A = A} (Err own) fault
own_fault A values.Short fault e = subst (λ (f : FrameFault). IsOwnFault {A = A} (Err values.Short) f) (one_fault e) refl
own_fault A values.KindOut fault e = subst (λ (f : FrameFault). IsOwnFault {A = A} (Err values.KindOut) f) (one_fault e) refl
own_fault A values.BadUtf8 fault e = subst (λ (f : FrameFault). IsOwnFault {A = A} (Err values.BadUtf8) f) (one_fault e) (inl refl)
own_fault A values.BadLength fault e = subst (λ (f : FrameFault). IsOwnFault {A = A} (Err values.BadLength) f) (one_fault e) (inr refl)

either_own : {A : Type 0} (read : Result A ValueFault) → (read ≡ Err values.BadUtf8) ⊎ (read ≡ Err values.BadLength) → in_frame read ≡ Err BadValue
either_own read (inl e) = ap in_frame e
either_own read (inr e) = ap in_frame e

fault_own : {A : Type 0} (read : Result A ValueFault) (fault : FrameFault) → IsOwnFault read fault → in_frame read ≡ Err fault
fault_own read Short e = ap in_frame e
fault_own read KindOut e = ap in_frame e
fault_own read BadValue e = either_own read e
fault_own read _ e = absurd e

-- a Variant in the place of a field's
abbrev as_good : Result (Value × List ℕ) FrameFault → Result (Measured × List ℕ) FrameFault
as_good read = read >>= λ value. Ok (good value.0, value.1)

as_variant : Bool → Field → Result (Value × List ℕ) FrameFault → Result (DataValue × List ℕ) FrameFault
as_variant quality field read = as_good read >>= λ x. taken quality field x.0.value x.0.status x.1

field_as_variant : (quality : Bool) (field : Field) (bytes : List ℕ) → field_at quality 0 field bytes ≡ as_variant quality field (in_frame (variant_at bytes))
unfolding field_at as_variant taken
field_as_variant quality field bytes = refl

variant_fault : (quality : Bool) (field : Field) (bytes : List ℕ) (fault : FrameFault) (read : Result (Value × List ℕ) ValueFault) → variant_at bytes ≡ read → as_variant quality field (in_frame read) ≡ Err fault
    → RefusesVariant field bytes fault
unfolding as_variant
variant_fault quality field bytes fault (Err own) is e = inl (subst (λ (r : Result (Value × List ℕ) ValueFault). IsOwnFault r fault) (sym is) (own_fault (Value × List ℕ) own fault e))
variant_fault quality field bytes fault (Ok x) is e =
    let out = taken_refused quality field (Some x.0) 0 x.1 fault e in inr (out.0, record { value = x.0; rest = x.1; read = is; unfit = out.1 })

fault_of_variant : (quality : Bool) (field : Field) (bytes : List ℕ) (fault : FrameFault) → RefusesVariant field bytes fault → as_variant quality field (in_frame (variant_at bytes)) ≡ Err fault
unfolding as_variant
fault_of_variant quality field bytes fault (inl own) = ap (as_variant quality field) (fault_own (variant_at bytes) fault own)
fault_of_variant quality field bytes fault (inr out) =
    ap (λ (r : Result (Value × List ℕ) ValueFault). as_variant quality field (in_frame r)) out.1.read
    ∙ refused_taken quality field (Some out.1.value) 0 out.1.rest out.1.unfit ∙ ap (λ (f : FrameFault). Err f) (sym out.0)

pub variants-refused : (quality : Bool) (field : Field) (bytes : List ℕ) (fault : FrameFault) → (field_at quality 0 field bytes ≡ Err fault) ↔ RefusesVariant field bytes fault
variants-refused quality field bytes fault = (
  λ e. variant_fault quality field bytes fault (variant_at bytes) refl (sym (field_as_variant quality field bytes) ∙ e),
  λ refuses. field_as_variant quality field bytes ∙ fault_of_variant quality field bytes fault refuses,
)

-- a DataValue in the place of a field's
as_data_value : Bool → Field → Result (Measured × List ℕ) FrameFault → Result (DataValue × List ℕ) FrameFault
as_data_value quality field read = read >>= λ x. taken quality field x.0.value x.0.status x.1

field_as_data_value : (quality : Bool) (field : Field) (bytes : List ℕ) → field_at quality 2 field bytes ≡ as_data_value quality field (in_frame (data_value_at bytes))
unfolding field_at as_data_value taken
field_as_data_value quality field bytes = refl

data_value_fault : (quality : Bool) (field : Field) (bytes : List ℕ) (fault : FrameFault) (read : Result (Measured × List ℕ) ValueFault) → data_value_at bytes ≡ read
    → as_data_value quality field (in_frame read) ≡ Err fault → RefusesDataValue field bytes fault
unfolding as_data_value
data_value_fault quality field bytes fault (Err own) is e = inl (subst (λ (r : Result (Measured × List ℕ) ValueFault). IsOwnFault r fault) (sym is) (own_fault (Measured × List ℕ) own fault e))
data_value_fault quality field bytes fault (Ok x) is e =
    let out = taken_refused quality field x.0.value x.0.status x.1 fault e in inr (out.0, record { measured = x.0; rest = x.1; read = is; unfit = out.1 })

fault_of_data_value : (quality : Bool) (field : Field) (bytes : List ℕ) (fault : FrameFault) → RefusesDataValue field bytes fault → as_data_value quality field (in_frame (data_value_at bytes)) ≡ Err fault
unfolding as_data_value
fault_of_data_value quality field bytes fault (inl own) = ap (as_data_value quality field) (fault_own (data_value_at bytes) fault own)
fault_of_data_value quality field bytes fault (inr out) =
    ap (λ (r : Result (Measured × List ℕ) ValueFault). as_data_value quality field (in_frame r)) out.1.read
    ∙ refused_taken quality field out.1.measured.value out.1.measured.status out.1.rest out.1.unfit ∙ ap (λ (f : FrameFault). Err f) (sym out.0)

pub data_values-refused : (quality : Bool) (field : Field) (bytes : List ℕ) (fault : FrameFault) → (field_at quality 2 field bytes ≡ Err fault) ↔ RefusesDataValue field bytes fault
data_values-refused quality field bytes fault = (
  λ e. data_value_fault quality field bytes fault (data_value_at bytes) refl (sym (field_as_data_value quality field bytes) ∙ e),
  λ refuses. field_as_data_value quality field bytes ∙ fault_of_data_value quality field bytes fault refuses,
)

-- a surplus value
dropped : Option Value → List ℕ → Result (Unit {0} × List ℕ) FrameFault
dropped value rest = present value >>= λ done. Ok (done, rest)

dropped_refused : (value : Option Value) (rest : List ℕ) (fault : FrameFault) → dropped value rest ≡ Err fault → (fault ≡ BadValue) × (value ≡ None)
unfolding dropped
dropped_refused None rest fault e = (sym (one_fault e), refl)
dropped_refused (Some value) rest fault e = absurd (no_fault e)

surplus_variant : Result (Value × List ℕ) FrameFault → Result (Unit {0} × List ℕ) FrameFault
surplus_variant read = as_good read >>= λ x. dropped x.0.value x.1

surplus_as_variant : (bytes : List ℕ) → surplus_at 0 bytes ≡ surplus_variant (in_frame (variant_at bytes))
unfolding surplus_at surplus_variant dropped
surplus_as_variant bytes = refl

surplus_variant_fault : (fault : FrameFault) (read : Result (Value × List ℕ) ValueFault) → surplus_variant (in_frame read) ≡ Err fault → IsOwnFault read fault
unfolding surplus_variant dropped
surplus_variant_fault fault (Err own) e = own_fault (Value × List ℕ) own fault e
surplus_variant_fault fault (Ok x) e = absurd (no_fault e)

fault_of_surplus_variant : (fault : FrameFault) (read : Result (Value × List ℕ) ValueFault) → IsOwnFault read fault → surplus_variant (in_frame read) ≡ Err fault
unfolding surplus_variant
fault_of_surplus_variant fault read own = ap surplus_variant (fault_own read fault own)

pub surplus-variants-refused : (bytes : List ℕ) (fault : FrameFault) → (surplus_at 0 bytes ≡ Err fault) ↔ IsOwnFault (variant_at bytes) fault
surplus-variants-refused bytes fault = (
  λ e. surplus_variant_fault fault (variant_at bytes) (sym (surplus_as_variant bytes) ∙ e),
  λ own. surplus_as_variant bytes ∙ fault_of_surplus_variant fault (variant_at bytes) own,
)

surplus_data_value : Result (Measured × List ℕ) FrameFault → Result (Unit {0} × List ℕ) FrameFault
surplus_data_value read = read >>= λ x. dropped x.0.value x.1

surplus_as_data_value : (bytes : List ℕ) → surplus_at 2 bytes ≡ surplus_data_value (in_frame (data_value_at bytes))
unfolding surplus_at surplus_data_value dropped
surplus_as_data_value bytes = refl

surplus_data_value_fault : (bytes : List ℕ) (fault : FrameFault) (read : Result (Measured × List ℕ) ValueFault) → data_value_at bytes ≡ read → surplus_data_value (in_frame read) ≡ Err fault → RefusesSurplus bytes fault
unfolding surplus_data_value
surplus_data_value_fault bytes fault (Err own) is e = inl (subst (λ (r : Result (Measured × List ℕ) ValueFault). IsOwnFault r fault) (sym is) (own_fault (Measured × List ℕ) own fault e))
surplus_data_value_fault bytes fault (Ok x) is e =
    let out = dropped_refused x.0.value x.1 fault e in inr (out.0, record { measured = x.0; rest = x.1; read = is; empty = out.1 })

fault_of_surplus_data_value : (bytes : List ℕ) (fault : FrameFault) → RefusesSurplus bytes fault → surplus_data_value (in_frame (data_value_at bytes)) ≡ Err fault
unfolding surplus_data_value dropped
fault_of_surplus_data_value bytes fault (inl own) = ap surplus_data_value (fault_own (data_value_at bytes) fault own)
fault_of_surplus_data_value bytes fault (inr out) =
    ap (λ (r : Result (Measured × List ℕ) ValueFault). surplus_data_value (in_frame r)) out.1.read
    ∙ ap (λ (value : Option Value). dropped value out.1.rest) out.1.empty ∙ ap (λ (f : FrameFault). Err f) (sym out.0)

pub surplus-data_values-refused : (bytes : List ℕ) (fault : FrameFault) → (surplus_at 2 bytes ≡ Err fault) ↔ RefusesSurplus bytes fault
surplus-data_values-refused bytes fault = (
  λ e. surplus_data_value_fault bytes fault (data_value_at bytes) refl (sym (surplus_as_data_value bytes) ∙ e),
  λ refuses. surplus_as_data_value bytes ∙ fault_of_surplus_data_value bytes fault refuses,
)

-- an index, and what is read behind it
behind_index : (meta : MetaData) (newer : Bool) (encoding index : ℕ) (patch : List (ℕ × DataValue)) (rest : List ℕ) (found : Option Field) → index < 2 ^ 16 → slice_get meta.fields index ≡ found
    → change_at meta newer encoding patch (to_le_bytes w16 index ++ rest) ≡ put_at meta.quality newer encoding patch index found rest
unfolding change_at
behind_index meta newer encoding index patch rest found small is = rw (count_read index rest small, is) refl

pub index-out : (meta : MetaData) (encoding index : ℕ) (patch : List (ℕ × DataValue)) (rest : List ℕ) → index < 2 ^ 16 → length meta.fields ≤ index
    → change_at meta false encoding patch (to_le_bytes w16 index ++ rest) ≡ Err (BadIndex index)
index-out meta encoding index patch rest small past = behind_index meta false encoding index patch rest None small (slice_get_past meta.fields index past)

pub index-surplus : (meta : MetaData) (encoding index : ℕ) (patch : List (ℕ × DataValue)) (rest : List ℕ) (fault : FrameFault) → index < 2 ^ 16 → length meta.fields ≤ index
    → surplus_at encoding rest ≡ Err fault → change_at meta true encoding patch (to_le_bytes w16 index ++ rest) ≡ Err fault
index-surplus meta encoding index patch rest fault small past refused =
    behind_index meta true encoding index patch rest None small (slice_get_past meta.fields index past)
    ∙ ap (λ (r : Result (Unit {0} × List ℕ) FrameFault). r >>= λ value. Ok (patch, value.1)) refused

pub index-field : (meta : MetaData) (newer : Bool) (encoding index : ℕ) (patch : List (ℕ × DataValue)) (field : Field) (rest : List ℕ) (fault : FrameFault) → index < 2 ^ 16
    → slice_get meta.fields index ≡ Some field → field_at meta.quality encoding field rest ≡ Err fault → change_at meta newer encoding patch (to_le_bytes w16 index ++ rest) ≡ Err fault
index-field meta newer encoding index patch field rest fault small is refused =
    behind_index meta newer encoding index patch rest (Some field) small is
    ∙ ap (λ (r : Result (DataValue × List ℕ) FrameFault). r >>= λ value. Ok (put_in patch index value.0, value.1)) refused

pub index-short : (meta : MetaData) (newer : Bool) (encoding : ℕ) (patch : List (ℕ × DataValue)) (bytes : List ℕ) → length bytes < 2 → change_at meta newer encoding patch bytes ≡ Err Short
unfolding change_at
index-short meta newer encoding patch [] few = refl
index-short meta newer encoding patch (byte ∷ []) few = refl
index-short meta newer encoding patch (byte ∷ next ∷ bytes) few = absurd (omega (arith, few))
