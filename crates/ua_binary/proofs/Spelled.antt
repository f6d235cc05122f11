-- Variants and DataValues are read exactly where one of their spellings stands.
use Rattle.std.proofs.Common.{◌≡◌, ℕ, ◌<◌, ◌≤◌, ◌^◌, List, ◌++◌, length, get_or, take, Option, Some, None, Result, Ok, Err, refl, sym, ap, subst, ◌∙◌, append-nil, arith}
use Rattle.std.specs.Prelude.{IfSome, unwrap_or}
use Rattle.ua_values.specs.declared.value.Value.{Value}
use Rattle.ua_values.specs.declared.value.Value.TheVariants as values
use Rattle.ua_values.specs.Values.{kind_of, size_of, Fits, IsValue}
use Rattle.ua_binary.specs.declared.data_value.Measured.{Measured}
use Rattle.ua_binary.specs.declared.fault.ValueFault.{ValueFault}
use Rattle.ua_binary.specs.declared.fault.ValueFault.TheVariants.{Short}
use Rattle.ua_binary.specs.Begins.{BeginsWithVariant, BeginsWithDataValue}
use Rattle.ua_binary.specs.ReadingValues.{variant_at, data_value_at}
use Rattle.ua_binary.specs.Spelling.{variant, data_value}
use Rattle.ua_binary.specs.Wire.{AreBytes, written, WireValue, IsWireValue, variant_as, WireDataValue, IsWireDataValue, data_value_as, value_in, measured_of}
use Rattle.ua_binary.proofs.DataValues.{data_value_grammar}
use Rattle.ua_binary.proofs.Values.{variant_grammar}

pub variant-begins : (bytes rest : List ℕ) (value : Value) → AreBytes bytes → variant_at bytes ≡ Ok (value, rest) → BeginsWithVariant bytes value rest
variant-begins bytes rest value all e =
    let one = variant_grammar.back bytes rest value all e in
    record { wire = one.spells.wire; is_wire = one.spells.is_wire; meaning = one.spells.meaning; split = one.split ∙ ap (λ (l : List ℕ). l ++ rest) one.spells.spelled }

pub variant-begins-read : (bytes rest : List ℕ) (value : Value) → BeginsWithVariant bytes value rest → variant_at bytes ≡ Ok (value, rest)
variant-begins-read bytes rest value b =
    ap variant_at b.split ∙ variant_grammar.again value (variant_as b.wire) rest (record { wire = b.wire; is_wire = b.is_wire; meaning = b.meaning; spelled = refl })

pub variant-fewer : (wire : WireValue) (len : ℕ) → IsWireValue wire → len < length (variant_as wire) → variant_at (take len (variant_as wire)) ≡ Err Short
variant-fewer wire len is below = variant_grammar.fewer wire.value (variant_as wire) len (record { wire = wire; is_wire = is; meaning = refl; spelled = refl }) below

pub data_value-begins : (bytes rest : List ℕ) (measured : Measured) → AreBytes bytes → data_value_at bytes ≡ Ok (measured, rest) → BeginsWithDataValue bytes measured rest
data_value-begins bytes rest measured all e =
    let one = data_value_grammar.back bytes rest measured all e in
    record { wire = one.spells.wire; is_wire = one.spells.is_wire; meaning = one.spells.meaning; split = one.split ∙ ap (λ (l : List ℕ). l ++ rest) one.spells.spelled }

pub data_value-begins-read : (bytes rest : List ℕ) (measured : Measured) → BeginsWithDataValue bytes measured rest → data_value_at bytes ≡ Ok (measured, rest)
data_value-begins-read bytes rest measured b =
    ap data_value_at b.split ∙ data_value_grammar.again measured (data_value_as b.wire) rest (record { wire = b.wire; is_wire = b.is_wire; meaning = b.meaning; spelled = refl })

pub data_value-fewer : (wire : WireDataValue) (len : ℕ) → IsWireDataValue wire → len < length (data_value_as wire) → data_value_at (take len (data_value_as wire)) ≡ Err Short
data_value-fewer wire len is below = data_value_grammar.fewer (measured_of wire) (data_value_as wire) len (record { wire = wire; is_wire = is; meaning = refl; spelled = refl }) below

-- what is written
pub variant_again : (value : Value) (rest : List ℕ) → IsValue value → variant_at (variant value ++ rest) ≡ Ok (value, rest)
variant_again value rest is =
    variant_grammar.again value (variant value) rest (record { wire = record { value = value; form = written }; is_wire = record { in_range = is; has_form = tt }; meaning = refl; spelled = refl })

-- the DataValue with this value and this status alone
abbrev written_with : Value → Option ℕ → WireDataValue
written_with value status =
    record { value = Some (record { value = value; form = written }); status = status; source_time = None; source_picoseconds = None; server_time = None; server_picoseconds = None }

spelled-with : (value : Value) (status : Option ℕ) → data_value value status ≡ data_value_as (written_with value status)
spelled-with value None = simp append-nil
spelled-with value (Some code) = simp append-nil

pub data_value_again : (value : Value) (status : Option ℕ) (rest : List ℕ) → IsValue value → IfSome status (λ code. code < 2 ^ 32)
    → data_value_at (data_value value status ++ rest) ≡ Ok (record { value = Some value; status = unwrap_or status 0 }, rest)
data_value_again value status rest is small =
    data_value_grammar.again (record { value = Some value; status = unwrap_or status 0 }) (data_value value status) rest
    (record { wire = written_with value status; is_wire = record { value = record { in_range = is; has_form = tt }; status = small; source_time = tt; source_picoseconds = tt; server_time = tt; server_picoseconds = tt }; meaning = refl; spelled = spelled-with value status })

-- bytes that begin with one written value begin with no other
pub same_variant : (one other : Value) (rest after : List ℕ) → IsValue one → IsValue other → variant one ++ rest ≡ variant other ++ after → (one ≡ other) × (rest ≡ after)
same_variant one other rest after is_one is_other e =
    let both : Path (Result (Value × List ℕ) ValueFault) (Ok (one, rest)) (Ok (other, after)) = sym (variant_again one rest is_one) ∙ ap variant_at e ∙ variant_again other after is_other in
    let pair : Path (Value × List ℕ) (one, rest) (other, after) = cc in
    (ap (λ (p : Value × List ℕ). p.0) pair, ap (λ (p : Value × List ℕ). p.1) pair)

abbrev measured_as : Value → Option ℕ → Measured
measured_as value status = record { value = Some value; status = unwrap_or status 0 }

-- what both are read as
same_parts : (one other : Value) (status code : Option ℕ) (rest after : List ℕ) → IsValue one → IsValue other → IfSome status (λ n. n < 2 ^ 32) → IfSome code (λ n. n < 2 ^ 32)
    → data_value one status ++ rest ≡ data_value other code ++ after → (one ≡ other) × (unwrap_or status 0 ≡ unwrap_or code 0) × (rest ≡ after)
same_parts one other status code rest after is_one is_other small_status small_code e =
    let both : Path (Result (Measured × List ℕ) ValueFault) (Ok (measured_as one status, rest)) (Ok (measured_as other code, after)) = sym (data_value_again one status rest is_one small_status) ∙ ap data_value_at e ∙ data_value_again other code after is_other small_code in
    let pair : Path (Measured × List ℕ) (measured_as one status, rest) (measured_as other code, after) = cc in
    let value : Path (Option Value) (Some one) (Some other) = ap (λ (p : Measured × List ℕ). p.0.value) pair in
    (cc, ap (λ (p : Measured × List ℕ). p.0.status) pair, ap (λ (p : Measured × List ℕ). p.1) pair)

pub same_data_value : (one other : Value) (status code : Option ℕ) (rest after : List ℕ) → IsValue one → IsValue other → IfSome status (λ n. n < 2 ^ 32) → IfSome code (λ n. n < 2 ^ 32)
    → data_value one status ++ rest ≡ data_value other code ++ after → (one ≡ other) × (status ≡ code) × (rest ≡ after)
same_data_value one other None None rest after is_one is_other small_status small_code e =
    let parts = same_parts one other None None rest after is_one is_other small_status small_code e in
    (parts.0, refl, parts.2)
same_data_value one other (Some status) (Some code) rest after is_one is_other small_status small_code e =
    let parts = same_parts one other (Some status) (Some code) rest after is_one is_other small_status small_code e in
    (parts.0, ap Some parts.1, parts.2)
same_data_value one other None (Some code) rest after is_one is_other small_status small_code e =
    let mask : Path ℕ 1 3 = ap (λ (bytes : List ℕ). get_or bytes 0 0) e in
    absurd (omega arith)
same_data_value one other (Some status) None rest after is_one is_other small_status small_code e =
    let mask : Path ℕ 3 1 = ap (λ (bytes : List ℕ). get_or bytes 0 0) e in
    absurd (omega arith)

-- what is read is in range
pub variant-is_value : (bytes rest : List ℕ) (value : Value) → AreBytes bytes → variant_at bytes ≡ Ok (value, rest) → IsValue value
variant-is_value bytes rest value all e =
    let one = variant_grammar.back bytes rest value all e in
    subst IsValue one.spells.meaning one.spells.is_wire.in_range

-- a text or a blob that is a value has at most 256 bytes
small : (value : Value) → IsValue value → size_of value ≤ 256
small (values.String text) is = is.short.at_most_256
small (values.ByteString bytes) is = is.at_most_256
small value is = omega arith

pub variant-fits : (bytes rest : List ℕ) (value : Value) → AreBytes bytes → variant_at bytes ≡ Ok (value, rest) → Fits value (kind_of value) 256
variant-fits bytes rest value all e = record { same_kind = refl; within = small value (variant-is_value bytes rest value all e) }

value_in-is_value : (wire : Option WireValue) → IfSome wire IsWireValue → IfSome (value_in wire) IsValue
value_in-is_value None is = tt
value_in-is_value (Some wire) is = is.in_range

status-small : (status : Option ℕ) → IfSome status (λ code. code < 2 ^ 32) → unwrap_or status 0 < 2 ^ 32
status-small None is = omega arith
status-small (Some code) is = is

pub data_value-is_value : (bytes rest : List ℕ) (measured : Measured) → AreBytes bytes → data_value_at bytes ≡ Ok (measured, rest) → IfSome measured.value IsValue
data_value-is_value bytes rest measured all e =
    let one = data_value_grammar.back bytes rest measured all e in
    subst (λ (m : Measured). IfSome m.value IsValue) one.spells.meaning (value_in-is_value one.spells.wire.value one.spells.is_wire.value)

pub data_value-status : (bytes rest : List ℕ) (measured : Measured) → AreBytes bytes → data_value_at bytes ≡ Ok (measured, rest) → measured.status < 2 ^ 32
data_value-status bytes rest measured all e =
    let one = data_value_grammar.back bytes rest measured all e in
    subst (λ (m : Measured). m.status < 2 ^ 32) one.spells.meaning (status-small one.spells.wire.status one.spells.is_wire.status)
