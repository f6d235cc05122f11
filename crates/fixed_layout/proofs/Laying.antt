-- Values laid one behind another.
use Rattle.std.proofs.Common.{◌≡◌, ℕ, zero, suc, ◌+◌, ◌<◌, ◌≤◌, Bool, List, [], ◌∷◌, ◌++◌, length, drop, get_or, refl, sym, ap, subst, ◌∙◌, append_assoc, length-append, arith}
use Rattle.std.specs.Prelude.{replicate}
use Rattle.std.specs.Int.{w8, w16, w32, w64, to_le_bytes}
use Rattle.std.proofs.lemmas.Int.{of_z-to_z}
use Rattle.std.proofs.lemmas.List.{drop_more, drop_all, append-nil, get_or_default}
use Rattle.ua_values.specs.declared.kind.Kind.{Kind}
use Rattle.ua_values.specs.declared.kind.Kind.TheVariants as kinds
use Rattle.ua_values.specs.declared.value.Value.{Value}
use Rattle.ua_values.specs.Values.{Fits, IsValue}
use Rattle.ua_binary.specs.declared.pen.Pen.{Pen}
use Rattle.ua_binary.specs.Spelling.{plain}
use Rattle.ua_binary.specs.Writing.{Puts}
use Rattle.ua_binary.proofs.Laying.{Puts-then}
use Rattle.dataset_meta.specs.declared.field.Field.{Field}
use Rattle.dataset_meta.specs.DataValues.{DataValue, FitsField}
use Rattle.dataset_meta.specs.Rows.{IsRowOf}
use Rattle.dataset_meta.proofs.RowLaws.{length_row}
use Rattle.row_words.specs.Setting.{HasValue}
use Rattle.row_words.specs.Words.{IsWordOf, scalar_in, scalar_bytes}
use Rattle.row_words.proofs.FieldLaws.{IsRow-at}
use Rattle.row_words.proofs.ScalarLaws.{boolean_word}
use Rattle.fixed_layout.specs.Spelling.{raw_width, raw_width_of, filling, raw_value, raw_row}
use Rattle.fixed_layout.specs.Calls.{PutsValue}
use Rattle.fixed_layout.proofs.Sizes.{length_in_field}

-- what stands at an index
pub record Stands {X : Type 0} (xs : List X) (index : ℕ) : Type 0 where
  pub x : X
  pub at : (d : X) → get_or xs index d ≡ x

pub stands : {X : Type 0} (xs : List X) (index : ℕ) → index < length xs → Stands xs index
stands [] index within = absurd (omega arith)
stands (x ∷ xs) zero within = record { x = x; at = λ d. refl }
stands (x ∷ xs) (suc index) within = let later = stands xs index (omega arith) in record { x = later.x; at = later.at }

-- the first of the values that are left
pub left-more : (fields : List Field) (row : List DataValue) (index : ℕ) (field : Field) (x : DataValue) → index < length fields → index < length row → get_or fields index field ≡ field → get_or row index x ≡ x
    → raw_row (drop index fields) (drop index row) ≡ raw_value field.cap x.value ++ raw_row (drop (index + 1) fields) (drop (index + 1) row)
left-more fields row index field x in_fields in_row at here =
    ap (λ (left : List Field). raw_row left (drop index row)) (drop_more fields index field in_fields ∙ ap (λ (f : Field). f ∷ drop (index + 1) fields) at)
    ∙ ap (λ (left : List DataValue). raw_row (field ∷ drop (index + 1) fields) left) (drop_more row index x in_row ∙ ap (λ (v : DataValue). v ∷ drop (index + 1) row) here)

-- a text was written, and another behind it makes the whole
pub record IsLaid (old now : Pen) (left whole : List ℕ) : Type 0 where
  pub text : List ℕ
  pub puts : Puts old now text
  pub whole_is : text ++ left ≡ whole

pub laid-more : (old now new : Pen) (value left whole : List ℕ) → IsLaid old now (value ++ left) whole → Puts now new value → IsLaid old new left whole
laid-more old now new value left whole is puts =
    record { text = is.text ++ value; puts = Puts-then old now new is.text value is.puts puts; whole_is = append_assoc is.text value left ∙ is.whole_is }

pub laid-all : (old now : Pen) (whole : List ℕ) → IsLaid old now [] whole → Puts old now whole
laid-all old now whole is = rw (sym is.whole_is, append-nil is.text) is.puts

-- a scalar's bytes are those of its word
pub plain-scalar_in : (kind : Kind) (word : ℕ) → IsWordOf kind word → plain (scalar_in kind word) ≡ scalar_bytes kind word
plain-scalar_in kinds.Boolean word is = ap (λ (w : ℕ). w ∷ []) (boolean_word word is)
plain-scalar_in kinds.SByte word is = ap (λ (w : ℕ). w ∷ []) (of_z-to_z w8 word is)
plain-scalar_in kinds.Byte word is = refl
plain-scalar_in kinds.Int16 word is = ap (to_le_bytes w16) (of_z-to_z w16 word is)
plain-scalar_in kinds.UInt16 word is = refl
plain-scalar_in kinds.Int32 word is = ap (to_le_bytes w32) (of_z-to_z w32 word is)
plain-scalar_in kinds.UInt32 word is = refl
plain-scalar_in kinds.Int64 word is = ap (to_le_bytes w64) (of_z-to_z w64 word is)
plain-scalar_in kinds.UInt64 word is = refl
plain-scalar_in kinds.Float word is = refl
plain-scalar_in kinds.Double word is = refl
plain-scalar_in kinds.DateTime word is = ap (to_le_bytes w64) (of_z-to_z w64 word is)
plain-scalar_in kinds.StatusCode word is = refl
plain-scalar_in kinds.String word is = absurd is
plain-scalar_in kinds.ByteString word is = absurd is
plain-scalar_in kinds.Guid word is = absurd is

no_filling : (cap : ℕ) (kind : Kind) (word : ℕ) → IsWordOf kind word → filling cap (scalar_in kind word) ≡ 0
no_filling cap kinds.String word is = absurd is
no_filling cap kinds.ByteString word is = absurd is
no_filling cap kind word is = refl

-- and with nothing behind them, in a field of any cap
pub raw-scalar_in : (cap : ℕ) (kind : Kind) (word : ℕ) → IsWordOf kind word → raw_value cap (scalar_in kind word) ≡ scalar_bytes kind word
raw-scalar_in cap kind word is =
    ap (λ (n : ℕ). plain (scalar_in kind word) ++ replicate n 0) (no_filling cap kind word is) ∙ append-nil (plain (scalar_in kind word)) ∙ plain-scalar_in kind word is

pub length-scalar_bytes : (kind : Kind) (cap word : ℕ) → IsWordOf kind word → length (scalar_bytes kind word) ≡ raw_width kind cap
length-scalar_bytes kinds.String cap word is = absurd is
length-scalar_bytes kinds.ByteString cap word is = absurd is
length-scalar_bytes kinds.Guid cap word is = absurd is
length-scalar_bytes kind cap word is = refl

-- the value at an index fits its field
pub value-at : (quality : Bool) (fields : List Field) (row : List DataValue) (index : ℕ) (field : Field) (value : Value) → IsRowOf quality fields row → index < length fields → field ≡ get_or fields index field → HasValue row index value
    → IsValue value × Fits value field.kind field.cap
value-at quality fields row index field value is within at held =
    let t = stands row index (omega (arith, length_row quality fields row is)) in
    let fits : FitsField quality field t.x = IsRow-at quality fields row index field t.x is within at (sym (t.at t.x)) in
    let same : t.x.value ≡ value = ap (λ (x : DataValue). x.value) (sym (t.at t.x)) ∙ held t.x in
    (subst IsValue same fits.is_value, subst (λ (v : Value). Fits v field.kind field.cap) same fits.fits)

-- a value was written, as that at an index of its row
pub puts-value : (fields : List Field) (row : List DataValue) (index : ℕ) (field : Field) (value : Value) (old new : Pen) → index < length fields → field ≡ get_or fields index field → HasValue row index value
    → Puts old new (raw_value field.cap value) → PutsValue fields row index old new
puts-value fields row index field value old new within at held puts = λ d e.
    let same : get_or fields index d ≡ field = get_or_default fields index d field within ∙ sym at in
    subst (λ (f : Field). Puts old new (raw_value f.cap (get_or row index e).value)) (sym same) (subst (λ (v : Value). Puts old new (raw_value field.cap v)) (sym (held e)) puts)

-- the word of a scalar field is its value
pub has-word : (fields : List Field) (row : List DataValue) (index : ℕ) (field : Field) (word : ℕ) → field ≡ get_or fields index field → ((d : Field) → HasValue row index (scalar_in (get_or fields index d).kind word)) → HasValue row index (scalar_in field.kind word)
has-word fields row index field word at held = λ e. held field e ∙ ap (λ (f : Field). scalar_in f.kind word) (sym at)

-- there is room for the first of the values that are left
pub room-left : (quality : Bool) (fields : List Field) (row : List DataValue) (index : ℕ) (old now : Pen) (whole : List ℕ) → IsRowOf quality fields row → index < length fields
    → IsLaid old now (raw_row (drop index fields) (drop index row)) whole → old.at + length whole ≤ length old.bytes.now → (d : Field) → now.at + raw_width_of (get_or fields index d) ≤ length now.bytes.now
room-left quality fields row index old now whole is within laid room d =
    let s = stands fields index within in
    let in_row : index < length row = omega (arith, length_row quality fields row is) in
    let t = stands row index in_row in
    let fits : FitsField quality s.x t.x = IsRow-at quality fields row index s.x t.x is within (sym (s.at s.x)) (sym (t.at t.x)) in
    let first = left-more fields row index s.x t.x within in_row (s.at s.x) (t.at t.x) in
    let rest = raw_row (drop (index + 1) fields) (drop (index + 1) row) in
    omega (
      arith,
      room,
      laid.puts.moved,
      laid.puts.same_length,
      ap length laid.whole_is,
      length-append laid.text (raw_row (drop index fields) (drop index row)),
      ap length first,
      length-append (raw_value s.x.cap t.x.value) rest,
      length_in_field quality s.x t.x fits,
      ap raw_width_of (s.at d),
    )

-- one value more
pub value-laid : (fields : List Field) (row : List DataValue) (index : ℕ) (old now new : Pen) (whole : List ℕ) → index < length fields → index < length row
    → IsLaid old now (raw_row (drop index fields) (drop index row)) whole → PutsValue fields row index now new → IsLaid old new (raw_row (drop (index + 1) fields) (drop (index + 1) row)) whole
value-laid fields row index old now new whole within in_row laid puts =
    let s = stands fields index within in
    let t = stands row index in_row in
    let value : Puts now new (raw_value s.x.cap t.x.value) =
    subst (λ (x : DataValue). Puts now new (raw_value s.x.cap x.value)) (t.at t.x) (subst (λ (f : Field). Puts now new (raw_value f.cap (get_or row index t.x).value)) (s.at s.x) (puts s.x t.x)) in
    laid-more old now new (raw_value s.x.cap t.x.value) (raw_row (drop (index + 1) fields) (drop (index + 1) row)) whole
    (subst (λ (left : List ℕ). IsLaid old now left whole) (left-more fields row index s.x t.x within in_row (s.at s.x) (t.at t.x)) laid) value

pub all-laid : (fields : List Field) (row : List DataValue) (index : ℕ) (old now : Pen) (whole : List ℕ) → length fields ≤ index → IsLaid old now (raw_row (drop index fields) (drop index row)) whole → Puts old now whole
all-laid fields row index old now whole all laid =
    let none : drop index fields ≡ [] = drop_all index fields all in
    laid-all old now whole (subst (λ (left : List Field). IsLaid old now (raw_row left (drop index row)) whole) none laid)
