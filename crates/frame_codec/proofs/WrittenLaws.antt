-- A written frame stands on the wire as one of what it is, and as one of what its data set was before it grew.
use Rattle.std.proofs.Common.{◌≡◌, ℕ, zero, suc, ◌+◌, ◌*◌, ◌<◌, ◌≤◌, ◌^◌, Bool, true, false, not, List, [], ◌∷◌, ◌++◌, length, take, drop, get_or, Option, Some, None, refl, sym, ap, ◌∙◌, subst, append_assoc, append-nil, length-append, take-append-drop, arith, inl, inr}
use Rattle.std.specs.Prelude.{IfSome, is_some, ◌==◌, ◌&&◌, ◌⊎◌, nat_lt, filter, slice_get, unwrap_or, if◌then◌else◌, ⊤}
use Rattle.std.specs.Int.{w16, w32, to_le_bytes}
use Rattle.std.specs.List.{HoldsAt}
use Rattle.std.proofs.lemmas.Bool.{eqb-true, lt-ltb, ltb-true, ltb-false}
use Rattle.ua_binary.specs.Spelling.{data_value}
use Rattle.ua_binary.specs.Wire.{flag, optional, Form, WireValue, WireDataValue, variant_as, data_value_as}
use Rattle.ua_binary.specs.Wire as wires
use Rattle.std.proofs.lemmas.List.{take_all, drop_all}
use Rattle.dataset_meta.specs.declared.field.Field.{Field}
use Rattle.dataset_meta.specs.DataValues.{DataValue, FitsField}
use Rattle.dataset_meta.specs.Metas.{MetaData, HasGrown}
use Rattle.dataset_meta.specs.Rows.{IsRowOf, IsPatchFrom, put_in}
use Rattle.dataset_meta.proofs.RowLaws.{length_row}
use Rattle.frame_codec.specs.Frames.{Content, Whole, Change, Alive, Frame, IsContent, IsFrame, content_cut, frame_cut}
use Rattle.frame_codec.specs.Contents.{is_newer}
use Rattle.frame_codec.specs.Fronts.{is_encoding}
use Rattle.frame_codec.specs.Spelling.{is_key, status_if, value_bytes, encoding_of, frame_bytes}
use Rattle.frame_codec.specs.Spelling as written
use Rattle.frame_codec.specs.Wire.{WireFront, IsWireFront, is_kind, WireField, AsVariant, AsDataValue, field_bytes, wire_values_bytes, wire_changes_bytes, WireContent, Key, Delta, KeepAlive, kind_number, wire_content_bytes, IsForField, IsSurplus, AreValues, IsFor, AreChanges, IsWireContent, value_read, row_read, put_read, patch_read, content_read, wire_bytes, wire_front_bytes}
use Rattle.frame_codec.proofs.FrameGrammar.{SpellsFrame}

-- a value with its status, as it is written
wire_value : DataValue → WireValue
wire_value x = record { value = x.value; form = wires.written }

wire_field : Bool → DataValue → WireField
wire_field true x = AsDataValue (record { value = Some (wire_value x); status = status_if x.status; source_time = None; source_picoseconds = None; server_time = None; server_picoseconds = None })
wire_field false x = AsVariant (wire_value x)

encoding_if : Bool → ℕ
encoding_if quality = if quality then 2 else 0

four_nil : (a : List ℕ) → (((a ++ []) ++ []) ++ []) ++ [] ≡ a
four_nil a = simp append-nil refl

data_value_bytes : (x : DataValue) (status : Option ℕ)
    → data_value_as (record { value = Some (wire_value x); status = status; source_time = None; source_picoseconds = None; server_time = None; server_picoseconds = None }) ≡ data_value x.value status
unfolding wire_value
data_value_bytes x None = simp append-nil refl
data_value_bytes x (Some status) = simp append-nil refl

field-written : (quality : Bool) (x : DataValue) → field_bytes (wire_field quality x) ≡ value_bytes quality x
unfolding wire_field wire_value
field-written true x = data_value_bytes x (status_if x.status)
field-written false x = refl

status_small : (status : ℕ) → status < 2 ^ 32 → IfSome (status_if status) (λ code. code < 2 ^ 32)
status_small status small = by_test (status == 0)
  where
    by_test : (b : Bool) → IfSome (if◌then◌else◌ {A = Option ℕ} b None (Some status)) (λ code. code < 2 ^ 32)
    by_test true = tt
    by_test false = small

status_back : (status : ℕ) → unwrap_or (status_if status) 0 ≡ status
status_back status = by_test (status == 0) refl
  where
    by_test : (b : Bool) → (status == 0) ≡ b → unwrap_or (if b then None else Some status) 0 ≡ status
    by_test true is = sym (eqb-true status 0 is)
    by_test false is = refl

field-fits : (quality : Bool) (field : Field) (x : DataValue) → FitsField quality field x → IsForField (encoding_if quality) field (wire_field quality x)
unfolding wire_field wire_value encoding_if
field-fits true field x fits = record {
  is_wire = (refl, record { value = record { in_range = fits.is_value; has_form = tt }; status = status_small x.status fits.is_status; source_time = tt; source_picoseconds = tt; server_time = tt; server_picoseconds = tt });
  fits = fits.fits;
}
field-fits false field x fits = record { is_wire = (refl, record { in_range = fits.is_value; has_form = tt }); fits = fits.fits }

field-surplus : (newer quality : Bool) (field : Field) (x : DataValue) → newer ≡ true → FitsField quality field x → IsSurplus newer (encoding_if quality) (wire_field quality x)
unfolding wire_field wire_value encoding_if
field-surplus newer true field x is fits = record { grown = is; is_wire = (field-fits true field x fits).is_wire; present = refl }
field-surplus newer false field x is fits = record { grown = is; is_wire = (field-fits false field x fits).is_wire; present = refl }

field-read : (quality : Bool) (field : Field) (x : DataValue) → FitsField quality field x → value_read quality field (wire_field quality x) ≡ x
unfolding wire_field wire_value
field-read true field x fits = ap (λ (s : ℕ). record { value = x.value; status = s }) (status_back x.status)
field-read false field x fits = ap (λ (s : ℕ). record { value = x.value; status = s }) (sym fits.is_status)

-- rows
wire_row : Bool → List DataValue → List WireField
wire_row quality [] = []
wire_row quality (x ∷ row) = wire_field quality x ∷ wire_row quality row

row-written : (quality : Bool) (row : List DataValue) → wire_values_bytes (wire_row quality row) ≡ written.values_bytes quality row
unfolding wire_row
row-written quality [] = refl
row-written quality (x ∷ row) =
    ap (λ (l : List ℕ). l ++ wire_values_bytes (wire_row quality row)) (field-written quality x) ∙ ap (λ (l : List ℕ). value_bytes quality x ++ l) (row-written quality row)

length-wire_row : (quality : Bool) (row : List DataValue) → length (wire_row quality row) ≡ length row
unfolding wire_row
length-wire_row quality [] = refl
length-wire_row quality (x ∷ row) = ap suc (length-wire_row quality row)

-- where fields were appended the sender is newer
abbrev MayHave : Bool → List Field → Type 0
MayHave newer more = (newer ≡ true) ⊎ (more ≡ [])

some_more : {newer : Bool} (field : Field) (more : List Field) → MayHave newer (field ∷ more) → newer ≡ true
some_more field more may = elim may [ inl is ↦ is | inr none ↦ absurd cc ]

row-surplus : (newer quality : Bool) (more : List Field) (row : List DataValue) → newer ≡ true → IsRowOf quality more row → AreValues newer (encoding_if quality) [] (wire_row quality row)
unfolding wire_row
row-surplus newer quality [] [] is fits = tt
row-surplus newer quality [] (x ∷ row) is fits = absurd fits
row-surplus newer quality (field ∷ more) [] is fits = absurd fits
row-surplus newer quality (field ∷ more) (x ∷ row) is fits = (field-surplus newer quality field x is fits.0, row-surplus newer quality more row is fits.1)

row-fits : (newer quality : Bool) (fields more : List Field) (row : List DataValue) → MayHave newer more → IsRowOf quality (fields ++ more) row → AreValues newer (encoding_if quality) fields (wire_row quality row)
unfolding wire_row
row-fits newer quality [] [] [] may fits = tt
row-fits newer quality [] [] (x ∷ row) may fits = absurd fits
row-fits newer quality [] (field ∷ more) row may fits = row-surplus newer quality (field ∷ more) row (some_more field more may) fits
row-fits newer quality (field ∷ fields) more [] may fits = absurd fits
row-fits newer quality (field ∷ fields) more (x ∷ row) may fits = (field-fits quality field x fits.0, row-fits newer quality fields more row may fits.1)

row-read : (quality : Bool) (fields more : List Field) (row : List DataValue) → IsRowOf quality (fields ++ more) row → row_read quality fields (wire_row quality row) ≡ take (length fields) row
unfolding wire_row
row-read quality [] more row fits = refl
row-read quality (field ∷ fields) more [] fits = absurd fits
row-read quality (field ∷ fields) more (x ∷ row) fits =
    ap (λ (v : DataValue). v ∷ row_read quality fields (wire_row quality row)) (field-read quality field x fits.0) ∙ ap (λ (r : List DataValue). x ∷ r) (row-read quality fields more row fits.1)

-- patches
wire_change : Bool → ℕ × DataValue → ℕ × WireField
wire_change quality change = (change.0, wire_field quality change.1)

wire_patch : Bool → List (ℕ × DataValue) → List (ℕ × WireField)
wire_patch quality [] = []
wire_patch quality (change ∷ patch) = wire_change quality change ∷ wire_patch quality patch

patch-written : (quality : Bool) (patch : List (ℕ × DataValue)) → wire_changes_bytes (wire_patch quality patch) ≡ written.changes_bytes quality patch
unfolding wire_patch wire_change
patch-written quality [] = refl
patch-written quality (change ∷ patch) =
    ap (λ (l : List ℕ). (to_le_bytes w16 change.0 ++ l) ++ wire_changes_bytes (wire_patch quality patch)) (field-written quality change.1)
    ∙ ap (λ (l : List ℕ). written.change_bytes quality change ++ l) (patch-written quality patch)

length-wire_patch : (quality : Bool) (patch : List (ℕ × DataValue)) → length (wire_patch quality patch) ≡ length patch
unfolding wire_patch
length-wire_patch quality [] = refl
length-wire_patch quality (change ∷ patch) = ap suc (length-wire_patch quality patch)

-- the field at an index, among the first fields or those behind them
get_front : (fields more : List Field) (index : ℕ) (d : Field) → index < length fields → get_or (fields ++ more) index d ≡ get_or fields index d
get_front [] more index d within = absurd (omega arith)
get_front (field ∷ fields) more zero d within = refl
get_front (field ∷ fields) more (suc index) d within = get_front fields more index d (omega arith)

get_there : (fields : List Field) (index : ℕ) → index < length fields → (field : Field) × (slice_get fields index ≡ Some field) × (get_or fields index field ≡ field)
get_there [] index within = absurd (omega arith)
get_there (field ∷ fields) zero within = (field, refl, refl)
get_there (field ∷ fields) (suc index) within = get_there fields index (omega arith)

get_past : (fields : List Field) (index : ℕ) → length fields ≤ index → slice_get fields index ≡ None
get_past [] index past = refl
get_past (field ∷ fields) zero past = absurd (omega arith)
get_past (field ∷ fields) (suc index) past = get_past fields index (omega arith)

-- a longer list has a field to spare
spare : (fields more : List Field) (index : ℕ) → index < length (fields ++ more) → length fields ≤ index → (field : Field) × (rest : List Field) × (more ≡ field ∷ rest)
spare fields [] index within past = absurd (omega (arith, length-append fields []))
spare fields (field ∷ rest) index within past = (field, rest, refl)

change_case : (newer quality : Bool) (fields more : List Field) (change : ℕ × DataValue) → MayHave newer more → change.0 < length (fields ++ more) → HoldsAt (λ field. FitsField quality field change.1) (fields ++ more) change.0
    → (b : Bool) → nat_lt change.0 (length fields) ≡ b → IsFor newer (encoding_if quality) (slice_get fields change.0) (wire_field quality change.1)
change_case newer quality fields more change may within fits true is =
    let inside : change.0 < length fields = ltb-true change.0 (length fields) is in
    let at = get_there fields change.0 inside in
    let fits_here : FitsField quality at.0 change.1 = subst (λ (f : Field). FitsField quality f change.1) (get_front fields more change.0 at.0 inside ∙ at.2) (fits at.0) in
    subst (λ (o : Option Field). IsFor newer (encoding_if quality) o (wire_field quality change.1)) (sym at.1) (field-fits quality at.0 change.1 fits_here)
change_case newer quality fields more change may within fits false is =
    let past : length fields ≤ change.0 = ltb-false change.0 (length fields) is in
    let extra = spare fields more change.0 within past in
    let grown : newer ≡ true = some_more extra.0 extra.1 (subst (λ (l : List Field). MayHave newer l) extra.2 may) in
    subst (λ (o : Option Field). IsFor newer (encoding_if quality) o (wire_field quality change.1)) (sym (get_past fields change.0 past)) (field-surplus newer quality (get_or (fields ++ more) change.0 extra.0) change.1 grown (fits extra.0))

patch-fits : (newer quality : Bool) (from : ℕ) (fields more : List Field) (patch : List (ℕ × DataValue)) → MayHave newer more → length (fields ++ more) ≤ 65536 → IsPatchFrom from quality (fields ++ more) patch
    → AreChanges newer (encoding_if quality) fields (wire_patch quality patch)
unfolding wire_patch wire_change
patch-fits newer quality from fields more [] may few is = tt
patch-fits newer quality from fields more (change ∷ patch) may few is =
    (omega (arith, is.1, few), change_case newer quality fields more change may is.1 is.2 (nat_lt change.0 (length fields)) refl, patch-fits newer quality (change.0 + 1) fields more patch may few is.3)

-- the indexes are below this one
AreBelow : ℕ → List (ℕ × DataValue) → Type 0
AreBelow index [] = ⊤
AreBelow index (change ∷ patch) = (change.0 < index) × AreBelow index patch

-- a change behind all others is put at the end
put_at_end : (patch : List (ℕ × DataValue)) (index : ℕ) (x : DataValue) → AreBelow index patch → put_in patch index x ≡ patch ++ (index, x) ∷ []
unfolding AreBelow
put_at_end [] index x below = refl
put_at_end (change ∷ patch) index x below = rw (lt-ltb change.0 index below.0) (ap (λ (more : List (ℕ × DataValue)). change ∷ more) (put_at_end patch index x below.1))

below_above : (patch : List (ℕ × DataValue)) (from index : ℕ) → AreBelow from patch → from ≤ index → AreBelow index patch
unfolding AreBelow
below_above [] from index below above = tt
below_above (change ∷ patch) from index below above = (omega (arith, below.0), below_above patch from index below.1 above)

below_more : (patch : List (ℕ × DataValue)) (index from : ℕ) (x : DataValue) → AreBelow from patch → from ≤ index → AreBelow (index + 1) (patch ++ (index, x) ∷ [])
unfolding AreBelow
below_more [] index from x below above = (omega arith, tt)
below_more (change ∷ patch) index from x below above = (omega (arith, below.0), below_more patch index from x below.1 above)

-- the changes of the first fields
abbrev first : ℕ → List (ℕ × DataValue) → List (ℕ × DataValue)
first count patch = filter (λ change. nat_lt change.0 count) patch

first_yes : (count : ℕ) (change : ℕ × DataValue) (patch : List (ℕ × DataValue)) → nat_lt change.0 count ≡ true → first count (change ∷ patch) ≡ change ∷ first count patch
first_yes count change patch is = rw is refl

first_no : (count : ℕ) (change : ℕ × DataValue) (patch : List (ℕ × DataValue)) → nat_lt change.0 count ≡ false → first count (change ∷ patch) ≡ first count patch
first_no count change patch is = rw is refl

put_case : (quality : Bool) (fields more : List Field) (front : List (ℕ × DataValue)) (change : ℕ × DataValue) → HoldsAt (λ field. FitsField quality field change.1) (fields ++ more) change.0 → AreBelow change.0 front
    → (b : Bool) → nat_lt change.0 (length fields) ≡ b → put_read quality front change.0 (slice_get fields change.0) (wire_field quality change.1) ≡ (if b then front ++ change ∷ [] else front)
put_case quality fields more front change fits below true is =
    let inside : change.0 < length fields = ltb-true change.0 (length fields) is in
    let at = get_there fields change.0 inside in
    let fits_here : FitsField quality at.0 change.1 = subst (λ (f : Field). FitsField quality f change.1) (get_front fields more change.0 at.0 inside ∙ at.2) (fits at.0) in
    ap (λ (o : Option Field). put_read quality front change.0 o (wire_field quality change.1)) at.1
    ∙ ap (put_in front change.0) (field-read quality at.0 change.1 fits_here)
    ∙ put_at_end front change.0 change.1 below
put_case quality fields more front change fits below false is =
    ap (λ (o : Option Field). put_read quality front change.0 o (wire_field quality change.1)) (get_past fields change.0 (ltb-false change.0 (length fields) is))

patch-read : (quality : Bool) (from : ℕ) (fields more : List Field) (front patch : List (ℕ × DataValue)) → IsPatchFrom from quality (fields ++ more) patch → AreBelow from front
    → patch_read quality fields front (wire_patch quality patch) ≡ front ++ first (length fields) patch
unfolding wire_patch wire_change
patch-read quality from fields more front [] is below = sym (append-nil front)
patch-read quality from fields more front (change ∷ patch) is below =
    by_test (λ next under. patch-read quality (change.0 + 1) fields more next patch is.3 under) (nat_lt change.0 (length fields)) refl
  where
    lower : AreBelow change.0 front
    lower = below_above front from change.0 below is.0

    by_test : ((next : List (ℕ × DataValue)) → AreBelow (change.0 + 1) next → patch_read quality fields next (wire_patch quality patch) ≡ next ++ first (length fields) patch)
        → (b : Bool) → nat_lt change.0 (length fields) ≡ b → patch_read quality fields (put_read quality front change.0 (slice_get fields change.0) (wire_field quality change.1)) (wire_patch quality patch) ≡ front ++ first (length fields) (change ∷ patch)
    by_test rest true test =
        ap (λ (p : List (ℕ × DataValue)). patch_read quality fields p (wire_patch quality patch)) (put_case quality fields more front change is.2 lower true test)
        ∙ rest (front ++ change ∷ []) (below_more front change.0 change.0 change.1 lower (omega arith))
        ∙ append_assoc front (change ∷ []) (first (length fields) patch)
        ∙ ap (λ (p : List (ℕ × DataValue)). front ++ p) (sym (first_yes (length fields) change patch test))
    by_test rest false test =
        ap (λ (p : List (ℕ × DataValue)). patch_read quality fields p (wire_patch quality patch)) (put_case quality fields more front change is.2 lower false test)
        ∙ rest front (below_above front change.0 (change.0 + 1) lower (omega arith))
        ∙ ap (λ (p : List (ℕ × DataValue)). front ++ p) (sym (first_no (length fields) change patch test))

-- a patch has no more changes than there are fields
length_patch : (quality : Bool) (fields : List Field) (from : ℕ) (patch : List (ℕ × DataValue)) → IsPatchFrom from quality fields patch → from ≤ length fields → from + length patch ≤ length fields
length_patch quality fields from [] is within = omega arith
length_patch quality fields from (change ∷ patch) is within = omega (arith, is.0, length_patch quality fields (change.0 + 1) patch is.3 (omega (arith, is.1)))

-- fronts
abbrev pub kind_of : Content → ℕ
kind_of (Whole row) = 0
kind_of (Change patch) = 1
kind_of Alive = 3

abbrev pub wire_front : ℕ → Frame → WireFront
wire_front encoding frame = record {
  encoding = encoding;
  extended = not (is_key frame.content);
  kind = kind_of frame.content;
  number = frame.number;
  timestamp = None;
  picoseconds = None;
  status = None;
  major = frame.major;
  minor = frame.minor;
}

three_nil : (a b c d : List ℕ) → (((((a ++ b) ++ []) ++ []) ++ []) ++ c) ++ d ≡ ((a ++ b) ++ c) ++ d
three_nil a b c d = simp append-nil refl

pub front-written : (encoding : ℕ) (frame : Frame) → wire_front_bytes (wire_front encoding frame) ≡ written.front_bytes encoding frame
unfolding wire_front_bytes written.front_bytes
front-written encoding frame = by_content frame.content
  where
    same_bytes : (a b c d : ℕ) (two : List ℕ) → (a + 0 + b + c + d) ∷ two ++ optional (to_le_bytes w16) frame.number ++ [] ++ [] ++ [] ++ optional (to_le_bytes w32) frame.major ++ optional (to_le_bytes w32) frame.minor
        ≡ (a + b + c + d) ∷ two ++ optional (to_le_bytes w16) frame.number ++ optional (to_le_bytes w32) frame.major ++ optional (to_le_bytes w32) frame.minor
    same_bytes a b c d two =
        let sum : a + 0 + b + c + d ≡ a + b + c + d = omega arith in
        rw sum (ap (λ (l : List ℕ). (a + b + c + d) ∷ l) (three_nil two (optional (to_le_bytes w16) frame.number) (optional (to_le_bytes w32) frame.major) (optional (to_le_bytes w32) frame.minor)))

    by_content : (content : Content) → wire_front_bytes (wire_front encoding (record { number = frame.number; major = frame.major; minor = frame.minor; content = content })) ≡ written.front_bytes encoding (record { number = frame.number; major = frame.major; minor = frame.minor; content = content })
    by_content (Whole row) = same_bytes (1 + 2 * encoding + flag (is_some frame.number) 8) (flag (is_some frame.major) 32) (flag (is_some frame.minor) 64) 0 []
    by_content (Change patch) = same_bytes (1 + 2 * encoding + flag (is_some frame.number) 8) (flag (is_some frame.major) 32) (flag (is_some frame.minor) 64) 128 (1 ∷ [])
    by_content Alive = same_bytes (1 + 2 * encoding + flag (is_some frame.number) 8) (flag (is_some frame.major) 32) (flag (is_some frame.minor) 64) 128 (3 ∷ [])

kind_is : (content : Content) → is_kind (kind_of content) ≡ true
kind_is (Whole row) = refl
kind_is (Change patch) = refl
kind_is Alive = refl

plain_is : (content : Content) → not (is_key content) ≡ false → kind_of content ≡ 0
plain_is (Whole row) key = refl
plain_is (Change patch) key = absurd cc
plain_is Alive key = absurd cc

pub front-fits : (fixed : Bool) (encoding : ℕ) (frame : Frame) → is_encoding fixed encoding ≡ true → (encoding == 1 && kind_of frame.content == 1) ≡ false
    → IfSome frame.number (λ n. n < 2 ^ 16) → IfSome frame.major (λ n. n < 2 ^ 32) → IfSome frame.minor (λ n. n < 2 ^ 32) → IsWireFront fixed (wire_front encoding frame)
front-fits fixed encoding frame allowed no_delta number major minor = record {
  encoding = allowed;
  kind = kind_is frame.content;
  no_raw_delta = no_delta;
  plain = λ key. omega (arith, plain_is frame.content key);
  number = number;
  timestamp = tt;
  picoseconds = tt;
  status = tt;
  major = major;
  minor = minor;
}

-- contents
wire_content : Bool → Content → WireContent
wire_content quality (Whole row) = Key (wire_row quality row)
wire_content quality (Change patch) = Delta (wire_patch quality patch)
wire_content quality Alive = KeepAlive

content-written : (quality : Bool) (content : Content) → wire_content_bytes (wire_content quality content) ≡ written.content_bytes quality content
unfolding wire_content
content-written quality (Whole row) =
    ap (λ (n : ℕ). to_le_bytes w16 n ++ wire_values_bytes (wire_row quality row)) (length-wire_row quality row) ∙ ap (λ (l : List ℕ). to_le_bytes w16 (length row) ++ l) (row-written quality row)
content-written quality (Change patch) =
    ap (λ (n : ℕ). to_le_bytes w16 n ++ wire_changes_bytes (wire_patch quality patch)) (length-wire_patch quality patch) ∙ ap (λ (l : List ℕ). to_le_bytes w16 (length patch) ++ l) (patch-written quality patch)
content-written quality Alive = refl

same_kind : (quality : Bool) (content : Content) → kind_of content ≡ kind_number (wire_content quality content)
unfolding wire_content
same_kind quality (Whole row) = refl
same_kind quality (Change patch) = refl
same_kind quality Alive = refl

-- what was appended to the fields of a shorter meta
abbrev pub appended : MetaData → MetaData → List Field
appended short full = drop (length short.fields) full.fields

together : (short full : MetaData) → HasGrown short full → full.fields ≡ short.fields ++ appended short full
together short full grown = sym (take-append-drop (length short.fields) full.fields) ∙ ap (λ (l : List Field). l ++ appended short full) (sym grown.fields)

content-fits : (short full : MetaData) (newer : Bool) (content : Content) → HasGrown short full → length full.fields ≤ 65535 → MayHave newer (appended short full) → IsContent full content
    → IsWireContent short newer (encoding_of full.quality content) (wire_content full.quality content)
unfolding wire_content encoding_if
content-fits short full newer (Whole row) grown few may is = (
  omega (arith, length-wire_row full.quality row, length_row full.quality full.fields row is),
  row-fits newer full.quality short.fields (appended short full) row may (subst (λ (l : List Field). IsRowOf full.quality l row) (together short full grown) is),
)
content-fits short full newer (Change patch) grown few may is = (
  omega (arith, length-wire_patch full.quality patch, length_patch full.quality full.fields 0 patch is (omega arith)),
  patch-fits newer full.quality 0 short.fields (appended short full) patch may (omega (arith, ap length (together short full grown))) (subst (λ (l : List Field). IsPatchFrom 0 full.quality l patch) (together short full grown) is),
)
content-fits short full newer Alive grown few may is = tt

content-read : (short full : MetaData) (content : Content) → HasGrown short full → IsContent full content → content_read short (wire_content full.quality content) ≡ content_cut short content
unfolding wire_content AreBelow
content-read short full (Whole row) grown is =
    ap (λ (q : Bool). Whole (row_read q short.fields (wire_row full.quality row))) grown.quality
    ∙ ap Whole (row-read full.quality short.fields (appended short full) row (subst (λ (l : List Field). IsRowOf full.quality l row) (together short full grown) is))
content-read short full (Change patch) grown is =
    ap (λ (q : Bool). Change (patch_read q short.fields [] (wire_patch full.quality patch))) grown.quality
    ∙ ap Change (patch-read full.quality 0 short.fields (appended short full) [] patch (subst (λ (l : List Field). IsPatchFrom 0 full.quality l patch) (together short full grown) is) tt)
content-read short full Alive grown is = refl

written_encoding : (quality : Bool) (content : Content) → is_encoding false (encoding_of quality content) ≡ true
written_encoding true (Whole row) = refl
written_encoding false (Whole row) = refl
written_encoding true (Change patch) = refl
written_encoding false (Change patch) = refl
written_encoding true Alive = refl
written_encoding false Alive = refl

not_raw : (quality : Bool) (content : Content) → (encoding_of quality content == 1 && kind_of content == 1) ≡ false
not_raw true (Whole row) = refl
not_raw false (Whole row) = refl
not_raw true (Change patch) = refl
not_raw false (Change patch) = refl
not_raw true Alive = refl
not_raw false Alive = refl

-- a written frame is a spelling of what a meta that it has grown from has of it
pub frame-spelled : (short full : MetaData) (frame : Frame) → HasGrown short full → length full.fields ≤ 65535 → MayHave (is_newer short frame.minor) (appended short full) → IsFrame full frame
    → SpellsFrame short (frame_cut short frame) (frame_bytes full.quality frame)
unfolding frame_bytes wire_bytes
frame-spelled short full frame grown few may is =
    let encoding = encoding_of full.quality frame.content in
    record {
      wire = record { front = wire_front encoding frame; content = wire_content full.quality frame.content };
      is_wire = record {
        front = front-fits false encoding frame (written_encoding full.quality frame.content) (not_raw full.quality frame.content) is.number is.major is.minor;
        kind = same_kind full.quality frame.content;
        content = content-fits short full (is_newer short frame.minor) frame.content grown few may is.content;
      };
      meaning = ap (λ (content : Content). record { number = frame.number; major = frame.major; minor = frame.minor; content = content }) (content-read short full frame.content grown is.content);
      spelled = ap (λ (l : List ℕ). l ++ written.content_bytes full.quality frame.content) (sym (front-written encoding frame)) ∙ ap (λ (l : List ℕ). wire_front_bytes (wire_front encoding frame) ++ l) (sym (content-written full.quality frame.content));
    }

-- a frame cut to all of its fields
first_all : (quality : Bool) (from : ℕ) (fields : List Field) (patch : List (ℕ × DataValue)) → IsPatchFrom from quality fields patch → first (length fields) patch ≡ patch
first_all quality from fields [] is = refl
first_all quality from fields (change ∷ patch) is =
    first_yes (length fields) change patch (lt-ltb change.0 (length fields) is.1) ∙ ap (λ (p : List (ℕ × DataValue)). change ∷ p) (first_all quality (change.0 + 1) fields patch is.3)

content-whole : (meta : MetaData) (content : Content) → IsContent meta content → content_cut meta content ≡ content
content-whole meta (Whole row) is = ap Whole (take_all (length meta.fields) row (omega (arith, length_row meta.quality meta.fields row is)))
content-whole meta (Change patch) is = ap Change (first_all meta.quality 0 meta.fields patch is)
content-whole meta Alive is = refl

pub cut-whole : (meta : MetaData) (frame : Frame) → IsFrame meta frame → frame_cut meta frame ≡ frame
cut-whole meta frame is = ap (λ (content : Content). record { number = frame.number; major = frame.major; minor = frame.minor; content = content }) (content-whole meta frame.content is.content)

pub grown-same : (meta : MetaData) → HasGrown meta meta
grown-same meta = record { fields = sym (take_all (length meta.fields) meta.fields (omega arith)); quality = refl; major = refl }

pub none-appended : (meta : MetaData) → appended meta meta ≡ []
none-appended meta = drop_all (length meta.fields) meta.fields (omega arith)
