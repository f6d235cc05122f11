-- What the grammar of RawData says of rows.
use Rattle.std.proofs.Common.{◌≡◌, ℕ, ◌+◌, ◌<◌, Bool, true, false, List, [], ◌∷◌, ◌++◌, length, take, Result, Ok, Err, refl, sym, ap, subst, ◌∙◌, arith, length-append}
use Rattle.std.specs.Prelude.{replicate}
use Rattle.std.proofs.lemmas.List.{length-replicate}
use Rattle.std.proofs.lemmas.List.Elements.{All-nil, All-cons, All-head, All-tail, All-replicate}
use Rattle.ua_values.specs.declared.value.Value.{Value}
use Rattle.ua_values.specs.declared.value.Value.TheVariants as values
use Rattle.ua_values.specs.Values.{kind_of}
use Rattle.ua_binary.specs.Spelling.{plain}
use Rattle.ua_binary.specs.Wire.{AreBytes, Form, written, true_as, null, HasForm, plain_as}
use Rattle.dataset_meta.specs.declared.field.Field.{Field}
use Rattle.dataset_meta.specs.DataValues.{DataValue, IsStatus, FitsField}
use Rattle.dataset_meta.specs.Fields.{is_sized, has_cap}
use Rattle.dataset_meta.specs.Metas.{IsMeta, MetaData, AreCapped}
use Rattle.dataset_meta.specs.Rows.{IsRow, IsRowOf}
use Rattle.row_words.specs.Belonging.{Belongs, row_in, spelled_row}
use Rattle.row_words.proofs.FieldLaws.{small_cap}
use Rattle.fixed_layout.specs.declared.fault.RawFault.{RawFault}
use Rattle.fixed_layout.specs.declared.fault.RawFault.TheVariants.{Short}
use Rattle.fixed_layout.specs.Begins.{BeginsWithRow}
use Rattle.fixed_layout.specs.Reading.{raw_row_at}
use Rattle.fixed_layout.specs.Spelling.{filling, raw_width_of, raw_size, raw_value, raw_row, good, as_good, AreGood}
use Rattle.fixed_layout.specs.Wire.{WireRaw, IsWireRaw, wire_bytes, AreWireRaws, wires_bytes, row_read}
use Rattle.fixed_layout.proofs.RawGrammar.{AreShort, SpellsRow, row_grammar}
use Rattle.fixed_layout.proofs.Sizes.{raw_size-cons, length-raw_value}

short_caps : (fields : List Field) → AreCapped fields → AreShort fields
short_caps [] are = tt
short_caps (field ∷ fields) are =
    (small_cap (is_sized field.kind) field.cap (All-head (λ (f : Field). has_cap f ≡ true) field fields are), short_caps fields (All-tail (λ (f : Field). has_cap f ≡ true) field fields are))

pub are_short : (fields : List Field) → IsMeta fields → AreShort fields
are_short fields meta = short_caps fields meta.capped

pub row-begins : (fields : List Field) (bytes rest : List ℕ) (row : List DataValue) → IsMeta fields → AreBytes bytes → raw_row_at fields bytes ≡ Ok (row, rest) → BeginsWithRow fields bytes row rest
row-begins fields bytes rest row meta all e =
    let one = (row_grammar fields (are_short fields meta)).back bytes rest row all e in
    record { raws = one.spells.raws; are_raws = one.spells.are_raws; meaning = one.spells.meaning; split = one.split ∙ ap (λ (l : List ℕ). l ++ rest) one.spells.spelled }

pub row-begins-read : (fields : List Field) (bytes rest : List ℕ) (row : List DataValue) → IsMeta fields → BeginsWithRow fields bytes row rest → raw_row_at fields bytes ≡ Ok (row, rest)
row-begins-read fields bytes rest row meta b =
    ap (raw_row_at fields) b.split
    ∙ (row_grammar fields (are_short fields meta)).again row (wires_bytes b.raws) rest (record { raws = b.raws; are_raws = b.are_raws; meaning = b.meaning; spelled = refl })

pub row-fewer : (fields : List Field) (raws : List WireRaw) (len : ℕ) → IsMeta fields → AreWireRaws fields raws → len < length (wires_bytes raws) → raw_row_at fields (take len (wires_bytes raws)) ≡ Err Short
row-fewer fields raws len meta are below = (row_grammar fields (are_short fields meta)).fewer (row_read raws) (wires_bytes raws) len (record { raws = raws; are_raws = are; meaning = refl; spelled = refl }) below

-- what is written
abbrev as_written : ℕ → Value → WireRaw
as_written cap value = record { wire = record { value = value; form = written }; padding = replicate (filling cap value) 0 }

is_written : (quality : Bool) (field : Field) (x : DataValue) → FitsField quality field x → IsWireRaw field (as_written field.cap x.value)
is_written quality field x is = record {
  is_wire = record { in_range = is.is_value; has_form = tt };
  fits = is.fits;
  padding = (length-replicate {A = ℕ} (filling field.cap x.value) 0, All-replicate (λ (b : ℕ). b < 256) (filling field.cap x.value) 0 (omega arith));
}

-- statuses are not
row_written : (quality : Bool) (fields : List Field) (row : List DataValue) → IsRowOf quality fields row → SpellsRow fields (as_good row) (raw_row fields row)
row_written quality [] [] is = record { raws = []; are_raws = tt; meaning = refl; spelled = refl }
row_written quality [] (x ∷ row) is = absurd is
row_written quality (field ∷ fields) [] is = absurd is
row_written quality (field ∷ fields) (x ∷ row) is =
    let later = row_written quality fields row is.1 in
    record {
      raws = as_written field.cap x.value ∷ later.raws;
      are_raws = (is_written quality field x is.0, later.are_raws);
      meaning = ap (λ (r : List DataValue). good x.value ∷ r) later.meaning;
      spelled = ap (λ (l : List ℕ). raw_value field.cap x.value ++ l) later.spelled;
    }

pub statuses-read : (meta : MetaData) (row : List DataValue) (rest : List ℕ) → IsMeta meta.fields → IsRow meta row → raw_row_at meta.fields (raw_row meta.fields row ++ rest) ≡ Ok (as_good row, rest)
statuses-read meta row rest is_meta is = (row_grammar meta.fields (are_short meta.fields is_meta)).again (as_good row) (raw_row meta.fields row) rest (row_written meta.quality meta.fields row is)

good-is : (row : List DataValue) → AreGood row → as_good row ≡ row
good-is [] are = refl
good-is (x ∷ row) are =
    ap (λ (n : ℕ). record { value = x.value; status = n } ∷ as_good row) (sym (All-head (λ (y : DataValue). y.status ≡ 0) x row are))
    ∙ ap (λ (r : List DataValue). x ∷ r) (good-is row (All-tail (λ (y : DataValue). y.status ≡ 0) x row are))

pub written-read : (meta : MetaData) (row : List DataValue) (rest : List ℕ) → IsMeta meta.fields → IsRow meta row → AreGood row → raw_row_at meta.fields (raw_row meta.fields row ++ rest) ≡ Ok (row, rest)
written-read meta row rest is_meta is are = statuses-read meta row rest is_meta is ∙ ap (λ (r : List DataValue). Ok (r, rest)) (good-is row are)

row_once : (one other : List DataValue) (rest after : List ℕ) → Path (Result (List DataValue × List ℕ) RawFault) (Ok (one, rest)) (Ok (other, after)) → (one ≡ other) × (rest ≡ after)
row_once one other rest after e =
    let pair : Path (List DataValue × List ℕ) (one, rest) (other, after) = cc in
    (ap (λ (p : List DataValue × List ℕ). p.0) pair, ap (λ (p : List DataValue × List ℕ). p.1) pair)

pub words-read : (meta : MetaData) (words other rest : List ℕ) → IsMeta meta.fields → Belongs meta words → Belongs meta other → AreGood (row_in meta.fields words)
    → raw_row_at meta.fields (raw_row meta.fields (row_in meta.fields words) ++ rest) ≡ Ok (row_in meta.fields other, rest) → other ≡ words
words-read meta words other rest is_meta of_words of_other are e =
    let same = (row_once (row_in meta.fields words) (row_in meta.fields other) rest rest (sym (written-read meta (row_in meta.fields words) rest is_meta of_words.row are) ∙ e)).0 in
    of_other.spelled ∙ ap (spelled_row meta.fields) (sym same) ∙ sym of_words.spelled

pub one-row : (meta : MetaData) (one other : List DataValue) (rest after : List ℕ) → IsMeta meta.fields → IsRow meta one → IsRow meta other → AreGood one → AreGood other
    → raw_row meta.fields one ++ rest ≡ raw_row meta.fields other ++ after → (one ≡ other) × (rest ≡ after)
one-row meta one other rest after is_meta is_one is_other good_one good_other e =
    row_once one other rest after (sym (written-read meta one rest is_meta is_one good_one) ∙ ap (raw_row_at meta.fields) e ∙ written-read meta other after is_meta is_other good_other)

-- sizes
same_length : (form : Form) (value : Value) → HasForm value form → length (plain_as form value) ≡ length (plain value)
same_length written value has = refl
same_length (true_as byte) (values.Boolean true) has = refl
same_length null (values.String []) has = refl
same_length null (values.ByteString []) has = refl
same_length form value has = absurd has

length-wire_bytes : (field : Field) (raw : WireRaw) → IsWireRaw field raw → length (wire_bytes raw) ≡ raw_width_of field
length-wire_bytes field raw is =
    let size = length-raw_value field.cap raw.wire.value is.is_wire.in_range is.fits.within in
    let kind : raw_width_of (record field { kind = kind_of raw.wire.value }) ≡ raw_width_of field = ap (λ k. raw_width_of (record field { kind = k })) is.fits.same_kind in
    omega (
      arith,
      length-append (plain_as raw.wire.form raw.wire.value) raw.padding,
      same_length raw.wire.form raw.wire.value is.is_wire.has_form,
      is.padding.0,
      length-append (plain raw.wire.value) (replicate (filling field.cap raw.wire.value) 0),
      length-replicate {A = ℕ} (filling field.cap raw.wire.value) 0,
      size,
      kind,
    )

length-wires_bytes : (fields : List Field) (raws : List WireRaw) → AreWireRaws fields raws → length (wires_bytes raws) ≡ raw_size fields
length-wires_bytes [] [] are = refl
length-wires_bytes [] (raw ∷ raws) are = absurd are
length-wires_bytes (field ∷ fields) [] are = absurd are
length-wires_bytes (field ∷ fields) (raw ∷ raws) are =
    omega (arith, length-append (wire_bytes raw) (wires_bytes raws), length-wire_bytes field raw are.0, length-wires_bytes fields raws are.1, raw_size-cons field fields)

pub row-size : (fields : List Field) (bytes rest : List ℕ) (row : List DataValue) → IsMeta fields → AreBytes bytes → raw_row_at fields bytes ≡ Ok (row, rest) → length bytes ≡ raw_size fields + length rest
row-size fields bytes rest row meta all e =
    let b = row-begins fields bytes rest row meta all e in
    omega (arith, ap length b.split, length-append (wires_bytes b.raws) rest, length-wires_bytes fields b.raws b.are_raws)

-- what is read fits
no_status : (quality : Bool) → IsStatus quality 0
no_status true = omega arith
no_status false = refl

row_fits : (quality : Bool) (fields : List Field) (raws : List WireRaw) → AreWireRaws fields raws → IsRowOf quality fields (row_read raws)
row_fits quality [] [] are = tt
row_fits quality [] (raw ∷ raws) are = absurd are
row_fits quality (field ∷ fields) [] are = absurd are
row_fits quality (field ∷ fields) (raw ∷ raws) are = (record { is_value = are.0.is_wire.in_range; fits = are.0.fits; is_status = no_status quality }, row_fits quality fields raws are.1)

row_good : (raws : List WireRaw) → AreGood (row_read raws)
row_good [] = All-nil (λ (x : DataValue). x.status ≡ 0)
row_good (raw ∷ raws) = All-cons (λ (x : DataValue). x.status ≡ 0) (good raw.wire.value) (row_read raws) refl (row_good raws)

pub read-fits : (meta : MetaData) (bytes rest : List ℕ) (row : List DataValue) → IsMeta meta.fields → AreBytes bytes → raw_row_at meta.fields bytes ≡ Ok (row, rest) → IsRow meta row
read-fits meta bytes rest row is_meta all e =
    let b = row-begins meta.fields bytes rest row is_meta all e in
    subst (IsRow meta) b.meaning (row_fits meta.quality meta.fields b.raws b.are_raws)

pub read-good : (fields : List Field) (bytes rest : List ℕ) (row : List DataValue) → IsMeta fields → AreBytes bytes → raw_row_at fields bytes ≡ Ok (row, rest) → AreGood row
read-good fields bytes rest row meta all e =
    let b = row-begins fields bytes rest row meta all e in
    subst AreGood b.meaning (row_good b.raws)
