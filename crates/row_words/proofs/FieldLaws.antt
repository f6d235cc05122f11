-- The words of one field among those of a row.
use Rattle.std.proofs.Common.{◌≡◌, ℕ, zero, suc, ◌+◌, ◌-◌, ◌*◌, ◌/◌, ◌%◌, ◌^◌, ◌<◌, ◌≤◌, Bool, true, false, cond, ◌&&◌, ◌==◌, List, [], ◌∷◌, ◌++◌, length, take, drop, get_or, set, refl, sym, ap, ◌∙◌, subst, arith, Some}
use Rattle.std.specs.Prelude.{slice_get, slice_index, nat_le}
use Rattle.std.specs.List.{HoldsAt}
use Rattle.std.proofs.lemmas.Bool.Decides.{nat_tests}
use Rattle.std.proofs.lemmas.List.{get_or_read, drop-drop}
use Rattle.std.proofs.lemmas.List.Sums.{sum_by_more, sum_by-take-le}
use borrow.Rule.Slice.PartMut.{put_mid}
use Rattle.ua_values.specs.declared.value.Value.{Value}
use Rattle.dataset_meta.specs.declared.field.Field.{Field}
use Rattle.dataset_meta.specs.DataValues.{DataValue, IsStatus, FitsField}
use Rattle.dataset_meta.specs.Fields.{is_sized, has_cap, width_of}
use Rattle.dataset_meta.specs.Metas.{start_of, value_words, status_words, IsMeta, MetaData}
use Rattle.dataset_meta.specs.Rows.{IsRowOf}
use Rattle.dataset_meta.proofs.RowLaws.{length_row}
use Rattle.row_words.specs.Digits.{digits_of}
use Rattle.row_words.specs.Words.{spelled_value, value_in, Spells}
use Rattle.row_words.specs.Belonging.{spelled_values, spelled_statuses, spelled_row, row_in, Belongs}
use Rattle.row_words.specs.Setting.{HasValue, HasStatus, with_value, with_status}
use Rattle.row_words.proofs.StatusLaws.{half_set, half_read}
use Rattle.row_words.proofs.RowLaws.{length_in_field, length-spelled_values, value_back, narrow, statuses, small_statuses, count_statuses, behind, spelled_row-behind, Belongs-at, Belongs-spelled_row, row_in-spelled_row, FitsIn, IsRow-with_value, IsRow-with_status, spelled_row-with_value, spelled_row-with_status, spliced}

pub small_cap : (sized : Bool) (cap : ℕ) → cond sized (nat_le 1 cap && nat_le cap 256) (cap == 0) ≡ true → cap ≤ 256
small_cap true cap is = grind (arith, nat_tests)
small_cap false cap is = grind (arith, nat_tests)

cap_within : (fields : List Field) (index : ℕ) (field : Field) → IsMeta fields → index < length fields → field ≡ get_or fields index field → field.cap ≤ 256
cap_within fields index field meta within at =
    small_cap (is_sized field.kind) field.cap (subst (λ (f : Field). has_cap f ≡ true) (sym at) (meta.capped index field within))

-- the words of a field end within those of the values
pub ends_within : (fields : List Field) (index : ℕ) (field : Field) → IsMeta fields → index < length fields → field ≡ get_or fields index field
    → start_of fields index + width_of field ≤ value_words fields
ends_within fields index field meta within at =
    let width : width_of field ≡ width_of (get_or fields index field) = ap width_of at in
    omega (arith, sum_by_more width_of fields index field within, sum_by-take-le width_of fields (index + 1), width)

-- each value fits its field
pub IsRow-at : (quality : Bool) (fields : List Field) (row : List DataValue) (index : ℕ) (field : Field) (x : DataValue) → IsRowOf quality fields row → index < length fields
    → field ≡ get_or fields index field → x ≡ get_or row index x → FitsField quality field x
IsRow-at quality [] row index field x is within at here = absurd (omega arith)
IsRow-at quality (f ∷ fields) [] index field x is within at here = absurd is
IsRow-at quality (f ∷ fields) (v ∷ row) zero field x is within at here = rw (at, here) is.0
IsRow-at quality (f ∷ fields) (v ∷ row) (suc index) field x is within at here = IsRow-at quality fields row index field x is.1 (omega arith) at here

-- what stands at an index
pub record StandsAt (row : List DataValue) (index : ℕ) : Type 0 where
  pub x : DataValue
  pub read : slice_get row index ≡ Some x
  pub here : (d : DataValue) → get_or row index d ≡ x

pub stands_at : (row : List DataValue) (index : ℕ) → index < length row → StandsAt row index
stands_at [] index within = absurd (omega arith)
stands_at (x ∷ row) zero within = record { x = x; read = refl; here = λ d. refl }
stands_at (x ∷ row) (suc index) within =
    let later = stands_at row index (omega arith) in record { x = later.x; read = later.read; here = later.here }

-- what stands at a field of a row in words
pub stands : (meta : MetaData) (words : List ℕ) (index : ℕ) → Belongs meta words → index < length meta.fields → StandsAt (row_in meta.fields words) index
stands meta words index belongs within = stands_at (row_in meta.fields words) index (omega (arith, length_row meta.quality meta.fields (row_in meta.fields words) belongs.row))

-- what is read at a field
pub record ReadsAs (fields : List Field) (words : List ℕ) (index : ℕ) (field : Field) (part : List ℕ) : Type 0 where
  pub spells : Spells field.kind part
  pub value : HasValue (row_in fields words) index (value_in field.kind part)

pub read_part : (meta : MetaData) (words : List ℕ) (index : ℕ) (field : Field) → IsMeta meta.fields → Belongs meta words → index < length meta.fields → field ≡ get_or meta.fields index field
    → ReadsAs meta.fields words index field (take (width_of field) (drop (start_of meta.fields index) words))
read_part meta words index field is belongs within at =
    let row = row_in meta.fields words in
    let s = stands meta words index belongs within in
    let here : s.x ≡ get_or row index s.x = sym (s.here s.x) in
    let fits = IsRow-at meta.quality meta.fields row index field s.x belongs.row within at here in
    let part = Belongs-at meta words index field s.x belongs within at here in
    record {
      spells = record { cap = field.cap; value = s.x.value; small = cap_within meta.fields index field is within at; is_value = fits.is_value; fits = fits.fits; spelled = part };
      value = λ d. ap (λ (x : DataValue). x.value) (s.here d) ∙ sym (ap (value_in field.kind) part ∙ value_back meta.quality field s.x fits);
    }

pub field_read : (meta : MetaData) (words : List ℕ) (index : ℕ) (field : Field) (start width : ℕ) → IsMeta meta.fields → Belongs meta words → index < length meta.fields
    → field ≡ get_or meta.fields index field → start ≡ start_of meta.fields index → width ≡ width_of field
    → ReadsAs meta.fields words index field (take ((start + width) - start) (drop start words))
field_read meta words index field start width is belongs within at begins wide =
    let count : (start + width) - start ≡ width_of field = omega (arith, wide) in
    rw (count, begins) (read_part meta words index field is belongs within at)

-- what is written over a field's value
pub record Wrote (meta : MetaData) (words : List ℕ) (index : ℕ) (value : Value) (after : List ℕ) : Type 0 where
  pub belongs : Belongs meta after
  pub set : row_in meta.fields after ≡ with_value (row_in meta.fields words) index value

fits_there : (fields : List Field) (index : ℕ) (field : Field) (value : Value) → index < length fields → field ≡ get_or fields index field → FitsIn field value
    → HoldsAt (λ f. FitsIn f value) fields index
fits_there fields index field value within at fits = λ d. subst (λ (f : Field). FitsIn f value) (get_or_read fields index field within at d) fits

written_row : (meta : MetaData) (words : List ℕ) (index : ℕ) (field : Field) (value : Value) → IsMeta meta.fields → Belongs meta words → index < length meta.fields
    → field ≡ get_or meta.fields index field → FitsIn field value → Wrote meta words index value (spelled_row meta.fields (with_value (row_in meta.fields words) index value))
written_row meta words index field value is belongs within at fits =
    let row = with_value (row_in meta.fields words) index value in
    let is_row = IsRow-with_value meta.quality meta.fields (row_in meta.fields words) index value belongs.row (fits_there meta.fields index field value within at fits) in
    record { belongs = Belongs-spelled_row meta row (narrow meta.fields is) is_row; set = row_in-spelled_row meta.quality meta.fields row is_row }

length_of_fitting : (field : Field) (value : Value) → FitsIn field value → length (spelled_value field.cap value) ≡ width_of field
length_of_fitting field value fits =
    length_in_field false field (record { value = value; status = 0 }) (record { is_value = fits.is_value; fits = fits.fits; is_status = refl })

pub field_written : (meta : MetaData) (words : List ℕ) (index : ℕ) (field : Field) (value : Value) (start width : ℕ) (part : List ℕ) → IsMeta meta.fields → Belongs meta words
    → index < length meta.fields → field ≡ get_or meta.fields index field → FitsIn field value → start ≡ start_of meta.fields index → width ≡ width_of field
    → part ≡ spelled_value field.cap value → Wrote meta words index value (put_mid start ((start + width) - start) words part)
field_written meta words index field value start width part is belongs within at fits begins wide spelled =
    let fields = meta.fields in
    let row = row_in fields words in
    let is_row = IsRow-with_value meta.quality fields row index value belongs.row (fits_there fields index field value within at fits) in
    let long : start + ((start + width) - start) ≡ start_of fields index + length (spelled_value field.cap value) =
    omega (arith, begins, wide, length_of_fitting field value fits) in
    let same : put_mid start ((start + width) - start) words part ≡ spelled_row fields (with_value row index value) =
    ap (λ (back : List ℕ). take start words ++ (part ++ back)) (drop-drop ((start + width) - start) start words ∙ ap (λ (n : ℕ). drop n words) long)
    ∙ ap (λ (n : ℕ). take n words ++ (part ++ drop (start_of fields index + length (spelled_value field.cap value)) words)) begins
    ∙ ap (λ (p : List ℕ). take (start_of fields index) words ++ (p ++ drop (start_of fields index + length (spelled_value field.cap value)) words)) spelled
    ∙ ap (λ (all : List ℕ). spliced all (start_of fields index) (spelled_value field.cap value)) belongs.spelled
    ∙ spelled_row-with_value meta.quality fields row index field value belongs.row is_row within at (length_of_fitting field value fits) in
    subst (Wrote meta words index value) (sym same) (written_row meta words index field value is belongs within at fits)

-- a field whose value is copied from another row
pub field_copied : (meta : MetaData) (from to : List ℕ) (index : ℕ) (field : Field) (x : DataValue) (start width : ℕ) (part : List ℕ) → IsMeta meta.fields → Belongs meta from → Belongs meta to
    → index < length meta.fields → field ≡ get_or meta.fields index field → x ≡ get_or (row_in meta.fields from) index x → start ≡ start_of meta.fields index → width ≡ width_of field
    → part ≡ take ((start + width) - start) (drop start from) → Wrote meta to index x.value (put_mid start ((start + width) - start) to part)
field_copied meta from to index field x start width part is of_from of_to within at here begins wide copied =
    let count : (start + width) - start ≡ width_of field = omega (arith, wide) in
    let spelled = copied ∙ ap (λ (n : ℕ). take n (drop start from)) count ∙ ap (λ (n : ℕ). take (width_of field) (drop n from)) begins
    ∙ Belongs-at meta from index field x of_from within at here in
    let fits = IsRow-at meta.quality meta.fields (row_in meta.fields from) index field x of_from.row within at here in
    field_written meta to index field x.value start width part is of_to within at (record { is_value = fits.is_value; fits = fits.fits }) begins wide spelled

-- which word and which half of it has a status
halves : (index : ℕ) → 2 * (index / 2) + index % 2 ≡ index
halves index = omega arith

get_statuses : (row : List DataValue) (index : ℕ) (d : DataValue) → index < length row → get_or (statuses row) index 0 ≡ (get_or row index d).status
get_statuses [] index d within = absurd (omega arith)
get_statuses (x ∷ row) zero d within = refl
get_statuses (x ∷ row) (suc index) d within = get_statuses row index d (omega arith)

-- what is read at a field's status
pub status_read : (meta : MetaData) (words : List ℕ) (index place status : ℕ) → Belongs meta words → index < length meta.fields → place ≡ value_words meta.fields + index / 2
    → status ≡ slice_index (digits_of (2 ^ 32) 2 (get_or words place 0)) (index % 2) → HasStatus (row_in meta.fields words) index status
unfolding behind spelled_statuses
status_read meta words index place status belongs within at is =
    let row = row_in meta.fields words in
    let count = count_statuses meta.quality meta.fields row belongs.row in
    let long = length-spelled_values meta.quality meta.fields row belongs.row in
    let all = belongs.spelled ∙ spelled_row-behind meta.fields row in
    let word : get_or words place 0 ≡ get_or (behind meta.fields row) (index / 2) 0 =
    ap (λ (ws : List ℕ). get_or ws place 0) all ∙ get_or_behind (spelled_values meta.fields row) (behind meta.fields row) (index / 2) place (omega (arith, at, long)) in
    let one = half_read (status_words meta.fields) (index / 2) (index % 2) (statuses row) _ (small_statuses meta.quality meta.fields row belongs.row) (omega arith) (omega (arith, count)) (omega (arith, count)) in
    λ d. sym (is ∙ ap (λ (w : ℕ). slice_index (digits_of (2 ^ 32) 2 w) (index % 2)) word ∙ one ∙ ap (λ (k : ℕ). get_or (statuses row) k 0) (halves index)
    ∙ get_statuses row index d (omega (arith, length_row meta.quality meta.fields row belongs.row)))
  where
    get_or_behind : (front back : List ℕ) (k at : ℕ) → at ≡ length front + k → get_or (front ++ back) at 0 ≡ get_or back k 0
    get_or_behind [] back k at e = let same : at ≡ k = omega (arith, e) in ap (λ (n : ℕ). get_or back n 0) same
    get_or_behind (x ∷ front) back k zero e = absurd (omega arith)
    get_or_behind (x ∷ front) back k (suc at) e = get_or_behind front back k at (omega arith)

-- what is written over a field's status
pub record WroteStatus (meta : MetaData) (words : List ℕ) (index status : ℕ) (after : List ℕ) : Type 0 where
  pub belongs : Belongs meta after
  pub set : row_in meta.fields after ≡ with_status (row_in meta.fields words) index status

pub status_written : (meta : MetaData) (words : List ℕ) (index place status word : ℕ) → IsMeta meta.fields → Belongs meta words → index < length meta.fields
    → place ≡ value_words meta.fields + index / 2 → IsStatus meta.quality status → word ≡ half_set (get_or words place 0) (index % 2) status
    → WroteStatus meta words index status (set words place word)
status_written meta words index place status word is belongs within at good half =
    let row = row_in meta.fields words in
    let after = with_status row index status in
    let is_row = IsRow-with_status meta.quality meta.fields row index status belongs.row good in
    let here = halves index in
    let same : set words place word ≡ spelled_row meta.fields after =
    ap (λ (w : ℕ). set words place w) half
    ∙ ap (λ (ws : List ℕ). set ws place (half_set (get_or ws place 0) (index % 2) status)) belongs.spelled
    ∙ ap (λ (n : ℕ). set (spelled_row meta.fields row) n (half_set (get_or (spelled_row meta.fields row) n 0) (index % 2) status)) at
    ∙ spelled_row-with_status meta.quality meta.fields row (index / 2) (index % 2) status belongs.row (omega arith) (omega (arith, here))
    (subst (λ (n : ℕ). IsRowOf meta.quality meta.fields (with_status row n status)) (sym here) is_row)
    ∙ ap (λ (n : ℕ). spelled_row meta.fields (with_status row n status)) here in
    subst (WroteStatus meta words index status) (sym same)
    (record { belongs = Belongs-spelled_row meta after (narrow meta.fields is) is_row; set = row_in-spelled_row meta.quality meta.fields after is_row })
