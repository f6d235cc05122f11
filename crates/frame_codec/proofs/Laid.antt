-- The fields of a frame laid one behind another.
use Rattle.std.proofs.Common.{◌≡◌, ℕ, zero, suc, ◌+◌, ◌/◌, ◌%◌, ◌^◌, ◌<◌, ◌≤◌, Bool, true, false, List, [], ◌∷◌, ◌++◌, length, take, drop, get_or, Option, Some, None, refl, sym, ap, ◌∙◌, subst, arith, length-append, length-take-le}
use Rattle.std.specs.Prelude.{◌==◌, count_ones, if◌then◌else◌}
use Rattle.std.specs.Int.{bit_at, w32, to_le_bytes}
use Rattle.std.specs.Int.Count.{ones, ones_step}
use Rattle.std.specs.List.{HoldsAt}
use Rattle.std.proofs.Math.Nat.{div-div-eq-div-mul, div-eq_of_lt, div-one, pow-suc}
use Rattle.std.proofs.Math.Numerals.{add-one}
use Rattle.std.proofs.lemmas.Bool.{eqb-true}
use Rattle.std.proofs.lemmas.Nat.Bits.{bit_at-lt}
use Rattle.std.proofs.lemmas.List.{take_more, take-append-drop, append-nil}
use Rattle.std.proofs.lemmas.Grind.{flat_map-append}
use Rattle.std.proofs.lemmas.List.Folds.{length-flat_map-take}
use Rattle.ua_values.specs.declared.value.Value.{Value}
use Rattle.ua_values.specs.declared.value.Value.TheVariants as values
use Rattle.ua_binary.specs.Spelling.{variant, data_value}
use Rattle.ua_binary.specs.declared.pen.Pen.{Pen}
use Rattle.ua_binary.specs.Writing.{Puts}
use Rattle.ua_binary.proofs.Laying.{Puts-then}
use Rattle.dataset_meta.specs.declared.field.Field.{Field}
use Rattle.dataset_meta.specs.DataValues.{DataValue}
use Rattle.dataset_meta.specs.Rows.{cons_if}
use Rattle.row_words.specs.Belonging.{row_with, row_in}
use Rattle.row_words.specs.Words.{scalar_in}
use Rattle.row_words.specs.Setting.{HasValue, HasStatus}
use Rattle.row_words.specs.Patches.{marked_from}
use Rattle.row_words.proofs.FieldLaws.{StandsAt, stands_at}
use Rattle.frame_codec.specs.Spelling.{status_if, value_bytes, values_bytes, change_bytes, changes_bytes}

length-row_with : (fields : List Field) (words statuses : List ℕ) → length (row_with fields words statuses) ≡ length fields
length-row_with [] words statuses = refl
length-row_with (field ∷ fields) words statuses = ap suc (length-row_with fields _ _)

pub length-row_in : (fields : List Field) (words : List ℕ) → length (row_in fields words) ≡ length fields
unfolding row_in
length-row_in fields words = length-row_with fields words _

-- what holds of the one at an index
pub at_stands : (P : DataValue → Type 0) (row : List DataValue) (i : ℕ) (s : StandsAt row i) → HoldsAt P row i → P s.x
at_stands P row i s holds = subst P (s.here s.x) (holds s.x)

take_one : (row : List DataValue) (i : ℕ) → i < length row → (s : StandsAt row i) → take (i + 1) row ≡ take i row ++ s.x ∷ []
take_one row i within s = take_more row i s.x within ∙ ap (λ (v : DataValue). take i row ++ v ∷ []) (s.here s.x)

-- a value more
pub values-more : (quality : Bool) (row : List DataValue) (i : ℕ) → i < length row → (s : StandsAt row i)
    → values_bytes quality (take (i + 1) row) ≡ values_bytes quality (take i row) ++ value_bytes quality s.x
values-more quality row i within s =
    ap (values_bytes quality) (take_one row i within s)
    ∙ flat_map-append (value_bytes quality) (take i row) (s.x ∷ [])
    ∙ ap (λ (last : List ℕ). values_bytes quality (take i row) ++ last) (append-nil (value_bytes quality s.x))

-- the values up to one of them take no more than all do
pub values-within : (quality : Bool) (row : List DataValue) (i : ℕ) (d : DataValue) → i < length row
    → length (values_bytes quality (take i row)) + length (value_bytes quality (get_or row i d)) ≤ length (values_bytes quality row)
values-within quality row i d within = length-flat_map-take (value_bytes quality) row i d within

cons_if-append : {X : Type 0} (b : Bool) (x : X) (xs ys : List X) → cons_if b x xs ++ ys ≡ cons_if b x (xs ++ ys)
cons_if-append true x xs ys = refl
cons_if-append false x xs ys = refl

-- the marked of a row are those of its front and those behind it
marked-append : (front back : List DataValue) (from at mask : ℕ) → at ≡ from + length front
    → marked_from from mask (front ++ back) ≡ marked_from from mask front ++ marked_from at mask back
marked-append [] back from at mask is = let here : from ≡ at = omega arith in ap (λ (i : ℕ). marked_from i mask back) here
marked-append (v ∷ front) back from at mask is =
    ap (λ (rest : List (ℕ × DataValue)). cons_if (bit_at mask from == 1) (from, v) rest) (marked-append front back (from + 1) at mask (omega arith))
    ∙ sym (cons_if-append (bit_at mask from == 1) (from, v) (marked_from (from + 1) mask front) (marked_from at mask back))

changes-append : (quality : Bool) (front back : List (ℕ × DataValue)) → changes_bytes quality (front ++ back) ≡ changes_bytes quality front ++ changes_bytes quality back
changes-append quality front back = flat_map-append (change_bytes quality) front back

changes-more : (quality : Bool) (row : List DataValue) (mask i : ℕ) → i < length row → (s : StandsAt row i)
    → changes_bytes quality (marked_from 0 mask (take (i + 1) row)) ≡ changes_bytes quality (marked_from 0 mask (take i row)) ++ changes_bytes quality (cons_if (bit_at mask i == 1) (i, s.x) [])
changes-more quality row mask i within s =
    let count : i ≡ 0 + length (take i row) = omega (arith, length-take-le i row (omega arith)) in
    ap (λ (values : List DataValue). changes_bytes quality (marked_from 0 mask values)) (take_one row i within s)
    ∙ ap (changes_bytes quality) (marked-append (take i row) (s.x ∷ []) 0 i mask count)
    ∙ changes-append quality (marked_from 0 mask (take i row)) (cons_if (bit_at mask i == 1) (i, s.x) [])

-- a field that is marked
pub changes-marked : (quality : Bool) (row : List DataValue) (mask i : ℕ) → i < length row → (s : StandsAt row i) → (bit_at mask i == 1) ≡ true
    → changes_bytes quality (marked_from 0 mask (take (i + 1) row)) ≡ changes_bytes quality (marked_from 0 mask (take i row)) ++ change_bytes quality (i, s.x)
changes-marked quality row mask i within s marked =
    changes-more quality row mask i within s
    ∙ ap (λ (b : Bool). changes_bytes quality (marked_from 0 mask (take i row)) ++ changes_bytes quality (cons_if b (i, s.x) [])) marked
    ∙ ap (λ (last : List ℕ). changes_bytes quality (marked_from 0 mask (take i row)) ++ last) (append-nil (change_bytes quality (i, s.x)))

-- a field that isn't
pub changes-unmarked : (quality : Bool) (row : List DataValue) (mask i : ℕ) → i < length row → (bit_at mask i == 1) ≡ false
    → changes_bytes quality (marked_from 0 mask (take (i + 1) row)) ≡ changes_bytes quality (marked_from 0 mask (take i row))
changes-unmarked quality row mask i within unmarked =
    let s = stands_at row i within in
    changes-more quality row mask i within s
    ∙ ap (λ (b : Bool). changes_bytes quality (marked_from 0 mask (take i row)) ++ changes_bytes quality (cons_if b (i, s.x) [])) unmarked
    ∙ append-nil (changes_bytes quality (marked_from 0 mask (take i row)))

-- the changes up to one of them take no more than all do
pub changes-within : (quality : Bool) (row : List DataValue) (mask i : ℕ) (d : DataValue) → i < length row → (bit_at mask i == 1) ≡ true
    → length (changes_bytes quality (marked_from 0 mask (take i row))) + length (change_bytes quality (i, get_or row i d)) ≤ length (changes_bytes quality (marked_from 0 mask row))
changes-within quality row mask i d within marked =
    let s = stands_at row i within in
    let here : get_or row i d ≡ s.x = s.here d in
    let count : i + 1 ≡ 0 + length (take (i + 1) row) = omega (arith, length-take-le (i + 1) row (omega arith)) in
    let front = changes_bytes quality (marked_from 0 mask (take (i + 1) row)) in
    let back = changes_bytes quality (marked_from (i + 1) mask (drop (i + 1) row)) in
    let all : changes_bytes quality (marked_from 0 mask row) ≡ front ++ back =
    ap (λ (values : List DataValue). changes_bytes quality (marked_from 0 mask values)) (sym (take-append-drop (i + 1) row))
    ∙ ap (changes_bytes quality) (marked-append (take (i + 1) row) (drop (i + 1) row) 0 (i + 1) mask count)
    ∙ changes-append quality (marked_from 0 mask (take (i + 1) row)) (marked_from (i + 1) mask (drop (i + 1) row)) in
    omega (
      arith,
      ap length all,
      length-append front back,
      ap length (changes-marked quality row mask i within s marked),
      length-append (changes_bytes quality (marked_from 0 mask (take i row))) (change_bytes quality (i, s.x)),
      ap (λ (x : DataValue). length (change_bytes quality (i, x))) here,
    )

-- the bits that are set are as many as the marked fields
length-cons_if : {X : Type 0} (bit : ℕ) (x : X) (xs : List X) → bit < 2 → length (cons_if (bit == 1) x xs) ≡ bit + length xs
length-cons_if zero x xs small = omega arith
length-cons_if (suc zero) x xs small = omega arith
length-cons_if (suc (suc bit)) x xs small = absurd (omega arith)

ones_zero : ones 0 ≡ 0
unfolding ones
ones_zero = refl

ones_marked : (row : List DataValue) (from mask : ℕ) → mask < 2 ^ (from + length row) → ones (mask / 2 ^ from) ≡ length (marked_from from mask row)
ones_marked [] from mask below =
    let none : mask / 2 ^ from ≡ 0 = div-eq_of_lt (subst (λ (n : ℕ). mask < 2 ^ n) (omega arith) below) in
    ap ones none ∙ ones_zero
ones_marked (v ∷ row) from mask below =
    let next : mask / 2 ^ from / 2 ≡ mask / 2 ^ (from + 1) = div-div-eq-div-mul mask (2 ^ from) 2 ∙ ap (λ (n : ℕ). mask / n) (sym (pow-suc 2 from) ∙ ap (λ (n : ℕ). 2 ^ n) (sym (add-one from))) in
    ones_step (mask / 2 ^ from)
    ∙ ap (λ (n : ℕ). mask / 2 ^ from % 2 + ones n) next
    ∙ ap (λ (n : ℕ). bit_at mask from + n) (ones_marked row (from + 1) mask (subst (λ (n : ℕ). mask < 2 ^ n) (omega arith) below))
    ∙ sym (length-cons_if (bit_at mask from) (from, v) (marked_from (from + 1) mask row) (bit_at-lt mask from))

pub count_ones-marked : (row : List DataValue) (mask : ℕ) → mask < 2 ^ length row → count_ones mask ≡ length (marked_from 0 mask row)
count_ones-marked row mask below =
    ap ones (sym (div-one mask)) ∙ ones_marked row 0 mask (subst (λ (n : ℕ). mask < 2 ^ n) (omega arith) below)

-- the scalar that has this word
pub word_value : (fields : List Field) (row : List DataValue) (index word : ℕ) (field : Field) (e : DataValue) → field ≡ get_or fields index field
    → ((d : Field) → HasValue row index (scalar_in (get_or fields index d).kind word)) → (get_or row index e).value ≡ scalar_in field.kind word
word_value fields row index word field e at held = held field e ∙ ap (λ (f : Field). scalar_in f.kind word) (sym at)

pub word_room : (fields : List Field) (row : List DataValue) (index word : ℕ) (field : Field) (pen : Pen) (d : DataValue) → field ≡ get_or fields index field
    → ((d : Field) → HasValue row index (scalar_in (get_or fields index d).kind word)) → ((e : DataValue) → pen.at + length (variant (get_or row index e).value) ≤ length pen.bytes.now)
    → pen.at + length (variant (scalar_in field.kind word)) ≤ length pen.bytes.now
word_room fields row index word field pen d at held room = subst (λ (v : Value). pen.at + length (variant v) ≤ length pen.bytes.now) (word_value fields row index word field d at held) (room d)

pub word_puts : (fields : List Field) (row : List DataValue) (index word : ℕ) (field : Field) (old new : Pen) → field ≡ get_or fields index field
    → ((d : Field) → HasValue row index (scalar_in (get_or fields index d).kind word)) → Puts old new (variant (scalar_in field.kind word)) → (e : DataValue) → Puts old new (variant (get_or row index e).value)
word_puts fields row index word field old new at held puts e = subst (λ (v : Value). Puts old new (variant v)) (sym (word_value fields row index word field e at held)) puts

pub value_room : (row : List DataValue) (index : ℕ) (value : Value) (pen : Pen) → HasValue row index value → ((d : DataValue) → pen.at + length (variant (get_or row index d).value) ≤ length pen.bytes.now)
    → pen.at + length (variant value) ≤ length pen.bytes.now
value_room row index value pen held room =
    let d : DataValue = record { value = value; status = 0 } in
    subst (λ (v : Value). pen.at + length (variant v) ≤ length pen.bytes.now) (held d) (room d)

-- DataValues
data_some : (value : Value) (status : Option ℕ) → 1 ≤ length (data_value value status)
data_some value None = omega arith
data_some value (Some status) = omega arith

pub any : DataValue
any = record { value = values.Byte 0; status = 0 }

pub data_room : (row : List DataValue) (index : ℕ) (pen : Pen) → ((d : DataValue) → pen.at + length (value_bytes true (get_or row index d)) ≤ length pen.bytes.now) → pen.at + 1 ≤ length pen.bytes.now
data_room row index pen room = omega (arith, room any, data_some (get_or row index any).value (status_if (get_or row index any).status))

some_status : (status : ℕ) → ¬ (status ≡ 0) → status_if status ≡ Some status
some_status status some = by_test (status == 0) refl
  where
    by_test : (b : Bool) → (status == 0) ≡ b → (if b then None else Some status) ≡ Some status
    by_test true is = absurd (some (eqb-true status 0 is))
    by_test false is = refl

pub room_behind : (row : List DataValue) (index status : ℕ) (old a b : Pen) → ¬ (status ≡ 0) → HasStatus row index status → ((d : DataValue) → old.at + length (value_bytes true (get_or row index d)) ≤ length old.bytes.now)
    → Puts old a (3 ∷ []) → ((d : DataValue) → Puts a b (variant (get_or row index d).value)) → b.at + 4 ≤ length b.bytes.now
room_behind row index status old a b some held room first second =
    let x : DataValue = get_or row index any in
    let code : status_if x.status ≡ Some status = ap status_if (held any) ∙ some_status status some in
    let put = second any in
    let long : length (data_value x.value (status_if x.status)) ≡ 5 + length (variant x.value) =
    ap (λ (o : Option ℕ). length (data_value x.value o)) code ∙ omega (arith, length-append (variant x.value) (to_le_bytes w32 status)) in
    omega (arith, long, room any, first.moved, first.same_length, put.moved, put.same_length)

pub alone_puts : (row : List DataValue) (index status : ℕ) (old a b : Pen) → status ≡ 0 → HasStatus row index status → Puts old a (1 ∷ []) → ((d : DataValue) → Puts a b (variant (get_or row index d).value))
    → (d : DataValue) → Puts old b (value_bytes true (get_or row index d))
alone_puts row index status old a b none held first second d =
    subst (λ (n : ℕ). Puts old b (data_value (get_or row index d).value (status_if n))) (sym (held d ∙ none)) (Puts-then old a b (1 ∷ []) (variant (get_or row index d).value) first (second d))

pub with_puts : (row : List DataValue) (index status : ℕ) (old a b c : Pen) → ¬ (status ≡ 0) → HasStatus row index status → Puts old a (3 ∷ []) → ((d : DataValue) → Puts a b (variant (get_or row index d).value)) → Puts b c (to_le_bytes w32 status)
    → (d : DataValue) → Puts old c (value_bytes true (get_or row index d))
with_puts row index status old a b c some held first second third d =
    let value : Value = (get_or row index d).value in
    let code : status_if (get_or row index d).status ≡ Some status = ap status_if (held d) ∙ some_status status some in
    subst (λ (o : Option ℕ). Puts old c (data_value value o)) (sym code)
    (Puts-then old b c ((3 ∷ []) ++ variant value) (to_le_bytes w32 status) (Puts-then old a b (3 ∷ []) (variant value) first (second d)) third)
