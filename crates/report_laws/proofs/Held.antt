-- What a reader holds, or why it waits.
use Rattle.std.proofs.Common.{◌≡◌, ℕ, ◌<◌, ◌^◌, Bool, true, false, List, [], ◌∷◌, ◌++◌, length, refl, sym, ap, ◌∙◌, subst, arith, append_assoc}
use Rattle.std.specs.Prelude.{codes, Option, Some, None, IfSome, nat_eq, slice_get}
use Rattle.std.specs.List.{AllZip}
use Rattle.std.proofs.lemmas.Bool.Decides.{nat_tests}
use Rattle.std.proofs.lemmas.List.{append_cancel_left}
use Rattle.ua_values.specs.declared.value.Value.{Value}
use Rattle.dataset_meta.specs.declared.field.Field.{Field}
use Rattle.dataset_meta.specs.DataValues.{DataValue, FitsField, IsStatus}
use Rattle.dataset_meta.specs.Metas.{MetaData}
use Rattle.row_words.specs.Belonging.{Belongs, row_in, spelled_row}
use Rattle.pubsub_model.specs.declared.reading.Why.{Why}
use Rattle.ps_config.specs.declared.parts.ReaderPart.{ReaderPart}
use Rattle.value_texts.specs.Texts.{hex_text_32, value_text_of}
use Rattle.value_texts.proofs.TextLaws.{hex_32_once}
use Rattle.hex.proofs.HexLemmas.{length-encode_with}
use Rattle.hex.specs.Hex.{lower_digits}
use Rattle.std.specs.Int.{w32, to_be_bytes}
use Rattle.ps_report.specs.declared.closed.HeldEnd.{HeldEnd}
use Rattle.ps_report.specs.Conditions.{BelongsTo}
use Rattle.ps_report.specs.Lines.{status_mark, field_text, fields_text, numbered_text, number_or_dash, waits_text}
use Rattle.ps_report.specs.Reports.{row_text, held_as}
use Rattle.pubsub_model.specs.WhyWords.{why_word}
use Rattle.report_laws.specs.Numbers.{IsNumber, HeldHasNumbers}
use Rattle.report_laws.proofs.Cutting.{Stops, cut_length, is_visible, head_same, tail_same}
use Rattle.report_laws.proofs.Entries.{dash_cut}
use Rattle.report_laws.proofs.Values.{value_cut}
use Rattle.report_laws.proofs.Words.{why_cut}

-- ---- statuses

length_status : (status : ℕ) → length (hex_text_32 status) ≡ 10
length_status status = let e = length-encode_with lower_digits (to_be_bytes w32 status) in omega (arith, e)

status_none : (status : ℕ) (s : List ℕ) → nat_eq status 0 ≡ true → status_mark status ++ s ≡ s
unfolding status_mark
status_none status s is = rw is refl

status_some : (status : ℕ) (s : List ℕ) → nat_eq status 0 ≡ false → status_mark status ++ s ≡ 33 ∷ (hex_text_32 status ++ s)
unfolding status_mark
status_some status s is = rw is refl

pub status_cut : (m n : ℕ) (s t : List ℕ) → m < 2 ^ 32 → n < 2 ^ 32 → status_mark m ++ (61 ∷ s) ≡ status_mark n ++ (61 ∷ t) → (m ≡ n) × (s ≡ t)
status_cut m n s t in_m in_n same = go (nat_eq m 0) (nat_eq n 0) refl refl
  where
    go : (a b : Bool) → nat_eq m 0 ≡ a → nat_eq n 0 ≡ b → (m ≡ n) × (s ≡ t)
    go true true none_m none_n =
        let left : m ≡ 0 = grind (arith, nat_tests) in
        let right : n ≡ 0 = grind (arith, nat_tests) in
        (omega arith, tail_same 61 61 s t (sym (status_none m (61 ∷ s) none_m) ∙ same ∙ status_none n (61 ∷ t) none_n))
    go true false none_m some_n =
        absurd (let e : 61 ≡ 33 = head_same 61 33 s (hex_text_32 n ++ (61 ∷ t)) (sym (status_none m (61 ∷ s) none_m) ∙ same ∙ status_some n (61 ∷ t) some_n) in omega arith)
    go false true some_m none_n =
        absurd (let e : 33 ≡ 61 = head_same 33 61 (hex_text_32 m ++ (61 ∷ s)) t (sym (status_some m (61 ∷ s) some_m) ∙ same ∙ status_none n (61 ∷ t) none_n) in omega arith)
    go false false some_m some_n =
        let parts = cut_length (hex_text_32 m) (hex_text_32 n) (61 ∷ s) (61 ∷ t) (length_status m ∙ sym (length_status n))
        (tail_same 33 33 (hex_text_32 m ++ (61 ∷ s)) (hex_text_32 n ++ (61 ∷ t)) (sym (status_some m (61 ∷ s) some_m) ∙ same ∙ status_some n (61 ∷ t) some_n)) in
        (hex_32_once m n in_m in_n parts.0, tail_same 61 61 s t parts.1)

-- ---- fields

pub field_is : (name : List ℕ) (value : Value) (status : ℕ) (s : List ℕ) → field_text name value status ++ s ≡ 32 ∷ (name ++ (status_mark status ++ (61 ∷ (value_text_of value ++ s))))
unfolding field_text
field_is name value status s = simp append_assoc

status_small : (quality : Bool) (status : ℕ) → IsStatus quality status → status < 2 ^ 32
status_small true status is = is
status_small false status is = omega arith

pub field_cut : (quality : Bool) (field : Field) (one other : DataValue) (s t : List ℕ) → FitsField quality field one → FitsField quality field other → Stops is_visible s → Stops is_visible t
    → field_text field.name one.value one.status ++ s ≡ field_text field.name other.value other.status ++ t → (one ≡ other) × (s ≡ t)
field_cut quality field one other s t fits_one fits_other end_s end_t same =
    let left = status_mark one.status ++ (61 ∷ (value_text_of one.value ++ s)) in
    let right = status_mark other.status ++ (61 ∷ (value_text_of other.value ++ t)) in
    let named = tail_same 32 32 (field.name ++ left) (field.name ++ right) (sym (field_is field.name one.value one.status s) ∙ same ∙ field_is field.name other.value other.status t) in
    let marked = status_cut one.status other.status (value_text_of one.value ++ s) (value_text_of other.value ++ t)
    (status_small quality one.status fits_one.is_status) (status_small quality other.status fits_other.is_status)
    (append_cancel_left field.name left right named) in
    let valued = value_cut one.value other.value s t fits_one.is_value fits_other.is_value (fits_one.fits.same_kind ∙ sym fits_other.fits.same_kind) end_s end_t marked.1 in
    (ap (λ v. let x : DataValue = record { value = v; status = one.status } in x) valued.0 ∙ ap (λ n. let x : DataValue = record { value = other.value; status = n } in x) marked.0, valued.1)

-- a field begins with a space
field_stop : (name : List ℕ) (value : Value) (status : ℕ) (s : List ℕ) → Stops is_visible (field_text name value status ++ s)
field_stop name value status s = subst (Stops is_visible) (sym (field_is name value status s)) refl

fields_stop : (fields : List Field) (row : List DataValue) (s : List ℕ) → Stops is_visible (fields_text fields row ++ 10 ∷ s)
fields_stop [] row s = refl
fields_stop (field ∷ fields) [] s = refl
fields_stop (field ∷ fields) (x ∷ row) s =
    subst (Stops is_visible) (sym (append_assoc (field_text field.name x.value x.status) (fields_text fields row) (10 ∷ s)))
    (field_stop field.name x.value x.status (fields_text fields row ++ 10 ∷ s))

pub fields_cut : (quality : Bool) (fields : List Field) (one other : List DataValue) (s t : List ℕ) → AllZip (FitsField quality) fields one → AllZip (FitsField quality) fields other
    → fields_text fields one ++ 10 ∷ s ≡ fields_text fields other ++ 10 ∷ t → (one ≡ other) × (s ≡ t)
fields_cut quality [] [] [] s t fits_one fits_other same = (refl, tail_same 10 10 s t same)
fields_cut quality [] [] (y ∷ other) s t fits_one fits_other same = absurd fits_other
fields_cut quality [] (x ∷ one) other s t fits_one fits_other same = absurd fits_one
fields_cut quality (field ∷ fields) [] other s t fits_one fits_other same = absurd fits_one
fields_cut quality (field ∷ fields) (x ∷ one) [] s t fits_one fits_other same = absurd fits_other
fields_cut quality (field ∷ fields) (x ∷ one) (y ∷ other) s t fits_one fits_other same =
    let left = fields_text fields one in
    let right = fields_text fields other in
    let first = field_cut quality field x y (left ++ 10 ∷ s) (right ++ 10 ∷ t) fits_one.0 fits_other.0 (fields_stop fields one s) (fields_stop fields other t)
    (sym (append_assoc (field_text field.name x.value x.status) left (10 ∷ s)) ∙ same ∙ append_assoc (field_text field.name y.value y.status) right (10 ∷ t)) in
    let rest = fields_cut quality fields one other s t fits_one.1 fits_other.1 first.1 in
    let head : x ≡ y = first.0 in
    let others : one ≡ other = rest.0 in
    (cc, rest.1)

-- ---- rows

-- words of rows of one meta, by their fields
words_cut : (meta : MetaData) (one other : List ℕ) (s t : List ℕ) → Belongs meta one → Belongs meta other
    → fields_text meta.fields (row_in meta.fields one) ++ 10 ∷ s ≡ fields_text meta.fields (row_in meta.fields other) ++ 10 ∷ t → (one ≡ other) × (s ≡ t)
words_cut meta one other s t of_one of_other same =
    let parts = fields_cut meta.quality meta.fields (row_in meta.fields one) (row_in meta.fields other) s t of_one.row of_other.row same in
    (of_one.spelled ∙ ap (spelled_row meta.fields) parts.0 ∙ sym of_other.spelled, parts.1)

pub row_cut : (set : Option MetaData) (one other : List ℕ) (s t : List ℕ) → BelongsTo set one → BelongsTo set other
    → row_text set one ++ 10 ∷ s ≡ row_text set other ++ 10 ∷ t → (one ≡ other) × (s ≡ t)
unfolding row_text
row_cut None one other s t of_one of_other same = absurd of_one
row_cut (Some meta) one other s t of_one of_other same = words_cut meta one other s t of_one of_other same

-- ---- what is held

numbered_is : (number version : Option ℕ) (s : List ℕ) → numbered_text number version ++ s
    ≡ codes " number " ++ (number_or_dash number ++ (codes " version " ++ (number_or_dash version ++ (58 ∷ s))))
unfolding numbered_text
numbered_is number version s = simp append_assoc

numbered_cut : (m n v w : Option ℕ) (s t : List ℕ) → IfSome m IsNumber → IfSome n IsNumber → IfSome v IsNumber → IfSome w IsNumber
    → numbered_text m v ++ s ≡ numbered_text n w ++ t → ((m ≡ n) × (v ≡ w)) × (s ≡ t)
numbered_cut m n v w s t in_m in_n in_v in_w same =
    let left = number_or_dash v ++ (58 ∷ s) in
    let right = number_or_dash w ++ (58 ∷ t) in
    let number = dash_cut m n (codes " version " ++ left) (codes " version " ++ right) in_m in_n refl refl
    (append_cancel_left (codes " number ") (number_or_dash m ++ (codes " version " ++ left)) (number_or_dash n ++ (codes " version " ++ right))
    (sym (numbered_is m v s) ∙ same ∙ numbered_is n w t)) in
    let version = dash_cut v w (58 ∷ s) (58 ∷ t) in_v in_w refl refl (append_cancel_left (codes " version ") left right number.1) in
    ((number.0, version.0), tail_same 58 58 s t version.1)

pub waits_is : (why : Why) (s : List ℕ) → waits_text why ++ s ≡ codes " waits " ++ (why_word why ++ s)
unfolding waits_text
waits_is why s = simp append_assoc

letters_differ : (a b : ℕ) → a ≡ 119 → b ≡ 110 → a ≡ b → ⊥
letters_differ a b w n same = omega arith

-- a reader that waits isn't told as one that holds a row
other_words : (why : Why) (number version : Option ℕ) (s t : List ℕ) → waits_text why ++ s ≡ numbered_text number version ++ t → ⊥
other_words why number version s t same =
    let rest = number_or_dash number ++ (codes " version " ++ (number_or_dash version ++ (58 ∷ t))) in
    let left : codes "waits " ++ (why_word why ++ s) ≡ codes "number " ++ rest =
    tail_same 32 32 (codes "waits " ++ (why_word why ++ s)) (codes "number " ++ rest) (sym (waits_is why s) ∙ same ∙ numbered_is number version t) in
    letters_differ 119 110 refl refl (head_same 119 110 (codes "aits " ++ (why_word why ++ s)) (codes "umber " ++ rest) left)

abbrev pub HeldBelongs : Option MetaData → Option HeldEnd → Type 0
HeldBelongs set held = IfSome held (λ h. BelongsTo set h.row.words)

held_same : (a b : HeldEnd) → a.number ≡ b.number → a.version ≡ b.version → a.row.words ≡ b.row.words → a ≡ b
held_same a b number version words =
    ap (λ n. let h : HeldEnd = record { number = n; version = a.version; row = a.row } in h) number
    ∙ ap (λ v. let h : HeldEnd = record { number = b.number; version = v; row = a.row } in h) version
    ∙ ap (λ w. let h : HeldEnd = record { number = b.number; version = b.version; row = record { words = w } } in h) words

-- either holds the same, or both wait for one reason
pub held_cut : (sets : List MetaData) (part : ReaderPart) (why because : Why) (one other : Option HeldEnd) (s t : List ℕ)
    → HeldBelongs (slice_get sets part.dataset) one → HeldBelongs (slice_get sets part.dataset) other → IfSome one HeldHasNumbers → IfSome other HeldHasNumbers
    → held_as sets part why one ++ 10 ∷ s ≡ held_as sets part because other ++ 10 ∷ t
    → ((one ≡ other) × (one ≡ None → why ≡ because)) × (s ≡ t)
unfolding held_as
held_cut sets part why because None None s t of_one of_other in_one in_other same =
    let parts = why_cut why because (10 ∷ s) (10 ∷ t) refl refl
    (append_cancel_left (codes " waits ") _ _ (sym (waits_is why (10 ∷ s)) ∙ same ∙ waits_is because (10 ∷ t))) in
    ((refl, λ none. parts.0), tail_same 10 10 s t parts.1)
held_cut sets part why because None (Some held) s t of_one of_other in_one in_other same =
    absurd (other_words why held.number held.version (10 ∷ s) (row_text (slice_get sets part.dataset) held.row.words ++ 10 ∷ t)
    (same ∙ append_assoc (numbered_text held.number held.version) (row_text (slice_get sets part.dataset) held.row.words) (10 ∷ t)))
held_cut sets part why because (Some held) None s t of_one of_other in_one in_other same =
    absurd (other_words because held.number held.version (10 ∷ t) (row_text (slice_get sets part.dataset) held.row.words ++ 10 ∷ s)
    (sym same ∙ append_assoc (numbered_text held.number held.version) (row_text (slice_get sets part.dataset) held.row.words) (10 ∷ s)))
held_cut sets part why because (Some a) (Some b) s t of_one of_other in_one in_other same =
    let set = slice_get sets part.dataset in
    let numbered = numbered_cut a.number b.number a.version b.version (row_text set a.row.words ++ 10 ∷ s) (row_text set b.row.words ++ 10 ∷ t)
    in_one.number in_other.number in_one.version in_other.version
    (sym (append_assoc (numbered_text a.number a.version) (row_text set a.row.words) (10 ∷ s)) ∙ same
    ∙ append_assoc (numbered_text b.number b.version) (row_text set b.row.words) (10 ∷ t)) in
    let row = row_cut set a.row.words b.row.words s t of_one of_other numbered.1 in
    let whole : a ≡ b = held_same a b numbered.0.0 numbered.0.1 row.0 in
    ((ap Some whole, λ none. absurd (cc)), row.1)

-- a space begins either
pub held_stop : (sets : List MetaData) (part : ReaderPart) (why : Why) (held : Option HeldEnd) (s : List ℕ) → Stops is_visible (held_as sets part why held ++ s)
unfolding held_as waits_text numbered_text
held_stop sets part why None s = refl
held_stop sets part why (Some held) s = refl
