-- What a summary of generated work tells, with the built-in configuration.
use Rattle.std.proofs.Common.{◌≡◌, ℕ, Bool, List, [], ◌∷◌, ◌++◌, refl, sym, ap, ◌∙◌, subst, arith, append_assoc}
use Rattle.std.specs.Prelude.{codes, Option, Some, None, option_map, slice_get}
use Rattle.std.specs.Fmt.{decimal}
use Rattle.std.specs.List.{AllZip}
use Rattle.std.proofs.lemmas.List.{append_cancel_left}
use Rattle.dataset_meta.specs.declared.field.Field.{Field}
use Rattle.dataset_meta.specs.DataValues.{DataValue, FitsField}
use Rattle.dataset_meta.specs.Metas.{MetaData}
use Rattle.row_words.specs.Belonging.{row_in}
use Rattle.pubsub_model.specs.declared.reading.Why.{Why}
use Rattle.pubsub_model.specs.WhyWords.{why_word}
use Rattle.value_texts.specs.Texts.{value_text_of}
use Rattle.ps_config.specs.declared.parts.Config.{Config}
use Rattle.ps_config.specs.declared.parts.ReaderPart.{ReaderPart}
use Rattle.ps_config.specs.BuiltIn.{built_in_config, built_in_read_group, built_in_reader, demo, number_field}
use Rattle.ps_report.specs.declared.closed.Closed.{Closed}
use Rattle.ps_report.specs.declared.closed.HeldEnd.{HeldEnd}
use Rattle.ps_report.specs.declared.closed.ReaderEnd.{ReaderEnd}
use Rattle.ps_report.specs.Conditions.{BelongsTo, HoldsRow, readers_of}
use Rattle.ps_report.specs.Lines.{field_text, fields_text, status_mark, waits_text}
use Rattle.ps_report.specs.Reports.{end_line, load_held_as, load_reader_line, load_text, load_versions, row_text}
use Rattle.report_laws.specs.Alike.{AreSummedAlike, HoldAlike}
use Rattle.report_laws.specs.Numbers.{IsNumber}
use Rattle.report_laws.specs.Reported.{IsReported}
use Rattle.report_laws.proofs.Cutting.{head_same, tail_same}
use Rattle.report_laws.proofs.Entries.{number_cut}
use Rattle.report_laws.proofs.Held.{HeldBelongs, field_is, row_cut, waits_is}
use Rattle.report_laws.proofs.Words.{why_cut}

-- ---- a row and a reason are told apart

-- a row's text begins with a space and the name of the first field
begins : (quality : Bool) (field : Field) (fields : List Field) (row : List DataValue) (s : List ℕ) → AllZip (FitsField quality) (field ∷ fields) row
    → (rest : List ℕ) × (fields_text (field ∷ fields) row ++ s ≡ 32 ∷ (field.name ++ rest))
begins quality field fields [] s fits = absurd fits
begins quality field fields (x ∷ row) s fits = (
  status_mark x.status ++ (61 ∷ (value_text_of x.value ++ (fields_text fields row ++ s))),
  append_assoc (field_text field.name x.value x.status) (fields_text fields row) s ∙ field_is field.name x.value x.status (fields_text fields row ++ s),
)

-- that of the data set demo is `a`
demo_begins : (words s : List ℕ) → BelongsTo (Some demo) words → (rest : List ℕ) × (row_text (Some demo) words ++ s ≡ 32 ∷ (97 ∷ rest))
unfolding demo row_text
demo_begins words s belongs =
    begins demo.quality (number_field (codes "a")) (number_field (codes "b") ∷ number_field (codes "c") ∷ number_field (codes "d") ∷ []) (row_in demo.fields words) s belongs.row

letters_differ : (a b : ℕ) → a ≡ 119 → b ≡ 97 → a ≡ b → ⊥
letters_differ a b w n same = omega arith

apart : (why : Why) (words s t : List ℕ) → BelongsTo (Some demo) words → waits_text why ++ s ≡ row_text (Some demo) words ++ t → ⊥
apart why words s t belongs same =
    let begun = demo_begins words t belongs in
    let left = codes "aits " ++ (why_word why ++ s) in
    let from : 119 ∷ left ≡ 97 ∷ begun.0 = tail_same 32 32 (119 ∷ left) (97 ∷ begun.0) (sym (waits_is why s) ∙ same ∙ begun.1) in
    letters_differ 119 97 refl refl (head_same 119 97 left begun.0 from)

-- ---- what the reader holds

abbrev words_of : Option HeldEnd → Option (List ℕ)
words_of held = option_map (λ (h : HeldEnd). h.row.words) held

abbrev sets : List MetaData
sets = demo ∷ []

held_cut : (part : ReaderPart) (why because : Why) (one other : Option HeldEnd) (s t : List ℕ) → part.dataset ≡ 0
    → HeldBelongs (Some demo) one → HeldBelongs (Some demo) other
    → load_held_as sets part why one ++ 10 ∷ s ≡ load_held_as sets part because other ++ 10 ∷ t
    → ((words_of one ≡ words_of other) × (one ≡ None → why ≡ because)) × (s ≡ t)
unfolding load_held_as
held_cut part why because None None s t first of_one of_other same =
    let parts = why_cut why because (10 ∷ s) (10 ∷ t) refl refl
    (append_cancel_left (codes " waits ") _ _ (sym (waits_is why (10 ∷ s)) ∙ same ∙ waits_is because (10 ∷ t))) in
    ((refl, λ none. parts.0), tail_same 10 10 s t parts.1)
held_cut part why because None (Some held) s t first of_one of_other same =
    absurd (apart why held.row.words (10 ∷ s) (10 ∷ t) of_other (same ∙ ap (λ (n : ℕ). row_text (slice_get sets n) held.row.words ++ 10 ∷ t) first))
held_cut part why because (Some held) None s t first of_one of_other same =
    absurd (apart because held.row.words (10 ∷ t) (10 ∷ s) of_one (sym same ∙ ap (λ (n : ℕ). row_text (slice_get sets n) held.row.words ++ 10 ∷ s) first))
held_cut part why because (Some a) (Some b) s t first of_one of_other same =
    let rows = row_cut (Some demo) a.row.words b.row.words s t of_one of_other
    (sym (ap (λ (n : ℕ). row_text (slice_get sets n) a.row.words ++ 10 ∷ s) first) ∙ same ∙ ap (λ (n : ℕ). row_text (slice_get sets n) b.row.words ++ 10 ∷ t) first) in
    ((ap Some rows.0, λ none. absurd (cc)), rows.1)

-- ---- the reader's line

line_is : (part : ReaderPart) (end : ReaderEnd) (s : List ℕ) → load_reader_line sets (part ∷ []) (end ∷ []) ++ s
    ≡ codes "reader " ++ (part.name ++ (load_held_as sets part end.why end.held ++ (10 ∷ s)))
unfolding load_reader_line
line_is part end s = simp append_assoc

line_cut : (part : ReaderPart) (ends others : List ReaderEnd) (s t : List ℕ) → part.dataset ≡ 0
    → AllZip (HoldsRow sets) (part ∷ []) ends → AllZip (HoldsRow sets) (part ∷ []) others
    → load_reader_line sets (part ∷ []) ends ++ s ≡ load_reader_line sets (part ∷ []) others ++ t → AllZip HoldAlike ends others × (s ≡ t)
line_cut part [] others s t first of_ends of_others same = absurd of_ends
line_cut part (end ∷ []) [] s t first of_ends of_others same = absurd of_others
line_cut part (end ∷ []) (other ∷ []) s t first of_ends of_others same =
    let left = load_held_as sets part end.why end.held ++ (10 ∷ s) in
    let right = load_held_as sets part other.why other.held ++ (10 ∷ t) in
    let named = append_cancel_left (codes "reader ") (part.name ++ left) (part.name ++ right) (sym (line_is part end s) ∙ same ∙ line_is part other t) in
    let belongs : (e : ReaderEnd) → HoldsRow sets part e → HeldBelongs (Some demo) e.held =
    λ e holds. subst (λ (n : ℕ). HeldBelongs (slice_get sets n) e.held) first holds in
    let held = held_cut part end.why other.why end.held other.held s t first (belongs end of_ends.0) (belongs other of_others.0) (append_cancel_left part.name left right named) in
    ((record { rows = held.0.0; waits = held.0.1 }, tt), held.1)
line_cut part (end ∷ []) (other ∷ twin ∷ others) s t first of_ends of_others same = absurd of_others.1
line_cut part (end ∷ twin ∷ ends) others s t first of_ends of_others same = absurd of_ends.1

-- ---- the whole

summary_is : (config : Config) (closed : Closed) (n ticks : ℕ) → load_text config closed n ticks
    ≡ codes "load " ++ (decimal n ++ (codes " history " ++ (decimal (load_versions closed.histories) ++ (codes " ticks " ++ (decimal ticks
    ++ (10 ∷ (load_reader_line config.dataset (readers_of config.readgroup) closed.readers ++ end_line)))))))
unfolding load_text
summary_is config closed n ticks = simp append_assoc

reader_first : built_in_reader.dataset ≡ 0
unfolding built_in_reader
reader_first = refl

pub summary_tells : (one other : Closed) (n ticks : ℕ) → IsReported built_in_config one → IsReported built_in_config other
    → IsNumber (load_versions one.histories) → IsNumber (load_versions other.histories)
    → load_text built_in_config one n ticks ≡ load_text built_in_config other n ticks → AreSummedAlike one other
unfolding built_in_config built_in_read_group
summary_tells one other n ticks is its in_one in_other same =
    let left = load_reader_line sets (built_in_reader ∷ []) one.readers ++ end_line in
    let right = load_reader_line sets (built_in_reader ∷ []) other.readers ++ end_line in
    let ticked = codes " ticks " ++ (decimal ticks ++ (10 ∷ left)) in
    let again = codes " ticks " ++ (decimal ticks ++ (10 ∷ right)) in
    let counted = codes " history " ++ (decimal (load_versions one.histories) ++ ticked) in
    let counting = codes " history " ++ (decimal (load_versions other.histories) ++ again) in
    let sized = append_cancel_left (decimal n) counted counting
    (append_cancel_left (codes "load ") (decimal n ++ counted) (decimal n ++ counting)
    (sym (summary_is built_in_config one n ticks) ∙ same ∙ summary_is built_in_config other n ticks)) in
    let versions = number_cut (load_versions one.histories) (load_versions other.histories) ticked again in_one in_other refl refl
    (append_cancel_left (codes " history ") (decimal (load_versions one.histories) ++ ticked) (decimal (load_versions other.histories) ++ again) sized) in
    let behind = append_cancel_left (decimal ticks) (10 ∷ left) (10 ∷ right)
    (append_cancel_left (codes " ticks ") (decimal ticks ++ (10 ∷ left)) (decimal ticks ++ (10 ∷ right)) versions.1) in
    let lines = line_cut built_in_reader one.readers other.readers end_line end_line reader_first is.closed_of.rows its.closed_of.rows (tail_same 10 10 left right behind) in
    record { versions = versions.0; readers = lines.0 }
