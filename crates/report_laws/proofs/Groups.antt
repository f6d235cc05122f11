-- Lines of groups, each followed by those of its writers or readers.
use Rattle.std.proofs.Common.{◌≡◌, ℕ, List, [], ◌∷◌, ◌++◌, length, take, drop, refl, sym, ap, ◌∙◌, append_assoc}
use Rattle.std.specs.Prelude.{codes}
use Rattle.std.specs.List.{AllZip}
use Rattle.std.proofs.lemmas.List.{take-append-drop}
use Rattle.std.proofs.lemmas.List.Elements.{recursion_from_All}
use Rattle.dataset_meta.specs.Metas.{MetaData}
use Rattle.ps_config.specs.declared.parts.GroupPart.{GroupPart}
use Rattle.ps_config.specs.declared.parts.ReadGroupPart.{ReadGroupPart}
use Rattle.ps_config.specs.declared.parts.ReaderPart.{ReaderPart}
use Rattle.ps_config.specs.declared.parts.WriterPart.{WriterPart}
use Rattle.ps_report.specs.declared.closed.GroupEnd.{GroupEnd}
use Rattle.ps_report.specs.declared.closed.ReadGroupEnd.{ReadGroupEnd}
use Rattle.ps_report.specs.declared.closed.ReaderEnd.{ReaderEnd}
use Rattle.ps_report.specs.declared.closed.WriterEnd.{WriterEnd}
use Rattle.ps_report.specs.Conditions.{HoldsRow, writers_of, readers_of}
use Rattle.ps_report.specs.Lines.{component_text, group_line, writer_line, read_group_line, gaps_line}
use Rattle.ps_report.specs.Reports.{held_as, reader_line, writer_lines, group_lines, reader_lines, read_group_lines}
use Rattle.ps_report.proofs.Pairs.{zip_front, zip_behind}
use Rattle.report_laws.specs.Alike.{AreReadersAlike}
use Rattle.report_laws.specs.Numbers.{GroupHasNumbers, WriterHasNumbers, ReadGroupHasNumbers, ReaderHasNumbers}
use Rattle.report_laws.proofs.Entries.{BreakHasNumbers}
use Rattle.report_laws.proofs.Held.{held_cut, held_stop}
use Rattle.report_laws.proofs.Lines.{component_cut, group_cut, writer_cut, read_group_cut, gaps_cut}
use Rattle.report_laws.proofs.Parts.{Tells, parts_cut, same_all, zip_join}

three : (a b c s : List ℕ) → a ++ b ++ c ++ s ≡ a ++ (b ++ (c ++ s))
three a b c s = simp append_assoc

-- ---- groups and writers

abbrev writer_text : WriterPart → WriterEnd → List ℕ
writer_text part end = writer_line part.name end

abbrev pub WriterHas : WriterPart → WriterEnd → Type 0
WriterHas part end = WriterHasNumbers end

abbrev SameWriter : WriterEnd → WriterEnd → Type 0
SameWriter x y = x ≡ y

writer_tells : Tells writer_text WriterHas SameWriter
writer_tells part x y s t in_x in_y same = writer_cut part.name x y s t in_x in_y same

joined : {B : Type 0} (n : ℕ) (xs ys : List B) → take n xs ≡ take n ys → drop n xs ≡ drop n ys → xs ≡ ys
joined n xs ys front behind = sym (take-append-drop n xs) ∙ ap (λ l. l ++ drop n xs) front ∙ ap (λ l. take n ys ++ l) behind ∙ take-append-drop n ys

pub groups_cut : (parts : List GroupPart) (ends others : List GroupEnd) (writers twins : List WriterEnd) (s t : List ℕ)
    → AllZip (λ (part : GroupPart) end. GroupHasNumbers end) parts ends → AllZip (λ (part : GroupPart) end. GroupHasNumbers end) parts others
    → AllZip WriterHas (writers_of parts) writers → AllZip WriterHas (writers_of parts) twins
    → group_lines parts ends writers ++ s ≡ group_lines parts others twins ++ t → ((ends ≡ others) × (writers ≡ twins)) × (s ≡ t)
groups_cut [] [] [] [] [] s t in_e in_o in_w in_t same = ((refl, refl), same)
groups_cut [] [] [] [] (w ∷ twins) s t in_e in_o in_w in_t same = absurd in_t
groups_cut [] [] [] (w ∷ writers) twins s t in_e in_o in_w in_t same = absurd in_w
groups_cut [] [] (o ∷ others) writers twins s t in_e in_o in_w in_t same = absurd in_o
groups_cut [] (e ∷ ends) others writers twins s t in_e in_o in_w in_t same = absurd in_e
groups_cut (part ∷ parts) [] others writers twins s t in_e in_o in_w in_t same = absurd in_e
groups_cut (part ∷ parts) (e ∷ ends) [] writers twins s t in_e in_o in_w in_t same = absurd in_o
groups_cut (part ∷ parts) (e ∷ ends) (o ∷ others) writers twins s t in_e in_o in_w in_t same =
    let n = length part.writer in
    let left = group_lines parts ends (drop n writers) in
    let right = group_lines parts others (drop n twins) in
    let mine = writer_lines part.writer (take n writers) in
    let theirs = writer_lines part.writer (take n twins) in
    let first = group_cut part.name e o (mine ++ (left ++ s)) (theirs ++ (right ++ t)) in_e.0 in_o.0
    (sym (three (group_line part.name e) mine left s) ∙ same ∙ three (group_line part.name o) theirs right t) in
    let second = parts_cut writer_text WriterHas SameWriter writer_tells part.writer (take n writers) (take n twins) (left ++ s) (right ++ t)
    (zip_front WriterHas part.writer (writers_of parts) writers in_w) (zip_front WriterHas part.writer (writers_of parts) twins in_t) first.1 in
    let rest = groups_cut parts ends others (drop n writers) (drop n twins) s t in_e.1 in_o.1
    (zip_behind WriterHas part.writer (writers_of parts) writers in_w) (zip_behind WriterHas part.writer (writers_of parts) twins in_t) second.1 in
    let head : e ≡ o = first.0 in
    let tail : ends ≡ others = rest.0.0 in
    ((cc, joined n writers twins (same_all (take n writers) (take n twins) second.0) rest.0.1), rest.1)

-- ---- readers

abbrev reader_text : List MetaData → ReaderPart → ReaderEnd → List ℕ
reader_text sets part end = reader_line sets part end ++ gaps_line part.name end.breaks end.recent.items

abbrev pub ReaderHas : List MetaData → ReaderPart → ReaderEnd → Type 0
ReaderHas sets part end = HoldsRow sets part end × ReaderHasNumbers end

reader_is : (sets : List MetaData) (part : ReaderPart) (end : ReaderEnd) (s : List ℕ) → reader_line sets part end ++ s
    ≡ component_text (codes "reader") part.name end.state ++ (held_as sets part end.why end.held ++ (10 ∷ s))
unfolding reader_line
reader_is sets part end s = simp append_assoc

reader_tells : (sets : List MetaData) → Tells (reader_text sets) (ReaderHas sets) AreReadersAlike
reader_tells sets part x y s t in_x in_y same =
    let gaps_x = gaps_line part.name x.breaks x.recent.items ++ s in
    let gaps_y = gaps_line part.name y.breaks y.recent.items ++ t in
    let left = held_as sets part x.why x.held ++ (10 ∷ gaps_x) in
    let right = held_as sets part y.why y.held ++ (10 ∷ gaps_y) in
    let stated = component_cut (codes "reader") part.name x.state y.state left right (held_stop sets part x.why x.held (10 ∷ gaps_x)) (held_stop sets part y.why y.held (10 ∷ gaps_y))
    (sym (reader_is sets part x gaps_x) ∙ sym (append_assoc (reader_line sets part x) (gaps_line part.name x.breaks x.recent.items) s) ∙ same
    ∙ append_assoc (reader_line sets part y) (gaps_line part.name y.breaks y.recent.items) t ∙ reader_is sets part y gaps_y) in
    let held = held_cut sets part x.why y.why x.held y.held gaps_x gaps_y in_x.0 in_y.0 in_x.1.held in_y.1.held stated.1 in
    let broken = gaps_cut part.name x.breaks y.breaks x.recent.items y.recent.items s t in_x.1.breaks in_y.1.breaks
    (recursion_from_All BreakHasNumbers x.recent.items in_x.1.recent) (recursion_from_All BreakHasNumbers y.recent.items in_y.1.recent) held.1 in
    (record { state = stated.0; held = held.0.0; waits = held.0.1; breaks = broken.0.0; recent = broken.0.1 }, broken.1)

pub read_groups_cut : (sets : List MetaData) (parts : List ReadGroupPart) (ends others : List ReadGroupEnd) (readers twins : List ReaderEnd) (s t : List ℕ)
    → AllZip (λ (part : ReadGroupPart) end. ReadGroupHasNumbers end) parts ends → AllZip (λ (part : ReadGroupPart) end. ReadGroupHasNumbers end) parts others
    → AllZip (ReaderHas sets) (readers_of parts) readers → AllZip (ReaderHas sets) (readers_of parts) twins
    → read_group_lines sets parts ends readers ++ s ≡ read_group_lines sets parts others twins ++ t → ((ends ≡ others) × AllZip AreReadersAlike readers twins) × (s ≡ t)
read_groups_cut sets [] [] [] [] [] s t in_e in_o in_r in_t same = ((refl, tt), same)
read_groups_cut sets [] [] [] [] (w ∷ twins) s t in_e in_o in_r in_t same = absurd in_t
read_groups_cut sets [] [] [] (w ∷ readers) twins s t in_e in_o in_r in_t same = absurd in_r
read_groups_cut sets [] [] (o ∷ others) readers twins s t in_e in_o in_r in_t same = absurd in_o
read_groups_cut sets [] (e ∷ ends) others readers twins s t in_e in_o in_r in_t same = absurd in_e
read_groups_cut sets (part ∷ parts) [] others readers twins s t in_e in_o in_r in_t same = absurd in_e
read_groups_cut sets (part ∷ parts) (e ∷ ends) [] readers twins s t in_e in_o in_r in_t same = absurd in_o
read_groups_cut sets (part ∷ parts) (e ∷ ends) (o ∷ others) readers twins s t in_e in_o in_r in_t same =
    let n = length part.reader in
    let left = read_group_lines sets parts ends (drop n readers) in
    let right = read_group_lines sets parts others (drop n twins) in
    let mine = reader_lines sets part.reader (take n readers) in
    let theirs = reader_lines sets part.reader (take n twins) in
    let first = read_group_cut part.name e o (mine ++ (left ++ s)) (theirs ++ (right ++ t)) in_e.0 in_o.0
    (sym (three (read_group_line part.name e) mine left s) ∙ same ∙ three (read_group_line part.name o) theirs right t) in
    let second = parts_cut (reader_text sets) (ReaderHas sets) AreReadersAlike (reader_tells sets) part.reader (take n readers) (take n twins) (left ++ s) (right ++ t)
    (zip_front (ReaderHas sets) part.reader (readers_of parts) readers in_r) (zip_front (ReaderHas sets) part.reader (readers_of parts) twins in_t) first.1 in
    let rest = read_groups_cut sets parts ends others (drop n readers) (drop n twins) s t in_e.1 in_o.1
    (zip_behind (ReaderHas sets) part.reader (readers_of parts) readers in_r) (zip_behind (ReaderHas sets) part.reader (readers_of parts) twins in_t) second.1 in
    let head : e ≡ o = first.0 in
    let tail : ends ≡ others = rest.0.0 in
    ((cc, zip_join AreReadersAlike n readers twins second.0 rest.0.1), rest.1)
