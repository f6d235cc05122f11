-- The lines of groups, each followed by those of its writers or readers.
use Rattle.std.proofs.Common.{◌≡◌, ℕ, ◌+◌, ◌-◌, ◌<◌, ◌≤◌, List, ◌∷◌, ◌++◌, length, get_or, take, drop, sym, ap, ◌∙◌, subst, arith, append_assoc}
use Rattle.std.proofs.lemmas.List.{length-append, length-drop}
use Rattle.dataset_meta.specs.Metas.{MetaData}
use Rattle.ps_config.specs.declared.parts.GroupPart.{GroupPart}
use Rattle.ps_config.specs.declared.parts.ReadGroupPart.{ReadGroupPart}
use Rattle.ps_report.specs.declared.closed.GroupEnd.{GroupEnd}
use Rattle.ps_report.specs.declared.closed.ReadGroupEnd.{ReadGroupEnd}
use Rattle.ps_report.specs.declared.closed.ReaderEnd.{ReaderEnd}
use Rattle.ps_report.specs.declared.closed.WriterEnd.{WriterEnd}
use Rattle.ps_report.specs.Conditions.{writers_of, readers_of, HoldsRow, HoldRows}
use Rattle.ps_report.specs.Lines.{group_line, read_group_line}
use Rattle.ps_report.specs.Reports.{writer_lines, group_lines, reader_lines, read_group_lines}
use Rattle.ps_report.proofs.Pairs.{from_place, zip_length, zip_front, zip_behind}

pub writers_from : (parts : List GroupPart) (i : ℕ) (part : GroupPart) → i < length parts → part ≡ get_or parts i part
    → writers_of (drop i parts) ≡ part.writer ++ writers_of (drop (i + 1) parts)
writers_from parts i part inside is = ap writers_of (from_place parts i part inside is)

pub readers_from : (parts : List ReadGroupPart) (i : ℕ) (part : ReadGroupPart) → i < length parts → part ≡ get_or parts i part
    → readers_of (drop i parts) ≡ part.reader ++ readers_of (drop (i + 1) parts)
readers_from parts i part inside is = ap readers_of (from_place parts i part inside is)

groups_from : (parts : List GroupPart) (ends : List GroupEnd) (rest : List WriterEnd) (i : ℕ) (part : GroupPart) (end : GroupEnd)
    → i < length parts → i < length ends → part ≡ get_or parts i part → end ≡ get_or ends i end
    → group_lines (drop i parts) (drop i ends) rest
    ≡ group_line part.name end ++ writer_lines part.writer (take (length part.writer) rest)
    ++ group_lines (drop (i + 1) parts) (drop (i + 1) ends) (drop (length part.writer) rest)
groups_from parts ends rest i part end in_parts in_ends is_part is_end =
    ap (λ l. group_lines l (drop i ends) rest) (from_place parts i part in_parts is_part)
    ∙ ap (λ l. group_lines (part ∷ drop (i + 1) parts) l rest) (from_place ends i end in_ends is_end)

-- what is written after a group, and what is still to be written
pub groups_more : (parts : List GroupPart) (ends : List GroupEnd) (rest : List WriterEnd) (i : ℕ) (part : GroupPart) (end : GroupEnd) (old new all : List ℕ)
    → i < length parts → i < length ends → part ≡ get_or parts i part → end ≡ get_or ends i end
    → old ++ group_lines (drop i parts) (drop i ends) rest ≡ all
    → new ≡ (old ++ group_line part.name end) ++ writer_lines part.writer (take (length part.writer) rest)
    → new ++ group_lines (drop (i + 1) parts) (drop (i + 1) ends) (drop (length part.writer) rest) ≡ all
groups_more parts ends rest i part end old new all in_parts in_ends is_part is_end before now =
    let tail = group_lines (drop (i + 1) parts) (drop (i + 1) ends) (drop (length part.writer) rest) in
    let mine = writer_lines part.writer (take (length part.writer) rest) in
    let line = group_line part.name end in
    ap (λ l. l ++ tail) now ∙ append_assoc (old ++ line) mine tail ∙ append_assoc old line (mine ++ tail)
    ∙ ap (λ l. old ++ l) (sym (append_assoc line mine tail))
    ∙ ap (λ l. old ++ l) (sym (groups_from parts ends rest i part end in_parts in_ends is_part is_end)) ∙ before

-- the writers that are left
pub writers_left : (parts : List GroupPart) (rest : List WriterEnd) (i : ℕ) (part : GroupPart)
    → i < length parts → part ≡ get_or parts i part → length rest ≡ length (writers_of (drop i parts))
    → (length part.writer ≤ length rest) × (length (drop (length part.writer) rest) ≡ length (writers_of (drop (i + 1) parts)))
writers_left parts rest i part inside is same =
    let whole : length (writers_of (drop i parts)) ≡ length part.writer + length (writers_of (drop (i + 1) parts)) =
    ap length (writers_from parts i part inside is) ∙ length-append part.writer (writers_of (drop (i + 1) parts)) in
    let left : length (drop (length part.writer) rest) ≡ length rest - length part.writer = length-drop (length part.writer) rest in
    (omega arith, omega arith)

read_groups_from : (sets : List MetaData) (parts : List ReadGroupPart) (ends : List ReadGroupEnd) (rest : List ReaderEnd) (i : ℕ) (part : ReadGroupPart) (end : ReadGroupEnd)
    → i < length parts → i < length ends → part ≡ get_or parts i part → end ≡ get_or ends i end
    → read_group_lines sets (drop i parts) (drop i ends) rest
    ≡ read_group_line part.name end ++ reader_lines sets part.reader (take (length part.reader) rest)
    ++ read_group_lines sets (drop (i + 1) parts) (drop (i + 1) ends) (drop (length part.reader) rest)
read_groups_from sets parts ends rest i part end in_parts in_ends is_part is_end =
    ap (λ l. read_group_lines sets l (drop i ends) rest) (from_place parts i part in_parts is_part)
    ∙ ap (λ l. read_group_lines sets (part ∷ drop (i + 1) parts) l rest) (from_place ends i end in_ends is_end)

pub read_groups_more : (sets : List MetaData) (parts : List ReadGroupPart) (ends : List ReadGroupEnd) (rest : List ReaderEnd) (i : ℕ) (part : ReadGroupPart) (end : ReadGroupEnd) (old new all : List ℕ)
    → i < length parts → i < length ends → part ≡ get_or parts i part → end ≡ get_or ends i end
    → old ++ read_group_lines sets (drop i parts) (drop i ends) rest ≡ all
    → new ≡ (old ++ read_group_line part.name end) ++ reader_lines sets part.reader (take (length part.reader) rest)
    → new ++ read_group_lines sets (drop (i + 1) parts) (drop (i + 1) ends) (drop (length part.reader) rest) ≡ all
read_groups_more sets parts ends rest i part end old new all in_parts in_ends is_part is_end before now =
    let tail = read_group_lines sets (drop (i + 1) parts) (drop (i + 1) ends) (drop (length part.reader) rest) in
    let mine = reader_lines sets part.reader (take (length part.reader) rest) in
    let line = read_group_line part.name end in
    ap (λ l. l ++ tail) now ∙ append_assoc (old ++ line) mine tail ∙ append_assoc old line (mine ++ tail)
    ∙ ap (λ l. old ++ l) (sym (append_assoc line mine tail))
    ∙ ap (λ l. old ++ l) (sym (read_groups_from sets parts ends rest i part end in_parts in_ends is_part is_end)) ∙ before

-- the readers that are left, and those of the group
pub readers_left : (sets : List MetaData) (parts : List ReadGroupPart) (rest : List ReaderEnd) (i : ℕ) (part : ReadGroupPart)
    → i < length parts → part ≡ get_or parts i part → HoldRows sets (readers_of (drop i parts)) rest
    → HoldRows sets part.reader (take (length part.reader) rest) × HoldRows sets (readers_of (drop (i + 1) parts)) (drop (length part.reader) rest)
readers_left sets parts rest i part inside is rows =
    let split : HoldRows sets (part.reader ++ readers_of (drop (i + 1) parts)) rest = subst (λ l. HoldRows sets l rest) (readers_from parts i part inside is) rows in
    (zip_front (HoldsRow sets) part.reader (readers_of (drop (i + 1) parts)) rest split, zip_behind (HoldsRow sets) part.reader (readers_of (drop (i + 1) parts)) rest split)

-- the group's own are among them
pub readers_room : (sets : List MetaData) (parts : List ReadGroupPart) (rest : List ReaderEnd) (i : ℕ) (part : ReadGroupPart)
    → i < length parts → part ≡ get_or parts i part → HoldRows sets (readers_of (drop i parts)) rest → length part.reader ≤ length rest
readers_room sets parts rest i part inside is rows =
    let same : length rest ≡ length (readers_of (drop i parts)) = zip_length (HoldsRow sets) (readers_of (drop i parts)) rest rows in
    let whole : length (readers_of (drop i parts)) ≡ length part.reader + length (readers_of (drop (i + 1) parts)) =
    ap length (readers_from parts i part inside is) ∙ length-append part.reader (readers_of (drop (i + 1) parts)) in
    omega arith
