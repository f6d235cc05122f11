-- Sessions that are told alike have the same report.
use Rattle.std.proofs.Common.{◌≡◌, ℕ, List, [], ◌∷◌, ◌++◌, length, take, drop, zero, suc, refl, ap, ◌∙◌}
use Rattle.std.specs.Prelude.{Option, Some, None}
use Rattle.std.specs.List.{AllZip}
use Rattle.dataset_meta.specs.Metas.{MetaData}
use Rattle.pubsub_model.specs.declared.reading.Why.{Why}
use Rattle.ps_config.specs.declared.parts.Config.{Config}
use Rattle.ps_config.specs.declared.parts.ReadGroupPart.{ReadGroupPart}
use Rattle.ps_config.specs.declared.parts.ReaderPart.{ReaderPart}
use Rattle.ps_report.specs.declared.closed.Closed.{Closed}
use Rattle.ps_report.specs.declared.closed.HeldEnd.{HeldEnd}
use Rattle.ps_report.specs.declared.closed.ReaderEnd.{ReaderEnd}
use Rattle.ps_report.specs.declared.closed.ReadGroupEnd.{ReadGroupEnd}
use Rattle.ps_report.specs.Lines.{feed, component_text, read_group_line, gaps_line, link_line}
use Rattle.ps_report.specs.Reports.{held_as, reader_line, history_lines, group_lines, reader_lines, read_group_lines, watch_lines, end_line, report_text}
use Rattle.std.specs.Prelude.{codes}
use Rattle.report_laws.specs.Alike.{AreReadersAlike, AreToldAlike}

-- the reason isn't told of a reader that holds a row
held_alike : (sets : List MetaData) (part : ReaderPart) (why because : Why) (held : Option HeldEnd) → (held ≡ None → why ≡ because) → held_as sets part why held ≡ held_as sets part because held
unfolding held_as
held_alike sets part why because None waits = ap (λ w. held_as sets part w None) (waits refl)
held_alike sets part why because (Some held) waits = refl

abbrev reader_text : List MetaData → ReaderPart → ReaderEnd → List ℕ
reader_text sets part end = reader_line sets part end ++ gaps_line part.name end.breaks end.recent.items

line_alike : (sets : List MetaData) (part : ReaderPart) (one other : ReaderEnd) → AreReadersAlike one other → reader_line sets part one ≡ reader_line sets part other
unfolding reader_line
line_alike sets part one other a =
    ap (λ state. component_text (codes "reader") part.name state ++ held_as sets part one.why one.held ++ feed) a.state
    ∙ ap (λ text. component_text (codes "reader") part.name other.state ++ text ++ feed)
    (held_alike sets part one.why other.why one.held a.waits ∙ ap (held_as sets part other.why) a.held)

reader_alike : (sets : List MetaData) (part : ReaderPart) (one other : ReaderEnd) → AreReadersAlike one other → reader_text sets part one ≡ reader_text sets part other
reader_alike sets part one other a =
    ap (λ line. line ++ gaps_line part.name one.breaks one.recent.items) (line_alike sets part one other a)
    ∙ ap (λ n. reader_line sets part other ++ gaps_line part.name n one.recent.items) a.breaks
    ∙ ap (λ l. reader_line sets part other ++ gaps_line part.name other.breaks l) a.recent

readers_alike : (sets : List MetaData) (parts : List ReaderPart) (ones others : List ReaderEnd) → AllZip AreReadersAlike ones others → reader_lines sets parts ones ≡ reader_lines sets parts others
readers_alike sets [] ones others alike = refl
readers_alike sets (part ∷ parts) [] [] alike = refl
readers_alike sets (part ∷ parts) [] (y ∷ others) alike = absurd alike
readers_alike sets (part ∷ parts) (x ∷ ones) [] alike = absurd alike
readers_alike sets (part ∷ parts) (x ∷ ones) (y ∷ others) alike =
    ap (λ text. text ++ reader_lines sets parts ones) (reader_alike sets part x y alike.0)
    ∙ ap (λ text. reader_text sets part y ++ text) (readers_alike sets parts ones others alike.1)

front_alike : (n : ℕ) (ones others : List ReaderEnd) → AllZip AreReadersAlike ones others → AllZip AreReadersAlike (take n ones) (take n others)
front_alike zero ones others alike = tt
front_alike (suc n) [] [] alike = tt
front_alike (suc n) [] (y ∷ others) alike = absurd alike
front_alike (suc n) (x ∷ ones) [] alike = absurd alike
front_alike (suc n) (x ∷ ones) (y ∷ others) alike = (alike.0, front_alike n ones others alike.1)

behind_alike : (n : ℕ) (ones others : List ReaderEnd) → AllZip AreReadersAlike ones others → AllZip AreReadersAlike (drop n ones) (drop n others)
behind_alike zero ones others alike = alike
behind_alike (suc n) [] [] alike = tt
behind_alike (suc n) [] (y ∷ others) alike = absurd alike
behind_alike (suc n) (x ∷ ones) [] alike = absurd alike
behind_alike (suc n) (x ∷ ones) (y ∷ others) alike = behind_alike n ones others alike.1

groups_alike : (sets : List MetaData) (parts : List ReadGroupPart) (ends : List ReadGroupEnd) (ones others : List ReaderEnd) → AllZip AreReadersAlike ones others
    → read_group_lines sets parts ends ones ≡ read_group_lines sets parts ends others
groups_alike sets [] ends ones others alike = refl
groups_alike sets (part ∷ parts) [] ones others alike = refl
groups_alike sets (part ∷ parts) (end ∷ ends) ones others alike =
    let n = length part.reader in
    ap (λ text. read_group_line part.name end ++ text ++ read_group_lines sets parts ends (drop n ones))
    (readers_alike sets part.reader (take n ones) (take n others) (front_alike n ones others alike))
    ∙ ap (λ text. read_group_line part.name end ++ reader_lines sets part.reader (take n others) ++ text)
    (groups_alike sets parts ends (drop n ones) (drop n others) (behind_alike n ones others alike))

pub report_of : (config : Config) (one other : Closed) → AreToldAlike one other → report_text config one ≡ report_text config other
unfolding report_text
report_of config one other a =
    let histories = history_lines config.dataset one.histories in
    let same_histories : histories ≡ history_lines config.dataset other.histories = ap (history_lines config.dataset) a.histories in
    let groups : group_lines config.group one.groups one.writers ≡ group_lines config.group other.groups other.writers =
    ap (λ ends. group_lines config.group ends one.writers) a.groups ∙ ap (group_lines config.group other.groups) a.writers in
    let read_groups : read_group_lines config.dataset config.readgroup one.read_groups one.readers ≡ read_group_lines config.dataset config.readgroup other.read_groups other.readers =
    groups_alike config.dataset config.readgroup one.read_groups one.readers other.readers a.readers
    ∙ ap (λ ends. read_group_lines config.dataset config.readgroup ends other.readers) a.read_groups in
    let watches : watch_lines config one.watches ≡ watch_lines config other.watches = ap (watch_lines config) a.watches in
    let link : link_line one.link ≡ link_line other.link = ap link_line a.link in
    joined histories (history_lines config.dataset other.histories) (group_lines config.group one.groups one.writers) (group_lines config.group other.groups other.writers)
    (read_group_lines config.dataset config.readgroup one.read_groups one.readers) (read_group_lines config.dataset config.readgroup other.read_groups other.readers)
    (watch_lines config one.watches) (watch_lines config other.watches) (link_line one.link) (link_line other.link) end_line same_histories groups read_groups watches link
  where
    joined : (a b c d e f g h i j k : List ℕ) → a ≡ b → c ≡ d → e ≡ f → g ≡ h → i ≡ j → a ++ c ++ e ++ g ++ i ++ k ≡ b ++ d ++ f ++ h ++ j ++ k
    joined a b c d e f g h i j k ab cd ef gh ij = rw (ab, cd, ef, gh, ij) refl
