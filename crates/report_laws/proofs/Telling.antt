-- A whole report, line by line.
use Rattle.std.proofs.Common.{◌≡◌, ℕ, ◌<◌, List, ◌++◌, length, sym, ap, ◌∙◌, append_assoc}
use Rattle.std.specs.List.{AllZip, AllByRecursion}
use Rattle.std.proofs.lemmas.List.{append_cancel_right}
use Rattle.std.proofs.lemmas.List.Elements.{recursion_from_All}
use Rattle.dataset_meta.specs.Metas.{MetaData}
use Rattle.ps_config.specs.declared.parts.Config.{Config}
use Rattle.ps_config.specs.declared.parts.GroupPart.{GroupPart}
use Rattle.ps_config.specs.declared.parts.ReadGroupPart.{ReadGroupPart}
use Rattle.ps_report.specs.declared.closed.Closed.{Closed}
use Rattle.ps_report.specs.declared.closed.History.{History}
use Rattle.ps_report.specs.Conditions.{IsClosedOf, HoldsRow, writers_of, readers_of}
use Rattle.ps_report.specs.Lines.{history_line, link_line}
use Rattle.ps_report.specs.Reports.{history_lines, group_lines, read_group_lines, watch_lines, end_line, report_text}
use Rattle.report_laws.specs.Alike.{AreToldAlike}
use Rattle.report_laws.specs.Numbers.{IsNumber, HistoryHasNumbers, GroupHasNumbers, WriterHasNumbers, ReadGroupHasNumbers, ReaderHasNumbers, WatchHasNumbers, HasNumbers}
use Rattle.report_laws.specs.ReaderNames.{NamesReaders}
use Rattle.report_laws.proofs.Groups.{ReaderHas, WriterHas, groups_cut, read_groups_cut}
use Rattle.report_laws.proofs.Lines.{history_cut, link_cut, link_begins}
use Rattle.report_laws.proofs.Parts.{Tells, parts_cut, same_all, with_parts, and_ends}
use Rattle.report_laws.proofs.Watches.{WatchHas, watches_cut, watches_have}

-- ---- histories

abbrev history_text : MetaData → History → List ℕ
history_text set history = history_line set.name history.threads

abbrev HistoryHas : MetaData → History → Type 0
HistoryHas set history = HistoryHasNumbers history

abbrev SameHistory : History → History → Type 0
SameHistory x y = x ≡ y

history_tells : Tells history_text HistoryHas SameHistory
history_tells set x y s t in_x in_y same =
    let parts = history_cut set.name x.threads y.threads s t (recursion_from_All IsNumber x.threads in_x) (recursion_from_All IsNumber y.threads in_y) same in
    (ap (λ l. let h : History = record { threads = l } in h) parts.0, parts.1)

-- ---- the whole

six : (a b c d e f : List ℕ) → a ++ b ++ c ++ d ++ e ++ f ≡ a ++ (b ++ (c ++ (d ++ (e ++ f))))
six a b c d e f = simp append_assoc

report_is : (config : Config) (closed : Closed) → report_text config closed
    ≡ history_lines config.dataset closed.histories ++ (group_lines config.group closed.groups closed.writers
    ++ (read_group_lines config.dataset config.readgroup closed.read_groups closed.readers
    ++ (watch_lines config closed.watches ++ (link_line closed.link ++ end_line))))
unfolding report_text
report_is config closed =
    six (history_lines config.dataset closed.histories) (group_lines config.group closed.groups closed.writers)
    (read_group_lines config.dataset config.readgroup closed.read_groups closed.readers) (watch_lines config closed.watches) (link_line closed.link) end_line

-- the lines before the end
abbrev pub begun_text : Config → Closed → List ℕ
begun_text config closed =
    history_lines config.dataset closed.histories
    ++ group_lines config.group closed.groups closed.writers
    ++ read_group_lines config.dataset config.readgroup closed.read_groups closed.readers
    ++ watch_lines config closed.watches
    ++ link_line closed.link

begun_is : (config : Config) (closed : Closed) (s : List ℕ) → begun_text config closed ++ s
    ≡ history_lines config.dataset closed.histories ++ (group_lines config.group closed.groups closed.writers
    ++ (read_group_lines config.dataset config.readgroup closed.read_groups closed.readers
    ++ (watch_lines config closed.watches ++ (link_line closed.link ++ s))))
begun_is config closed s =
    six (history_lines config.dataset closed.histories) (group_lines config.group closed.groups closed.writers)
    (read_group_lines config.dataset config.readgroup closed.read_groups closed.readers) (watch_lines config closed.watches) (link_line closed.link) s

-- what stands before the end is this
pub begins_so : (config : Config) (closed : Closed) (front : List ℕ) → front ++ end_line ≡ report_text config closed → front ≡ begun_text config closed
begins_so config closed front is =
    append_cancel_right front (begun_text config closed) end_line (is ∙ report_is config closed ∙ sym (begun_is config closed end_line))

-- what a closed session of a configuration has
record Has (config : Config) (closed : Closed) : Type 0 where
  histories : AllZip HistoryHas config.dataset closed.histories
  groups : AllZip (λ (part : GroupPart) end. GroupHasNumbers end) config.group closed.groups
  writers : AllZip WriterHas (writers_of config.group) closed.writers
  read_groups : AllZip (λ (part : ReadGroupPart) end. ReadGroupHasNumbers end) config.readgroup closed.read_groups
  readers : AllZip (ReaderHas config.dataset) (readers_of config.readgroup) closed.readers
  watches : AllByRecursion (WatchHas config) closed.watches

has : (config : Config) (closed : Closed) → HasNumbers closed → IsClosedOf config closed → Has config closed
has config closed numbers of = record {
  histories = with_parts HistoryHasNumbers config.dataset closed.histories of.histories (recursion_from_All HistoryHasNumbers closed.histories numbers.histories);
  groups = with_parts GroupHasNumbers config.group closed.groups of.groups (recursion_from_All GroupHasNumbers closed.groups numbers.groups);
  writers = with_parts WriterHasNumbers (writers_of config.group) closed.writers of.writers (recursion_from_All WriterHasNumbers closed.writers numbers.writers);
  read_groups = with_parts ReadGroupHasNumbers config.readgroup closed.read_groups of.read_groups (recursion_from_All ReadGroupHasNumbers closed.read_groups numbers.read_groups);
  readers = and_ends (HoldsRow config.dataset) ReaderHasNumbers (readers_of config.readgroup) closed.readers of.rows (recursion_from_All ReaderHasNumbers closed.readers numbers.readers);
  watches = watches_have config closed.watches (recursion_from_All (λ end. end.reader < length (readers_of config.readgroup)) closed.watches of.watches)
      (recursion_from_All WatchHasNumbers closed.watches numbers.watches);
}

-- whatever follows
pub begun_tells : (config : Config) (one other : Closed) (s t : List ℕ) → NamesReaders config → HasNumbers one → HasNumbers other
    → IsClosedOf config one → IsClosedOf config other
    → begun_text config one ++ s ≡ begun_text config other ++ t → AreToldAlike one other × (s ≡ t)
begun_tells config one other s t names in_one in_other of_one of_other same =
    let left = has config one in_one of_one in
    let right = has config other in_other of_other in
    let link = link_line one.link ++ s in
    let another = link_line other.link ++ t in
    let watched = watch_lines config one.watches ++ link in
    let seen = watch_lines config other.watches ++ another in
    let read = read_group_lines config.dataset config.readgroup one.read_groups one.readers ++ watched in
    let reading = read_group_lines config.dataset config.readgroup other.read_groups other.readers ++ seen in
    let written = group_lines config.group one.groups one.writers ++ read in
    let writing = group_lines config.group other.groups other.writers ++ reading in
    let histories = parts_cut history_text HistoryHas SameHistory history_tells config.dataset one.histories other.histories written writing left.histories right.histories
    (sym (begun_is config one s) ∙ same ∙ begun_is config other t) in
    let groups = groups_cut config.group one.groups other.groups one.writers other.writers read reading left.groups right.groups left.writers right.writers histories.1 in
    let read_groups = read_groups_cut config.dataset config.readgroup one.read_groups other.read_groups one.readers other.readers watched seen
    left.read_groups right.read_groups left.readers right.readers groups.1 in
    let watches = watches_cut config one.watches other.watches link another names left.watches right.watches (link_begins one.link s) (link_begins other.link t) read_groups.1 in
    let linked = link_cut one.link other.link s t in_one.link in_other.link watches.1 in (
      record {
        histories = same_all one.histories other.histories histories.0;
        groups = groups.0.0;
        writers = groups.0.1;
        read_groups = read_groups.0.0;
        readers = read_groups.0.1;
        watches = watches.0;
        link = linked.0;
      },
      linked.1,
    )

pub report_tells : (config : Config) (one other : Closed) → NamesReaders config → HasNumbers one → HasNumbers other
    → IsClosedOf config one → IsClosedOf config other
    → report_text config one ≡ report_text config other → AreToldAlike one other
report_tells config one other names in_one in_other of_one of_other same =
    (begun_tells config one other end_line end_line names in_one in_other of_one of_other
    (begun_is config one end_line ∙ sym (report_is config one) ∙ same ∙ report_is config other ∙ sym (begun_is config other end_line))).0
