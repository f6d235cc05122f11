-- The session of `FirstRun` meets what the law asks for; and a reader's reason, where it holds a row, isn't told.
use Rattle.std.proofs.Common.{[], ◌∷◌, refl, lit<, arith}
use Rattle.std.specs.Prelude.{replicate}
use Rattle.std.specs.List.{AllByRecursion}
use Rattle.std.proofs.lemmas.List.Elements.{All-from_recursion}
use Rattle.ps_config.specs.BuiltIn.{built_in_config, built_in_read_group, built_in_reader}
use Rattle.ps_report.specs.FirstRun.{first_run}
use Rattle.ps_report.specs.Conditions.{readers_of}
use Rattle.report_laws.specs.Numbers.{IsNumber, HistoryHasNumbers, GroupHasNumbers, WriterHasNumbers, ReadGroupHasNumbers, ReaderHasNumbers, WatchHasNumbers, HasNumbers}
use Rattle.report_laws.specs.ReaderNames.{HasName, NamesReaders}
use Rattle.report_laws.proofs.Entries.{EntryHasNumbers, BreakHasNumbers}

pub first_names : NamesReaders built_in_config
unfolding built_in_config built_in_read_group built_in_reader
first_names = record {
  names = All-from_recursion HasName (readers_of built_in_config.readgroup) (refl, tt);
  distinct = λ i j d below inside. absurd (omega arith);
}

none : IsNumber 0
none = lit< tt

one : IsNumber 1
one = lit< tt

two : IsNumber 2
two = lit< tt

no_causes : AllByRecursion IsNumber (replicate 20 0)
no_causes =
    (none, (none, (none, (none, (none, (none, (none, (none, (none, (none, (none, (none, (none, (none, (none, (none, (none, (none, (none, (none, tt))))))))))))))))))))

pub first_numbers : HasNumbers first_run
first_numbers = record {
  histories = All-from_recursion HistoryHasNumbers first_run.histories (All-from_recursion IsNumber (0 ∷ []) (none, tt), tt);
  groups = All-from_recursion GroupHasNumbers first_run.groups (two, tt);
  writers = All-from_recursion WriterHasNumbers first_run.writers (All-from_recursion EntryHasNumbers ((0, 1) ∷ (1, 1) ∷ []) ((none, one), ((one, one), tt)), tt);
  read_groups = All-from_recursion ReadGroupHasNumbers first_run.read_groups
      (record { taken = two; places = refl; causes = All-from_recursion IsNumber (replicate 20 0) no_causes }, tt);
  readers = All-from_recursion ReaderHasNumbers first_run.readers
      (record { held = record { number = one; version = one }; breaks = none; recent = All-from_recursion BreakHasNumbers [] tt }, tt);
  watches = All-from_recursion WatchHasNumbers [] tt;
  link = record { sent = two; failed = none; received = two; broken = none; long = none; limit = none };
}
