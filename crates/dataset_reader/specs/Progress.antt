-- What a reader's words keep.
use Rattle.std.specs.Prelude.{◌≡◌, true, List, reverse, Some, None, if◌then◌else◌}
use Rattle.dataset_meta.specs.declared.field.Field.{Field}
use Rattle.dataset_meta.specs.Metas.{MetaData}
use Rattle.row_words.specs.Belonging.{row_in, Belongs}
use Rattle.dataset_reader.specs.declared.progress.Progress.{Progress}
use Rattle.dataset_reader.specs.Kept.{Kept}

-- what it keeps, its words being those of a row of these fields
abbrev pub kept_in : List Field → Progress → Kept
kept_in fields state = record {
  last = state.last;
  stamp = state.stamp;
  number = state.number;
  row = if state.holds then Some (row_in fields state.held.row.words) else None;
  why = state.why;
  breaks = state.breaks;
  recent = reverse state.recent.items;
}

-- the row that it holds is one of this meta
abbrev pub IsStateOf : MetaData → Progress → Type 0
IsStateOf meta state = state.holds ≡ true → Belongs meta state.held.row.words
