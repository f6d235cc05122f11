-- What the lines before a line have done.
use Rattle.std.specs.Prelude.{ℕ, ◌+◌, Bool, true, false, List, [], ◌∷◌, ◌++◌, replicate, slice_get, slice_set, Option, Some, None, unwrap_or}
use Rattle.ua_values.specs.declared.kind.Kind.TheVariants.{Boolean}
use Rattle.dataset_meta.specs.declared.field.Field.{Field}
use Rattle.dataset_meta.specs.Metas.{MetaData, grown}
use Rattle.config_tables.specs.Words.{kind_named}
use Rattle.ps_config.specs.declared.parts.Config.{Config}
use Rattle.ps_script.specs.declared.verbs.Verb.{Verb}
use Rattle.ps_script.specs.declared.verbs.Verb.TheVariants as verb
use Rattle.ps_script.specs.declared.past.Past.{Past as PastValue}
use Rattle.ps_script.specs.Texts.{word}
use Rattle.ps_script.specs.Verbs.{verb_of}
use Rattle.ps_script.specs.Numbers.{number_at}
use Rattle.ps_script.specs.Names.{component_named, set_named}

-- the data sets with the fields that were appended, which components are enabled, by their ids, how many lines there
-- were of each kind that is counted, and the datagrams that have a fate
pub record Done : Type 0 where
  pub metas : List MetaData
  pub enabled : List Bool
  pub ticks : ℕ
  pub writes : ℕ
  pub watches : ℕ
  pub appends : ℕ
  pub fated : List ℕ

abbrev pub done_by : PastValue → Done
done_by past = record {
  metas = past.metas.items;
  enabled = past.enabled;
  ticks = past.ticks;
  writes = past.writes;
  watches = past.watches;
  appends = past.appends;
  fated = past.fated.items;
}

-- before the first line: every component is enabled, and there is room for 64
unfoldable pub nothing_done : Config → Done
nothing_done config = record {
  metas = config.dataset;
  enabled = replicate 64 true;
  ticks = 0;
  writes = 0;
  watches = 0;
  appends = 0;
  fated = [];
}

-- the field of a line `append DATASET FIELD KIND` or `append DATASET FIELD KIND CAP`
unfoldable pub field_of : List ℕ → Field
field_of line = record {
  name = word 2 line;
  kind = unwrap_or (kind_named (word 3 line)) Boolean;
  cap = number_at 1 256 (word 4 line);
}

abbrev pub grown_at : List MetaData → ℕ → Field → Option MetaData → List MetaData
grown_at metas set field None = metas
grown_at metas set field (Some meta) = slice_set metas set (grown meta field)

abbrev pub grown_by : List MetaData → Field → Option ℕ → List MetaData
grown_by metas field None = metas
grown_by metas field (Some set) = grown_at metas set field (slice_get metas set)

-- the data sets after a line `append`
unfoldable pub metas_after : List MetaData → List ℕ → List MetaData
metas_after metas line = grown_by metas (field_of line) (set_named metas (word 1 line))

abbrev pub switched : Config → Done → List ℕ → Bool → Done
switched config done line on =
    record done { enabled = slice_set done.enabled (unwrap_or (component_named config (word 1 line)) 0) on }

abbrev pub done_with : Config → Done → List ℕ → Option Verb → Done
done_with config done line None = done
done_with config done line (Some verb.Write) = record done { writes = done.writes + 1 }
done_with config done line (Some verb.Tick) = record done { ticks = done.ticks + 1 }
done_with config done line (Some verb.Enable) = switched config done line true
done_with config done line (Some verb.Disable) = switched config done line false
done_with config done line (Some verb.Append) =
    record done { metas = metas_after done.metas line; appends = done.appends + 1 }
done_with config done line (Some verb.Fate) =
    record done { fated = done.fated ++ number_at 0 1000000 (word 1 line) ∷ [] }
done_with config done line (Some verb.Watch) = record done { watches = done.watches + 1 }

-- what is done once a line without a fault is
unfoldable pub after : Config → Done → List ℕ → Done
after config done line = done_with config done line (verb_of line)
