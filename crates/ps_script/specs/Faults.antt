-- The faults of a line, each by itself. `done` is what the lines before it have done.
use Rattle.std.specs.Prelude.{◌≡◌, IsTrue, ℕ, ◌==◌, Bool, true, false, ◌&&◌, ◌||◌, not, nat_lt, nat_le, List, [], ◌∷◌, ◌++◌, length, take, drop, slice_get, slice_index_or, Option, Some, None, is_some, is_none, option_and_then, unwrap_or, All}
use Rattle.std.specs.List.{list_any, list_all, range_with_len}
use Rattle.std.specs.Option.{option_map_or}
use Rattle.dataset_meta.specs.declared.field.Field.{Field}
use Rattle.dataset_meta.specs.Fields.{has_cap}
use Rattle.dataset_meta.specs.Metas.{MetaData, grown, names, words_of as row_words_of}
use Rattle.dataset_meta.specs.Names.{is_name}
use Rattle.config_tables.specs.Words.{kind_named}
use Rattle.ps_config.specs.declared.parts.Config.{Config}
use Rattle.ps_config.specs.declared.parts.GroupPart.{GroupPart}
use Rattle.ps_config.specs.Rooms.{is_fixed, lacks_room}
use Rattle.std.specs.Str.{bytes_eq}
use Rattle.ps_script.specs.declared.verbs.Verb.{Verb}
use Rattle.ps_script.specs.declared.verbs.Verb.TheVariants as verb
use Rattle.ps_script.specs.declared.verbs.FateWord.{FateWord}
use Rattle.ps_script.specs.declared.verbs.FateWord.TheVariants as fated
use Rattle.ps_script.specs.Texts.{words_of, word}
use Rattle.ps_script.specs.Verbs.{verb_of, is_idle, fate_of}
use Rattle.ps_script.specs.Numbers.{is_number, number_at}
use Rattle.ps_script.specs.Names.{component_named, reader_named, set_named}
use Rattle.ps_script.specs.Values.{ValueReader}
use Rattle.ps_script.specs.Fields.{is_field_word, has_bad_field, change_of}
use Rattle.ps_script.specs.Past.{Done, field_of, metas_after, done_with}

-- BadText: a byte outside 20 to 7e, in a comment too
abbrev pub is_bad_byte : ℕ → Bool
is_bad_byte byte = nat_lt byte 32 || nat_lt 126 byte

abbrev pub is_bad_text : List ℕ → Bool
is_bad_text line = list_any is_bad_byte line

-- LongLine: more than 1,024 bytes
abbrev pub is_long : List ℕ → Bool
is_long line = nat_lt 1024 (length line)

abbrev pub count_of : List ℕ → ℕ
count_of line = length (words_of line)

-- a line `fate` whose third word is none of its words
abbrev pub has_unknown_fate : List ℕ → Option Verb → Bool
has_unknown_fate line (Some verb.Fate) = nat_le 3 (count_of line) && is_none (fate_of line)
has_unknown_fate line _ = false

-- UnknownWord
abbrev pub has_unknown_word : List ℕ → Bool
has_unknown_word line =
    not (is_idle (word 0 line)) && (is_none (verb_of line) || has_unknown_fate line (verb_of line))

-- the words from the fourth on
abbrev pub field_words : List ℕ → List (List ℕ)
field_words line = drop 3 (words_of line)

abbrev pub has_fate_count : ℕ → Option FateWord → Bool
has_fate_count count None = false
has_fate_count count (Some fated.Drop) = count == 3
has_fate_count count (Some _) = count == 4

abbrev pub has_shape : List ℕ → Verb → Bool
has_shape line verb.Write = nat_le 4 (count_of line) && list_all is_field_word (field_words line)
has_shape line verb.Tick = count_of line == 2
has_shape line verb.Enable = count_of line == 2
has_shape line verb.Disable = count_of line == 2
has_shape line verb.Append = count_of line == 4 || count_of line == 5
has_shape line verb.Fate = has_fate_count (count_of line) (fate_of line)
has_shape line verb.Watch = count_of line == 4

-- BadShape: a wrong number of words, or a field word without `=`
abbrev pub is_bad_shape : List ℕ → Bool
is_bad_shape line = not (option_map_or (has_shape line) (verb_of line) true)

abbrev pub has_fate_number : List ℕ → Option FateWord → Bool
has_fate_number line (Some fated.Repeat) = is_number 2 8 (word 3 line)
has_fate_number line (Some fated.Hold) = is_number 0 1000000 (word 3 line)
has_fate_number line (Some fated.Again) = is_number 0 1000000 (word 3 line)
has_fate_number line _ = true

abbrev pub has_numbers : List ℕ → Verb → Bool
has_numbers line verb.Write = is_number 0 7 (word 1 line)
has_numbers line verb.Tick = is_number 1 3600000 (word 1 line)
has_numbers line verb.Append = not (count_of line == 5) || is_number 1 256 (word 4 line)
has_numbers line verb.Fate = is_number 0 1000000 (word 1 line) && has_fate_number line (fate_of line)
has_numbers line verb.Watch = is_number 0 7 (word 1 line) && is_number 1 1000 (word 3 line)
has_numbers line _ = true

-- BadNumber: a number that isn't one, or out of its range
abbrev pub has_bad_number : List ℕ → Bool
has_bad_number line = not (option_map_or (has_numbers line) (verb_of line) true)

abbrev pub has_name : Config → Done → List ℕ → Verb → Bool
has_name config done line verb.Write = is_some (set_named done.metas (word 2 line))
has_name config done line verb.Append = is_some (set_named done.metas (word 1 line))
has_name config done line verb.Enable = is_some (component_named config (word 1 line))
has_name config done line verb.Disable = is_some (component_named config (word 1 line))
has_name config done line verb.Watch = is_some (reader_named config (word 2 line))
has_name config done line _ = true

-- UnknownName: a data set, a reader or a component that isn't there
abbrev pub has_unknown_name : Config → Done → List ℕ → Bool
has_unknown_name config done line = not (option_map_or (has_name config done line) (verb_of line) true)

-- the data set of a line `write`, with the fields appended so far
abbrev pub meta_named : List MetaData → List ℕ → Option MetaData
meta_named metas name = option_and_then (slice_get metas) (set_named metas name)

abbrev pub has_bad_field_in : List ℕ → MetaData → Bool
has_bad_field_in line meta = has_bad_field meta.fields [] (field_words line)

-- BadField: a field that the data set doesn't have by then, or one twice
abbrev pub is_bad_field : Done → List ℕ → Option Verb → Bool
is_bad_field done line (Some verb.Write) = option_map_or (has_bad_field_in line) (meta_named done.metas (word 2 line)) false
is_bad_field done line _ = false

abbrev pub has_bad_value_in : ValueReader → List ℕ → MetaData → Bool
has_bad_value_in reader line meta =
    list_any (λ word. is_none (change_of reader meta.quality meta.fields word)) (field_words line)

-- BadValue: a text that is no value of its field, or no status of its data set; a kind that is none
abbrev pub is_bad_value : ValueReader → Done → List ℕ → Option Verb → Bool
is_bad_value reader done line (Some verb.Write) = option_map_or (has_bad_value_in reader line) (meta_named done.metas (word 2 line)) false
is_bad_value reader done line (Some verb.Append) = is_none (kind_named (word 3 line))
is_bad_value reader done line _ = false

abbrev pub is_on : Config → Done → List ℕ → Bool
is_on config done name = slice_index_or done.enabled (unwrap_or (component_named config name) 0) true

-- BadState: `enable` of a component that is enabled, `disable` of one that isn't
abbrev pub is_bad_state : Config → Done → List ℕ → Option Verb → Bool
is_bad_state config done line (Some verb.Enable) = is_on config done (word 1 line)
is_bad_state config done line (Some verb.Disable) = not (is_on config done (word 1 line))
is_bad_state config done line _ = false

-- TooMany: past 4,096 ticks, 32,768 writes, 256 fates, 64 watches or 16 appends
abbrev pub is_past_limit : Done → Option Verb → Bool
is_past_limit done (Some verb.Tick) = nat_le 4096 done.ticks
is_past_limit done (Some verb.Write) = nat_le 32768 done.writes
is_past_limit done (Some verb.Fate) = nat_le 256 (length done.fated)
is_past_limit done (Some verb.Watch) = nat_le 64 done.watches
is_past_limit done (Some verb.Append) = nat_le 16 done.appends
is_past_limit done _ = false

-- a `hold` or an `again` until a datagram that isn't a later one
abbrev pub is_early : List ℕ → Option FateWord → Bool
is_early line (Some fated.Hold) = nat_le (number_at 0 1000000 (word 3 line)) (number_at 0 1000000 (word 1 line))
is_early line (Some fated.Again) = nat_le (number_at 0 1000000 (word 3 line)) (number_at 0 1000000 (word 1 line))
is_early line _ = false

-- BadFate: a second fate of a datagram, one until no later datagram, or any where links have none
abbrev pub is_bad_fate : Bool → Done → List ℕ → Option Verb → Bool
is_bad_fate takes_fates done line (Some verb.Fate) =
    not takes_fates || list_any (λ other. other == number_at 0 1000000 (word 1 line)) done.fated || is_early line (fate_of line)
is_bad_fate takes_fates done line _ = false

-- no earlier field has the name of the field at this index
abbrev pub is_fresh : List Field → ℕ → Bool
is_fresh fields index = not (list_any (bytes_eq (slice_index_or (names fields) index [])) (take index (names fields)))

-- whether the fields make a meta: 1 to 64 with names of their own, caps that fit, and rows of at most 125 words
unfoldable pub is_meta : List Field → Bool
is_meta fields =
    nat_le 1 (length fields)
    && (nat_le (length fields) 64
    && (list_all (is_fresh fields) (range_with_len 0 (length fields))
    && (list_all has_cap fields && nat_le (row_words_of fields) 125)))

-- a group has a writer of the data set that can't tell of a new field: it carries no versions, or its group is fixed
abbrev pub has_mute_writer : ℕ → GroupPart → Bool
has_mute_writer set group =
    list_any (λ writer. writer.dataset == set && (not writer.versions || is_fixed group.layout)) group.writer

-- each writer of the data set tells of its versions, and is of a dynamic group
abbrev pub CanTellOf : ℕ → GroupPart → Type 0
CanTellOf set group =
    All (λ writer. writer.dataset ≡ set → (writer.versions ≡ true) × (is_fixed group.layout ≡ false)) group.writer

-- no name, fields that make no meta, or a minor version that is its type's last
abbrev pub is_unfit : List ℕ → MetaData → Bool
is_unfit line meta =
    not (is_name (word 2 line)) || nat_le 4294967295 meta.minor || not (is_meta (meta.fields ++ field_of line ∷ []))

abbrev pub is_bad_growth : Config → Done → List ℕ → ℕ → MetaData → Bool
is_bad_growth config done line set meta =
    is_unfit line meta
    || (list_any (has_mute_writer set) config.group
    || list_any (lacks_room config.publisher.id (metas_after done.metas line)) config.group)

abbrev pub is_bad_append_to : Config → Done → List ℕ → Option ℕ → Bool
is_bad_append_to config done line None = false
is_bad_append_to config done line (Some set) = option_map_or (is_bad_growth config done line set) (slice_get done.metas set) false

-- BadAppend: no name, fields that make no meta, a writer that can't tell of it, a minor version past its type's end, or
-- a group that lacks room for the data set's frames
abbrev pub is_bad_append : Config → Done → List ℕ → Option Verb → Bool
is_bad_append config done line (Some verb.Append) = is_bad_append_to config done line (set_named done.metas (word 1 line))
is_bad_append config done line _ = false

-- the data set with the line's field, where it may have it
abbrev pub IsGrowth : MetaData → List ℕ → Option MetaData → Type 0
IsGrowth meta line None = IsTrue (is_unfit line meta)
IsGrowth meta line (Some more) = (is_unfit line meta ≡ false) × (more ≡ grown meta (field_of line))

-- whether a line `append` is refused, and if not, what it does
pub record Appends (config : Config) (done next : Done) (line : List ℕ) (bad : Bool) : Type 0 where
  pub told : bad ≡ is_bad_append config done line (Some verb.Append)
  pub does : bad ≡ false → next ≡ done_with config done line (Some verb.Append)
