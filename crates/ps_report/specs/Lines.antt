-- The lines of a report. Each part that may be repeated has a space before it.
use Rattle.std.specs.Prelude.{ℕ, ◌==◌, List, [], ◌∷◌, ◌++◌, length, Option, Some, None, codes, flat_map, zip, if◌then◌else◌}
use Rattle.std.specs.Fmt.{decimal}
use Rattle.value_texts.specs.Texts.{value_text_of, hex_text_32}
use Rattle.ua_values.specs.declared.value.Value.{Value}
use Rattle.dataset_meta.specs.declared.field.Field.{Field}
use Rattle.dataset_meta.specs.DataValues.{DataValue}
use Rattle.pubsub_model.specs.declared.reading.Break.{Break}
use Rattle.pubsub_model.specs.declared.reading.Why.{Why}
use Rattle.pubsub_states.specs.declared.state.State.{State}
use Rattle.pubsub_states.specs.States.{word_of}
use Rattle.ps_report.specs.declared.closed.GroupEnd.{GroupEnd}
use Rattle.ps_report.specs.declared.closed.LinkEnd.{LinkEnd}
use Rattle.ps_report.specs.declared.closed.ReadGroupEnd.{ReadGroupEnd}
use Rattle.ps_report.specs.declared.closed.WriterEnd.{WriterEnd}
use Rattle.pubsub_model.specs.WhyWords.{why_word}
use Rattle.ps_report.specs.Words.{cause_words}

abbrev pub feed : List ℕ
feed = 10 ∷ []

-- `WORD NAME STATE`
unfoldable pub component_text : List ℕ → List ℕ → State → List ℕ
component_text word name state = word ++ codes " " ++ name ++ codes " " ++ word_of state

-- ` N:`
unfoldable pub count_text : ℕ → List ℕ
count_text count = codes " " ++ decimal count ++ codes ":"

abbrev pub numbers_text : List ℕ → List ℕ
numbers_text numbers = flat_map (λ number. codes " " ++ decimal number) numbers

-- `history NAME N: T ..`: the thread of each version
unfoldable pub history_line : List ℕ → List ℕ → List ℕ
history_line name threads =
    codes "history " ++ name ++ count_text (length threads) ++ numbers_text threads ++ feed

-- `group NAME STATE sent N`
unfoldable pub group_line : List ℕ → GroupEnd → List ℕ
group_line name end =
    component_text (codes "group") name end.state ++ codes " sent " ++ decimal end.sent ++ feed

abbrev pub log_text : List (ℕ × ℕ) → List ℕ
log_text log = flat_map (λ entry. codes " " ++ decimal entry.0 ++ codes "=" ++ decimal entry.1) log

-- `writer NAME STATE N: P=V ..`: place and version of each data frame
unfoldable pub writer_line : List ℕ → WriterEnd → List ℕ
writer_line name end =
    component_text (codes "writer") name end.state ++ count_text (length end.log) ++ log_text end.log ++ feed

-- a cause that never came isn't named
unfoldable pub cause_text : List ℕ → ℕ → List ℕ
cause_text word count = if count == 0 then [] else codes " " ++ word ++ codes "=" ++ decimal count

abbrev pub causes_text : List ℕ → List ℕ
causes_text counts = flat_map (λ cause. cause_text cause.0 cause.1) (zip cause_words counts)

-- `readgroup NAME STATE taken N: CAUSE=K ..`
unfoldable pub read_group_line : List ℕ → ReadGroupEnd → List ℕ
read_group_line name end =
    component_text (codes "readgroup") name end.state ++ codes " taken" ++ count_text end.taken
    ++ causes_text end.causes ++ feed

-- `!S`, where the status isn't 0
unfoldable pub status_mark : ℕ → List ℕ
status_mark status = if status == 0 then [] else codes "!" ++ hex_text_32 status

-- `F=X` or `F!S=X`
unfoldable pub field_text : List ℕ → Value → ℕ → List ℕ
field_text name value status = codes " " ++ name ++ status_mark status ++ codes "=" ++ value_text_of value

abbrev pub fields_text : List Field → List DataValue → List ℕ
fields_text fields row = flat_map (λ at. field_text at.0.name at.1.value at.1.status) (zip fields row)

unfoldable pub number_or_dash : Option ℕ → List ℕ
number_or_dash None = codes "-"
number_or_dash (Some n) = decimal n

-- ` number N version V:`
unfoldable pub numbered_text : Option ℕ → Option ℕ → List ℕ
numbered_text number version =
    codes " number " ++ number_or_dash number ++ codes " version " ++ number_or_dash version ++ codes ":"

unfoldable pub waits_text : Why → List ℕ
waits_text why = codes " waits " ++ why_word why

abbrev pub breaks_text : List Break → List ℕ
breaks_text breaks = flat_map (λ at. codes " " ++ decimal at.expected ++ codes "/" ++ decimal at.got) breaks

-- `gaps NAME N: E/G ..`
unfoldable pub gaps_line : List ℕ → ℕ → List Break → List ℕ
gaps_line name breaks recent =
    codes "gaps " ++ name ++ count_text breaks ++ breaks_text recent ++ feed

-- `watch THREAD READER: S ..`: the store count of each look
unfoldable pub watch_line : ℕ → List ℕ → List ℕ → List ℕ
watch_line thread reader counts =
    codes "watch " ++ decimal thread ++ codes " " ++ reader ++ codes ":" ++ numbers_text counts ++ feed

-- `link sent A failed B received C broken D long E limit F`
unfoldable pub link_line : LinkEnd → List ℕ
link_line link =
    codes "link sent " ++ decimal link.sent ++ codes " failed " ++ decimal link.failed
    ++ codes " received " ++ decimal link.received ++ codes " broken " ++ decimal link.broken
    ++ codes " long " ++ decimal link.long ++ codes " limit " ++ decimal link.limit ++ feed
