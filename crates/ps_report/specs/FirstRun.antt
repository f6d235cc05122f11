-- A small session as it was when it closed: the built-in configuration, and the script `write 0 demo a=7`, `tick 100`. Two
-- messages were sent, one at the tick and one at the end, and both came.
use Rattle.std.specs.Prelude.{List, [], ◌∷◌, ◌++◌, ℕ, codes, replicate, Some, None}
use Rattle.row_words.specs.declared.row.Row.{Row}
use Rattle.pubsub_model.specs.declared.reading.Why.TheVariants.{Start}
use Rattle.pubsub_states.specs.declared.state.State.TheVariants.{Operational}
use Rattle.ps_config.specs.declared.NumberingWord.TheVariants as numbering
use Rattle.ps_config.specs.declared.Publisher.TheVariants.{U8}
use Rattle.ps_config.specs.declared.parts.Config.{Config}
use Rattle.ps_config.specs.declared.parts.ReadGroupPart.{ReadGroupPart}
use Rattle.ps_config.specs.BuiltIn.{built_in_reader, built_in_read_group, built_in_config}
use Rattle.ps_report.specs.declared.closed.Closed.{Closed}
use Rattle.ps_report.specs.declared.closed.HeldEnd.{HeldEnd}
use Rattle.ps_report.specs.declared.closed.ReaderEnd.{ReaderEnd}
use Rattle.ps_report.specs.declared.closed.WatchEnd.{WatchEnd}

-- a=7 b=0 c=0 d=0
abbrev pub first_row : Row
first_row = record { words = 7 ∷ replicate 124 0 }

abbrev pub first_held : HeldEnd
first_held = record { number = Some 1; version = Some 1; row = first_row }

abbrev pub first_reader : ReaderEnd
first_reader = record { state = Operational; held = Some first_held; why = Start; breaks = 0; recent = record { items = [] } }

abbrev pub first_run : Closed
first_run = record {
  histories = record { threads = 0 ∷ [] } ∷ [];
  groups = record { state = Operational; sent = 2 } ∷ [];
  writers = record { state = Operational; log = (0, 1) ∷ (1, 1) ∷ [] } ∷ [];
  read_groups = record { state = Operational; taken = 2; causes = replicate 20 0 } ∷ [];
  readers = first_reader ∷ [];
  watches = [];
  link = record { sent = 2; failed = 0; received = 2; broken = 0; long = 0; limit = 0 };
}

-- its report, by the line of the reader
abbrev pub text_with : List ℕ → List ℕ
text_with reader =
    codes "history demo 1: 0\n" ++ codes "group g1 operational sent 2\n" ++ codes "writer w1 operational 2: 0=1 1=1\n"
    ++ codes "readgroup rg1 operational taken 2:\n" ++ reader
    ++ codes "gaps r1 0:\n" ++ codes "link sent 2 failed 0 received 2 broken 0 long 0 limit 0\n" ++ codes "end\n"

abbrev pub first_run_text : List ℕ
first_run_text = text_with (codes "reader r1 operational number 1 version 1: a=7 b=0 c=0 d=0\n")

-- the built-in configuration with another read group
abbrev pub config_with : ReadGroupPart → Config
config_with group = record built_in_config { readgroup = group ∷ [] }

-- the same session, where the numbering is `none`
unfoldable pub unnumbered_config : Config
unnumbered_config = config_with (record built_in_read_group { reader = record built_in_reader { numbering = numbering.None } ∷ [] })

abbrev pub run_with : HeldEnd → Closed
run_with held = record first_run { readers = record first_reader { held = Some held } ∷ [] }

abbrev pub unnumbered_run : Closed
unnumbered_run = run_with (record first_held { number = None; version = None })

abbrev pub unnumbered_text : List ℕ
unnumbered_text = text_with (codes "reader r1 operational number - version -: a=7 b=0 c=0 d=0\n")

-- a reader of another program, whose versions this one can't tell
unfoldable pub foreign_config : Config
foreign_config = config_with (record built_in_read_group { publisher = U8 6 })

abbrev pub foreign_run : Closed
foreign_run = run_with (record first_held { version = None })

-- one look of a thread
abbrev pub watch_by : ℕ → WatchEnd
watch_by thread = record { thread = thread; reader = 0; counts = 0 ∷ [] }

-- the same session, where two threads looked
abbrev pub watched_run : ℕ → ℕ → Closed
watched_run one other = record first_run { watches = watch_by one ∷ watch_by other ∷ [] }
