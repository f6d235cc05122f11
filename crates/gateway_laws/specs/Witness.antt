-- A relay of the first run: the built-in configuration, and after it a gateway of the same with the data set of its reader.
use Rattle.std.specs.Prelude.{◌++◌, ℕ, true, false, List, [], ◌∷◌, codes, replicate, map, Some, None}
use Rattle.dataset_meta.specs.Metas.{MetaData, meta_of}
use Rattle.ua_base.specs.Journal.{Empty, Entry, Got}
use Rattle.version_cell.specs.declared.rule.Entry.{Entry as Stored}
use Rattle.version_cell.specs.Cells.{CellData, terms_of}
use Rattle.version_cell.specs.Histories.{entry}
use Rattle.version_cell.specs.Known.{Known, no_table}
use Rattle.target_cells.specs.declared.origin.Origin.{Origin}
use Rattle.ps_config.specs.BuiltIn.{built_in_config, number_field}
use Rattle.ps_config.specs.declared.parts.Config.{Config}
use Rattle.writer_group.specs.declared.sampled.Sampled.{Sampled}
use Rattle.session_model.specs.Stores.{Store}
use Rattle.session_laws.specs.Witness.{last_receives, seven, small_datagram, small_row}
use Rattle.gateway_core.specs.Lived.{Collect, GatewayStep, Pump, Tick}
use Rattle.gateway_laws.specs.Relays.{RelayStep, Round}
use Rattle.gateway_laws.specs.Sources.{Source}

-- ---- the second configuration

-- a data set of the name of the built-in configuration's reader, with the fields that this has
unfoldable pub again_set : MetaData
again_set =
    meta_of (codes "r1")
    (number_field (codes "a") ∷ number_field (codes "b") ∷ number_field (codes "c") ∷ number_field (codes "d") ∷ [])
    1 0 false

unfoldable pub again_config : Config
again_config = record built_in_config { dataset = again_set ∷ [] }

-- the text of it
abbrev pub again_text : List ℕ
again_text =
    codes "[publisher]\nid = \"u8:5\"\n\n"
    ++ codes "[[dataset]]\nname = \"r1\"\n[[dataset.field]]\nname = \"a\"\nkind = \"UInt32\"\n[[dataset.field]]\nname = \"b\"\nkind = \"UInt32\"\n"
    ++ codes "[[dataset.field]]\nname = \"c\"\nkind = \"UInt32\"\n[[dataset.field]]\nname = \"d\"\nkind = \"UInt32\"\n\n"
    ++ codes "[[group]]\nname = \"g1\"\nid = 1\ninterval = 100\n[[group.writer]]\nname = \"w1\"\nid = 1\ndataset = \"r1\"\n\n"
    ++ codes "[[readgroup]]\nname = \"rg1\"\npublisher = \"u8:5\"\ngroup = 1\n[[readgroup.reader]]\nname = \"r1\"\nwriter = 1\ndataset = \"r1\"\n"

-- the reader of the built-in configuration
unfoldable pub first_source : Source
first_source = record { read_group = 0; reader = 0; group = 0; writer = 0 }

abbrev pub its_sources : List Source
its_sources = first_source ∷ []

-- ---- the rounds: all that is sent comes, over both links

-- the row a=7 b=0 c=0 d=0, as this store
abbrev pub seven_stored : ℕ → Sampled
seven_stored store = record { row = seven.row; version = store }

-- what a pump gets where this datagram comes
abbrev pub gets : ℕ → List Entry
gets n = Got (small_datagram n) ∷ Empty ∷ []

-- 100 milliseconds
abbrev pub first_round : RelayStep
first_round = Round 100 false (seven ∷ []) (true ∷ []) (gets 0) (seven_stored 1 ∷ []) (true ∷ []) (gets 0)

-- the closing tick
abbrev pub last_round : RelayStep
last_round = Round 0 true (seven ∷ []) (true ∷ []) last_receives (seven_stored 2 ∷ []) (true ∷ []) last_receives

abbrev pub first_relay : List RelayStep
first_relay = first_round ∷ []

abbrev pub whole_relay : List RelayStep
whole_relay = last_round ∷ first_relay

-- what its reader held, by the message's number
abbrev pub held_store : ℕ → Store
held_store number = record { number = Some number; row = small_row }

-- ---- the gateway's own life

-- the cell of the reader's target, of which number 0 may make two entries
abbrev pub its_cell : CellData
its_cell = record { id = no_table; meta = again_set; quotas = 2 ∷ 0 ∷ 0 ∷ 0 ∷ 0 ∷ 0 ∷ 0 ∷ 0 ∷ [] }

-- a pass that has seen these stores
abbrev pub pass_with : List Stored → Known
pass_with seen = record { cell = no_table; terms = terms_of its_cell.quotas its_cell.meta; seen = seen; author = None }

-- that of a store of the row a=7 b=0 c=0 d=0
abbrev pub seven_entry : Stored
seven_entry = entry 0 (7 ∷ replicate 124 0)

-- what is told of the last of so many stores
abbrev pub origin_with : ℕ → ℕ → Origin
origin_with store number = record { store = store; number = Some number; version = Some 1 }

abbrev pub first_life : List GatewayStep
first_life = Pump (gets 0) ∷ Tick 100 false (true ∷ []) ∷ Collect (pass_with (seven_entry ∷ []) ∷ []) (origin_with 1 0 ∷ []) ∷ []

abbrev pub whole_life : List GatewayStep
whole_life =
    Pump last_receives ∷ Tick 0 true (true ∷ [])
    ∷ Collect (pass_with (seven_entry ∷ seven_entry ∷ []) ∷ []) (origin_with 2 1 ∷ []) ∷ first_life
