-- Where a store comes from: the message that its row came with, and the version of the history that this names.
use Rattle.std.specs.Prelude.{◌≡◌, ℕ, ◌+◌, List, [], ◌∷◌, ◌++◌, map, length, Some, None, option_and_then}
use Rattle.dataset_meta.specs.DataValues.{DataValue}
use Rattle.pubsub_model.specs.Records.{Arrival, Came, Item}
use Rattle.ua_base.specs.Journal.{Entry}
use Rattle.pubsub_model.specs.Answers.{version_of}
use Rattle.session_model.specs.Steps.{Plan, Step, Pump}
use Rattle.session_model.specs.Deeds.{log_at}
use Rattle.session_model.specs.Events.{reader_at}
use Rattle.session_laws.specs.Reading.{arrivals_at, first_number_of}
use Rattle.session_model.specs.Stores.{Store, stores, held_by}
use Rattle.gateway_laws.specs.Sources.{Source}
use Rattle.target_cells.specs.declared.origin.Origin.{Origin}

-- where the last of a reader's stores comes from: how many there are, its message's number, and the version that the writer's log has at this
abbrev pub origin_by : Plan → Source → List Step → List Store → Origin
origin_by p source now [] = record { store = 0; number = None; version = Some 0 }
origin_by p source now (last ∷ before) = record {
  store = length before + 1;
  number = last.number;
  version = option_and_then (version_of (log_at p source.group source.writer now)) last.number;
}

abbrev pub origin_at : Plan → Source → List Step → Origin
origin_at p source now = origin_by p source now (stores p.config source.read_group source.reader now)

-- these steps end with the pump at whose end the reader's store of this number was made, and this is the row and the number of its message
pub record IsMadeAt (p : Plan) (source : Source) (now : List Step) (store : ℕ) (made : Store) : Type 0 where
  pub entries : List Entry
  pub before : List Step
  pub ends : now ≡ Pump entries ∷ before
  pub stored : stores p.config source.read_group source.reader now ≡ made ∷ stores p.config source.read_group source.reader before
  pub number : store ≡ length (stores p.config source.read_group source.reader before) + 1
  pub held : held_by (reader_at p.config source.read_group source.reader now) ≡ Some made

-- that happened at some moment of these steps, which is a beginning of them
pub record WasMade (p : Plan) (source : Source) (all : List Step) (store : ℕ) (made : Store) : Type 0 where
  pub later : List Step
  pub now : List Step
  pub split : all ≡ later ++ now
  pub at : IsMadeAt p source now store made

-- ---- cuts

-- nothing but items came since
pub record IsUncut (old new : List Arrival) : Type 0 where
  pub items : List Item
  pub newer : new ≡ map Came items ++ old

-- a reader that is matched to a writer isn't cut between two moments of a session
abbrev pub IsUncutBetween : Plan → ℕ → ℕ → ℕ → ℕ → List Step → List Step → Type 0
IsUncutBetween p r i g w old new =
    IsUncut (arrivals_at p.config r i (first_number_of p.config g w) old) (arrivals_at p.config r i (first_number_of p.config g w) new)

-- a store that was made came with this version, by its origin at the end of the pump that made it
pub record CameWith (p : Plan) (source : Source) (all : List Step) (store version : ℕ) : Type 0 where
  pub made : Store
  pub was : WasMade p source all store made
  pub version_is : (origin_at p source was.now).version ≡ Some version

-- ---- what is printed of a reader

-- a reader holds a row, and by its number it is this version in the log of the writer that it is matched to
pub record HoldsVersionAt (p : Plan) (r i g w : ℕ) (now : List Step) (version : ℕ) : Type 0 where
  pub row : List DataValue
  pub row_is : (reader_at p.config r i now).kept.row ≡ Some row
  pub number : ℕ
  pub number_is : (reader_at p.config r i now).kept.number ≡ Some number
  pub named : version_of (log_at p g w now) number ≡ Some version

-- the source isn't cut after the making of this store: at each moment since then nothing but items came to it
abbrev pub IsUncutSince : Plan → Source → List Step → ℕ → Type 0
IsUncutSince p source all store =
    (made : Store) (was : WasMade p source all store made) (later between : List Step) → all ≡ later ++ (between ++ was.now)
    → IsUncutBetween p source.read_group source.reader source.group source.writer was.now (between ++ was.now)
