-- What a gateway tells: the store of each data frame, the store and the version of what a reader holds, and that neither falls from one pump to a later one where nothing was cut.
use Rattle.std.specs.Prelude.{◌≡◌, ℕ, ◌<◌, ◌≤◌, List, ◌∷◌, ◌++◌, length, Contains, Option, Some, true}
use Rattle.std.specs.List.Sorted.{IsNonDecreasingBy}
use Rattle.dataset_meta.specs.DataValues.{DataValue}
use Rattle.pubsub_model.specs.Answers.{is_data_at}
use Rattle.pubsub_model.specs.Cadence.{HadTurn, WriterDeed, WriterTurn, cadence, frames_of}
use Rattle.pubsub_model.specs.Frames.{published}
use Rattle.config_tables.specs.declared.words.NumberingWord.TheVariants.{Message}
use Rattle.ps_config.specs.declared.parts.Config.{Config}
use Rattle.reader_group.specs.Members.{seat_at}
use Rattle.reader_group.specs.Settings.{setting_of}
use Rattle.writer_group.specs.Parts.{group_at}
use Rattle.session_model.specs.Deeds.{log_at, writer_deeds}
use Rattle.session_model.specs.Events.{reader_at}
use Rattle.session_model.specs.Sets.{meta_in}
use Rattle.session_model.specs.Steps.{Plan}
use Rattle.session_laws.specs.Headline.{answered_turn}
use Rattle.session_laws.specs.Pasts.{settings_at}
use Rattle.session_laws.specs.Reading.{IsMatchedIn}
use Rattle.gateway_core.specs.Lived.{plan_again, version_in}
use Rattle.gateway_laws.specs.Gateways.{IsHonestAgain, IsHonestSource, IsOfVersion, IsRelayed, set_of}
use Rattle.gateway_laws.specs.Origins.{HoldsVersionAt, IsUncutBetween, IsUncutSince}
use Rattle.gateway_laws.specs.Relays.{RelayStep, firsts, seconds, stored_rows, stores_of}
use Rattle.gateway_laws.specs.Sources.{Source, source_at}
use Rattle.gateway_laws.specs.Versions.{versions_kept}

-- the source of a writer's data set
abbrev pub source_of : Config → List Source → ℕ → ℕ → Source
source_of second sources g w = source_at sources (set_of second g w)

-- ---- versions

-- what the gateway tells as the version of a store, by what it kept until then
abbrev pub version_told : Plan → Source → List RelayStep → ℕ → Option ℕ
version_told p source relay store = version_in (versions_kept p source relay) store

-- A version is told of the store, and it is that of the store's row in the first history. Store 0 is the opening row, of version 0. Each
-- other is the row that its reader held at the end of the pump that made it. `rows` are those of the versions of the first history.
pub record IsKnown (p : Plan) (second : Config) (sources : List Source) (relay : List RelayStep) (rows : ℕ → ℕ → List DataValue) (set store : ℕ) : Type 0 where
  pub version : ℕ
  pub told : version_told p (source_at sources set) relay store ≡ Some version
  pub of_version : IsOfVersion p (meta_in second.dataset set) (source_at sources set) (firsts relay) rows store version
      (stored_rows p.config second sources (firsts relay) set store)

-- ---- writers

-- the round of a relay in which a writer had this turn, after these deeds
pub record IsTurnOf (second : Config) (relay : List RelayStep) (g w : ℕ) (turn : WriterTurn) (before : List WriterDeed) : Type 0 where
  pub newer : List RelayStep
  pub round : RelayStep
  pub older : List RelayStep
  pub split : relay ≡ newer ++ round ∷ older
  pub later : List WriterDeed
  pub had : writer_deeds (plan_again second) g w (seconds (round ∷ older)) ≡ later ++ HadTurn turn ∷ before
  pub since : List WriterDeed
  pub behind : before ≡ since ++ writer_deeds (plan_again second) g w (seconds older)

-- A data frame of this place tells this store: it is the number of stores that the source has at the frame's own round, after the first
-- session's pump. Up to the frame the writer's frames publish the row of the store. Where the source's read group takes nothing but what
-- was sent, its version is known.
pub record TellsStore (p : Plan) (second : Config) (sources : List Source) (relay : List RelayStep) (rows : ℕ → ℕ → List DataValue) (g w place store : ℕ) : Type 0 where
  pub turn : WriterTurn
  pub before : List WriterDeed
  pub of_round : IsTurnOf second relay g w turn before
  pub placed : is_data_at place (answered_turn (settings_at (group_at second g) w) before turn) ≡ true
  pub count : store ≡ length (stores_of p.config sources (set_of second g w) (firsts (of_round.round ∷ of_round.older)))
  pub publishes : published (frames_of (cadence (settings_at (group_at second g) w) (HadTurn turn ∷ before)))
      ≡ stored_rows p.config second sources (firsts relay) (set_of second g w) store
  pub known : IsHonestSource p (source_of second sources g w) (firsts relay) → IsKnown p second sources relay rows (set_of second g w) store

-- ---- readers

-- the reader is matched to the writer within the second configuration, and goes by the numbers of messages
pub record IsNumbered (second : Config) (r i g w : ℕ) : Type 0 where
  pub there : g < length second.group
  pub matched : IsMatchedIn second r i g w
  pub numbering : (seat_at (setting_of second r).seats i).part.numbering ≡ Message

-- it holds the row of the store that its writer's log has at the number it holds; where the source's read group takes nothing but what was sent, the store's version is known
pub record HoldsStore (p : Plan) (second : Config) (sources : List Source) (relay : List RelayStep) (rows : ℕ → ℕ → List DataValue) (r i g w : ℕ) (row : List DataValue) : Type 0 where
  pub relayed : IsRelayed p second sources relay r i g w row
  pub known : IsHonestSource p (source_of second sources g w) (firsts relay) → IsKnown p second sources relay rows (set_of second g w) relayed.store

-- ---- from one moment to a later one

-- at a moment a reader holds the row of this store, of which this version is told
pub record HoldsTold (p : Plan) (second : Config) (source : Source) (now : List RelayStep) (r i g w store version : ℕ) : Type 0 where
  pub holds : HoldsVersionAt (plan_again second) r i g w (seconds now) store
  pub told : version_told p source now store ≡ Some version

-- the reader isn't cut between two moments, nor the source after the making of the store that the reader held at the earlier one
pub record AreUncut (p : Plan) (second : Config) (source : Source) (newer older : List RelayStep) (r i g w store : ℕ) : Type 0 where
  pub reader : IsUncutBetween (plan_again second) r i g w (seconds older) (seconds (newer ++ older))
  pub source_is : IsUncutSince p source (firsts (newer ++ older)) store

-- where neither it nor its source is cut, what it holds at the later one is no older: neither its store, nor the version that is told of this
abbrev pub IsNoOlder : Plan → Config → Source → List RelayStep → List RelayStep → ℕ → ℕ → ℕ → ℕ → Type 0
IsNoOlder p second source newer older r i g w =
    (store later_store version later_version : ℕ) → AreUncut p second source newer older r i g w store
    → HoldsTold p second source older r i g w store version
    → HoldsTold p second source (newer ++ older) r i g w later_store later_version
    → (store ≤ later_store) × (version ≤ later_version)

-- ---- the whole

-- THE GATEWAY. Each data frame of its writers tells the number of its source's stores at its round, and publishes that store's row. The
-- row's version is known where the source's read group takes nothing but what was sent. The stores of a writer never fall. Each reader that
-- is matched within the second configuration, and goes by numbers, holds the row of the store that its number names, or waits, where its
-- read group takes nothing but what was sent. From one moment to a later one what it holds gets no older, where both read groups take
-- nothing else, and neither it nor its source was cut.
pub record TellsGateway (p : Plan) (second : Config) (sources : List Source) (relay : List RelayStep) (rows : ℕ → ℕ → List DataValue) : Type 0 where
  pub stores : (g w place store : ℕ) → w < length (group_at second g).writer → Contains (log_at (plan_again second) g w (seconds relay)) (place, store)
      → TellsStore p second sources relay rows g w place store
  pub never_fall : (g w : ℕ) → w < length (group_at second g).writer
      → IsNonDecreasingBy (λ entry. entry.1) (log_at (plan_again second) g w (seconds relay))
  pub readers : (r i g w : ℕ) (row : List DataValue) → IsNumbered second r i g w → IsHonestAgain second r relay
      → (reader_at second r i (seconds relay)).kept.row ≡ Some row → HoldsStore p second sources relay rows r i g w row
  pub never_older : (later newer older : List RelayStep) (r i g w : ℕ) → relay ≡ later ++ (newer ++ older) → IsNumbered second r i g w
      → IsHonestAgain second r relay → IsHonestSource p (source_of second sources g w) (firsts relay)
      → IsNoOlder p second (source_of second sources g w) newer older r i g w
