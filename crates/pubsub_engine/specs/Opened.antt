-- What a new session is made of.
use Rattle.std.specs.Prelude.{◌≡◌, ℕ, ◌+◌, ◌<◌, ◌≤◌, false, List, [], length, get_or, map, vec_len, All, Option, Some, None}
use Rattle.dataset_meta.specs.Metas.{MetaData, IsMeta}
use Rattle.ps_config.specs.declared.parts.Config.{Config}
use Rattle.ps_config.specs.Sound.{readers}
use Rattle.version_cell.specs.Known.{Known}
use Rattle.version_cell.specs.Cells.{CellData, IsCell}
use Rattle.version_cell.specs.Sets.{ArePassesOf, new_passes, pass_at}
use Rattle.cell_bank.specs.Hands.{AreHands, AreSmall}
use Rattle.target_cells.specs.Keeping.{AreKept, metas_of}
use Rattle.writer_group.specs.Standing.{IsGood}
use Rattle.session_model.specs.Counts.{life_ticks}
use Rattle.session_model.specs.Sets.{AreRowsOf}
use Rattle.session_parts.specs.Holding.{AreAllLogged, MayAllGoOn}
use Rattle.session_parts.specs.Rounds.{HoldRound, IsUnstepped}
use Rattle.pubsub_engine.specs.declared.size.Append.{Append}
use Rattle.pubsub_engine.specs.declared.size.Size.{Size}
use Rattle.pubsub_engine.specs.declared.sets.Sets.{Sets}
use Rattle.pubsub_engine.specs.declared.sampling.Samples.{Samples}
use Rattle.pubsub_engine.specs.declared.storing.Last.{Last}
use Rattle.pubsub_engine.specs.declared.storing.Stores.{Stores}
use Rattle.pubsub_engine.specs.declared.session.Left.{Left}
use Rattle.pubsub_engine.specs.declared.session.Session.{Session}
use Rattle.pubsub_engine.specs.declared.opening.Cells.{Cells}
use Rattle.pubsub_engine.specs.declared.opening.Opening.{Opening}
use Rattle.pubsub_engine.specs.Holding.{AreAppends, AreTargetsOf, HoldSets, IsBankOf, appends_left, full_of, keeper_of, passes_of, plan_of}
use Rattle.pubsub_engine.specs.Standing.{sampled_by, samples_of}

-- ---- data sets and cells

-- the writes of each data set, and all of a data set within the bound
pub record AreWrites (config : Config) (writes : List (List ℕ)) : Type 0 where
  pub count : length writes ≡ length config.dataset
  pub small : AreSmall writes

-- the data sets before the first of these appends
pub record AreNewSets (config : Config) (appends : List Append) (sets : Sets) : Type 0 where
  pub holds : HoldSets config sets
  pub first : sets.metas.items ≡ config.dataset
  pub full : sets.full.items ≡ full_of config.dataset appends
  pub later : map (λ growth. growth.set) sets.later.items ≡ map (λ append. append.set) appends
  pub none : sets.made ≡ 0

-- new cells of the full data sets, and of the readers' as they are configured, with new passes
pub record AreNewCells (config : Config) (full : List MetaData) (size : Size) (made : Cells) : Type 0 where
  pub cells : All IsCell made.bank
  pub metas : map (λ cell. cell.meta) made.bank ≡ full
  pub quotas : map (λ cell. cell.quotas) made.bank ≡ size.writes.items
  pub first : made.passes ≡ new_passes made.bank None
  pub own : ArePassesOf made.bank made.passes
  pub hands : AreHands made.bank made.hands.items
  pub limit : made.targets.limit ≡ size.ticks + 1
  pub kept : AreKept made.targets
  pub seats : map (λ cell. cell.meta) made.targets.cells ≡ metas_of config.dataset (map (λ reader. reader.dataset) (readers config))
  pub keeper : made.keeper ≡ new_passes made.targets.cells (Some 0)
  pub keeps : ArePassesOf made.targets.cells made.keeper
  pub looks : made.watches ≡ new_passes made.targets.cells None
  pub watch : ArePassesOf made.targets.cells made.watches

-- new passes of so many cells
abbrev pub AreNewPasses : ℕ → Option ℕ → List Known → Type 0
AreNewPasses count author passes = (cells : List CellData) × (length cells ≡ count) × (passes ≡ new_passes cells author)

-- ---- the session

pub record IsFreshSamples (sets : ℕ) (samples : Samples) : Type 0 where
  pub rows : (full : List MetaData) → length full ≡ sets → All (λ meta. IsMeta meta.fields) full → AreRowsOf full samples.taken.items
  pub cut : vec_len samples.cut ≡ sets
  pub passes : length samples.passes ≡ sets

pub record AreFreshStores (count : ℕ) (stores : Stores) : Type 0 where
  pub lasts : length stores.last.items ≡ count
  pub none : (k : ℕ) → k < count → (d : Last) → (get_or stores.last.items k d).is_there ≡ false
  pub keepers : length stores.keeper ≡ count
  pub unseen : (k : ℕ) → k < count → (pass_at stores.keeper k).seen ≡ []

abbrev pub left_by : ℕ → ℕ → Left
left_by turns logged = record { ticks = turns; pumps = 0; stores = turns; logged = logged; is_closed = false }

-- before the first step, with so many turns, and logs that keep so many data frames
pub record IsFresh (appends : List Append) (turns logged : ℕ) (s : Session) : Type 0 where
  pub good : IsGood s.config.now
  pub few : turns ≤ life_ticks + 1
  pub one : 1 ≤ turns
  pub may : AreAppends s.config.now s.config.now.dataset appends
  pub left : s.left ≡ left_by turns logged
  pub sets : HoldSets s.config.now s.sets
  pub first : s.sets.metas.items ≡ s.config.now.dataset
  pub full : s.sets.full.items ≡ full_of s.config.now.dataset appends
  pub samples : IsFreshSamples (length s.config.now.dataset) s.samples
  pub holds : HoldRound s.config.now s.round
  pub unstepped : (full : List MetaData) → IsUnstepped s.config.now full s.round
  pub goes_on : MayAllGoOn s.config.now s.config.now.dataset turns s.round.publisher.groups.items
  pub logs : AreAllLogged logged s.round.publisher.groups.items
  pub stores : AreFreshStores (length (readers s.config.now)) s.stores

-- a fresh one of the configuration with these passes, whose sample is of them
pub record IsNewSession (config : Config) (size : Size) (seen kept : List Known) (s : Session) : Type 0 where
  pub fresh : IsFresh size.appends.items (size.ticks + 1) size.logged s
  pub plan : plan_of s ≡ record { config = config; full = full_of config.dataset size.appends.items }
  pub appends : appends_left s ≡ map (λ append. append.set) size.appends.items
  pub passes : passes_of s ≡ seen
  pub sampled : sampled_by s ≡ samples_of (passes_of s)
  pub keeper : keeper_of s ≡ kept

-- ---- and what it is opened with

pub record IsOpening (config : Config) (size : Size) (o : Opening) : Type 0 where
  pub session : IsNewSession config size (new_passes o.bank None) (new_passes o.targets.cells (Some 0)) o.session
  pub bank : IsBankOf o.session o.bank
  pub quotas : map (λ cell. cell.quotas) o.bank ≡ size.writes.items
  pub hands : AreHands o.bank o.hands.items
  pub targets : AreTargetsOf o.session o.targets
  pub kept : AreKept o.targets
  pub watches : o.watches ≡ new_passes o.targets.cells None
  pub looks : ArePassesOf o.targets.cells o.watches
