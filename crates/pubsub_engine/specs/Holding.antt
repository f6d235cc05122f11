-- What holds of a session between its calls, whatever it lived through: the conditions of the calls below.
use Rattle.std.specs.Prelude.{◌≡◌, ◌⊎◌, ⊤, ℕ, ◌+◌, ◌-◌, ◌*◌, ◌^◌, ◌<◌, ◌≤◌, nat_lt, ◌||◌, Bool, true, false, List, [], ◌∷◌, length, map, drop, slice_set, vec_len, All}
use Rattle.dataset_meta.specs.declared.field.Field.{Field}
use Rattle.dataset_meta.specs.Metas.{MetaData, grown}
use Rattle.ps_config.specs.declared.parts.Config.{Config}
use Rattle.ps_config.specs.Rooms.{is_fixed}
use Rattle.ps_config.specs.Sound.{readers}
use Rattle.target_cells.specs.Keeping.{TargetsData, metas_of}
use Rattle.version_cell.specs.Known.{Known}
use Rattle.version_cell.specs.Cells.{CellData, IsCell}
use Rattle.version_cell.specs.Passes.{Adds}
use Rattle.version_cell.specs.Sets.{pass_at, ArePassesOf}
use Rattle.writer_group.specs.Parts.{group_at}
use Rattle.writer_group.specs.Payloads.{meta_at}
use Rattle.writer_group.specs.Standing.{IsGood}
use Rattle.session_model.specs.Counts.{most_ms}
use Rattle.session_model.specs.Steps.{Plan}
use Rattle.session_model.specs.Sets.{AreFit, MayAppend, GrowTo, AreRowsOf, meta_in}
use Rattle.session_parts.specs.Holding.{AreAllLogged, MayAllGoOn}
use Rattle.session_parts.specs.Rounds.{HoldRound}
use Rattle.pubsub_engine.specs.declared.size.Append.{Append}
use Rattle.pubsub_engine.specs.declared.sets.Sets.{Sets}
use Rattle.pubsub_engine.specs.declared.sets.Growth.{Growth}
use Rattle.pubsub_engine.specs.declared.sampling.Samples.{Samples}
use Rattle.pubsub_engine.specs.declared.storing.Stores.{Stores}
use Rattle.pubsub_engine.specs.declared.session.Left.{Left}
use Rattle.pubsub_engine.specs.declared.session.Session.{Session}

-- ---- the data sets

-- data sets that the session may have at some moment: as many as are configured, fit, those of fixed groups as configured, and grown to the full ones
pub record AreSets (config : Config) (full metas : List MetaData) : Type 0 where
  pub count : length metas ≡ length config.dataset
  pub fit : AreFit config metas
  pub fixed : (g : ℕ) → g < length config.group → is_fixed (group_at config g).layout ≡ true → (w : ℕ) → w < length (group_at config g).writer
      → meta_at (group_at config g) metas w ≡ meta_at (group_at config g) config.dataset w
  pub grow : GrowTo metas full

-- a data set grows by a field
pub record Grows (config : Config) (metas : List MetaData) (growth : Growth) : Type 0 where
  pub may : MayAppend config metas growth.set (slice_set metas growth.set growth.meta)
  pub field : Field
  pub meta : growth.meta ≡ grown (meta_in metas growth.set) field

-- the appends that are still to come, in order
abbrev pub AreToCome : Config → List MetaData → List MetaData → List Growth → Type 0
AreToCome config full metas [] = AreSets config full metas
AreToCome config full metas (growth ∷ later) =
    AreSets config full metas × Grows config metas growth × AreToCome config full (slice_set metas growth.set growth.meta) later

-- what appends make of data sets
abbrev pub grown_by : List MetaData → Append → List MetaData
grown_by metas append = slice_set metas append.set (grown (meta_in metas append.set) append.field)

-- the data set that the append names, and what it is after it
pub record IsGrowthBy (metas : List MetaData) (append : Append) (growth : Growth) : Type 0 where
  pub set : growth.set ≡ append.set
  pub meta : growth.meta ≡ grown (meta_in metas append.set) append.field

abbrev pub full_of : List MetaData → List Append → List MetaData
full_of metas [] = metas
full_of metas (append ∷ appends) = full_of (grown_by metas append) appends

-- each append is allowed when it comes
abbrev pub AreAppends : Config → List MetaData → List Append → Type 0
AreAppends config metas [] = ⊤
AreAppends config metas (append ∷ appends) =
    MayAppend config metas append.set (grown_by metas append) × AreAppends config (grown_by metas append) appends

pub record HoldSets (config : Config) (sets : Sets) : Type 0 where
  pub made : sets.made ≤ length sets.later.items
  pub to_come : AreToCome config sets.full.items sets.metas.items (drop sets.made sets.later.items)

-- ---- samples and stores

pub record HoldSamples (full : List MetaData) (samples : Samples) : Type 0 where
  pub rows : AreRowsOf full samples.taken.items
  pub cut : vec_len samples.cut ≡ length full
  pub passes : length samples.passes ≡ length full

-- each reader may be stored so often
pub record HoldStores (config : Config) (limit left : ℕ) (stores : Stores) : Type 0 where
  pub count : length stores.last.items ≡ length (readers config)
  pub keepers : length stores.keeper ≡ length (readers config)
  pub room : (k : ℕ) → k < length (readers config) → length (pass_at stores.keeper k).seen + left ≤ limit

-- ---- the session

abbrev pub plan_of : Session → Plan
plan_of s = record { config = s.config.now; full = s.sets.full.items }

-- what may still come
abbrev pub left_of : Session → Left
left_of s = s.left

-- before the first tick, with so many beside the closing one, and logs that keep so many data frames
abbrev pub opening_left : ℕ → ℕ → Left
opening_left ticks logged = record { ticks = ticks + 1; pumps = 0; stores = ticks + 1; logged = logged; is_closed = false }

-- the ticks that it was opened for, beside the closing one
abbrev pub ticks_of : Session → ℕ
ticks_of s = s.left.stores - 1

-- how many data frames the log of each writer keeps, the first ones
abbrev pub logged_of : Session → ℕ
logged_of s = s.left.logged

-- one for each tick at least, so all: a writer has one at most in a tick
abbrev pub KeepsWholeLogs : Session → Type 0
KeepsWholeLogs s = ticks_of s < logged_of s

-- The version of a row that a reader holds is found by its number, of 16 bits. In whole logs it is that of the last data frame with the
-- number. In any log it is found where a writer has no more data frames than there are numbers, so that each has one of its own. Else no
-- version is told of such a row.
abbrev pub tells_versions : Session → Bool
tells_versions s = nat_lt (ticks_of s) 65536 || nat_lt (ticks_of s) (logged_of s)

-- how many stores a target may have
abbrev pub stores_limit : Session → ℕ
stores_limit s = s.left.stores

abbrev pub passes_of : Session → List Known
passes_of s = s.samples.passes

abbrev pub keeper_of : Session → List Known
keeper_of s = s.stores.keeper

-- the condition of each call, which each call keeps
pub record IsSession (s : Session) : Type 0 where
  pub good : IsGood s.config.now
  pub sets : HoldSets s.config.now s.sets
  pub samples : HoldSamples s.sets.full.items s.samples
  pub round : HoldRound s.config.now s.round
  pub goes_on : MayAllGoOn s.config.now s.sets.metas.items s.left.ticks s.round.publisher.groups.items
  pub logged : AreAllLogged s.left.logged s.round.publisher.groups.items
  pub stores : HoldStores s.config.now s.left.stores (s.left.ticks + s.left.pumps) s.stores
  pub time : s.round.moment + s.left.ticks * most_ms < 2 ^ 64
  pub calls : s.left.ticks + s.left.pumps < 2 ^ 64

-- the closing tick didn't come yet
abbrev pub IsRunning : Session → Type 0
IsRunning s = s.left.is_closed ≡ false

-- how many ticks have to be left for one that is the closing one, or isn't: then the closing one has to be left besides
abbrev pub ticks_needed : Bool → ℕ
ticks_needed true = 1
ticks_needed false = 2

-- a tick may come: the closing one didn't yet, and takes no time
pub record MayTick (ms : ℕ) (closing : Bool) (s : Session) : Type 0 where
  pub session : IsSession s
  pub running : IsRunning s
  pub left : ticks_needed closing ≤ s.left.ticks
  pub short : ms ≤ most_ms
  pub still : closing ≡ true → ms ≡ 0

pub record MayPump (s : Session) : Type 0 where
  pub session : IsSession s
  pub left : 0 < s.left.pumps

pub record MayAppendNext (s : Session) : Type 0 where
  pub session : IsSession s
  pub running : IsRunning s
  pub left : s.sets.made < length s.sets.later.items

-- a tick came
pub record CountsTick (closing : Bool) (old new : Left) : Type 0 where
  pub ticks : new.ticks + 1 ≡ old.ticks
  pub pumps : new.pumps ≡ old.pumps + 1
  pub stores : new.stores ≡ old.stores
  pub logged : new.logged ≡ old.logged
  pub is_closed : new.is_closed ≡ closing

-- a pump came
pub record CountsPump (old new : Left) : Type 0 where
  pub pumps : new.pumps + 1 ≡ old.pumps
  pub rest : new ≡ record old { pumps = new.pumps }

-- ---- what a call is given beside the session

-- the bank made the session's passes, and its cells are sound ones of the full data sets
pub record IsBankOf (s : Session) (bank : List CellData) : Type 0 where
  pub passes : ArePassesOf bank (passes_of s)
  pub metas : map (λ cell. cell.meta) bank ≡ s.sets.full.items
  pub cells : All IsCell bank

-- the targets made the session's keeper, and there is one for each reader, of the data set that it is configured for
pub record AreTargetsOf (s : Session) (targets : TargetsData) : Type 0 where
  pub keeper : ArePassesOf targets.cells (keeper_of s)
  pub limit : targets.limit ≡ s.left.stores
  pub metas : map (λ cell. cell.meta) targets.cells ≡ metas_of s.config.now.dataset (map (λ reader. reader.dataset) (readers s.config.now))

-- ---- what a call changes

abbrev pub ChangesSamples : Session → Session → Type 0
ChangesSamples old new = new ≡ record old { samples = new.samples }

abbrev pub ChangesStores : Session → Session → Type 0
ChangesStores old new = new ≡ record old { stores = new.stores }

-- a pass has no store more, or one
abbrev pub AddsOneAtMost : Known → Known → Type 0
AddsOneAtMost old new = (new ≡ old) ⊎ ((row : List ℕ) × Adds old new row)

-- what neither a tick nor an append nor a switch changes
pub record KeepsPasses (old new : Session) : Type 0 where
  pub plan : plan_of new ≡ plan_of old
  pub passes : passes_of new ≡ passes_of old
  pub sampled : new.samples.taken ≡ old.samples.taken
  pub keeper : keeper_of new ≡ keeper_of old
  pub stores : new.left.stores ≡ old.left.stores
  pub logged : new.left.logged ≡ old.left.logged

-- the data sets of the appends that are still to come, in order
abbrev pub appends_left : Session → List ℕ
appends_left s = map (λ growth. growth.set) (drop s.sets.made s.sets.later.items)
