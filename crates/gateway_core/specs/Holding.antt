-- What holds of a gateway between its calls, whatever it lived through: the conditions of the calls.
use Rattle.std.specs.Prelude.{◌≡◌, ℕ, ◌+◌, ◌-◌, ◌*◌, ◌^◌, ◌<◌, ◌≤◌, Bool, true, false, List, length, vec_len, vec_capacity}
use Rattle.std.specs.List.{HoldsAt}
use Rattle.ps_config.specs.declared.parts.Config.{Config}
use Rattle.target_cells.specs.declared.origin.Origin.{Origin}
use Rattle.version_cell.specs.Known.{Known}
use Rattle.writer_group.specs.declared.sampled.Sampled.{Sampled}
use Rattle.writer_group.specs.Standing.{IsGood}
use Rattle.session_model.specs.Counts.{most_ms}
use Rattle.session_model.specs.Steps.{Plan}
use Rattle.session_model.specs.Sets.{AreRowsOf}
use Rattle.session_parts.specs.Holding.{AreAllLogged, MayAllGoOn}
use Rattle.session_parts.specs.Rounds.{HoldRound}
use Rattle.gateway_core.specs.declared.collected.Collected.{Collected}
use Rattle.gateway_core.specs.declared.collected.Versions.{Versions}
use Rattle.gateway_core.specs.declared.gateway.Left.{Left}
use Rattle.gateway_core.specs.declared.gateway.Gateway.{Gateway}
use Rattle.gateway_core.specs.Lived.{plan_again}
use Rattle.gateway_core.specs.Sources.{MayCollect}

-- ---- its parts

abbrev pub plan_of : Gateway → Plan
plan_of s = plan_again s.config.now

-- the reader of the first configuration that each data set comes from
abbrev pub sources_of : Gateway → List ℕ
sources_of s = s.collected.sources.items

-- the samples of the next tick
abbrev pub sampled_by : Gateway → List Sampled
sampled_by s = s.collected.samples.items

-- what may still come
abbrev pub left_of : Gateway → Left
left_of s = s.left

-- before anything, with so many ticks, the closing one included
abbrev pub opening_left : ℕ → Left
opening_left turns = record { turns = turns; ticks = turns; collects = turns; pumps = 0; is_closed = false }

-- the ticks that it was opened for, beside the closing one
abbrev pub ticks_of : Gateway → ℕ
ticks_of s = s.left.turns - 1

-- so many data frames of each writer are logged, and the versions of so many stores of each source are kept
abbrev pub logged_of : Gateway → ℕ
logged_of s = s.collected.logged

-- as many as there are ticks
abbrev pub KeepsAll : Gateway → Type 0
KeepsAll s = s.left.turns ≤ logged_of s

-- ---- the condition of every call, which each call keeps

-- no more versions are kept than so many beside that of store 0, and there is room for them
pub record HasRoom (most : ℕ) (versions : Versions) : Type 0 where
  pub few : vec_len versions.kept ≤ most + 1
  pub room : most + 1 ≤ vec_capacity versions.kept

pub record HoldCollected (config : Config) (c : Collected) : Type 0 where
  pub sources : length c.sources.items ≡ length config.dataset
  pub rows : AreRowsOf config.dataset c.samples.items
  pub versions : length c.versions.items ≡ length config.dataset
  pub room : (set : ℕ) → set < length config.dataset → HoldsAt (HasRoom c.logged) c.versions.items set

pub record IsGateway (s : Gateway) : Type 0 where
  pub good : IsGood s.config.now
  pub collected : HoldCollected s.config.now s.collected
  pub round : HoldRound s.config.now s.round
  pub goes_on : MayAllGoOn s.config.now s.config.now.dataset s.left.ticks s.round.publisher.groups.items
  pub logs : AreAllLogged (logged_of s) s.round.publisher.groups.items
  pub time : s.round.moment + s.left.ticks * most_ms < 2 ^ 64
  pub calls : s.left.ticks + s.left.pumps < 2 ^ 64

-- what a call of `collect` is given belongs to the gateway
pub record MayTake (s : Gateway) (passes : List Known) (origins : List Origin) : Type 0 where
  pub gateway : IsGateway s
  pub left : 0 < s.left.collects
  pub may : MayCollect s.config.now.dataset (sources_of s) passes origins

-- how many ticks have to be left for one that is the closing one, or isn't: then the closing one has to be left besides
abbrev pub ticks_needed : Bool → ℕ
ticks_needed true = 1
ticks_needed false = 2

-- a tick may come: the closing one didn't yet, and takes no time
pub record MayTick (ms : ℕ) (closing : Bool) (s : Gateway) : Type 0 where
  pub gateway : IsGateway s
  pub running : s.left.is_closed ≡ false
  pub left : ticks_needed closing ≤ s.left.ticks
  pub short : ms ≤ most_ms
  pub still : closing ≡ true → ms ≡ 0

pub record MayPump (s : Gateway) : Type 0 where
  pub gateway : IsGateway s
  pub left : 0 < s.left.pumps

-- ---- what may come after a call

-- a collect came
pub record CountsCollect (old new : Left) : Type 0 where
  pub collects : new.collects + 1 ≡ old.collects
  pub rest : new ≡ record old { collects = new.collects }

-- a tick came
pub record CountsTick (closing : Bool) (old new : Left) : Type 0 where
  pub turns : new.turns ≡ old.turns
  pub ticks : new.ticks + 1 ≡ old.ticks
  pub pumps : new.pumps ≡ old.pumps + 1
  pub collects : new.collects ≡ old.collects
  pub is_closed : new.is_closed ≡ closing

-- a pump came
pub record CountsPump (old new : Left) : Type 0 where
  pub pumps : new.pumps + 1 ≡ old.pumps
  pub rest : new ≡ record old { pumps = new.pumps }

-- neither a tick nor a pump changes what was collected
abbrev pub KeepsCollected : Gateway → Gateway → Type 0
KeepsCollected old new = new.collected ≡ old.collected
