-- What is relayed: a session of the first configuration, and a gateway of the second that follows it. Lists of steps and of lines have the latest first.
use Rattle.std.specs.Prelude.{◌≡◌, ℕ, ◌+◌, ◌<◌, ◌≤◌, List, [], ◌∷◌, length, slice_get, slice_index_or, Bool, true, false, Option, Some}
use Rattle.ua_base.specs.Journal.{Entry, LinkState}
use Rattle.ps_config.specs.declared.parts.Config.{Config}
use Rattle.ps_config.specs.Sound.{readers}
use Rattle.ps_report.specs.declared.closed.Closed.{Closed}
use Rattle.report_laws.specs.Reported.{IsReported}
use Rattle.ps_script.specs.declared.script.Act.{Act}
use Rattle.ps_script.specs.declared.script.Act.TheVariants as act
use Rattle.ps_script.specs.declared.script.Line.{Line}
use Rattle.ps_script.specs.declared.script.Script.{Script}
use Rattle.ps_script.specs.Sessions.{ticks_in}
use Rattle.target_cells.specs.declared.origin.Origin.{Origin}
use Rattle.target_cells.specs.Keeping.{AreSound}
use Rattle.session_model.specs.Keeping.{IsPlan}
use Rattle.session_model.specs.Closing.{MemberPlace, reader_places}
use Rattle.session_model.specs.Counts.{most_ms}
use Rattle.session_model.specs.Sends.{TellsRun}
use Rattle.session_model.specs.Steps.{Plan, Step}
use Rattle.pubsub_engine.specs.Holding.{left_of as session_left}
use Rattle.pubsub_engine.specs.Standing.{IsOriginOf, Stands as SessionStands}
use Rattle.gateway_core.specs.Lived.{Collect, GatewayStep, Pump, Tick, no_origin, plan_again, session_steps}
use Rattle.gateway_core.specs.Holding.{IsGateway, KeepsAll, left_of, sources_of, ticks_needed}
use Rattle.gateway_core.specs.Sources.{HaveSources as HaveIndexes}
use Rattle.gateway_core.specs.Standing.{Stands}
use Rattle.gateway_laws.specs.Gateways.{IsRelay}
use Rattle.gateway_laws.specs.Lives.{ArePlaces, Lives}
use Rattle.gateway_laws.specs.Relays.{Collects, RelayStep, firsts, seconds}
use Rattle.gateway_laws.specs.Sources.{HaveSources, Source}
use Rattle.script_player.specs.declared.player.Player.{Player}
use Rattle.script_player.specs.Player.{Does, HasPlayed, IsPlayer, Levels, Passes, config_of}
use Rattle.script_player.specs.Plays.{IsPlayOf, plan_by, row_written}
use Rattle.cmd_relay.specs.declared.relaying.Relay.{Relay}
use Rattle.cmd_relay.specs.Numbers.{GatewayHasNumbers}
use Rattle.cmd_relay.specs.Telling.{TellsRelay}
use Rattle.cmd_relay.specs.Texts.{IsTextOf, versions_of}

-- ---- the whole

-- A play of the script with the first configuration, and a gateway of the second that follows it, in which each data set has a source.
-- After each tick and pump of the session the gateway collects what its readers have stored, and has a tick of as many milliseconds, and a
-- pump. Each link that tells a journal tells its own. The text tells the play, and no other, and the gateway. Its numbers have 64 bits.
-- What it publishes is of the history that the script writes where the source's read group takes nothing but what was sent. Where the
-- reader's does too, so is what a matched reader that goes by numbers holds.
pub record IsRelayOf (first second : Config) (script : Script) (lab wire : Option LinkState) (text : List ℕ) : Type 0 where
  pub closed : Closed
  pub play : IsPlayOf first script lab closed
  pub reported : IsReported first closed
  pub sources : List Source
  pub relay : List RelayStep
  pub firsts_are : firsts relay ≡ play.steps
  pub is_relay : IsRelay (plan_by first script) second sources relay
  pub tells : TellsRun (plan_again second) (seconds relay) wire
  pub text_is : IsTextOf first closed second (seconds relay) (versions_of (plan_by first script) sources relay) text
  pub numbers : GatewayHasNumbers second (seconds relay) (versions_of (plan_by first script) sources relay)
  pub gateway : TellsRelay (plan_by first script) second sources relay (row_written script) text

-- ---- a gateway follows the player

-- what the player tells of the last stores of its session's readers
abbrev pub AreOriginsBy : Player → List Origin → Type 0
AreOriginsBy player origins =
    (k : ℕ) → k < length origins → (p : Plan) (steps : List Step) (place : MemberPlace) → SessionStands p steps player.session
    → slice_get (reader_places p.config) k ≡ Some place → IsOriginOf p steps place (slice_index_or origins k no_origin)

pub record ShowsOrigins (player : Player) (origins : List Origin) : Type 0 where
  pub origins_are : AreOriginsBy player origins
  pub sound : 0 < length origins → AreSound player.targets

-- the gateway of this configuration has its sources among the readers of the session, and as many ticks left as the session and so many more
pub record HoldsRelay (second : Config) (more : ℕ) (relay : Relay) : Type 0 where
  pub player : IsPlayer relay.player
  pub plan : Plan
  pub steps : List Step
  pub stood : SessionStands plan steps relay.player.session
  pub gateway : IsGateway relay.gateway
  pub lived : List GatewayStep
  pub stands : Stands second lived relay.gateway
  pub origins : length relay.origins.items ≡ length (readers (config_of relay.player))
  pub sources : HaveIndexes (config_of relay.player) second (sources_of relay.gateway)
  pub ticks : (left_of relay.gateway).ticks ≡ (session_left relay.player.session).ticks + more
  pub collects : (left_of relay.gateway).collects ≡ (left_of relay.gateway).ticks
  pub pumps : (left_of relay.gateway).pumps ≡ 0
  pub running : (left_of relay.gateway).is_closed ≡ false

-- some gateway
abbrev pub Holds : ℕ → Relay → Type 0
Holds more relay = (second : Config) × HoldsRelay second more relay

-- a tick of the gateway may come
pub record MayFollow (ms : ℕ) (closing : Bool) (relay : Relay) : Type 0 where
  pub holds : Holds 1 relay
  pub left : ticks_needed closing ≤ (left_of relay.gateway).ticks
  pub short : ms ≤ most_ms
  pub still : closing ≡ true → ms ≡ 0

-- the gateway lived on: it was shown this relay's watches and origins, and had a tick and a pump; what its link tells is then the journal, if it was before
abbrev pub LivesOn : Config → ℕ → Bool → Relay → Relay → Option LinkState → Option LinkState → Type 0
LivesOn second ms closing old new told after =
    (lived : List GatewayStep) → Stands second lived old.gateway
    → (again : List Bool) × (back : List Entry)
    × Stands second (Pump back ∷ Tick ms closing again ∷ Collect new.player.watches new.origins.items ∷ lived) new.gateway
    × (TellsRun (plan_again second) (session_steps (sources_of old.gateway) lived) told
    → TellsRun (plan_again second)
    (session_steps (sources_of old.gateway) (Pump back ∷ Tick ms closing again ∷ Collect new.player.watches new.origins.items ∷ lived)) after)

-- the gateway followed the player, which changed in nothing but its watches
pub record Follows (second : Config) (ms : ℕ) (closing : Bool) (old new : Relay) (told after : Option LinkState) : Type 0 where
  pub player : IsPlayer new.player
  pub gateway : IsGateway new.gateway
  pub levels : Levels old.player new.player
  pub shows : ShowsOrigins new.player new.origins.items
  pub count : length new.origins.items ≡ length old.origins.items
  pub sources : sources_of new.gateway ≡ sources_of old.gateway
  pub lives : LivesOn second ms closing old new told after
  pub ticks : (left_of new.gateway).ticks + 1 ≡ (left_of old.gateway).ticks
  pub collects : (left_of new.gateway).collects + 1 ≡ (left_of old.gateway).collects
  pub pumps : (left_of new.gateway).pumps ≡ (left_of old.gateway).pumps
  pub closed : (left_of new.gateway).is_closed ≡ closing
  pub keeps : KeepsAll old.gateway → KeepsAll new.gateway

-- ---- a line, and the closing tick

-- what comes after the player's line: a tick of the gateway after one of the session, and nothing else
abbrev pub IsBehind : Config → Act → Relay → Relay → Option LinkState → Option LinkState → Type 0
IsBehind second (act.Tick ms) mid new told after = Follows second ms false mid new told after
IsBehind second (act.Write thread set patch) mid new told after = (new ≡ mid) × (after ≡ told)
IsBehind second (act.Enable id) mid new told after = (new ≡ mid) × (after ≡ told)
IsBehind second (act.Disable id) mid new told after = (new ≡ mid) × (after ≡ told)
IsBehind second (act.Fated k fate) mid new told after = (new ≡ mid) × (after ≡ told)
IsBehind second (act.Watch thread reader times) mid new told after = (new ≡ mid) × (after ≡ told)
IsBehind second (act.Append set) mid new told after = (new ≡ mid) × (after ≡ told)

-- the player plays a line, and then comes what is after it. lab, wire: what the links tell
pub record RelaysLine (second : Config) (what : Act) (old new : Relay) (lab lab_after wire wire_after : Option LinkState) : Type 0 where
  pub mid : Player
  pub player : IsPlayer mid
  pub does : Does what old.player mid lab lab_after
  pub behind : IsBehind second what (record old { player = mid }) new wire wire_after

-- the closing tick of the session, and that of the gateway
pub record RelaysEnd (second : Config) (old new : Relay) (lab lab_after wire wire_after : Option LinkState) : Type 0 where
  pub mid : Player
  pub player : IsPlayer mid
  pub ends : Passes 0 true old.player mid lab lab_after
  pub behind : Follows second 0 true (record old { player = mid }) new wire wire_after

-- ---- what was relayed so far

-- a link that tells anything tells an empty journal
abbrev pub IsUntold : Option LinkState → Type 0
IsUntold told = (link : LinkState) → told ≡ Some link → link.journal ≡ []

-- these lines, the first of the script's, were played, and the gateway, whose logs keep each data frame, followed each tick
pub record HasRelayed (first second : Config) (script : Script) (lines : List Line) (lab wire : Option LinkState) (r : Relay) : Type 0 where
  pub player : IsPlayer r.player
  pub played : HasPlayed first script lines lab r.player
  pub gateway : IsGateway r.gateway
  pub keeps : KeepsAll r.gateway
  pub origins : length r.origins.items ≡ length (readers first)
  pub indexes : HaveIndexes first second (sources_of r.gateway)
  pub sources : List Source
  pub sources_are : HaveSources first second sources
  pub places : ArePlaces first (sources_of r.gateway) sources
  pub ticks : (left_of r.gateway).ticks + ticks_in lines ≡ ticks_in script.lines + 1
  pub collects : (left_of r.gateway).collects ≡ (left_of r.gateway).ticks
  pub pumps : (left_of r.gateway).pumps ≡ 0
  pub running : (left_of r.gateway).is_closed ≡ false
  pub relay : List RelayStep
  pub firsts_are : firsts relay ≡ played.steps
  pub lived : List GatewayStep
  pub lives : Lives (plan_by first script) (sources_of r.gateway) sources relay lived
  pub stands : Stands second lived r.gateway
  pub collected : Collects first second sources relay
  pub tells : TellsRun (plan_again second) (session_steps (sources_of r.gateway) lived) wire

-- before the first line of the script
pub record IsNewRelay (first second : Config) (script : Script) (r : Relay) : Type 0 where
  pub relayed : (lab wire : Option LinkState) → IsUntold lab → IsUntold wire → HasRelayed first second script [] lab wire r
  pub plan : IsPlan (plan_by first script)
