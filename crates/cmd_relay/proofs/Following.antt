-- A gateway that follows the player: the conditions of its calls, and what they make of it.
use Rattle.std.proofs.Common.{◌≡◌, sym, ap, ◌∙◌, subst, arith, ℕ, ◌+◌, ◌<◌, ◌≤◌, Bool, true, false, List, ◌∷◌, length, Option, Some}
use Rattle.std.specs.Prelude.{slice_get, slice_index_or, slice_set}
use Rattle.std.proofs.lemmas.List.{get_or-set_other, get_or-set_same}
use native.Mathlib.Decide.{ℕ_discrete}
use Rattle.ua_base.specs.Journal.{Entry, LinkState}
use Rattle.ps_config.specs.declared.parts.Config.{Config}
use Rattle.ps_config.specs.Sound.{readers}
use Rattle.target_cells.specs.declared.origin.Origin.{Origin}
use Rattle.version_cell.specs.Sets.{pass_at}
use Rattle.session_model.specs.Closing.{MemberPlace, reader_places}
use Rattle.session_model.specs.Counts.{most_ms}
use Rattle.session_model.specs.Sends.{TellsRun}
use Rattle.session_model.specs.Steps.{Plan, Step}
use Rattle.pubsub_engine.specs.declared.session.Session.{Session}
use Rattle.pubsub_engine.specs.Holding.{keeper_of, plan_of as session_plan}
use Rattle.pubsub_engine.specs.Standing.{IsOriginOf, Stands as SessionStands}
use Rattle.gateway_core.specs.declared.gateway.Gateway.{Gateway}
use Rattle.gateway_core.specs.declared.gateway.Left.{Left}
use Rattle.gateway_core.specs.Lived.{Collect, GatewayStep, Pump, Tick, no_origin, plan_again, session_steps}
use Rattle.gateway_core.specs.Holding.{CountsCollect, CountsPump, CountsTick, IsGateway, KeepsCollected, MayPump, MayTake, MayTick, left_of, logged_of, sources_of, ticks_needed}
use Rattle.gateway_core.specs.Standing.{Leads, Stands}
use Rattle.script_player.specs.declared.player.Player.{Player}
use Rattle.script_player.specs.Player.{IsPlayer, Levels, config_of}
use Rattle.cmd_relay.specs.declared.relaying.Relay.{Relay}
use Rattle.cmd_relay.specs.Relaying.{Follows, HoldsRelay, ShowsOrigins}
use Rattle.cmd_relay.proofs.Showing.{ShowsCollected, may-collect}

-- ---- a levelled player

pub level-seen : (old new : Player) → Levels old new → IsPlayer old → IsPlayer new → (k : ℕ) → k < length new.watches
    → (pass_at new.watches k).seen ≡ (pass_at (keeper_of new.session) k).seen
level-seen old new levels was is k lt =
    let targets = ap (λ (q : Player). length q.targets.cells) levels.rest in
    let there : k < length old.watches = (let a = was.watches.count in let b = is.watches.count in omega (arith, lt, a, b, targets)) in
    (levels.level k there).seen ∙ ap (λ keeper. (pass_at keeper k).seen) (sym levels.same)

pub levelled-config : (old new : Player) → Levels old new → config_of new ≡ config_of old
levelled-config old new levels = ap (λ (s : Session). (session_plan s).config) levels.stores

pub config-of-gateway : (second : Config) (lived : List GatewayStep) (s : Gateway) → Stands second lived s → s.config.now ≡ second
config-of-gateway second lived s stands = ap (λ (p : Plan). p.config) stands.session.plan

-- ---- what the calls did

pub record AreFollowings (ms : ℕ) (closing : Bool) (player new : Player) (origins : List Origin) (s taken ticked pumped : Gateway) (told between after : Option LinkState) : Type 0 where
  pub levels : Levels player new
  pub is : IsPlayer new
  pub shows : ShowsOrigins new origins
  pub counts_taken : CountsCollect (left_of s) (left_of taken)
  pub sources_taken : sources_of taken ≡ sources_of s
  pub logged_taken : logged_of taken ≡ logged_of s
  pub stands_taken : (second : Config) (lived : List GatewayStep) → Stands second lived s → Stands second (Collect new.watches origins ∷ lived) taken
  pub counts_ticked : CountsTick closing (left_of taken) (left_of ticked)
  pub leads_ticked : (second : Config) (lived : List GatewayStep) → Stands second lived taken → (done : List Bool) × Leads second lived (Tick ms closing done) told between ticked
  pub kept_ticked : KeepsCollected taken ticked
  pub counts_pumped : CountsPump (left_of ticked) (left_of pumped)
  pub leads_pumped : (second : Config) (lived : List GatewayStep) → Stands second lived ticked → (entries : List Entry) × Leads second lived (Pump entries) between after pumped
  pub kept_pumped : KeepsCollected ticked pumped
  pub gateway : IsGateway pumped

-- ---- what the calls ask for

pub some : (closing : Bool) (n : ℕ) → ticks_needed closing ≤ n → 1 ≤ n
some true n enough = enough
some false n enough = omega (arith, enough)

pub may-take : ShowsCollected → (second : Config) (old : Relay) (new : Player) (origins : List Origin) → HoldsRelay second 1 old → Levels old.player new → IsPlayer new → ShowsOrigins new origins
    → length origins ≡ length old.origins.items → 1 ≤ (left_of old.gateway).ticks → MayTake old.gateway new.watches origins
may-take law second old new origins h levels is shows count some =
    let config : config_of new ≡ config_of old.player = levelled-config old.player new levels in
    let enough : length origins ≡ length (readers (config_of new)) = count ∙ h.origins ∙ ap (λ (c : Config). length (readers c)) (sym config) in
    let named = config-of-gateway second h.lived old.gateway h.stands in
    record {
      gateway = h.gateway;
      left = (let e = h.collects in omega (arith, some, e));
      may = subst (λ (c : Config). Rattle.gateway_core.specs.Sources.MayCollect c.dataset (sources_of old.gateway) new.watches origins) (sym named)
          (may-collect law new is levels.lawful (level-seen old.player new levels h.player is) (λ low. shows.sound (let e = enough in omega (arith, low, e))) second (sources_of old.gateway)
          (subst (λ (c : Config). Rattle.gateway_core.specs.Sources.HaveSources c second (sources_of old.gateway)) (sym config) h.sources) origins h.plan h.steps enough (levels.stands h.plan h.steps h.stood));
    }

pub may-tick : (ms : ℕ) (closing : Bool) (old taken : Gateway) → (left_of old).is_closed ≡ false → ticks_needed closing ≤ (left_of old).ticks → ms ≤ most_ms → (closing ≡ true → ms ≡ 0)
    → CountsCollect (left_of old) (left_of taken) → IsGateway taken → MayTick ms closing taken
may-tick ms closing old taken running left short still counts is = record {
  gateway = is;
  running = ap (λ (l : Left). l.is_closed) counts.rest ∙ running;
  left = (let e = ap (λ (l : Left). l.ticks) counts.rest in omega (arith, left, e));
  short = short;
  still = still;
}

pub may-pump : (closing : Bool) (taken ticked : Gateway) → CountsTick closing (left_of taken) (left_of ticked) → IsGateway ticked → MayPump ticked
may-pump closing taken ticked counts is = record { gateway = is; left = (let e = counts.pumps in omega (arith, e)) }

-- ---- the gateway followed

module _ (ms : ℕ) (closing : Bool) (old new : Relay) (taken ticked : Gateway) (told between after : Option LinkState)
    (f : AreFollowings ms closing old.player new.player new.origins.items old.gateway taken ticked new.gateway told between after)
    (count : length new.origins.items ≡ length old.origins.items) where
  sources : sources_of new.gateway ≡ sources_of old.gateway
  sources = ap (λ c. c.sources.items) (f.kept_pumped ∙ f.kept_ticked) ∙ f.sources_taken

  sources-ticked : sources_of ticked ≡ sources_of old.gateway
  sources-ticked = ap (λ c. c.sources.items) f.kept_ticked ∙ f.sources_taken

  lives : (second : Config) (lived : List GatewayStep) → Stands second lived old.gateway
      → (again : List Bool) × (back : List Entry)
      × Stands second (Pump back ∷ Tick ms closing again ∷ Collect new.player.watches new.origins.items ∷ lived) new.gateway
      × (TellsRun (plan_again second) (session_steps (sources_of old.gateway) lived) told
      → TellsRun (plan_again second) (session_steps (sources_of old.gateway) (Pump back ∷ Tick ms closing again ∷ Collect new.player.watches new.origins.items ∷ lived)) after)
  lives second lived stands =
      let shown = f.stands_taken second lived stands in
      let ticks = f.leads_ticked second (Collect new.player.watches new.origins.items ∷ lived) shown in
      let pumps = f.leads_pumped second (Tick ms closing ticks.0 ∷ Collect new.player.watches new.origins.items ∷ lived) ticks.1.stands in (
        ticks.0,
        pumps.0,
        pumps.1.stands,
        λ tells.
            subst (λ (l : List ℕ). TellsRun (plan_again second) (session_steps l (Pump pumps.0 ∷ Tick ms closing ticks.0 ∷ Collect new.player.watches new.origins.items ∷ lived)) after) sources
            (pumps.1.tells
            (subst (λ (l : List ℕ). TellsRun (plan_again second) (session_steps l (Tick ms closing ticks.0 ∷ Collect new.player.watches new.origins.items ∷ lived)) between) (sources-ticked ∙ sym sources)
            (ticks.1.tells
            (subst (λ (l : List ℕ). TellsRun (plan_again second) (session_steps l (Collect new.player.watches new.origins.items ∷ lived)) told) (sym sources-ticked) tells)))),
      )

  pub follows-on : (second : Config) → Follows second ms closing old new told after
  follows-on second =
      let taken_rest = f.counts_taken.rest in
      let pumped_rest = f.counts_pumped.rest in
      record {
        player = f.is;
        gateway = f.gateway;
        levels = f.levels;
        shows = f.shows;
        count = count;
        sources = sources;
        lives = lives second;
        ticks = (let a = ap (λ (l : Left). l.ticks) pumped_rest in let b = f.counts_ticked.ticks in let c = ap (λ (l : Left). l.ticks) taken_rest in omega (arith, a, b, c));
        collects = (let a = ap (λ (l : Left). l.collects) pumped_rest in let b = f.counts_ticked.collects in let c = f.counts_taken.collects in omega (arith, a, b, c));
        pumps = (let a = f.counts_pumped.pumps in let b = f.counts_ticked.pumps in let c = ap (λ (l : Left). l.pumps) taken_rest in omega (arith, a, b, c));
        closed = ap (λ (l : Left). l.is_closed) pumped_rest ∙ f.counts_ticked.is_closed;
        keeps = λ keeps.
            let a = ap (λ (l : Left). l.turns) pumped_rest in let b = f.counts_ticked.turns in let c = ap (λ (l : Left). l.turns) taken_rest in
            let logged = ap (λ k. k.logged) (f.kept_pumped ∙ f.kept_ticked) ∙ f.logged_taken in omega (arith, a, b, c, logged, keeps);
      }

-- ---- the origins

abbrev OriginIs : Player → ℕ → Origin → Type 0
OriginIs player k origin =
    (p : Plan) (steps : List Step) (place : MemberPlace) → SessionStands p steps player.session → slice_get (reader_places p.config) k ≡ Some place → IsOriginOf p steps place origin

pub origins-more : (player : Player) (origins : List Origin) (n : ℕ) (origin : Origin) → n < length origins → ((k : ℕ) → k < n → OriginIs player k (slice_index_or origins k no_origin))
    → OriginIs player n origin → (k : ℕ) → k < n + 1 → OriginIs player k (slice_index_or (slice_set origins n origin) k no_origin)
origins-more player origins n origin low before here k lt = go (ℕ_discrete k n)
  where
    go : Dec (k ≡ n) → OriginIs player k (slice_index_or (slice_set origins n origin) k no_origin)
    go (yes same) = subst (λ (j : ℕ). OriginIs player j (slice_index_or (slice_set origins n origin) j no_origin)) (sym same)
        (subst (OriginIs player n) (sym (get_or-set_same origins n origin no_origin low)) here)
    go (no differ) = subst (OriginIs player k) (sym (get_or-set_other origins n k origin no_origin differ)) (before k (omega (arith, lt, differ)))
