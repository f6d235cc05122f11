-- Between a tick of the session and that of the gateway.
use Rattle.std.proofs.Common.{◌≡◌, refl, sym, ap, ◌∙◌, subst, arith, ℕ, ◌≤◌, Bool, true, false, length, Option}
use Rattle.ua_base.specs.Journal.{LinkState}
use Rattle.ps_config.specs.declared.parts.Config.{Config}
use Rattle.ps_config.specs.Sound.{readers}
use Rattle.ps_script.specs.declared.script.Act.{Act}
use Rattle.ps_script.specs.declared.script.Act.TheVariants as act
use Rattle.session_model.specs.Steps.{Plan}
use Rattle.pubsub_engine.specs.Holding.{ticks_needed as session_needed}
use Rattle.gateway_core.specs.Holding.{left_of, sources_of, ticks_needed}
use Rattle.gateway_core.specs.Sources.{HaveSources as HaveIndexes}
use Rattle.script_player.specs.declared.player.Player.{Player}
use Rattle.script_player.specs.Passing.{MayPass}
use Rattle.script_player.specs.Player.{Does, IsPlayer, MayDo, Passes, config_of}
use Rattle.cmd_relay.specs.declared.relaying.Relay.{Relay}
use Rattle.cmd_relay.specs.Relaying.{Follows, HoldsRelay, IsBehind, MayFollow}

-- a tick of the session came
pub passed-holds : (second : Config) (ms : ℕ) (closing : Bool) (old : Relay) (mid : Player) (told after : Option LinkState) → HoldsRelay second 0 old → IsPlayer mid → Passes ms closing old.player mid told after
    → HoldsRelay second 1 (record old { player = mid })
passed-holds second ms closing old mid told after h is passes =
    let led = passes.by.leads h.plan h.steps h.stood in
    let config : config_of mid ≡ config_of old.player = ap (λ (p : Plan). p.config) passes.by.plan in
    record {
      player = is;
      plan = h.plan;
      steps = _;
      stood = led.2;
      gateway = h.gateway;
      lived = h.lived;
      stands = h.stands;
      origins = h.origins ∙ ap (λ (c : Config). length (readers c)) (sym config);
      sources = subst (λ (c : Config). HaveIndexes c second (sources_of old.gateway)) (sym config) h.sources;
      ticks = (let a = h.ticks in let b = passes.by.ticks in omega (arith, a, b));
      collects = h.collects;
      pumps = h.pumps;
      running = h.running;
    }

needed : (closing : Bool) (n : ℕ) → session_needed closing ≤ n → ticks_needed closing ≤ n
needed true n enough = enough
needed false n enough = enough

more : (closing : Bool) (n m : ℕ) → ticks_needed closing ≤ n → m ≡ n → ticks_needed closing ≤ m
more closing n m enough same = subst (λ (k : ℕ). ticks_needed closing ≤ k) (sym same) enough

-- so one of the gateway may come
pub may-follow : (second : Config) (ms : ℕ) (closing : Bool) (old : Relay) (mid : Player) (told after : Option LinkState) → HoldsRelay second 0 old → IsPlayer mid → Passes ms closing old.player mid told after
    → MayPass ms closing old.player.session → MayFollow ms closing (record old { player = mid })
may-follow second ms closing old mid told after h is passes may = record {
  holds = (second, passed-holds second ms closing old mid told after h is passes);
  left = more closing _ (left_of old.gateway).ticks (needed closing _ may.left) (let e = h.ticks in omega (arith, e));
  short = may.short;
  still = may.still;
}

-- ---- what a line is

pub tick-may : (what : Act) (ms : ℕ) (player : Player) → what ≡ act.Tick ms → MayDo what player → MayPass ms false player.session
tick-may what ms player is may = subst (λ (a : Act). MayDo a player) is may

pub tick-passes : (what : Act) (ms : ℕ) (old new : Player) (told after : Option LinkState) → what ≡ act.Tick ms → Does what old new told after → Passes ms false old new told after
tick-passes what ms old new told after is does = subst (λ (a : Act). Does a old new told after) is does

pub behind-tick : (second : Config) (what : Act) (ms : ℕ) (mid new : Relay) (told after : Option LinkState) → what ≡ act.Tick ms → Follows second ms false mid new told after → IsBehind second what mid new told after
behind-tick second what ms mid new told after is follows = subst (λ (a : Act). IsBehind second a mid new told after) (sym is) follows

pub behind-other : (second : Config) (what : Act) (mid new : Relay) (told after : Option LinkState) → ((ms : ℕ) → what ≡ act.Tick ms → ⊥) → new ≡ mid → after ≡ told → IsBehind second what mid new told after
behind-other second (act.Tick ms) mid new told after other same kept = absurd (other ms refl)
behind-other second (act.Write thread set patch) mid new told after other same kept = (same, kept)
behind-other second (act.Enable id) mid new told after other same kept = (same, kept)
behind-other second (act.Disable id) mid new told after other same kept = (same, kept)
behind-other second (act.Fated k fate) mid new told after other same kept = (same, kept)
behind-other second (act.Watch thread reader times) mid new told after other same kept = (same, kept)
behind-other second (act.Append set) mid new told after other same kept = (same, kept)
