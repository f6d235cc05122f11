-- A gateway goes on: its ticks may come, and what a tick with its pump and a renewal leave.
use Rattle.std.proofs.Common.{◌≡◌, ℕ, ◌-◌, ◌<◌, Bool, false, true, List, ◌∷◌, refl, sym, ap, ◌∙◌, subst, arith, Option}
use Rattle.std.proofs.lemmas.Bool.{false≢true}
use Rattle.ua_base.specs.Journal.{Entry, LinkState}
use Rattle.group_keys.specs.declared.key_set.KeySet.{KeySet}
use Rattle.ps_config.specs.declared.parts.Config.{Config}
use Rattle.session_model.specs.Lives.{Lived, Renewed, Stepped}
use Rattle.session_model.specs.Steps.{Plan, Pump as SessionPump, Tick as SessionTick}
use Rattle.gateway_core.specs.declared.gateway.Gateway.{Gateway}
use Rattle.gateway_core.specs.declared.gateway.Left.{Left}
use Rattle.gateway_core.specs.Holding.{CountsPump, CountsTick, IsGateway, MayPump, MayTick, left_of, sampled_by}
use Rattle.gateway_core.specs.Lived.{GatewayStep, Pump, Tick}
use Rattle.gateway_core.specs.Living.{LeadsIn, LeadsRenewed, StandsIn}
use Rattle.test_sessions.specs.declared.outlet.Outlet.{Outlet}
use Rattle.test_sessions.specs.Devices.{IsSmall}
use Rattle.test_sessions.specs.Outlets.{IsOutlet}

-- ---- the calls may come

pub may-tick : (outlet : Outlet) → IsOutlet outlet → 0 < outlet.ticks → MayTick 100 false outlet.gateway
may-tick outlet is some = record {
  gateway = is.gateway_is;
  running = is.running;
  left = (let n = is.left in omega (arith, n, some));
  short = omega arith;
  still = λ e. absurd (false≢true e);
}

pub may-end : (outlet : Outlet) → IsOutlet outlet → MayTick 0 true outlet.gateway
may-end outlet is = record {
  gateway = is.gateway_is;
  running = is.running;
  left = (let n = is.left in omega (arith, n));
  short = omega arith;
  still = λ e. refl;
}

pub may-pump : (closing : Bool) (old ticked : Gateway) → IsGateway ticked → CountsTick closing (left_of old) (left_of ticked) → MayPump ticked
may-pump closing old ticked holds counts = record { gateway = holds; left = (let n = counts.pumps in omega (arith, n)) }

-- ---- its configuration

-- wherever a life left it, it is of the configuration
small-in : (second : Config) (lived : List GatewayStep) (life : List Lived) (gateway : Gateway) → StandsIn second lived life gateway → IsSmall second
    → IsSmall gateway.config.now
small-in second lived life gateway stands is = subst IsSmall (sym (ap (λ (p : Plan). p.config) stands.session.parts.plan)) is

pub small-here : (outlet : Outlet) → IsOutlet outlet → IsSmall outlet.gateway.config.now
small-here outlet is = small-in outlet.config.now is.lived is.life outlet.gateway is.stands is.small

-- ---- what the calls leave

-- wherever a life left a gateway, a tick leads on
abbrev pub TickLives : ℕ → Bool → Gateway → Gateway → Option LinkState → Option LinkState → Type 0
TickLives ms closing old new told after =
    (second : Config) (lived : List GatewayStep) (life : List Lived) → StandsIn second lived life old
    → (done : List Bool) × LeadsIn second lived life (Tick ms closing done) (SessionTick ms closing (sampled_by old) done) told after new

-- and a pump
abbrev pub PumpLives : Gateway → Gateway → Option LinkState → Option LinkState → Type 0
PumpLives old new told after =
    (second : Config) (lived : List GatewayStep) (life : List Lived) → StandsIn second lived life old
    → (entries : List Entry) × LeadsIn second lived life (Pump entries) (SessionPump entries) told after new

module _ (ms : ℕ) (closing : Bool) (outlet : Outlet) (ticked pumped : Gateway) (told between after : Option LinkState) (is : IsOutlet outlet)
    (ticks : TickLives ms closing outlet.gateway ticked told between) (pumps : PumpLives ticked pumped between after) where
  tick-done : (done : List Bool) × LeadsIn outlet.config.now is.lived is.life (Tick ms closing done) (SessionTick ms closing (sampled_by outlet.gateway) done) told between ticked
  tick-done = ticks outlet.config.now is.lived is.life is.stands

  abbrev lived-ticked : List GatewayStep
  lived-ticked = Tick ms closing tick-done.0 ∷ is.lived

  abbrev life-ticked : List Lived
  life-ticked = Stepped (SessionTick ms closing (sampled_by outlet.gateway) tick-done.0) ∷ is.life

  pump-done : (entries : List Entry) × LeadsIn outlet.config.now lived-ticked life-ticked (Pump entries) (SessionPump entries) between after pumped
  pump-done = pumps outlet.config.now lived-ticked life-ticked tick-done.1.stands

  pub small-ended : IsSmall pumped.config.now
  small-ended =
      small-in outlet.config.now (Pump pump-done.0 ∷ lived-ticked) (Stepped (SessionPump pump-done.0) ∷ life-ticked) pumped pump-done.1.stands is.small

  pub went-on : 0 < outlet.ticks → CountsTick false (left_of outlet.gateway) (left_of ticked) → CountsPump (left_of ticked) (left_of pumped) → IsGateway pumped
      → IsOutlet (record outlet { gateway = pumped; ticks = outlet.ticks - 1 })
  went-on some counts counted holds = record {
    gateway_is = holds;
    small = is.small;
    lived = Pump pump-done.0 ∷ lived-ticked;
    life = Stepped (SessionPump pump-done.0) ∷ life-ticked;
    stands = pump-done.1.stands;
    running = ap (λ (l : Left). l.is_closed) counted.rest ∙ counts.is_closed;
    left = (let n = is.left in let m = counts.ticks in let k = ap (λ (l : Left). l.ticks) counted.rest in omega (arith, n, m, k, some));
  }

pub renewed-small : (outlet : Outlet) (k : ℕ) (sets : List KeySet) (new : Gateway) → IsOutlet outlet → LeadsRenewed k sets outlet.gateway new → IsSmall new.config.now
renewed-small outlet k sets new is leads =
    small-in outlet.config.now is.lived (Renewed k sets ∷ is.life) new (leads outlet.config.now is.lived is.life is.stands) is.small

pub renewed-outlet : (outlet : Outlet) (k : ℕ) (sets : List KeySet) (new : Gateway) → IsOutlet outlet → IsGateway new → LeadsRenewed k sets outlet.gateway new
    → left_of new ≡ left_of outlet.gateway → IsOutlet (record outlet { gateway = new })
renewed-outlet outlet k sets new is holds leads left = record {
  gateway_is = holds;
  small = is.small;
  lived = is.lived;
  life = Renewed k sets ∷ is.life;
  stands = leads outlet.config.now is.lived is.life is.stands;
  running = ap (λ (l : Left). l.is_closed) left ∙ is.running;
  left = (let n = is.left in let m = ap (λ (l : Left). l.ticks) left in omega (arith, n, m));
}
