-- A tick: what the groups are told of it, and where it leaves the gateway.
use Rattle.std.proofs.Common.{◌≡◌, refl, sym, ap, ◌∙◌, subst, arith, ℕ, ◌+◌, ◌-◌, ◌<◌, Bool, List, ◌∷◌, length, Option}
use Rattle.std.specs.Prelude.{◌||◌}
use Rattle.ua_base.specs.Journal.{LinkState}
use Rattle.dataset_meta.specs.Metas.{MetaData}
use Rattle.ps_config.specs.declared.parts.Config.{Config}
use Rattle.writer_group.specs.Parts.{group_at}
use Rattle.writer_group.specs.Standing.{AreMetas, IsGood}
use Rattle.session_model.specs.Steps.{Plan, Step, Tick}
use Rattle.session_model.specs.Sets.{metas_at, rows_cut}
use Rattle.session_model.specs.Keeping.{AreStepsOf}
use Rattle.session_model.specs.Lives.{Account, Lived, account_in, steps_in}
use Rattle.session_parts.specs.declared.publisher.Told.{Told}
use Rattle.session_parts.specs.Holding.{AreStillLogged, MayAllGoOn}
use Rattle.session_parts.specs.Rounds.{HoldRound, RoundTicked, RoundTicks}
use Rattle.session_parts.specs.Ticking.{IsToldOf, TickData}
use Rattle.session_parts.proofs.Ended.{or-none}
use Rattle.session_parts.proofs.Few.{sound-group}
use Rattle.gateway_core.specs.declared.gateway.Gateway.{Gateway}
use Rattle.gateway_core.specs.Holding.{CountsTick, IsGateway, KeepsCollected, MayTick, logged_of, sampled_by}
use Rattle.gateway_core.specs.Living.{LivesAsSession, StandsAs}
use Rattle.gateway_core.proofs.Ending.{LeadsAsSession, may-come, not-closed}
use Rattle.gateway_core.proofs.Wholes.{rows-whole}

-- ---- what the groups are told

-- a tick of a gateway, as of a session
abbrev pub tick_of : Plan → List Step → Account → ℕ → Bool → Gateway → TickData
tick_of p before a ms closing s =
    record { plan = p; before = before; account = a; ms = ms; closing = closing; samples = sampled_by s }

-- they are told of the gateway, with what was collected last
pub record TellsOf (ms : ℕ) (closing : Bool) (s : Gateway) (told : Told) : Type 0 where
  pub config : told.config.now ≡ s.config.now
  pub metas : told.metas.now ≡ s.config.now.dataset
  pub rows : told.rows.now ≡ sampled_by s
  pub moment : told.moment ≡ s.round.moment + ms
  pub closing_is : told.closing ≡ closing

-- the configured data sets are such that each group may have a turn
pub metas-of : (config : Config) (g : ℕ) → IsGood config → g < length config.group → AreMetas config (group_at config g) config.dataset
metas-of config g good low = record { count = refl; fixed = λ is w within. refl; room = (sound-group config g good low).room }

pub told-of : (ms : ℕ) (closing : Bool) (s : Gateway) (told : Told) → MayTick ms closing s → TellsOf ms closing s told → (p : Plan) (before : List Step) (a : Account) → StandsAs p before a s
    → IsToldOf (tick_of p before a ms closing s) told
told-of ms closing s told may is p before a stands = record {
  config = is.config ∙ same;
  metas = is.metas ∙ ap (λ (c : Config). c.dataset) same ∙ sym stands.metas;
  rows = is.rows ∙ sym cut;
  moment = is.moment ∙ ap (λ (m : ℕ). m + ms) stands.round.moment;
  closing = is.closing_is;
}
  where
    same : s.config.now ≡ p.config
    same = ap (λ (q : Plan). q.config) stands.plan

    -- no field of a data set is cut off
    cut : rows_cut (metas_at p.config before) p.full (sampled_by s) ≡ sampled_by s
    cut =
        ap (λ (m : List MetaData). rows_cut m p.full (sampled_by s)) stands.metas
        ∙ sym (ap (λ (q : Plan). rows_cut q.config.dataset q.full (sampled_by s)) stands.plan)
        ∙ rows-whole s.config.now.dataset (sampled_by s) may.gateway.collected.rows

-- ---- the gateway

-- what a tick does to the parts of a gateway
pub record DoesTick (ms : ℕ) (closing : Bool) (old new : Gateway) : Type 0 where
  pub changed : new ≡ record old { left = new.left; round = new.round }
  pub left : CountsTick closing old.left new.left
  pub holds : HoldRound old.config.now new.round
  pub moment : new.round.moment ≡ old.round.moment + ms
  pub goes_on : (turns : ℕ) → MayAllGoOn old.config.now old.config.now.dataset (turns + 1) old.round.publisher.groups.items
      → MayAllGoOn old.config.now old.config.now.dataset turns new.round.publisher.groups.items
  pub logs : AreStillLogged old.round.publisher.groups.items new.round.publisher.groups.items

pub ticked-gateway : (ms : ℕ) (closing : Bool) (old new : Gateway) → MayTick ms closing old → DoesTick ms closing old new → IsGateway new
ticked-gateway ms closing old new may does = subst IsGateway (sym does.changed) (record {
  good = may.gateway.good;
  collected = may.gateway.collected;
  round = does.holds;
  goes_on = does.goes_on new.left.ticks (subst (λ (n : ℕ). MayAllGoOn old.config.now old.config.now.dataset n old.round.publisher.groups.items) (sym does.left.ticks) may.gateway.goes_on);
  logs = does.logs (logged_of old) may.gateway.logs;
  time = omega (arith, may.gateway.time, does.left.ticks, may.short, does.moment);
  calls = omega (arith, may.gateway.calls, does.left.ticks, does.left.pumps);
})

pub ticked-keeps : (ms : ℕ) (closing : Bool) (old new : Gateway) → DoesTick ms closing old new → KeepsCollected old new
ticked-keeps ms closing old new does = ap (λ (x : Gateway). x.collected) does.changed

-- in a life
pub ticked-lives : (p : Plan) (life : List Lived) (ms : ℕ) (closing : Bool) (told : Told) (old new : Gateway) (link after : Option LinkState) → MayTick ms closing old → DoesTick ms closing old new
    → TellsOf ms closing old told → RoundTicks told old.round new.round link after → LivesAsSession p life old
    → (done : List Bool) × LeadsAsSession p life (Tick ms closing (sampled_by old) done) link after new
ticked-lives p life ms closing told old new link after may does is ticks stands = (
  ticked.done,
  subst (λ (x : Gateway). LeadsAsSession p life (Tick ms closing (sampled_by old) ticked.done) link after x) (sym does.changed) (record {
    stands = record {
      run = (ticked.run, stands.run);
      steps_are = subst (λ (m : ℕ). AreStepsOf (m - 1) p (Tick ms closing (sampled_by old) ticked.done ∷ steps_in life)) (sym does.left.turns)
          (may-come p (steps_in life) (account_in p life) ms closing old may stands.parts, stands.steps_are);
      turns = (ticked.turns, stands.turns);
      parts = record {
        plan = stands.parts.plan;
        closed = does.left.is_closed ∙ sym (ap (λ (b : Bool). closing || b) (not-closed p (steps_in life) (account_in p life) ms closing old may stands.parts) ∙ or-none closing);
        ticks = omega (arith, stands.parts.ticks, does.left.ticks, does.left.turns);
        pumps = omega (arith, stands.parts.pumps, does.left.pumps);
        metas = stands.parts.metas;
        round = ticked.stands;
      };
    };
    tells = ticked.tells;
  }),
)
  where
    ticked : RoundTicked (tick_of p (steps_in life) (account_in p life) ms closing old) new.round link after
    ticked = ticks (tick_of p (steps_in life) (account_in p life) ms closing old) (told-of ms closing old told may is p (steps_in life) (account_in p life) stands.parts) stands.parts.round
