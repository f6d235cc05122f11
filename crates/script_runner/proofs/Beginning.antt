-- A session before the first line of its script, and before its closing tick.
use Rattle.std.proofs.Common.{◌≡◌, ℕ, true, [], reverse, refl, ap, subst, arith, Option, Some}
use Rattle.ua_base.specs.Journal.{LinkState}
use Rattle.ps_config.specs.declared.parts.Config.{Config}
use Rattle.ps_script.specs.declared.script.Line.{Line}
use Rattle.ps_script.specs.declared.script.Script.{Script}
use Rattle.ps_script.specs.Sessions.{is_tick, ticks_in}
use Rattle.session_model.specs.Steps.{Plan}
use Rattle.pubsub_engine.specs.declared.session.Left.{Left}
use Rattle.pubsub_engine.specs.declared.session.Session.{Session}
use Rattle.pubsub_engine.specs.Holding.{appends_left, left_of, opening_left, plan_of}
use Rattle.pubsub_engine.specs.Standing.{Stands}
use Rattle.script_player.specs.Passing.{MayPass}
use Rattle.script_player.specs.Player.{IsOfScript}
use Rattle.script_player.specs.Plays.{plan_by}
use Rattle.script_player.specs.Sizes.{appended_sets}
use Rattle.script_player.proofs.Lines.{count_by-reverse}
use Rattle.script_runner.specs.Conducting.{HasConducted}

pub begins : (config : Config) (script : Script) (told : Option LinkState) (session : Session) → Stands (plan_of session) [] session → plan_of session ≡ plan_by config script
    → (logged : ℕ) → left_of session ≡ opening_left (ticks_in script.lines) logged → IsOfScript session → appends_left session ≡ appended_sets script.lines
    → ((link : LinkState) → told ≡ Some link → link.journal ≡ []) → HasConducted config script [] told session
begins config script told session stands plan logged left of_script appends empty = record {
  steps = [];
  stands = subst (λ (q : Plan). Stands q [] session) plan stands;
  tells = empty;
  switches = refl;
  ticks = (let e = ap (λ (l : Left). l.ticks) left in omega (arith, e));
  pumps = ap (λ (l : Left). l.pumps) left;
  running = ap (λ (l : Left). l.is_closed) left;
  of_script = of_script;
  appends = appends;
  ran = refl;
  rise = tt;
  earlier = λ index now sample has. absurd has;
}

-- once all lines were run the closing tick is left
pub may-close : (config : Config) (script : Script) (told : Option LinkState) (session : Session) → HasConducted config script (reverse script.lines) told session → MayPass 0 true session
may-close config script told session h = record {
  running = h.running;
  left = (let turned = count_by-reverse (λ (line : Line). is_tick line.act) script.lines in let ticks = h.ticks in omega (arith, turned, ticks));
  short = omega arith;
  still = λ closing. refl;
}
