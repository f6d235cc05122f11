-- A player before its first line, and before its closing tick.
use Rattle.std.proofs.Common.{◌≡◌, ℕ, zero, suc, ◌<◌, true, List, [], ◌∷◌, length, map, reverse, get_or, refl, sym, ap, ◌∙◌, subst, arith, Option, Some, None}
use Rattle.std.specs.Prelude.{All}
use Rattle.std.proofs.lemmas.Option.{none-some, same_Some}
use Rattle.ua_base.specs.Journal.{LinkState, Tells}
use Rattle.ua_base.specs.Net.{Opens}
use Rattle.ua_base.specs.declared.link.Opened.TheVariants as opened
use Rattle.version_cell.specs.Cells.{CellData}
use Rattle.version_cell.specs.Histories.{own}
use Rattle.version_cell.specs.Known.{Known}
use Rattle.version_cell.specs.Sets.{pass_at}
use Rattle.ps_config.specs.declared.parts.Config.{Config}
use Rattle.ps_script.specs.declared.script.Line.{Line}
use Rattle.ps_script.specs.declared.script.Script.{Script}
use Rattle.ps_script.specs.Sessions.{is_tick, ticks_in}
use Rattle.session_model.specs.Steps.{Plan}
use Rattle.app_threads.specs.Items.{versions_in}
use Rattle.pubsub_engine.specs.Authored.{watch_of}
use Rattle.pubsub_engine.specs.declared.session.Left.{Left}
use Rattle.pubsub_engine.specs.Holding.{appends_left, left_of, opening_left, plan_of}
use Rattle.pubsub_engine.specs.Standing.{Stands}
use Rattle.script_player.specs.declared.hand.Hand.{Hand}
use Rattle.script_player.specs.declared.player.Player.{Player}
use Rattle.script_player.specs.Plays.{plan_by}
use Rattle.script_player.specs.Passing.{MayPass}
use Rattle.script_player.specs.Player.{HasPlayed, IsNew, IsPlayer}
use Rattle.script_player.specs.Sizes.{appended_sets, quotas_by}
use Rattle.script_player.proofs.Hands.{count_cells}
use Rattle.script_player.proofs.Lines.{count_by-reverse}

-- what is none of each thread is none of one
none-at : {A : Type 0} (f : Hand → List A) (hands : List Hand) (t : ℕ) → All (λ (hand : Hand). f hand ≡ []) hands → get_or (map f hands) t [] ≡ []
none-at f [] t all = refl
none-at f (hand ∷ hands) zero all = all 0 hand (omega arith)
none-at f (hand ∷ hands) (suc t) all = none-at f hands t (λ k d lt. all (suc k) d (omega (arith, lt)))

-- what holds of a thread's passes, whatever stands where there is no thread
passes-at : (P : List Known → Type 0) (hands : List Hand) (t : ℕ) → t < length hands → ((d : Hand) → P (get_or hands t d).passes) → P (get_or (map (λ (hand : Hand). hand.passes) hands) t [])
passes-at P [] t lt all = let no : ⊥ = omega (arith, lt) in absurd no
passes-at P (hand ∷ hands) zero lt all = all hand
passes-at P (hand ∷ hands) (suc t) lt all = passes-at P hands t (omega (arith, lt)) (λ d. all d)

-- a link that was opened tells an empty journal
pub opened-empty : (old new : Option LinkState) → Tells old new (Opens opened.Done) → (link : LinkState) → new ≡ Some link → link.journal ≡ []
opened-empty old None tells link is = absurd (none-some link is)
opened-empty old (Some state) tells link is = ap (λ (l : LinkState). l.journal) (sym (same_Some state link is)) ∙ tells.2.0

module _ (config : Config) (script : Script) (told : Option LinkState) (player : Player) (is : IsPlayer player) (new : IsNew player)
    (plan : plan_of player.session ≡ plan_by config script) (logged : ℕ) (left : left_of player.session ≡ opening_left (ticks_in script.lines) logged)
    (appends : appends_left player.session ≡ appended_sets script.lines) (quotas : map (λ (cell : CellData). cell.quotas) player.bank ≡ quotas_by (length config.dataset) script.lines)
    (empty : (link : LinkState) → told ≡ Some link → link.journal ≡ []) where
  stands : Stands (plan_by config script) [] player.session
  stands = subst (λ (q : Plan). Stands q [] player.session) plan new.stands

  cells : length player.bank ≡ length script.metas
  cells = count_cells config script [] player is stands

  -- no step came
  pub begins-by : (played : HasPlayed config script [] told player) × (played.steps ≡ [])
  begins-by = (
    record {
      steps = [];
      looks = [];
      stands = stands;
      tells = empty;
      switches = refl;
      ticks = (let e = ap (λ (l : Left). l.ticks) left in omega (arith, e));
      pumps = ap (λ (l : Left). l.pumps) left;
      running = ap (λ (l : Left). l.is_closed) left;
      appends = appends;
      quotas = quotas;
      made = λ t set lt there.
          passes-at (λ (passes : List Known). length (own t (pass_at passes set).seen) ≡ 0) player.hands.items t (let e = is.eight in omega (arith, e, lt))
          (λ d. ap (λ l. length (own t l)) (new.hands t set lt there d));
      looked = λ t lt. ap (λ l. map (watch_of t) l) (none-at (λ (hand : Hand). hand.looks.items) player.hands.items t new.looks);
      looks_there = λ k d lt. let no : ⊥ = omega (arith, lt) in absurd no;
      exact = λ flush. record {
        played = (refl, refl);
        seen = λ set lt. new.seen set (let e = cells in omega (arith, e, lt));
        versions = λ t set lt there. ap (versions_in set) (none-at (λ (hand : Hand). hand.versions.items) player.hands.items t new.versions);
      };
    },
    refl,
  )

  pub begins : HasPlayed config script [] told player
  begins = begins-by.0

-- once all lines were played the closing tick is left
pub may-close : (config : Config) (script : Script) (told : Option LinkState) (player : Player) → HasPlayed config script (reverse script.lines) told player → MayPass 0 true player.session
may-close config script told player h = record {
  running = h.running;
  left = (let turned = count_by-reverse (λ (line : Line). is_tick line.act) script.lines in let ticks = h.ticks in omega (arith, turned, ticks));
  short = omega arith;
  still = λ closing. refl;
}
