-- The ticks of lanes, and the steps of a play.
use Rattle.std.proofs.Common.{◌≡◌, ℕ, ◌+◌, Bool, true, false, List, [], ◌∷◌, ◌++◌, reverse, refl, sym, ap, ◌∙◌, subst, None}
use Rattle.ps_config.specs.declared.parts.Config.{Config}
use Rattle.ps_report.specs.declared.closed.WatchEnd.{WatchEnd}
use Rattle.ps_script.specs.declared.script.Act.{Act}
use Rattle.ps_script.specs.declared.script.Act.TheVariants as act
use Rattle.ps_script.specs.declared.script.Line.{Line}
use Rattle.ps_script.specs.declared.script.Script.{Script}
use Rattle.session_model.specs.Deeds.{deeds, tick_deeds}
use Rattle.session_model.specs.Sets.{metas_at}
use Rattle.session_model.specs.Steps.{Plan, Step, Tick, moment_of, switches_in}
use Rattle.script_player.specs.Playing.{IsLineBy, IsPlayed, IsTickedBy, samples_after}
use Rattle.script_player.specs.Plays.{plan_by}
use Rattle.script_player.proofs.Lines.{reverse-cons}
use Rattle.lane_groups.proofs.Ticking.{tick-same}
use Rattle.cmd_lanes.specs.Scripts.{is_taken, refusal, ticks_by, ticks_of, with_tick}
use Rattle.cmd_lanes.proofs.Taken.{AreTaken, taken-all}

taken-more : (lines : List Line) (line : Line) → AreTaken lines → is_taken line.act ≡ true → AreTaken (lines ++ line ∷ [])
taken-more [] line are is = (is, tt)
taken-more (x ∷ lines) line are is = (are.0, taken-more lines line are.1 is)

taken-reverse : (lines : List Line) → AreTaken lines → AreTaken (reverse lines)
taken-reverse [] are = tt
taken-reverse (line ∷ lines) are = subst AreTaken (sym (reverse-cons line lines)) (taken-more (reverse lines) line (taken-reverse lines are.1) are.0)

module _ (p : Plan) where
  -- what both have: the switches, the data sets, the moment and the deeds
  record AreSame (one two : List Step) : Type 0 where
    switches : switches_in one ≡ switches_in two
    metas : metas_at p.config one ≡ metas_at p.config two
    moment : moment_of one ≡ moment_of two
    deeds_are : deeds p one ≡ deeds p two

  -- a tick of a play, and that of lanes
  same-ticked : (lines : List Line) (ms : ℕ) (closing : Bool) (earlier ticks steps : List Step) → AreSame earlier ticks → IsTickedBy p lines ms closing earlier steps
      → AreSame steps (Tick ms closing (samples_after p.full lines) [] ∷ ticks)
  same-ticked lines ms closing earlier ticks steps same is =
      subst (λ (s : List Step). AreSame s (Tick ms closing (samples_after p.full lines) [] ∷ ticks)) (sym is.2)
      (record {
        switches = same.switches;
        metas = same.metas;
        moment = ap (λ (n : ℕ). n + ms) same.moment;
        deeds_are =
            tick-same p earlier ticks (moment_of earlier + ms) closing (samples_after p.full lines) (deeds p earlier) same.switches same.metas
            ∙ ap (λ (n : ℕ). tick_deeds p ticks (n + ms) closing (samples_after p.full lines) (deeds p earlier)) same.moment
            ∙ ap (tick_deeds p ticks (moment_of ticks + ms) closing (samples_after p.full lines)) same.deeds_are;
      })

  never : false ≡ true → ⊥
  never e = cc

  same-line : (before : List Line) (what : Act) (earlier ticks steps : List Step) (looked looks : List WatchEnd) → is_taken what ≡ true → AreSame earlier ticks
      → IsLineBy p before what earlier steps looked looks → AreSame steps (with_tick p.full before what ticks)
  same-line before (act.Write thread set patch) earlier ticks steps looked looks taken same is = subst (λ (s : List Step). AreSame s ticks) (sym is.0) same
  same-line before (act.Tick ms) earlier ticks steps looked looks taken same is = same-ticked before ms false earlier ticks steps same is.0
  same-line before (act.Fated number fate) earlier ticks steps looked looks taken same is = subst (λ (s : List Step). AreSame s ticks) (sym is.0) same
  same-line before (act.Enable id) earlier ticks steps looked looks taken same is = absurd (never taken)
  same-line before (act.Disable id) earlier ticks steps looked looks taken same is = absurd (never taken)
  same-line before (act.Watch thread reader times) earlier ticks steps looked looks taken same is = absurd (never taken)
  same-line before (act.Append set) earlier ticks steps looked looks taken same is = absurd (never taken)

  same-lines : (lines : List Line) (steps : List Step) (looks : List WatchEnd) → AreTaken lines → IsPlayed p lines steps looks → AreSame steps (ticks_by p.full lines)
  same-lines [] steps looks are is = subst (λ (s : List Step). AreSame s []) (sym is.0) (record { switches = refl; metas = refl; moment = refl; deeds_are = refl })
  same-lines (line ∷ before) steps looks are is =
      same-line before line.act is.0 (ticks_by p.full before) steps is.1 looks are.0 (same-lines before is.0 is.1 are.1 is.2) is.3

pub same-play : (config : Config) (script : Script) (earlier steps : List Step) (looks : List WatchEnd) → refusal script ≡ None
    → IsPlayed (plan_by config script) (reverse script.lines) earlier looks → IsTickedBy (plan_by config script) (reverse script.lines) 0 true earlier steps
    → deeds (plan_by config script) steps ≡ deeds (plan_by config script) (ticks_of script)
same-play config script earlier steps looks taken played ends =
    (same-ticked (plan_by config script) (reverse script.lines) 0 true earlier (ticks_by script.metas (reverse script.lines)) steps
    (same-lines (plan_by config script) (reverse script.lines) earlier looks (taken-reverse script.lines (taken-all script.lines taken)) played) ends).deeds_are
