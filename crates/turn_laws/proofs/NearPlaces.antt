-- A session of more ticks than a script has is a play of no more data frames than it has ticks.
use Rattle.std.proofs.Common.{subst, arith, ℕ, ◌+◌, ◌≤◌, List}
use Rattle.std.proofs.lemmas.Option.{get_or_from_slice_get, slice_get-get_or}
use Rattle.pubsub_model.proofs.CadenceLaws.{length-log_of}
use Rattle.ps_config.specs.declared.parts.GroupPart.{GroupPart}
use Rattle.writer_group.specs.Parts.{group_at, no_group}
use Rattle.writer_group.specs.Payloads.{meta_at}
use Rattle.writer_group.specs.Turns.{writer_past}
use Rattle.session_model.specs.Counts.{most_ticks}
use Rattle.session_model.specs.Keeping.{AreStepsOf, IsPlan}
use Rattle.session_model.specs.Sets.{metas_at}
use Rattle.session_model.specs.Steps.{Plan, Step}
use Rattle.session_model.specs.Turns.{TurnsHold}
use Rattle.session_model.proofs.Lasting.{ticks-few}
use Rattle.session_model.proofs.Ticks.{log-few}
use Rattle.session_laws.specs.Below.{Laws}
use Rattle.session_laws.specs.Headline.{InSession}
use Rattle.session_laws.specs.Pasts.{IsPast, settings_at}
use Rattle.session_laws.specs.Plays.{IsPlay}
use Rattle.session_laws.specs.Sessions.{SamplesRise, pasts_at}
use Rattle.session_laws.proofs.HeldRows.Sending.{all-restarts, came-as-made}
use Rattle.session_laws.proofs.Versions.Distinct.{IsAt}
use Rattle.session_laws.proofs.Versions.Living.{past-of}
use Rattle.turn_laws.specs.Longer.{IsLongerSession, play_in}

-- each turn of a session of so many ticks holds, as `session_laws` has it
abbrev pub HoldsLaw : Type 0
HoldsLaw = (limit : ℕ) (p : Plan) (steps : List Step) → IsPlan p → AreStepsOf limit p steps → TurnsHold p steps

past-is : (laws : Laws) (most : ℕ) (p : Plan) (steps : List Step) → IsPlan p → AreStepsOf most p steps → TurnsHold p steps → SamplesRise p steps → (g : ℕ) (group : GroupPart) → IsAt p.config g group → IsPast p.config group (pasts_at p steps g)
past-is laws most p steps plan are hold rise g group at =
    let h = past-of most laws.words laws.ring p g steps plan are hold rise in
    subst (λ (part : GroupPart). IsPast p.config part (pasts_at p steps g)) (get_or_from_slice_get p.config.group g group no_group at)
    (record { turns = h.turns; rows = λ w within. (meta_at (group_at p.config g) (metas_at p.config steps) w, (h.lives w within).rows) })

pub longer-play : Laws → HoldsLaw → (limit most : ℕ) (p : Plan) (r i g w : ℕ) (steps : List Step) → most + 1 ≤ limit → IsLongerSession most p r i g w steps → IsPlay limit (play_in p r i g w steps)
longer-play laws holds limit most p r i g w steps le is = record {
  sound = is.plan.good.sound;
  fixed = is.plan.good.fixed;
  there = slice_get-get_or p.config.group g no_group is.there;
  matched = is.matched;
  pasts = past-is laws most p steps is.plan is.steps_are (holds most p steps is.plan is.steps_are) is.rise;
  came = came-as-made p r steps is.run is.honest;
  restarts = all-restarts p.config r steps;
  few =
      let few = ticks-few most p steps is.steps_are in
      let ticks = log-few p g w steps in
      let count = length-log_of (settings_at (group_at p.config g) w) (writer_past w (pasts_at p steps g)) in
      omega (arith, few, ticks, count, le);
}

pub script-session : (p : Plan) (r i g w : ℕ) (steps : List Step) → InSession p r i g w steps → IsLongerSession most_ticks p r i g w steps
script-session p r i g w steps is = record { plan = is.plan; steps_are = is.steps_are; run = is.run; rise = is.rise; there = is.there; matched = is.matched; honest = is.honest }
