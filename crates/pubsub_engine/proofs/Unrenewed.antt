-- A session that no ring renews stands where its steps leave it.
use Rattle.std.proofs.Common.{sym, subst, List, map}
use Rattle.session_model.specs.Steps.{Plan, Step}
use Rattle.session_model.specs.Keeping.{AreStepsOf}
use Rattle.session_model.specs.Lives.{Stepped}
use Rattle.session_parts.proofs.Unrenewed.{of-plain, plain-steps, run-back, run-in, to-plain, turns-back, turns-in}
use Rattle.pubsub_engine.specs.declared.session.Session.{Session}
use Rattle.pubsub_engine.specs.Holding.{ticks_of}
use Rattle.pubsub_engine.specs.Standing.{Stands}
use Rattle.pubsub_engine.specs.Living.{StandsAs, StandsIn}
use Rattle.pubsub_engine.proofs.Lives.{as-stands, stands-of}

pub stands-in : (p : Plan) (steps : List Step) (s : Session) → Stands p steps s → StandsIn p (map Stepped steps) s
stands-in p steps s stands = record {
  run = run-in p steps stands.run;
  steps_are = subst (AreStepsOf (ticks_of s) p) (sym (plain-steps steps)) stands.steps_are;
  turns = turns-in p steps stands.turns;
  parts = of-plain (λ l a. StandsAs p l a s) p steps (as-stands p steps s stands);
}

pub stands-back : (p : Plan) (steps : List Step) (s : Session) → StandsIn p (map Stepped steps) s → Stands p steps s
stands-back p steps s stands =
    stands-of p steps s (run-back p steps stands.run) (subst (AreStepsOf (ticks_of s) p) (plain-steps steps) stands.steps_are) (turns-back p steps stands.turns)
    (to-plain (λ l a. StandsAs p l a s) p steps stands.parts)
