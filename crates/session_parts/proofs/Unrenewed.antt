-- What becomes of a life in which no ring renews the session is what becomes of its steps.
use Rattle.std.proofs.Common.{◌≡◌, refl, sym, ap, ◌∙◌, subst, List, [], ◌∷◌, map}
use Rattle.reader_group.specs.Members.{seat_at}
use Rattle.reader_group.specs.Plain.{member_at}
use Rattle.reader_group.specs.Settings.{setting_of}
use Rattle.session_model.specs.Steps.{Plan, Step, Enable, Disable, Append, Tick, Pump}
use Rattle.session_model.specs.Lives.{Account, IsRunIn, IsRunOn, Stepped, TurnsHoldIn, TurnsHoldOn, account_in, account_of, stepped, steps_in}
use Rattle.session_model.specs.Sends.{IsRun}
use Rattle.session_model.specs.Stores.{held_by, stored_on, stores}
use Rattle.session_model.specs.Turns.{TurnsHold}
use Rattle.session_parts.proofs.Accounts.{reading-disabled, reading-pumped}

-- ---- what becomes of it

pub plain-steps : (steps : List Step) → steps_in (map Stepped steps) ≡ steps
plain-steps [] = refl
plain-steps (step ∷ before) = ap (λ (l : List Step). step ∷ l) (plain-steps before)

-- a step more is one more of the steps
stepped-of : (p : Plan) (before : List Step) (step : Step) → stepped p before (account_of p before) step ≡ account_of p (step ∷ before)
stepped-of p before (Enable id) = refl
stepped-of p before (Disable id) = λ i. record (account_of p (Disable id ∷ before)) { readings = λ r. reading-disabled p.config before id r i }
stepped-of p before (Append set field) = refl
stepped-of p before (Tick ms closing samples done) = refl
stepped-of p before (Pump entries) = λ i. record (account_of p (Pump entries ∷ before)) {
  readings = λ r. reading-pumped p.config before entries r i;
  stores = λ r k. stored_on (seat_at (setting_of p.config r).seats k).part.numbering (stores p.config r k before)
      (held_by (member_at (reading-pumped p.config before entries r i).value.members k));
}

pub plain-account : (p : Plan) (steps : List Step) → account_in p (map Stepped steps) ≡ account_of p steps
plain-account p [] = refl
plain-account p (step ∷ before) = (λ i. stepped p (plain-steps before i) (plain-account p before i) step) ∙ stepped-of p before step

-- ---- what each step keeps to

-- behind the steps of the life, and behind the steps
pub to-plain : (P : List Step → Account → Type 0) (p : Plan) (before : List Step) → P (steps_in (map Stepped before)) (account_in p (map Stepped before)) → P before (account_of p before)
to-plain P p before h = subst (λ (a : Account). P before a) (plain-account p before) (subst (λ (l : List Step). P l (account_in p (map Stepped before))) (plain-steps before) h)

pub of-plain : (P : List Step → Account → Type 0) (p : Plan) (before : List Step) → P before (account_of p before) → P (steps_in (map Stepped before)) (account_in p (map Stepped before))
of-plain P p before h = subst (λ (l : List Step). P l (account_in p (map Stepped before))) (sym (plain-steps before)) (subst (λ (a : Account). P before a) (sym (plain-account p before)) h)

run-on : (p : Plan) (before : List Step) (step : Step) → IsRunOn p before (account_of p before) step → IsRunOn p (steps_in (map Stepped before)) (account_in p (map Stepped before)) step
run-on p before step = of-plain (λ l a. IsRunOn p l a step) p before

run-of : (p : Plan) (before : List Step) (step : Step) → IsRunOn p (steps_in (map Stepped before)) (account_in p (map Stepped before)) step → IsRunOn p before (account_of p before) step
run-of p before step = to-plain (λ l a. IsRunOn p l a step) p before

turns-on : (p : Plan) (before : List Step) (step : Step) → TurnsHoldOn p before (account_of p before) step
    → TurnsHoldOn p (steps_in (map Stepped before)) (account_in p (map Stepped before)) step
turns-on p before step = of-plain (λ l a. TurnsHoldOn p l a step) p before

turns-of : (p : Plan) (before : List Step) (step : Step) → TurnsHoldOn p (steps_in (map Stepped before)) (account_in p (map Stepped before)) step
    → TurnsHoldOn p before (account_of p before) step
turns-of p before step = to-plain (λ l a. TurnsHoldOn p l a step) p before

pub run-in : (p : Plan) (steps : List Step) → IsRun p steps → IsRunIn p (map Stepped steps)
run-in p [] run = tt
run-in p (Enable id ∷ before) run = (tt, run-in p before run)
run-in p (Disable id ∷ before) run = (tt, run-in p before run)
run-in p (Append set field ∷ before) run = (tt, run-in p before run)
run-in p (Tick ms closing samples done ∷ before) run = (run-on p before (Tick ms closing samples done) run.0, run-in p before run.1)
run-in p (Pump entries ∷ before) run = (run.0, run-in p before run.1)

pub run-back : (p : Plan) (steps : List Step) → IsRunIn p (map Stepped steps) → IsRun p steps
run-back p [] run = tt
run-back p (Enable id ∷ before) run = run-back p before run.1
run-back p (Disable id ∷ before) run = run-back p before run.1
run-back p (Append set field ∷ before) run = run-back p before run.1
run-back p (Tick ms closing samples done ∷ before) run = (run-of p before (Tick ms closing samples done) run.0, run-back p before run.1)
run-back p (Pump entries ∷ before) run = (run.0, run-back p before run.1)

pub turns-in : (p : Plan) (steps : List Step) → TurnsHold p steps → TurnsHoldIn p (map Stepped steps)
turns-in p [] turns = tt
turns-in p (Enable id ∷ before) turns = (tt, turns-in p before turns)
turns-in p (Disable id ∷ before) turns = (tt, turns-in p before turns)
turns-in p (Append set field ∷ before) turns = (tt, turns-in p before turns)
turns-in p (Tick ms closing samples done ∷ before) turns = (turns-on p before (Tick ms closing samples done) turns.0, turns-in p before turns.1)
turns-in p (Pump entries ∷ before) turns = (tt, turns-in p before turns)

pub turns-back : (p : Plan) (steps : List Step) → TurnsHoldIn p (map Stepped steps) → TurnsHold p steps
turns-back p [] turns = tt
turns-back p (Enable id ∷ before) turns = turns-back p before turns.1
turns-back p (Disable id ∷ before) turns = turns-back p before turns.1
turns-back p (Append set field ∷ before) turns = turns-back p before turns.1
turns-back p (Tick ms closing samples done ∷ before) turns = (turns-of p before (Tick ms closing samples done) turns.0, turns-back p before turns.1)
turns-back p (Pump entries ∷ before) turns = turns-back p before turns.1
