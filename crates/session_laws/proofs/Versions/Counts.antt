-- How many ticks a session has.
use Rattle.std.proofs.Common.{◌≡◌, refl, arith, ◌+◌, ◌≤◌, true, false, List, [], ◌∷◌}
use Rattle.session_model.specs.Steps.{Plan, Step, Enable, Disable, Append, Tick, Pump}
use Rattle.session_model.specs.Counts.{most_ticks, ticks_in, is_closed}
use Rattle.session_model.specs.Keeping.{AreSteps}

-- before the closing one
open-few : (p : Plan) (steps : List Step) → AreSteps p steps → is_closed steps ≡ false → ticks_in steps ≤ most_ticks
open-few p [] are is_open = omega arith
open-few p (Enable id ∷ before) are is_open = open-few p before are.1 is_open
open-few p (Disable id ∷ before) are is_open = open-few p before are.1 is_open
open-few p (Append set field ∷ before) are is_open = open-few p before are.1 is_open
open-few p (Tick ms true samples done ∷ before) are is_open = absurd (cc)
open-few p (Tick ms false samples done ∷ before) are is_open = let left = are.0.left refl in omega (arith, left)
open-few p (Pump entries ∷ before) are is_open = open-few p before are.1 is_open

pub ticks-few : (p : Plan) (steps : List Step) → AreSteps p steps → ticks_in steps ≤ most_ticks + 1
ticks-few p [] are = omega arith
ticks-few p (Enable id ∷ before) are = ticks-few p before are.1
ticks-few p (Disable id ∷ before) are = ticks-few p before are.1
ticks-few p (Append set field ∷ before) are = ticks-few p before are.1
ticks-few p (Tick ms closing samples done ∷ before) are = let few = open-few p before are.1 are.0.running in omega (arith, few)
ticks-few p (Pump entries ∷ before) are = ticks-few p before are.1
