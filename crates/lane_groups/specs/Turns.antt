-- Turns of lanes as ticks of a session.
use Rattle.std.specs.Prelude.{◌≡◌, ℕ, ◌+◌, List, [], ◌∷◌, ◌++◌, Bool}
use Rattle.writer_group.specs.declared.sampled.Sampled.{Sampled}
use Rattle.session_model.specs.Steps.{Step, Enable, Disable, Append, Tick, Pump, moment_of}
use Rattle.lane_groups.specs.declared.turn.TurnIn.{TurnIn}

-- the turn of a tick
pub record IsTurnOf (moment : ℕ) (closing : Bool) (samples : List Sampled) (turn : TurnIn) : Type 0 where
  pub now_is : turn.now ≡ moment
  pub closing_is : turn.closing ≡ closing
  pub rows_are : turn.rows.items ≡ samples

-- The turns are those of the ticks of these steps, the latest first, which neither switch a component nor append a field.
abbrev pub AreTurns : List Step → List TurnIn → Type 0
AreTurns [] turns = turns ≡ []
AreTurns (Enable id ∷ before) turns = ⊥
AreTurns (Disable id ∷ before) turns = ⊥
AreTurns (Append set field ∷ before) turns = ⊥
AreTurns (Tick ms closing samples done ∷ before) turns =
    (earlier : List TurnIn) × (turn : TurnIn) × AreTurns before earlier
    × IsTurnOf (moment_of before + ms) closing samples turn × (turns ≡ earlier ++ turn ∷ [])
AreTurns (Pump entries ∷ before) turns = AreTurns before turns
