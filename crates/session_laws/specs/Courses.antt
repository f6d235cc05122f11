-- Courses of a session that differ in what its link answered alone.
use Rattle.std.specs.Prelude.{◌≡◌, List, [], ◌∷◌, Bool}
use Rattle.ua_base.specs.Journal.{Entry}
use Rattle.session_model.specs.Steps.{Step, Enable, Disable, Append, Tick, Pump}

-- the same switches, appends and ticks with their samples, with pumps at the same places; which sends were done and what the pumps got may differ
abbrev pub HaveOneCourse : List Step → List Step → Type 0
HaveOneCourse [] second = second ≡ []
HaveOneCourse (Enable id ∷ before) second =
    (rest : List Step) × (second ≡ Enable id ∷ rest) × HaveOneCourse before rest
HaveOneCourse (Disable id ∷ before) second =
    (rest : List Step) × (second ≡ Disable id ∷ rest) × HaveOneCourse before rest
HaveOneCourse (Append set field ∷ before) second =
    (rest : List Step) × (second ≡ Append set field ∷ rest) × HaveOneCourse before rest
HaveOneCourse (Tick ms closing samples done ∷ before) second =
    (others : List Bool) × (rest : List Step) × (second ≡ Tick ms closing samples others ∷ rest) × HaveOneCourse before rest
HaveOneCourse (Pump entries ∷ before) second =
    (others : List Entry) × (rest : List Step) × (second ≡ Pump others ∷ rest) × HaveOneCourse before rest
