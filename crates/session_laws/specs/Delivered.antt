-- Sessions over a link that loses nothing.
use Rattle.std.specs.Prelude.{ℕ, List, [], ◌∷◌, ◌++◌, map, Bool, true}
use Rattle.ua_base.specs.Journal.{Entry, Got, Empty}
use Rattle.writer_group.specs.declared.sampled.Sampled.{Sampled}
use Rattle.session_model.specs.Sends.{sends_of}
use Rattle.session_model.specs.Steps.{Plan, Step, Tick, Pump}

-- that each send of a tick after these steps is done
abbrev pub all_done : Plan → ℕ → Bool → List Sampled → List Step → List Bool
all_done p ms closing samples before = map (λ send. true) (sends_of p (Tick ms closing samples [] ∷ before))

-- such a tick
abbrev pub sent_on : Plan → ℕ → Bool → List Sampled → List Step → List Step
sent_on p ms closing samples before = Tick ms closing samples (all_done p ms closing samples before) ∷ before

-- what a pump then gets: all that the tick sent
abbrev pub all_got : Plan → List Step → List Entry
all_got p before = map (λ send. Got send.datagram) (sends_of p before) ++ Empty ∷ []

-- a tick whose sends are done, and a pump that gets all of them
abbrev pub delivered_on : Plan → ℕ → Bool → List Sampled → List Step → List Step
delivered_on p ms closing samples before =
    let sent = sent_on p ms closing samples before in Pump (all_got p sent) ∷ sent
