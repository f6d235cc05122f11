-- What a pump takes off a link in memory whose receives don't fail.
use Rattle.std.specs.Prelude.{◌≡◌, ◌≤◌, ◌<◌, ◌++◌, ℕ, List, [], ◌∷◌, length, map, All}
use Rattle.ua_base.specs.Journal.{Entry, Got, Empty}
use Rattle.mem_edge.specs.Standings.{Settings, standing_of}
use Rattle.session_model.specs.Counts.{longest_datagram}

-- the journal is the one that its own calls give, as it is of each link in memory that tells it
abbrev pub IsOfItsCalls : Settings → List Entry → Type 0
IsOfItsCalls settings journal = (standing_of settings journal).state.journal ≡ journal

-- what waits after these entries
abbrev pub waiting_behind : Settings → List Entry → List (List ℕ)
waiting_behind settings journal = (standing_of settings journal).state.waiting

-- after these entries a pump takes all that waits, in order, and then nothing is ready
abbrev pub TakesAll : Settings → List Entry → List Entry → Type 0
TakesAll settings before entries = entries ≡ map Got (waiting_behind settings before) ++ Empty ∷ []

-- fewer datagrams wait than a pump of so many takes, none longer than one may be
pub record MayTakeAll (settings : Settings) (before : List Entry) (left : ℕ) : Type 0 where
  pub unfailing : settings.making.receive_fails ≡ []
  pub few : length (waiting_behind settings before) < left
  pub short : All (λ datagram. length datagram ≤ longest_datagram) (waiting_behind settings before)
