-- What befell a read group, without the datagrams that it refused.
use Rattle.std.specs.Prelude.{◌≡◌, List, [], ◌∷◌, Result, Ok, Err}
use Rattle.reader_group.specs.declared.refusal.Refusal.{Refusal}
use Rattle.reader_group.specs.Opening.{Opened}
use Rattle.reader_group.specs.Plain.{Setting, Event, Got, Expired, Stopped, plain, verdict_in}

abbrev pub unless_refused : Result Opened Refusal → Event → List Event → List Event
unless_refused (Ok opened) event events = event ∷ events
unless_refused (Err refusal) event events = events

-- each datagram that the group refused where it stood is left out
abbrev pub trimmed : Setting → List Event → List Event
trimmed setting [] = []
trimmed setting (Got moment on datagram ∷ before) =
    unless_refused (verdict_in setting (plain setting before) datagram) (Got moment on datagram) (trimmed setting before)
trimmed setting (Expired moment ∷ before) = Expired moment ∷ trimmed setting before
trimmed setting (Stopped reader why ∷ before) = Stopped reader why ∷ trimmed setting before

-- the datagrams that a group refused leave no trace in its plain reading
abbrev pub LeavesNoTrace : Setting → List Event → Type 0
LeavesNoTrace setting events = plain setting (trimmed setting events) ≡ plain setting events
