-- The pairs that a read group has accepted are told by the datagrams alone.
use Rattle.std.proofs.Common.{◌≡◌, refl, ap, ◌∙◌, ℕ, Bool, List, [], ◌∷◌}
use Rattle.std.specs.Prelude.{Result, Ok, Err}
use Rattle.message_guard.specs.Acceptance.{Accepted}
use Rattle.reader_group.specs.declared.refusal.Refusal.{Refusal}
use Rattle.reader_group.specs.Opening.{Opened, verdict}
use Rattle.reader_group.specs.Arrivals.{accepted, accepted_with}
use Rattle.reader_group.specs.Plain.{Setting, PlainGroup, Event, Got, Expired, Stopped, plain, taken_on}

taken-accepts : (setting : Setting) (group : PlainGroup) (now : ℕ) (on : List Bool) (answer : Result Opened Refusal)
    → (taken_on setting group now on answer).accepted ≡ accepted_with setting group.accepted answer
taken-accepts setting group now on (Err refusal) = refl
taken-accepts setting group now on (Ok opened) = refl

pub plain-accepted : (setting : Setting) (events : List Event) → (plain setting events).accepted ≡ accepted setting events
plain-accepted setting [] = refl
plain-accepted setting (Got now on datagram ∷ before) =
    let group = plain setting before in
    taken-accepts setting group now on (verdict setting.group setting.setup group.accepted datagram)
    ∙ ap (λ (pairs : Accepted). accepted_with setting pairs (verdict setting.group setting.setup pairs datagram)) (plain-accepted setting before)
plain-accepted setting (Expired now ∷ before) = plain-accepted setting before
plain-accepted setting (Stopped reader why ∷ before) = plain-accepted setting before
