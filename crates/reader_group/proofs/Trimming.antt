-- Datagrams that a read group refuses leave no trace.
use Rattle.std.proofs.Common.{◌≡◌, refl, ap, ◌∙◌, ℕ, Bool, List, [], ◌∷◌}
use Rattle.std.specs.Prelude.{Result, Ok, Err}
use Rattle.reader_group.specs.declared.refusal.Refusal.{Refusal}
use Rattle.reader_group.specs.Opening.{Opened}
use Rattle.reader_group.specs.Plain.{Setting, PlainGroup, Event, Got, Expired, Stopped, step, plain, taken_on, verdict_in}
use Rattle.reader_group.specs.Traces.{unless_refused, trimmed}

unless-on : (setting : Setting) (now : ℕ) (on : List Bool) (datagram : List ℕ) (before kept : List Event) (answer : Result Opened Refusal)
    → verdict_in setting (plain setting before) datagram ≡ answer → plain setting kept ≡ plain setting before
    → plain setting (unless_refused answer (Got now on datagram) kept) ≡ taken_on setting (plain setting before) now on answer
unless-on setting now on datagram before kept (Err refusal) is e = e
unless-on setting now on datagram before kept (Ok opened) is e =
    ap (λ (group : PlainGroup). step setting group (Got now on datagram)) e ∙ ap (λ (answer : Result Opened Refusal). taken_on setting (plain setting before) now on answer) is

pub plain-trimmed : (setting : Setting) (events : List Event) → plain setting (trimmed setting events) ≡ plain setting events
plain-trimmed setting [] = refl
plain-trimmed setting (Got now on datagram ∷ before) =
    unless-on setting now on datagram before (trimmed setting before) (verdict_in setting (plain setting before) datagram) refl (plain-trimmed setting before)
plain-trimmed setting (Expired now ∷ before) = ap (λ (group : PlainGroup). step setting group (Expired now)) (plain-trimmed setting before)
plain-trimmed setting (Stopped reader why ∷ before) = ap (λ (group : PlainGroup). step setting group (Stopped reader why)) (plain-trimmed setting before)
