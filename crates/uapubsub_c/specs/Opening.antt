-- What opening a handle does.
use Rattle.std.specs.Prelude.{◌≡◌, ◌≢◌, ℕ, List, Result, Ok, Err}
use Rattle.uapubsub_c.specs.Handles.{IsRefused, OpensPublisher, OpensSubscriber}
use Rattle.uapubsub_c.specs.declared.handle.Handle.{Handle}
use Rattle.uapubsub_c.specs.declared.status.Status.{Status}
use Rattle.uapubsub_c.specs.declared.status.Status.TheVariants.{Memory, Opened, Refused}

-- why the handle isn't opened
abbrev pub IsUnopened : List ℕ → Handle → Status → Type 0
IsUnopened text old Opened = old.is_open ≢ 0
IsUnopened text old Refused = IsRefused text
IsUnopened text old Memory = Unit {0}
IsUnopened text old other = ⊥

-- with UAP_OK the handle was closed, and holds this; else it stays
abbrev pub Opens : (Handle → Type 0) → List ℕ → Handle → Handle → Result Unit Status → Type 0
Opens holds text old new (Ok value) = (old.is_open ≡ 0) × holds new
Opens holds text old new (Err status) = (new ≡ old) × IsUnopened text old status

abbrev pub OpensAPublisher : List ℕ → Handle → Handle → Result Unit Status → Type 0
OpensAPublisher text old new answer = Opens (OpensPublisher text) text old new answer

abbrev pub OpensASubscriber : List ℕ → Handle → Handle → Result Unit Status → Type 0
OpensASubscriber text old new answer = Opens (OpensSubscriber text) text old new answer
