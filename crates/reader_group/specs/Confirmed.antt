-- When the row that a reader holds was confirmed.
use Rattle.std.specs.Prelude.{◌≡◌, ℕ, ◌<◌, List, [], ◌∷◌, length, is_some, IfSome, Contains}
use Rattle.reader_group.specs.Members.{MemberValue}
use Rattle.reader_group.specs.Plain.{Setting, Event, Got, Expired, Stopped, member_at, plain}

-- the moments at which datagrams came, the latest first
abbrev pub moments : List Event → List ℕ
moments [] = []
moments (Got moment on datagram ∷ before) = moment ∷ moments before
moments (Expired moment ∷ before) = moments before
moments (Stopped reader why ∷ before) = moments before

-- a row is held exactly where it was confirmed, and that at a moment at which a datagram came
pub record IsConfirmed (list : List ℕ) (member : MemberValue) : Type 0 where
  pub held : is_some member.confirmed ≡ is_some member.kept.row
  pub came : IfSome member.confirmed (Contains list)

-- so it is for each reader of a group
abbrev pub RowsAreConfirmed : Setting → List Event → Type 0
RowsAreConfirmed setting events =
    (reader : ℕ) → reader < length setting.seats
    → IsConfirmed (moments events) (member_at (plain setting events).members reader)
