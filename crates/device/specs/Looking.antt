-- What one look at a group leaves of its publisher.
use Rattle.std.specs.Prelude.{◌≡◌, ℕ, Bool, true, false, List, length, slice_set, ⊤}
use Rattle.std.specs.List.{HoldsAt}
use Rattle.message_guard.specs.Senders.{SenderState}
use Rattle.ps_config.specs.declared.parts.Config.{Config}
use Rattle.writer_group.specs.Standing.{datagrams_in}
use Rattle.writer_group.specs.declared.datagrams.Datagrams.{Datagrams}
use Rattle.device.specs.declared.looking.Looked.{Looked}
use Rattle.device.specs.declared.looking.Looked.TheVariants.{Held, Idle, Made}
use Rattle.device.specs.declared.publisher.Publisher.{Publisher}
use Rattle.device.specs.Coming.{Did}
use Rattle.device.specs.Sides.{HasNumbered}

abbrev pub is_held : Looked → Bool
is_held Idle = false
is_held Held = true
is_held (Made made) = false

-- a turn leaves its datagrams, so many, and else those of the turn before stay
abbrev pub LeavesOut : Looked → Datagrams → Datagrams → Type 0
LeavesOut Idle old new = new ≡ old
LeavesOut Held old new = new ≡ old
LeavesOut (Made made) old new = made ≡ length (datagrams_in new)

-- each datagram of a turn of the group with this index took a number of its sender, and else the senders stay
abbrev pub LeavesSenders : Config → ℕ → Looked → List SenderState → List SenderState → Type 0
LeavesSenders config index Idle old new = new ≡ old
LeavesSenders config index Held old new = new ≡ old
LeavesSenders config index (Made made) old new = HasNumbered config index made old new

-- the datagrams of a turn are counted, and none of them was handed over
abbrev pub Counts : Looked → Publisher → Publisher → Type 0
Counts Idle old new = (new.made ≡ old.made) × (new.handed ≡ old.handed)
Counts Held old new = (new.made ≡ old.made) × (new.handed ≡ old.handed)
Counts (Made made) old new = (new.made ≡ made) × (new.handed ≡ 0)

-- behind a turn the group's index is kept
abbrev pub IsFrom : Looked → ℕ → Publisher → Type 0
IsFrom Idle index new = ⊤
IsFrom Held index new = ⊤
IsFrom (Made made) index new = new.from ≡ index

-- the group at this place was looked at at the moment, and the others stay
pub record HasLooked (place now : ℕ) (looked : Looked) (old new : Publisher) : Type 0 where
  pub config : new.config ≡ old.config
  pub rows : new.rows.items ≡ old.rows.items
  pub did : HoldsAt (λ was. HoldsAt (Did old.config now old.rows.items old.senders.items new.out looked was) new.sides.items place) old.sides.items place
  pub others : HoldsAt (λ is. new.sides.items ≡ slice_set old.sides.items place is) new.sides.items place
  pub senders : HoldsAt (λ was. LeavesSenders old.config was.index looked old.senders.items new.senders.items) old.sides.items place
  pub counts : Counts looked old new
  pub from : HoldsAt (λ was. IsFrom looked was.index new) old.sides.items place
