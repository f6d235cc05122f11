-- What a call for the next datagram does.
use Rattle.std.specs.Prelude.{◌≡◌, ℕ, ◌+◌, ◌<◌, [], List, length, slice_index_or, Result, Ok, Err}
use Rattle.writer_group.specs.Standing.{datagrams_in}
use Rattle.device.specs.Coming.{ComesTo}
use Rattle.device.specs.Storing.{MayHandOver}
use Rattle.device.specs.declared.asked.Next.TheVariants as nexts
use Rattle.device.specs.declared.publisher.Publisher.{Publisher}
use Rattle.uapubsub_c.specs.Laying.{IsLaidOut}
use Rattle.uapubsub_c.specs.declared.status.Status.{Status}
use Rattle.uapubsub_c.specs.declared.status.Status.TheVariants.{Nothing, Room, Spent, Unstored}

-- the datagram that waits
abbrev pub waiting_datagram : Publisher → List ℕ
waiting_datagram publisher = slice_index_or (datagrams_in publisher.out) publisher.handed []

-- the publisher comes to the moment, and the datagram that then waits, and may be handed over, is laid at the front of the buffer, and handed over
pub record HandsNext (now : ℕ) (buffer left : List ℕ) (count : ℕ) (old new : Publisher) : Type 0 where
  pub mid : Publisher
  pub comes : ComesTo now nexts.Datagram old mid
  pub may : MayHandOver mid
  pub laid : IsLaidOut (waiting_datagram mid) buffer left count
  pub handed : new ≡ record mid { handed = mid.handed + 1 }

-- the publisher comes to the moment, and the datagram that then waits has so many bytes, which are more than the buffer has
pub record Waits (now : ℕ) (buffer : List ℕ) (count : ℕ) (old new : Publisher) : Type 0 where
  pub comes : ComesTo now nexts.Datagram old new
  pub count_is : count ≡ length (waiting_datagram new)
  pub longer : length buffer < count

-- the publisher comes to the moment, and the datagram that then waits may not be handed over: what is stored doesn't cover it
pub record IsWithheld (now : ℕ) (old new : Publisher) : Type 0 where
  pub comes : ComesTo now nexts.Datagram old new
  pub may_not : ¬ MayHandOver new

abbrev pub ComesNext : ℕ → List ℕ → List ℕ → ℕ → Publisher → Result Unit Status → Publisher → Type 0
ComesNext now buffer left count old (Ok value) new = HandsNext now buffer left count old new
ComesNext now buffer left count old (Err Nothing) new = ComesTo now nexts.Nothing old new
ComesNext now buffer left count old (Err Spent) new = ComesTo now nexts.Spent old new
ComesNext now buffer left count old (Err Room) new = Waits now buffer count old new
ComesNext now buffer left count old (Err Unstored) new = IsWithheld now old new
ComesNext now buffer left count old (Err other) new = ⊥
