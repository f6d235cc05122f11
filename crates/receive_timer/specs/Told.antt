-- When a reader's receive timeout has run out (OPC 10000-14, the MessageReceiveTimeout of a DataSetReader), by the list of what its timer was
-- told, the latest first.
use Rattle.std.specs.Prelude.{◌≡◌, ℕ, ◌+◌, ◌^◌, ◌<◌, List, [], ◌∷◌, Bool, false, not, ◌&&◌, nat_le, ◌==◌, Option, Some, None}
use Rattle.std.specs.Option.{option_map_or}
use Rattle.receive_timer.specs.declared.timer.Timer.{Timer}

-- a message came at a moment, or the timer was cleared
pub data Told : Type 0 where
  Seen : ℕ → Told
  Cleared : Told

-- the moment of the last message since the timer was last cleared
abbrev pub last_seen : List Told → Option ℕ
last_seen [] = None
last_seen (Cleared ∷ before) = None
last_seen (Seen moment ∷ before) = Some moment

-- a limit of 0 is none
abbrev pub is_due : ℕ → List Told → ℕ → Bool
is_due limit told now = not (limit == 0) && option_map_or (λ moment. nat_le (moment + limit) now) (last_seen told) false

-- the timer has run out from this moment on, or at no moment that 64 bits hold
abbrev pub TellsDue : ℕ → List Told → Option ℕ → Type 0
TellsDue limit told None = (now : ℕ) → now < 2 ^ 64 → is_due limit told now ≡ false
TellsDue limit told (Some from) = (now : ℕ) → is_due limit told now ≡ nat_le from now

abbrev pub limit_of : Timer → ℕ
limit_of timer = timer.limit

abbrev pub last_of : Timer → Option ℕ
last_of timer = timer.last

-- the timer of this limit that was told these, the latest first
pub record IsTimerOf (limit : ℕ) (told : List Told) (timer : Timer) : Type 0 where
  pub limit_is : limit_of timer ≡ limit
  pub last_is : last_of timer ≡ last_seen told
