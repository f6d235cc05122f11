-- What a link was made to do, what it was opened with, and what every call over a link keeps.
use Rattle.std.specs.Prelude.{◌≡◌, ◌≤◌, ◌+◌, ℕ, Bool, List, Option, IsSome}
use Rattle.ua_base.specs.Journal.{LinkState}
use Rattle.ua_base.specs.declared.link.Fate.{Fate}

-- What a link does beside what it is opened with, by numbers that begin anew with each opening: a datagram is injected
-- after the send of its number, and the sends and the receives of these numbers fail. Or each opening fails.
pub record Making : Type 0 where
  pub injected : List (ℕ × List ℕ)
  pub send_fails : List ℕ
  pub receive_fails : List ℕ
  pub open_fails : Bool

pub record Opening : Type 0 where
  pub port : ℕ
  pub fates : List (ℕ × Fate)

-- Over calls that answered Nothing so often at most, a link that told tells on if it had the patience for them, and it loses no
-- more of its patience.
pub record TellsOn {L : Type 0} (told : L → Option LinkState) (patience : L → ℕ) (nothings : ℕ) (old new : L) : Type 0 where
  pub tells : nothings ≤ patience old → IsSome (told old) → IsSome (told new)
  pub left : patience old ≤ patience new + nothings

-- It stays open, with what it was opened with, it isn't opened anew, its count of faults doesn't fall, and it tells on.
pub record KeepsLink {L : Type 0} (told : L → Option LinkState) (patience : L → ℕ) (opened_with : L → Option Opening) (faults : L → ℕ) (made : L → Making) (openings : L → ℕ) (nothings : ℕ) (old new : L) : Type 0 where
  pub lasts : TellsOn told patience nothings old new
  pub opening : opened_with new ≡ opened_with old
  pub counted : faults old ≤ faults new
  pub making : made new ≡ made old
  pub opened : openings new ≡ openings old
