-- Which groups are refreshed as senders turn.
use Rattle.std.specs.Prelude.{◌≡◌, ◌↔◌, ℕ, ◌<◌, ◌≤◌, Bool, true, false, List, length, slice_index_or, Option, Some, None, IsTrue}
use Rattle.message_guard.specs.Senders.{SenderState}
use Rattle.ps_config.specs.declared.parts.Config.{Config}
use Rattle.writer_group.specs.Parts.{group_at}
use Rattle.device.specs.declared.side.Side.{Side}
use Rattle.device.specs.Coming.{AreRefreshed, HasNewToken, all_writers}

-- the truth values tell which of the senders have another token at the moment
pub record AreRaised (now : ℕ) (senders : List SenderState) (raised : List Bool) : Type 0 where
  pub each : (k : ℕ) (d : SenderState) → k < length senders → IsTrue (slice_index_or raised k false) ↔ HasNewToken now (slice_index_or senders k d)
  pub others : (k : ℕ) → length senders ≤ k → slice_index_or raised k false ≡ false

abbrev pub is_raised : List Bool → Option ℕ → Bool
is_raised raised None = false
is_raised raised (Some k) = slice_index_or raised k false

-- whether the sender of the group's key group has another token
abbrev pub raised_in : Config → List Bool → Side → Bool
raised_in config raised side = is_raised raised (group_at config side.index).keygroup

-- then the group is refreshed, and else it stays
abbrev pub IsRefreshedIf : Config → Bool → Side → Side → Type 0
IsRefreshedIf config true old new = AreRefreshed (all_writers config old) old new
IsRefreshedIf config false old new = new ≡ old

-- the same by these truth values
abbrev pub IsRefreshedBy : Config → List Bool → Side → Side → Type 0
IsRefreshedBy config raised old new = IsRefreshedIf config (raised_in config raised old) old new
