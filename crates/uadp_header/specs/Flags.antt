-- Which flags stand behind flags (OPC 10000-14 7.2.4.4, UADP NetworkMessage).
use Rattle.std.specs.Prelude.{◌≡◌, ℕ, ◌%◌, ◌≤◌, true}
use Rattle.ua_binary.specs.ReadingValues.{has}

-- ExtendedFlags1 stands behind flags of version 1 with bit 7
pub record HasExtended1 (flags : ℕ) : Type 0 where
  pub version : flags % 16 ≡ 1
  pub there : has flags 0x80 ≡ true

-- ExtendedFlags2 stands behind an ExtendedFlags1 with bit 7 and a PublisherId's type that there is
pub record HasExtended2 (flags extended1 : ℕ) : Type 0 where
  pub first : HasExtended1 flags
  pub type : extended1 % 8 ≤ 4
  pub there : has extended1 0x80 ≡ true
