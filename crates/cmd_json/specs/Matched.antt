-- Which readers are printed: those that are matched.
use Rattle.std.specs.Prelude.{◌≡◌, ◌↔◌, ℕ, ◌<◌, length, true}
use Rattle.ps_config.specs.declared.parts.Config.{Config}
use Rattle.ps_config.specs.Sound.{IsSound}
use Rattle.reader_group.specs.Settings.{group_at as read_group_at}
use Rattle.group_laws.specs.Matching.{reader_at}
use Rattle.session_laws.specs.Reading.{IsMatchedIn}
use Rattle.json_text.specs.Matching.{is_matched, is_plain}

-- the reader with index i of the read group r is matched to a writer
abbrev pub HasItsWriter : Config → ℕ → ℕ → Type 0
HasItsWriter config r i = (g : ℕ) × (w : ℕ) × (g < length config.group) × IsMatchedIn config r i g w

-- the reader with index i of the read group r, which is unsecured and in a dynamic layout, is told exactly where it is matched to a writer
abbrev pub IsToldIfMatched : Config → Type 0
IsToldIfMatched config =
    (r i : ℕ) → IsSound config → r < length config.readgroup → let readers = read_group_at config r in i < length readers.reader
    → is_plain readers.layout readers.security ≡ true → (is_matched config readers (reader_at readers i) ≡ true) ↔ HasItsWriter config r i
