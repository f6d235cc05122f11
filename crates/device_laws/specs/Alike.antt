-- Two read groups of which a reader reads alike, though they stand in two configurations.
use Rattle.std.specs.Prelude.{◌≡◌, ℕ, ◌<◌, [], length, None}
use Rattle.ps_config.specs.declared.parts.ReadGroupPart.{ReadGroupPart}
use Rattle.reader_group.specs.Members.{Seat, seat_at}
use Rattle.reader_group.specs.Plain.{Setting}

-- What is read of a read group to judge a datagram: its publisher, group, version, class id, layout and security. Neither its name is, nor the index of its key
-- group, nor the list of its readers.
abbrev pub judging : ReadGroupPart → ReadGroupPart
judging group = record group { name = []; keygroup = None; reader = [] }

-- what is read of a reader to read its parts: neither its name nor the index of its data set, whose meta stands beside
abbrev pub unnamed : Seat → Seat
unnamed seat = record seat { part = record seat.part { name = []; dataset = 0 } }

-- Of both read groups the reader with index i reads alike. They judge datagrams alike, and have the same keys, mode and first block, whichever index their key
-- group has. The two readers have the same writer's id, timeout, numbering and slot, and data sets of the same name, fields and version, whichever index these
-- have. Of their other readers nothing is asked.
pub record ReadsAlike (i : ℕ) (one other : Setting) : Type 0 where
  pub group : judging one.group ≡ judging other.group
  pub setup : one.setup ≡ other.setup
  pub within : i < length one.seats
  pub seat : unnamed (seat_at one.seats i) ≡ unnamed (seat_at other.seats i)
