-- Which number stands beside the row that a reader holds.
use Rattle.std.specs.Prelude.{◌≡◌, ℕ, ◌<◌, List, length, None, IfSome, IsSomeAnd}
use Rattle.dataset_reader.specs.Kept.{Kept}
use Rattle.config_tables.specs.declared.words.NumberingWord.{NumberingWord}
use Rattle.config_tables.specs.declared.words.NumberingWord.TheVariants as words
use Rattle.reader_group.specs.Members.{seat_at}
use Rattle.reader_group.specs.Plain.{Setting, PlainGroup, Event, member_at, plain}

-- With numbering by message a row that is held has a number of 16 bits beside it (OPC 10000-14 7.2.4.5.4, DataSetMessageSequenceNumber); with none there is
-- no number.
abbrev pub HasItsNumber : NumberingWord → Kept → Type 0
HasItsNumber words.Message kept = IfSome kept.row (λ row. IsSomeAnd kept.number (λ n. n < 65536))
HasItsNumber words.None kept = kept.number ≡ None

-- beside the row of each reader stands the number that its numbering asks for
abbrev pub HaveNumbers : Setting → PlainGroup → Type 0
HaveNumbers setting group =
    (reader : ℕ) → reader < length setting.seats
    → HasItsNumber (seat_at setting.seats reader).part.numbering (member_at group.members reader).kept

-- so it does in the plain reading
abbrev pub HaveTheirNumbers : Setting → List Event → Type 0
HaveTheirNumbers setting events = HaveNumbers setting (plain setting events)
