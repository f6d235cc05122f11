-- Writing from left to right.
use Rattle.std.specs.Prelude.{◌≡◌, ℕ, ◌+◌, ◌<◌, List, ◌++◌, length, take, drop, Result, Ok, Err}
use Rattle.ua_binary.specs.declared.pen.Room.{Room}
use Rattle.ua_binary.specs.declared.pen.Pen.{Pen}

-- the bytes with these in place of those from `at` on
abbrev pub laid : List ℕ → ℕ → List ℕ → List ℕ
laid bytes at text = take at bytes ++ text ++ drop (at + length text) bytes

-- The text stands at the pen's place, every other byte is as it was, and the pen, over the same bytes in memory, is behind the text.
pub record Puts (old new : Pen) (text : List ℕ) : Type 0 where
  pub written : new.bytes.now ≡ laid old.bytes.now old.at text
  pub moved : new.at ≡ old.at + length text
  pub same_loan : new.bytes.ghost_name ≡ old.bytes.ghost_name
  pub same_length : length new.bytes.now ≡ length old.bytes.now

-- there is no room for the text, and nothing is written
pub record Refuses (old new : Pen) (text : List ℕ) : Type 0 where
  pub no_room : length old.bytes.now < old.at + length text
  pub stays : new ≡ old

-- Room is answered exactly where the text is longer than what is left, and then nothing is written.
abbrev pub Writes : {A : Type 0} → Result A Room → Pen → Pen → List ℕ → Type 0
Writes (Ok done) old new text = Puts old new text
Writes (Err room) old new text = Refuses old new text
