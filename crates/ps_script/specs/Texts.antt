-- Lines and the words of a line.
use Rattle.std.specs.Prelude.{ℕ, ◌==◌, Bool, true, false, List, [], ◌∷◌, filter, slice_index_or, if◌then◌else◌}

-- up to the first such byte, or all
abbrev pub until : ℕ → List ℕ → List ℕ
until mark [] = []
until mark (byte ∷ bytes) = if byte == mark then [] else byte ∷ until mark bytes

-- after the first such byte; nothing where there is none
abbrev pub behind : ℕ → List ℕ → List ℕ
behind mark [] = []
behind mark (byte ∷ bytes) = if byte == mark then bytes else behind mark bytes

-- one byte more in front of the first piece
abbrev pub longer : ℕ → List (List ℕ) → List (List ℕ)
longer byte [] = (byte ∷ []) ∷ []
longer byte (piece ∷ pieces) = (byte ∷ piece) ∷ pieces

-- the pieces that end with such a byte; the last may lack it
unfoldable pub pieces : ℕ → List ℕ → List (List ℕ)
pieces mark [] = []
pieces mark (byte ∷ bytes) =
    if byte == mark then [] ∷ pieces mark bytes else longer byte (pieces mark bytes)

-- lines end with a line feed; the last may lack it
abbrev pub lines_of : List ℕ → List (List ℕ)
lines_of bytes = pieces 10 bytes

abbrev pub has_bytes : List ℕ → Bool
has_bytes [] = false
has_bytes (byte ∷ bytes) = true

-- words are parted by one or more spaces; spaces at a line's ends are ignored
unfoldable pub words_of : List ℕ → List (List ℕ)
words_of line = filter has_bytes (pieces 32 line)

-- the word at this index, from 0; nothing after the last
abbrev pub word : ℕ → List ℕ → List ℕ
word index line = slice_index_or (words_of line) index []
