-- The joiners that keep a message in chunks: their bits say which offsets some chunk has, and their bytes are those of the last that has them.
use Rattle.std.specs.Prelude.{◌≡◌, ⊤, ℕ, ◌<◌, true, Bool, false, List, Option, Some, None, find, slice_index, option_map}
use Rattle.std.specs.List.{list_any}
use Rattle.std.specs.Option.{option_map_or}
use Rattle.chunker.specs.Cover.{has_offset}
use Rattle.chunker.specs.Chunks.{Chunk, is_at, byte_in}
use Rattle.chunker.specs.Joining.{Joining, is_joined}
use Rattle.chunker.specs.declared.joiner.Joined.{Joined}
use Rattle.chunker.specs.declared.joiner.Joiner.{Joiner}

abbrev pub current_in : Joiner → Option (ℕ × ℕ)
current_in joiner = option_map (λ message. (message.number, message.total)) joiner.message

abbrev pub is_whole_in : Joiner → Bool
is_whole_in joiner = option_map_or (λ message. message.is_whole) joiner.message false

-- of each offset of the message
pub record HasLaid (number total : ℕ) (chunks : List Chunk) (words bytes : List ℕ) : Type 0 where
  pub marks : (offset : ℕ) → offset < total → has_offset words offset ≡ list_any (is_at number offset) chunks
  pub bytes_are : (offset : ℕ) → offset < total → has_offset words offset ≡ true
      → slice_index bytes offset ≡ byte_in offset (find (is_at number offset) chunks)

abbrev pub HasCurrent : Option (ℕ × ℕ) → List Chunk → List ℕ → List ℕ → Type 0
HasCurrent None chunks words bytes = ⊤
HasCurrent (Some now) chunks words bytes = HasLaid now.0 now.1 chunks words bytes

pub record IsJoinerOf (kept : Joining) (joiner : Joiner) : Type 0 where
  pub current_is : current_in joiner ≡ kept.current
  pub whole_is : is_whole_in joiner ≡ is_joined kept
  pub has : HasCurrent kept.current kept.chunks joiner.cover joiner.bytes

-- what is kept then, and the answer
abbrev pub Meets : Joining × Joined → Joiner → Joined → Type 0
Meets (kept, joined) joiner answer = IsJoinerOf kept joiner × (answer ≡ joined)
