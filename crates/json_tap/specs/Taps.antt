-- What a tap shows.
use Rattle.std.specs.Prelude.{ℕ, Bool, List}
use Rattle.json_tap.specs.declared.tap.Tap.{Tap}

-- the link behind it
abbrev pub link_of : {L M : Type 0} {link : _} {made : _} → Tap L M link made → L
link_of tap = tap.link.now

-- its lines, in order
abbrev pub lines_in : {L M : Type 0} {link : _} {made : _} → Tap L M link made → List (List ℕ)
lines_in tap = tap.book.lines.items

-- how many datagrams that were sent gave no line
abbrev pub skipped_in : {L M : Type 0} {link : _} {made : _} → Tap L M link made → ℕ
skipped_in tap = tap.book.skipped

-- its link was opened by way of it
abbrev pub is_open : {L M : Type 0} {link : _} {made : _} → Tap L M link made → Bool
is_open tap = tap.is_open
