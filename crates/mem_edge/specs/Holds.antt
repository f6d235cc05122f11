-- A datagram that waits for a later one, as it is sorted.
use Rattle.std.specs.Prelude.{ℕ, Option, Some, None}
use Rattle.ua_base.specs.declared.link.Fate.{Fate}
use Rattle.ua_base.specs.declared.link.Fate.TheVariants as fate

-- the number that a datagram waits for, and its own
abbrev pub hold_of : ℕ → Fate → Option (ℕ × ℕ)
hold_of number fate.Drop = None
hold_of number (fate.Repeat times) = None
hold_of number (fate.Hold after) = Some (after, number)
hold_of number (fate.Again after) = Some (after, number)
