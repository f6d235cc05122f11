-- The fates that a link may be opened with: a datagram's number (from 0, by the calls of `send`), and its fate.
use Rattle.std.specs.Prelude.{◌≡◌, ◌≤◌, ◌<◌, ℕ, ◌==◌, false, List, [], ◌∷◌}
use Rattle.std.specs.List.{list_any}
use Rattle.ua_base.specs.declared.link.Fate.{Fate}
use Rattle.ua_base.specs.declared.link.Fate.TheVariants as fate

abbrev pub IsFate : ℕ → Fate → Type 0
IsFate number fate.Drop = Unit {0}
IsFate number (fate.Repeat times) = (2 ≤ times) × (times ≤ 8)
IsFate number (fate.Hold after) = number < after
IsFate number (fate.Again after) = number < after

-- each fate is in its range, and no datagram has two
abbrev pub AreFates : List (ℕ × Fate) → Type 0
AreFates [] = Unit {0}
AreFates (f ∷ fates) = IsFate f.0 f.1 × (list_any (λ other. other.0 == f.0) fates ≡ false) × AreFates fates
