-- Counts of faults over calls in a row.
use Rattle.std.proofs.Common.{ℕ, ◌≤◌, ◌⊎◌, inl, inr, arith}
use Rattle.ua_base.specs.Cause.{Rose, HasCause}

pub Rose-later : (a b c : ℕ) → Rose a b → b ≤ c → Rose a c
Rose-later a b c rose le = omega arith

pub Rose-earlier : (a b c : ℕ) → a ≤ b → Rose b c → Rose a c
Rose-earlier a b c le rose = omega arith

-- a call that answers no fault leaves the count
pub HasCause-refl : (n : ℕ) (failed : Type 0) → (failed → ⊥) → HasCause n n failed
HasCause-refl n failed not = record { later = omega arith; rose = λ f. absurd (not f) }

-- of two calls in a row, one has the fault
pub HasCause-then : (a b c : ℕ) (P Q R : Type 0) → (R → P ⊎ Q) → HasCause a b P → HasCause b c Q → HasCause a c R
HasCause-then a b c P Q R from p q = record { later = omega (arith, p.later, q.later); rose = λ r. rise (from r) }
  where
    rise : P ⊎ Q → Rose a c
    rise (inl f) = Rose-later a b c (p.rose f) q.later
    rise (inr f) = Rose-earlier a b c p.later (q.rose f)

pub HasCause-weaker : (a b : ℕ) (P Q : Type 0) → (Q → P) → HasCause a b P → HasCause a b Q
HasCause-weaker a b P Q from p = record { later = p.later; rose = λ f. p.rose (from f) }
