-- A reference that may be there, and what it is left as.
use Rattle.std.specs.Prelude.{◌⊎◌, Option, Some, None}
use Rattle.std.proofs.Common.{inl, inr}
use Rattle.std.specs.Borrow.{MutBor}

-- what is lent
abbrev pub lent_in : {A : Type 0} → Option (MutBor A) → Option A
lent_in None = None
lent_in (Some lent) = Some lent.now

-- what it is at the call's end; the sum is how an `Option<&mut T>` is seen there
abbrev pub left_in : {A : Type 0} → Unit {0} ⊎ ((MutBor A × Unit {0}) ⊎ ⊥) → Option A
left_in (inl none) = None
left_in (inr (inl some)) = Some some.0.now
left_in (inr (inr never)) = absurd never
