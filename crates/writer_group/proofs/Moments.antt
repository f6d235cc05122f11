-- Multiples of the publishing interval.
use Rattle.std.proofs.Common.{◌≡◌, ℕ, ◌+◌, ◌-◌, ◌*◌, ◌/◌, ◌%◌, ◌<◌, ◌≤◌, List, ap, ◌∙◌, arith}
use Rattle.std.proofs.Math.Nat.{div-add-mod, mul-mod_right, mul-le-mul_left, lt_of_mul-lt-mul_left}
use Rattle.std.proofs.lemmas.Bool.Decides.{nat_tests}
use Rattle.ps_config.specs.declared.parts.GroupPart.{GroupPart}
use Rattle.writer_group.specs.Standing.{IsDueInTime, IsMomentOf}
use Rattle.writer_group.specs.Turns.{GroupDeed, last_moment}

-- without its remainder a number is a multiple
less-remainder : (interval now : ℕ) → now - now % interval ≡ interval * (now / interval)
less-remainder interval now = omega (arith, div-add-mod now interval)

pub is-moment : (interval now : ℕ) → 1 ≤ interval → IsMomentOf interval now (now - now % interval)
is-moment interval now some = record {
  multiple = ap (λ (n : ℕ). n % interval) (less-remainder interval now) ∙ mul-mod_right interval (now / interval);
  passed = omega arith;
  last = omega (arith, div-add-mod now interval);
}

-- a multiple
is-multiple : (interval moment : ℕ) → moment % interval ≡ 0 → moment ≡ interval * (moment / interval)
is-multiple interval moment is = omega (arith, div-add-mod moment interval)

-- of two multiples the lower one is lower by an interval
pub multiples-apart : (interval one other : ℕ) → one % interval ≡ 0 → other % interval ≡ 0 → one < other → one + interval ≤ other
multiples-apart interval one other first second less =
    let a = one / interval in
    let b = other / interval in
    let one_is : one ≡ interval * a = is-multiple interval one first in
    let other_is : other ≡ interval * b = is-multiple interval other second in
    let below : a < b = lt_of_mul-lt-mul_left interval (omega arith) in
    omega (arith, mul-le-mul_left interval below)

pub due-in-time : (part : GroupPart) (past : List GroupDeed) → IsDueInTime part past
due-in-time part past now moment of last_is later =
    let apart = multiples-apart part.interval (last_moment past) moment last_is of.multiple (omega (arith, of.last)) in
    grind (arith, nat_tests)
