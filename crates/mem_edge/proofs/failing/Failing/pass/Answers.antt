use Rattle.std.proofs.Common.{◌≡◌, ◌<◌, ◌^◌, false, List, ℕ, ◌+◌, drop, sym, subst, arith, rules}
use Rattle.std.specs.Prelude.{◌==◌}
use Rattle.std.proofs.lemmas.Bool.Decides.{nat_tests}
use Rattle.mem_edge.specs.Calls.{next_call}
use Rattle.mem_edge.specs.Failings.{IsAhead}
use Rattle.mem_edge.proofs.Failings.{ahead_first, passed, unpassed}
use Rattle.mem_edge.proofs.failing.Failing.pass.Goals as goal

pub returns-then-fail-number : goal.returns-then-fail-number
returns-then-fail-number c = λ fails ahead.
    let s = c.args.self.now in
    let fail = c.in-Some.fail.now in
    let found = rw c.deref.ensures.value at c.in-Some.ensures.lookup in
    let first = ahead_first s.numbers.items s.next fail found.3.0 found.1 in
    let is : fail ≡ c.args.number = grind (arith, nat_tests, c.if-fail-number.true) in
    let small : fail < 2 ^ 64 = search rules in
    passed fails (drop (s.next + 1) s.numbers.items) c.args.number fail is small (subst (λ (l : List ℕ). IsAhead fails c.args.number l) first ahead)

pub returns-else-fail-number : goal.returns-else-fail-number
returns-else-fail-number c = λ fails ahead.
    let s = c.args.self.now in
    let fail = c.in-Some.fail.now in
    let found = rw c.deref.ensures.value at c.in-Some.ensures.lookup in
    let first = ahead_first s.numbers.items s.next fail found.3.0 found.1 in
    let small : c.args.number < 2 ^ 128 = search rules in
    let differs : (fail == c.args.number) ≡ false = grind (arith, nat_tests, c.if-fail-number.false) in
    subst (λ (l : List ℕ). IsAhead fails (next_call c.args.number) l) (sym first)
    (unpassed fails (drop (s.next + 1) s.numbers.items) c.args.number fail small differs (subst (λ (l : List ℕ). IsAhead fails c.args.number l) first ahead))
