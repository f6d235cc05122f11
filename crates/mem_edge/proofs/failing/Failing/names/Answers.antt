use Rattle.std.proofs.Common.{List, ℕ, ◌+◌, drop, subst}
use Rattle.mem_edge.specs.Failings.{IsAhead}
use Rattle.mem_edge.proofs.Failings.{ahead_first, ahead_none, first_named, none_named}
use Rattle.mem_edge.proofs.failing.Failing.names.Goals as goal

pub returns-in-Some-clause-value : goal.returns-in-Some-clause-value
returns-in-Some-clause-value c = λ fails ahead.
    let s = c.args.self.now in
    let found = rw c.deref.ensures.value at c.in-Some.ensures.lookup in
    let first = ahead_first s.numbers.items s.next c.in-Some.fail.now found.3.0 found.1 in
    first_named fails (drop (s.next + 1) s.numbers.items) c.args.number c.in-Some.fail.now (subst (λ (l : List ℕ). IsAhead fails c.args.number l) first ahead)

pub returns-in-None-clause-value : goal.returns-in-None-clause-value
returns-in-None-clause-value c = λ fails ahead.
    let s = c.args.self.now in
    let none = ahead_none s.numbers.items s.next (rw c.deref.ensures.value at c.in-None.ensures.lookup).3 in
    none_named fails c.args.number (subst (λ (l : List ℕ). IsAhead fails c.args.number l) none ahead)
