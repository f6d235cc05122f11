use Rattle.std.proofs.Common.{◌≡◌, true, false, cond, nat_le, Some, None, arith, sym}
use Rattle.std.proofs.lemmas.Bool.Decides.{nat_tests}
use Rattle.config_tables.specs.Texts.{number_spelled}
use Rattle.config_tables.proofs.Numbers.{spelled}
use Rattle.config_tables.proofs.number.number_spelled.Goals as goal

pub returns-then-n-most-clause-number : goal.returns-then-n-most-clause-number
returns-then-n-most-clause-number c =
    let n = c.in-Some.n in
    let s : number_spelled c.args.most c.args.digits.now ≡ cond (nat_le n c.args.most) (Some n) None = spelled c.args.digits.now n c.args.most (omega arith) c.in-Some.ensures in
    let t : nat_le n c.args.most ≡ true = grind (arith, nat_tests) in
    sym (rw t at s)

pub returns-else-n-most-clause-number : goal.returns-else-n-most-clause-number
returns-else-n-most-clause-number c =
    let n = c.in-Some.n in
    let s : number_spelled c.args.most c.args.digits.now ≡ cond (nat_le n c.args.most) (Some n) None = spelled c.args.digits.now n c.args.most (omega arith) c.in-Some.ensures in
    let t : nat_le n c.args.most ≡ false = grind (arith, nat_tests) in
    sym (rw t at s)
