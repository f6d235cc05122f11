use Rattle.std.proofs.Common.{◌≡◌, ℕ, length, subst, arith}
use Rattle.json_tap.specs.Reading.{IsReadBack}
use Rattle.json_tap.proofs.book.Book.line_for.Goals as goal

pub returns-clause-read : goal.returns-clause-read
returns-clause-read c =
    let count : c.len.result ≡ length c.args.self.now.lines.items = omega (arith, c.len.ensures) in
    subst (λ (number : ℕ). IsReadBack c.args.config.now number c.args.datagram.now) count c.in_ok-line.ensures.read
