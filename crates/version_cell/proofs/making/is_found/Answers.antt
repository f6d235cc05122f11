use Rattle.std.proofs.Common.{rules, sym, ◌∙◌}
use lib.Pointwise.{bytes_decides}
use Rattle.version_cell.proofs.Parts.{found_same}
use Rattle.version_cell.proofs.making.is_found.Goals as goal

pub returns-then-eq : goal.returns-then-eq
returns-then-eq c = λ same.
    found_same c.args.head.now c.args.row.now.words c.args.words.now (search rules) ((bytes_decides _ _).0 (sym c.eq.ensures ∙ c.if-eq.true)) ((bytes_decides _ _).0 (sym c.eq-then-eq.ensures ∙ same))
