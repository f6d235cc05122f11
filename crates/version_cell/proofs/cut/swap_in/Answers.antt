use Rattle.std.proofs.Common.{rules, sym, ap, ◌∙◌}
use Rattle.version_cell.specs.Spellings.{words_of}
use Rattle.version_cell.specs.Widths.{widened}
use Rattle.version_cell.proofs.Strips.{swaps_beginning}
use Rattle.version_cell.proofs.cut.swap_in.Goals as goal

pub swap_as-requires : goal.swap_as-requires
swap_as-requires g c = (
  search rules,
  (
    search rules,
    (
      c.requires.own,
      swaps_beginning _ _ _ c.first.result (words_of c.args.new.now) g.M.Outcome.then (ap (widened _) c.first.ensures ∙ sym c.requires.new) c.requires.rule,
    ),
  ),
)
