use Rattle.std.proofs.Common.{rules}
use Rattle.version_cell.proofs.Parts.{parted}
use Rattle.version_cell.proofs.cut.part.Goals as goal

pub returns : goal.returns
returns c =
    parted c.args.words.now c.copy_from_slice.new.self c.copy_from_slice-2.new.self c.fill.new.self c.args.row.now.words c.requires.wide c.requires.small (search rules) (search rules) c.copy_from_slice-2.ensures.after (c.fill.ensures.after (λ y is. is))
