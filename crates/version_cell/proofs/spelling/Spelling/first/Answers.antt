use Rattle.std.proofs.Common.{rules}
use Rattle.version_cell.proofs.Spellings.{put_first}
use Rattle.version_cell.proofs.spelling.Spelling.first.Goals as goal

pub returns : goal.returns
returns g c =
    let words = c.args.self.now in
    put_first g.row.N words.version words.count words.row.now.words words.terms.now c.copy_from_slice-2.new.self c.copy_from_slice.new.self c.requires.wide c.requires.small (search rules) c.copy_from_slice-2.ensures.after c.copy_from_slice.ensures.len
