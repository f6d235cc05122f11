use Rattle.std.proofs.Common.{rules, refl}
use Rattle.row_words.specs.Shapes.{shape_of}
use Rattle.version_cell.proofs.Spellings.{put_two_parts}
use Rattle.version_cell.proofs.spelling.terms_for.Goals as goal

pub returns : goal.returns
returns c = put_two_parts c.args.quotas.now (shape_of c.args.meta.now) _ c.copy_from_slice.new.self c.copy_from_slice-2.new.self (search rules) (search rules) (search rules) refl
