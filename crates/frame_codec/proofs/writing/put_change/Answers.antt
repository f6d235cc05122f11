use Rattle.std.proofs.Common.{ℕ, ◌++◌, subst, get_or, length-append, arith}
use Rattle.std.specs.Int.{w16, to_le_bytes}
use Rattle.ua_binary.specs.Writing.{Puts}
use Rattle.ua_binary.proofs.Laying.{Puts-then}
use Rattle.row_words.specs.Belonging.{row_in}
use Rattle.frame_codec.specs.Spelling.{value_bytes}
use Rattle.frame_codec.proofs.Laid.{any}
use Rattle.frame_codec.proofs.writing.put_change.Goals as goal

pub put_u16-requires : goal.put_u16-requires
put_u16-requires c =
    let x = get_or (row_in c.args.meta.now.fields c.args.row.now.words) c.args.index any in
    omega (arith, c.requires.room any, length-append (to_le_bytes w16 c.args.index) (value_bytes c.args.meta.now.quality x))

pub returns : goal.returns
returns c = λ d.
    let x = get_or (row_in c.args.meta.now.fields c.args.row.now.words) c.args.index d in
    subst (λ (n : ℕ). Puts c.args.pen.now c.put_value.new.pen (to_le_bytes w16 n ++ value_bytes c.args.meta.now.quality x)) c.from.ensures
    (Puts-then c.args.pen.now c.put_u16.new.self c.put_value.new.pen _ _ c.put_u16.ensures (c.put_value.ensures d))
