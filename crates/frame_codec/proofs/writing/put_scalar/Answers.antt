use Rattle.std.proofs.Common.{◌∷◌, List, ℕ, ap, sym, subst, length, arith}
use Rattle.ua_binary.specs.Writing.{Puts}
use Rattle.ua_binary.proofs.Laying.{Puts-then}
use Rattle.row_words.specs.Words.{scalar_bytes}
use Rattle.frame_codec.proofs.ScalarLaws.{variant-scalar_in}
use Rattle.frame_codec.proofs.writing.put_scalar.Goals as goal

pub put_u8-requires : goal.put_u8-requires
put_u8-requires c = omega (arith, c.requires.room, ap length (variant-scalar_in c.args.kind c.args.word c.requires.word))

pub put_word-requires-clause-room : goal.put_word-requires-clause-room
put_word-requires-clause-room c = omega (arith, c.requires.room, ap length (variant-scalar_in c.args.kind c.args.word c.requires.word), c.put_u8.ensures)

pub returns : goal.returns
returns c =
    let whole = Puts-then c.args.pen.now c.put_u8.new.self c.put_word.new.pen _ _ c.put_u8.ensures c.put_word.ensures in
    let typed = subst (λ (n : ℕ). Puts c.args.pen.now c.put_word.new.pen (n ∷ scalar_bytes c.args.kind c.args.word)) c.number_of.ensures whole in
    subst (λ (bytes : List ℕ). Puts c.args.pen.now c.put_word.new.pen bytes) (sym (variant-scalar_in c.args.kind c.args.word c.requires.word)) typed
