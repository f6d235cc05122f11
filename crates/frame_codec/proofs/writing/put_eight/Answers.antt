use Rattle.std.proofs.Common.{◌∷◌, List, ℕ, ap, sym, subst, length, arith}
use Rattle.std.specs.Int.{w64, to_le_bytes}
use Rattle.ua_binary.specs.Writing.{Puts}
use Rattle.ua_binary.proofs.Laying.{Puts-then}
use Rattle.frame_codec.proofs.ScalarLaws.{eight-scalar_in}
use Rattle.frame_codec.proofs.writing.put_eight.Goals as goal

pub put_u8-requires : goal.put_u8-requires
put_u8-requires c = omega (arith, c.requires.room, ap length (eight-scalar_in c.args.kind c.args.word c.requires.eight c.requires.word))

pub returns : goal.returns
returns c =
    let whole = Puts-then c.args.pen.now c.put_u8.new.self c.put_u64.new.self _ _ c.put_u8.ensures c.put_u64.ensures in
    let typed = subst (λ (n : ℕ). Puts c.args.pen.now c.put_u64.new.self (n ∷ to_le_bytes w64 c.args.word)) c.number_of.ensures whole in
    subst (λ (bytes : List ℕ). Puts c.args.pen.now c.put_u64.new.self bytes) (sym (eight-scalar_in c.args.kind c.args.word c.requires.eight c.requires.word)) typed
