use Rattle.std.proofs.Common.{◌∷◌, List, ℕ, ap, sym, subst, length, arith, rules}
use Rattle.std.specs.Int.{w32, to_le_bytes}
use Rattle.ua_binary.specs.Writing.{Puts}
use Rattle.ua_binary.proofs.Laying.{Puts-then}
use Rattle.frame_codec.proofs.ScalarLaws.{four-scalar_in, four_small}
use Rattle.frame_codec.proofs.writing.put_four.Goals as goal

pub put_u8-requires : goal.put_u8-requires
put_u8-requires c = omega (arith, c.requires.room, ap length (four-scalar_in c.args.kind c.args.word c.requires.four c.requires.word))

pub returns : goal.returns
returns c =
    let small = four_small c.args.kind c.args.word c.requires.four c.requires.word in
    let four : Puts c.put_u8.new.self c.put_u32.new.self (to_le_bytes w32 c.args.word) = search rules in
    let whole = Puts-then c.args.pen.now c.put_u8.new.self c.put_u32.new.self _ _ c.put_u8.ensures four in
    let typed = subst (λ (n : ℕ). Puts c.args.pen.now c.put_u32.new.self (n ∷ to_le_bytes w32 c.args.word)) c.number_of.ensures whole in
    subst (λ (bytes : List ℕ). Puts c.args.pen.now c.put_u32.new.self bytes) (sym (four-scalar_in c.args.kind c.args.word c.requires.four c.requires.word)) typed
