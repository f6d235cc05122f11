use Rattle.std.proofs.Common.{rules, ◌∙◌}
use Rattle.ua_binary.specs.Reading.{HasRead, rest_of, byte_at, short}
use Rattle.frame_codec.proofs.ScalarLaws.{byte_then}
use Rattle.frame_codec.proofs.scalar.read_own_small.Goals as goal

pub returns-clause-read : goal.returns-clause-read
returns-clause-read c =
    let first : HasRead c.in_ok-number.number c.args.cursor.now c.read_u8.new.self (byte_at short) = search rules in
    let word = c.in_ok-word.ensures.read in
    record {
      answer = byte_then short c.args.kind c.in_ok-number.number _ (rest_of c.args.cursor.now) (rest_of c.read_u8.new.self) (rest_of c.read_small.new.cursor) first.answer (c.if-number-number_of.false ∙ c.number_of.ensures) word.answer;
      same_bytes = word.same_bytes ∙ first.same_bytes;
    }
