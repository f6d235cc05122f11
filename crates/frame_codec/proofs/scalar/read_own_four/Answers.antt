use Rattle.std.proofs.Common.{rules, ◌∙◌}
use Rattle.ua_binary.specs.Reading.{rest_of}
use Rattle.frame_codec.proofs.ScalarLaws.{four_read}
use Rattle.frame_codec.proofs.scalar.read_own_four.Goals as goal

pub returns-clause-read : goal.returns-clause-read
returns-clause-read c = record {
  answer = four_read (record {}) c.args.kind (rest_of c.args.cursor.now) c.in-Ok.bytes (rest_of c.read_array.new.self) c.from.result c.in-Ok.ensures.answer (search rules) (search rules) (c.from.ensures ∙ c.from_le_bytes-word.ensures);
  same_bytes = c.in-Ok.ensures.same_bytes;
}
