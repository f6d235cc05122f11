use Rattle.std.proofs.Common.{arith}
use Rattle.chunker.proofs.JoinerLaws.{whole-bytes}
use Rattle.chunker.proofs.joiner.Joiner.bytes.Goals as goal

pub returns : goal.returns
returns c = λ kept of. whole-bytes kept c.args.self.now c.in-Some.message c.in-Some.is c.if-message.true (omega arith) of
