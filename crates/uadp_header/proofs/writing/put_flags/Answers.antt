use Rattle.ua_binary.proofs.Laying.{Puts-then}
use Rattle.uadp_header.specs.Spelling.{flags_bytes}
use Rattle.uadp_header.proofs.Puttings.{Puts-same}
use Rattle.uadp_header.proofs.writing.put_flags.Goals as goal

pub returns : goal.returns
unfolding flags_bytes
returns c =
    Puts-same c.args.pen.now c.put_extended.new.pen _ _
    (Puts-then c.args.pen.now c.put_u8.new.self c.put_extended.new.pen _ _ c.put_u8.ensures c.put_extended.ensures) (cc)
