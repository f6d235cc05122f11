use Rattle.std.proofs.Common.{◌<◌, ◌∙◌, arith}
use Rattle.std.proofs.lemmas.List.Elements.{All-from_get_or}
use Rattle.uadp_header.specs.Headers.{header_in}
use Rattle.ua_binary.specs.Wire.{AreBytes}
use Rattle.uadp_header.proofs.Ranges.{header-is_read}
use Rattle.uadp_header.proofs.StepLaws.{header_whole}
use Rattle.uadp_header.proofs.reading.read_header.Goals as goal

pub returns-clause-ranges : goal.returns-clause-ranges
returns-clause-ranges c =
    let are : AreBytes c.args.bytes.now = All-from_get_or (λ byte. byte < 256) c.args.bytes.now 0 (λ i below. omega (arith, c.type_inv.bytes i)) in
    header-is_read c.args.bytes.now _ (header_in c.in_ok-header.header) are (header_whole c.args.bytes.now ∙ c.in_ok-header.ensures.answer)
