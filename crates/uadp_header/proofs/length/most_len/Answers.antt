use Rattle.std.proofs.Common.{◌∙◌, sym, arith}
use Rattle.uadp_header.specs.Headers.{header_in}
use Rattle.uadp_header.proofs.Lengths.{length-most}
use Rattle.uadp_header.proofs.length.most_len.Goals as goal

pub returns : goal.returns
returns c =
    let guid = sym c.guid_len.ensures.len ∙ c.guid_len.ensures.same in
    omega (arith, length-most (header_in c.args.header.now) guid c.requires.security, c.most_publisher_len.ensures.most, c.most_ids_len.ensures.most, c.guid_len.ensures.len)
