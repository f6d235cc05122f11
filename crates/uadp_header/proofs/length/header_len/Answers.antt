use Rattle.std.proofs.Common.{◌∙◌, sym}
use Rattle.uadp_header.specs.Headers.{header_in}
use Rattle.uadp_header.specs.Spelling.{header_len}
use Rattle.uadp_header.proofs.Lengths.{length-header}
use Rattle.uadp_header.proofs.length.header_len.Goals as goal

pub returns-clause-exact : goal.returns-clause-exact
unfolding header_len
returns-clause-exact c =
    let guid = sym c.guid_len.ensures.len ∙ c.guid_len.ensures.same in
    let whole = length-header (header_in c.args.header.now) guid in
    cc
