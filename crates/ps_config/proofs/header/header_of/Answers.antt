use Rattle.ps_config.proofs.HeaderSizes.{header_most}
use Rattle.ps_config.proofs.header.header_of.Goals as goal

pub returns-clause-short : goal.returns-clause-short
returns-clause-short c = header_most _ c.publisher_id.ensures.len c.ids_of.ensures.len c.security_part.ensures.len
