use Rattle.writer_group.proofs.Posts.{open-as}
use Rattle.writer_group.specs.Holding.{settings_in}
use Rattle.writer_group.proofs.posting.open_datagram.Goals as goal

pub lay_out-laid-requires-clause-secured : goal.lay_out-laid-requires-clause-secured
lay_out-laid-requires-clause-secured c = open-as (settings_in c.args.parts.now) c.requires.unsecured
