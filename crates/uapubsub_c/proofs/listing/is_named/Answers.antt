use Rattle.uapubsub_c.proofs.Naming.{one-name}
use Rattle.uapubsub_c.proofs.listing.is_named.Goals as goal

pub returns-then-not-is_name-clause-not : goal.returns-then-not-is_name-clause-not
returns-then-not-is_name-clause-not c = λ named.
    c.if-not-is_name.ensures.no (one-name c.args.config.now c.args.list c.args.of c.args.index c.in-Some.told c.args.name.now c.in-Some.ensures.named named)
