use Rattle.std.proofs.Common.{List, subst, arith}
use Rattle.dataset_meta.specs.Metas.{MetaData}
use Rattle.writer_group.specs.Standing.{GoesOnAt, index_of}
use Rattle.example_publisher.proofs.Turning.{used-after}
use Rattle.example_publisher.proofs.device.turn_secured.Goals as goal

-- the metas of the turn are the configuration's
pub returns-clause-goes_on : goal.returns-clause-goes_on
returns-clause-goes_on c = subst (λ (l : List MetaData). GoesOnAt c.args.config.now l c.args.group.now c.tick.new.self) c.as_slice.ensures c.tick.ensures.goes_on

-- a turn makes at most so many datagrams
pub returns-clause-used : goal.returns-clause-used
returns-clause-used c =
    let used = used-after c.args.config.now.group (index_of c.args.group.now) c.tick.result c.args.sender.now c.tick.new.sender.0 c.requires.index c.tick.ensures.sender in
    omega (arith, used, c.tick.ensures.few)
