use Rattle.device.specs.Coming.{IsRefreshedFor}
use Rattle.device.specs.Raising.{IsRefreshedBy}
use Rattle.device.proofs.Firsts.{zip-then}
use Rattle.device.proofs.Refreshing.{refreshed-for}
use Rattle.device.proofs.sides.turn_senders.Goals as goal

pub returns-clause-refreshed : goal.returns-clause-refreshed
returns-clause-refreshed c =
    let config = c.args.config.now in
    let raised = c.turn_each-raised.result in
    zip-then (IsRefreshedBy config raised) (IsRefreshedFor config c.args.now c.args.senders.now)
    (refreshed-for config c.args.now c.args.senders.now raised c.turn_each-raised.ensures.raised) c.args.sides.now c.refresh_raised.new.sides c.refresh_raised.ensures.refreshed
