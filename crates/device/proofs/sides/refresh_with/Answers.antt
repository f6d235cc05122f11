use Rattle.std.proofs.Common.{ℕ, false, replicate, set, subst}
use Rattle.std.specs.Prelude.{IsTrue}
use Rattle.std.specs.List.{AllZip}
use Rattle.device.specs.Raising.{IsRefreshedBy}
use Rattle.device.specs.Resuming.{IsRefreshedWith}
use Rattle.device.proofs.Firsts.{zip-then}
use Rattle.device.proofs.Refreshing.{refreshed-alone}
use Rattle.device.proofs.sides.refresh_with.Goals as goal

pub returns-clause-refreshed : goal.returns-clause-refreshed
returns-clause-refreshed c =
    let config = c.args.config.now in
    let raised = set (replicate 4 false) c.args.keygroup c.args.changed in
    let by : AllZip (IsRefreshedBy config raised) c.args.sides.now c.refresh_raised.new.sides =
    subst (λ (k : ℕ). AllZip (IsRefreshedBy config (set (replicate 4 false) k c.args.changed)) c.args.sides.now c.refresh_raised.new.sides) c.from.ensures c.refresh_raised.ensures.refreshed in
    zip-then (IsRefreshedBy config raised) (IsRefreshedWith config c.args.keygroup (IsTrue c.args.changed))
    (refreshed-alone config c.args.keygroup c.args.changed c.requires.few) c.args.sides.now c.refresh_raised.new.sides by
