use Rattle.test_sessions.proofs.Going.{may-end, still-small}
use Rattle.test_sessions.proofs.calls.end.Goals as goal

pub pass-requires-clause-may : goal.pass-requires-clause-may
pass-requires-clause-may g c = may-end c.args.device c.requires.device

pub shows-requires-clause-small : goal.shows-requires-clause-small
shows-requires-clause-small g c =
    still-small c.args.device.session c.pass.new.session c.in_ok-pass.ensures.passes.plan c.requires.device.small
