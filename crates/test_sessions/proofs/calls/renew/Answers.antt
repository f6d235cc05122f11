use Rattle.std.proofs.Common.{sym, ◌∙◌}
use Rattle.test_sessions.proofs.Going.{renewed, still-small}
use Rattle.test_sessions.proofs.calls.renew.Goals as goal

pub renew-answer-requires-clause-long : goal.renew-answer-requires-clause-long
renew-answer-requires-clause-long g c = c.in_ok-ring.ensures ∙ sym c.requires.small.short

pub shows-requires-clause-small : goal.shows-requires-clause-small
shows-requires-clause-small g c =
    still-small c.args.device.now.session c.renew-answer.new.self c.renew-answer.ensures.passes.plan c.requires.small

pub returns : goal.returns
returns g c =
    let e = c.renew-answer.ensures in
    renewed c.args.device.now c.renew-answer.new.self c.requires e.session e.passes e.left
