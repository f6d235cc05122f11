use Rattle.std.proofs.Common.{ℕ, ◌<◌, List, length, ap, arith}
use Rattle.ps_config.specs.declared.parts.GroupPart.{GroupPart}
use Rattle.writer_group.specs.Parts.{group_at}
use Rattle.writer_group.specs.Payloads.{writer_at}
use Rattle.gateway_core.specs.Lived.{session_steps}
use Rattle.gateway_core.specs.Holding.{sources_of}
use Rattle.cmd_relay.specs.Texts.{kept_by_index}
use Rattle.cmd_relay.proofs.Matched.{all-more}
use Rattle.cmd_relay.specs.Seen.{LogIsSeen}
use Rattle.cmd_relay.proofs.numbers.see_groups.Goals as goal

pub loop-g-preserved : goal.loop-g-preserved
loop-g-preserved c = λ lived stands g w low within.
    let second = c.args.second.now in
    let from = sources_of c.args.gateway.now in
    all-more
    (λ (h : ℕ). (v : ℕ) → v < length (group_at second h).writer → LogIsSeen second (session_steps from lived) (kept_by_index from lived (writer_at (group_at second h) v).dataset) h v)
    c.loop-g.g (λ h under v there. c.loop-g.invariant lived stands h v under there) (c.see_group.ensures lived stands) g low w within

pub returns : goal.returns
returns c = λ lived stands g w low within.
    let count = ap (λ (l : List GroupPart). length l) c.as_slice-g-end.ensures in
    let under : g < c.loop-g.g = omega (arith, count, low, c.loop-g-test.false) in
    c.loop-g.invariant lived stands g w under within
