use Rattle.std.proofs.Common.{ℕ, ◌<◌, length}
use Rattle.reader_group.specs.Settings.{group_at as read_group_at}
use Rattle.gateway_core.specs.Lived.{session_steps}
use Rattle.gateway_core.specs.Holding.{sources_of}
use Rattle.cmd_relay.proofs.Matched.{all-more}
use Rattle.cmd_relay.specs.Seen.{ReaderIsSeen}
use Rattle.cmd_relay.proofs.numbers.see_read_groups.Goals as goal

pub loop-r-preserved : goal.loop-r-preserved
loop-r-preserved c = λ lived stands r i low within.
    let second = c.args.second.now in
    let from = sources_of c.args.gateway.now in
    all-more (λ (q : ℕ). (k : ℕ) → k < length (read_group_at second q).reader → ReaderIsSeen second (session_steps from lived) q k)
    c.loop-r.r (λ q under k there. c.loop-r.invariant lived stands q k under there) (c.see_read_group.ensures lived stands) r low i within
