use Rattle.std.proofs.Common.{List, ◌+◌, sym, subst, ◌∙◌}
use Rattle.ps_report.specs.declared.closed.History.{History}
use Rattle.pubsub_engine.specs.Authored.{AreHistories}
use Rattle.pubsub_engine.proofs.Authors.{histories-more}
use Rattle.pubsub_engine.proofs.closing.histories.Goals as goal

pub loop-set-preserved : goal.loop-set-preserved
loop-set-preserved c =
    let passes = c.args.samples.now.passes in
    let dones = c.args.dones.now in
    subst (λ (l : List History). AreHistories passes dones (c.loop-set.set + 1) l) (sym c.in_ok-push.ensures.items)
    (histories-more passes dones c.loop-set.set c.loop-set.histories.items _ c.loop-set.invariant
    (λ few threads authored long. c.new.ensures ∙ c.in_ok-threads_of.ensures threads few authored (long ∙ sym c.version-count.ensures)))
