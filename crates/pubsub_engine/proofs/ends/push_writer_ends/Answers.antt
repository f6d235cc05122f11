use Rattle.std.proofs.Common.{ap, arith, length, ℕ}
use Rattle.session_model.specs.Closing.{MemberPlace}
use Rattle.session_parts.proofs.Few.{few-writers}
use Rattle.writer_group.specs.Parts.{group_at}
use Rattle.pubsub_engine.specs.LifeEnds.{IsWriterEndBy}
use Rattle.pubsub_engine.specs.Logs.{log_after}
use Rattle.pubsub_engine.proofs.PlacesInOrder.{pairs-more}
use Rattle.pubsub_engine.proofs.ends.push_writer_ends.Goals as goal

pub overflow_cast-w : goal.overflow_cast-w
overflow_cast-w c =
    let config = c.args.config.now in
    let few = few-writers config c.args.group c.requires.may.good c.requires.within in
    let own = ap (λ (g : ℕ). length (group_at config g).writer) c.from.ensures in
    omega (arith, few, own, ap length c.as_slice-w-end.ensures, ap (λ part. length part.writer) c.group_part.ensures)

pub loop-w-preserved : goal.loop-w-preserved
loop-w-preserved c = λ most p steps a places have pairs.
    let at : ℕ → MemberPlace = λ w. (c.args.group, w) in
    pairs-more (IsWriterEndBy (log_after most p.config a.deeds) p steps a) places at c.loop-w.w c.loop-w.ends.items c.push.new.self.items _ c.in_ok-push.ensures.items
    (c.in_ok-writer_end.ensures most p steps a have) (c.loop-w.invariant most p steps a places have pairs)
