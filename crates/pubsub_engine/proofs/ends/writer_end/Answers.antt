use Rattle.std.proofs.Common.{◌∙◌, ap, get_or, ℕ}
use Rattle.pubsub_engine.proofs.EndParts.{writer-told}
use Rattle.pubsub_engine.proofs.ends.writer_end.Goals as goal

pub returns : goal.returns
returns c = λ most p steps a have.
    let group = c.index.result.now in
    let publisher = c.args.publisher.now in
    let at = c.index.ensures ∙ ap (λ (g : ℕ). get_or publisher.groups.items g group) c.from.ensures in
    writer-told c.args.config.now most p steps a c.args.tree.now publisher c.args.group c.args.writer group c.writer.result.now c.log-log.result.now _
    c.requires.may have c.requires.within c.requires.there at c.writer.ensures.stands c.writer.ensures.logs c.log-log.ensures.first c.state_of.ensures (c.new.ensures ∙ c.in_ok-copied.ensures)
