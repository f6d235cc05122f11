use Rattle.std.proofs.Common.{◌∙◌}
use Rattle.reader_group.proofs.Parts.{listed-id, passed-more}
use Rattle.reader_group.proofs.payload.Messages.next_of.Goals as goal

pub loop-index-preserved : goal.loop-index-preserved
loop-index-preserved c =
    let messages = c.args.self.now in
    passed-more c.args.writer messages c.loop-index.index c.id.result messages.count c.loop-index-test.true c.id.ensures c.if-id-writer.false
    ∙ c.loop-index.invariant

pub returns-then-id-writer-clause-own : goal.returns-then-id-writer-clause-own
returns-then-id-writer-clause-own c = λ within.
    let messages = c.args.self.now in
    listed-id messages c.loop-index.index c.id.result messages.count within c.id.ensures ∙ c.if-id-writer.true
