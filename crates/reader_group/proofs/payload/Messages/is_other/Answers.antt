use Rattle.reader_group.proofs.Parts.{passed-other}
use Rattle.reader_group.proofs.payload.Messages.is_other.Goals as goal

pub returns : goal.returns
returns c = λ other. passed-other c.args.writer c.args.self.now c.args.index c.id.result c.args.self.now.count c.requires c.id.ensures other
