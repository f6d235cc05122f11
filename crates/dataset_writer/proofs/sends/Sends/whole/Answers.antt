use Rattle.key_delta.proofs.FrontLaws.{wider_behind}
use Rattle.dataset_writer.proofs.Zeros.{whole_behind}
use Rattle.dataset_writer.proofs.sends.Sends.whole.Goals as goal

pub make_whole-requires-clause-kind : goal.make_whole-requires-clause-kind
make_whole-requires-clause-kind c = wider_behind _ _ _ c.requires.zeros.frame c.covering-self.ensures.grows

pub make_whole-requires-clause-row : goal.make_whole-requires-clause-row
make_whole-requires-clause-row c = c.covering-self.ensures.zeros c.args.row.now.words c.requires.row

pub data-requires-clause-zeros : goal.data-requires-clause-zeros
data-requires-clause-zeros c =
    let behind = c.covering-self.ensures.zeros c.args.row.now.words c.requires.row in
    record {
      narrow = c.covering-self.ensures.narrow;
      row = wider_behind _ _ _ c.requires.zeros.row c.covering-self.ensures.grows;
      frame = whole_behind _ _ c.args.row.now c.make_whole.ensures behind;
    }

pub data-requires-clause-row : goal.data-requires-clause-row
data-requires-clause-row c = c.covering-self.ensures.zeros c.args.row.now.words c.requires.row
