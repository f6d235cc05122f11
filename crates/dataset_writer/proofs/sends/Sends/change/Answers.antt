use Rattle.std.proofs.Common.{◌∙◌}
use Rattle.key_delta.proofs.FrontLaws.{wider_behind}
use Rattle.dataset_writer.proofs.Zeros.{change_behind}
use Rattle.dataset_writer.proofs.sends.Sends.change.Goals as goal

pub make_change-requires-clause-kind : goal.make_change-requires-clause-kind
make_change-requires-clause-kind c = wider_behind _ _ _ c.requires.zeros.frame c.covering-self.ensures.grows

pub data-requires-clause-zeros : goal.data-requires-clause-zeros
data-requires-clause-zeros c =
    let made = c.make_change.ensures in
    record {
      narrow = c.covering-self.ensures.narrow;
      row = wider_behind _ _ _ c.requires.zeros.row c.covering-self.ensures.grows;
      frame = change_behind _ _ made.0 made.1 (c.covering-self.ensures.zeros made.0.row.words made.2.belongs);
    }

pub data-requires-clause-row : goal.data-requires-clause-row
data-requires-clause-row c = c.covering-self.ensures.zeros c.args.row.now.words c.requires.row

pub returns-clause-kind : goal.returns-clause-kind
returns-clause-kind c = let made = c.make_change.ensures in (made.0, c.data.ensures.kind ∙ made.1, made.2, made.3)
