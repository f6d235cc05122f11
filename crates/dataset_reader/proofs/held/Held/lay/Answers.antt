use Rattle.key_delta.proofs.FrontLaws.{belongs_behind}
use Rattle.dataset_reader.proofs.held.Held.lay.Goals as goal

pub invariant_of-self-clause-narrow : goal.invariant_of-self-clause-narrow
invariant_of-self-clause-narrow c = c.wider-self.ensures.narrow

pub invariant_of-self-clause-zeros : goal.invariant_of-self-clause-zeros
invariant_of-self-clause-zeros c = belongs_behind c.args.meta.now _ _ c.lay.ensures.belongs c.wider-self.ensures.covers c.wider-self.ensures.narrow
