use Rattle.std.proofs.Common.{sym, subst}
use Rattle.row_words.specs.declared.row.Row.{Row}
use Rattle.key_delta.specs.Fronts.{HasZerosBehind}
use Rattle.key_delta.proofs.FrontLaws.{belongs_behind, wider_behind}
use Rattle.dataset_reader.proofs.held.Held.hold.Goals as goal

pub copy_front-requires-clause-from : goal.copy_front-requires-clause-from
copy_front-requires-clause-from c = belongs_behind c.args.meta.now _ _ c.requires c.wider-self.ensures.covers c.wider-self.ensures.narrow

pub copy_front-requires-clause-to : goal.copy_front-requires-clause-to
copy_front-requires-clause-to c = wider_behind _ _ _ c.args.self.now.zeros c.wider-self.ensures.grows

pub invariant_of-self-clause-narrow : goal.invariant_of-self-clause-narrow
invariant_of-self-clause-narrow c = c.wider-self.ensures.narrow

pub invariant_of-self-clause-zeros : goal.invariant_of-self-clause-zeros
invariant_of-self-clause-zeros c =
    subst (λ (r : Row). HasZerosBehind c.wider-self.result r.words) (sym c.copy_front.ensures)
    (belongs_behind c.args.meta.now _ _ c.requires c.wider-self.ensures.covers c.wider-self.ensures.narrow)
