use Rattle.std.proofs.Common.{◌≡◌, ℕ, ◌∷◌, List}
use Rattle.std.specs.Prelude.{fold}
use Rattle.std.specs.List.{range_with_len}
use Rattle.dataset_meta.specs.Metas.{MetaData}
use Rattle.dataset_meta.specs.Rows.{cons_if}
use Rattle.pubsub_states.specs.declared.component.Component.TheVariants.{Group}
use Rattle.session_model.specs.Deeds.{Deed, CameTo, RefreshedBelow, is_rekeyed}
use Rattle.session_parts.specs.Holding.{AreGroups, AreStillLogged, MayAllGoOn}
use Rattle.session_parts.specs.Standing.{HavePast, HaveSent}
use Rattle.session_parts.proofs.publisher.Publisher.come_to.Given as goal

abbrev pub invariant-loop-g : goal.invariant-loop-g
invariant-loop-g l = record {
  groups : AreGroups l.config l.self.groups.items;
  past : (metas : List MetaData) (deeds : List Deed) → HaveSent l.config deeds l.fn.self.senders.items → HavePast l.config metas deeds l.fn.self.groups.items
      → HavePast l.config metas
      (fold (λ so_far g. cons_if (is_rekeyed l.config l.moment deeds g) (RefreshedBelow (Group g)) so_far) (CameTo l.moment ∷ deeds) (range_with_len 0 l.g))
      l.self.groups.items;
  goes_on : (metas : List MetaData) (turns : ℕ) → MayAllGoOn l.config metas turns l.fn.self.groups.items → MayAllGoOn l.config metas turns l.self.groups.items;
  logs : AreStillLogged l.fn.self.groups.items l.self.groups.items;
  rest : l.self ≡ record l.initial.self { groups = l.self.groups };
}
