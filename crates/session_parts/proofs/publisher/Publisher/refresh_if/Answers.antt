use Rattle.std.proofs.Common.{◌≡◌, Bool, true, sym, subst, rules}
use Rattle.dataset_meta.specs.Rows.{cons_if}
use Rattle.pubsub_states.specs.declared.component.Component.TheVariants.{Group}
use Rattle.session_model.specs.Deeds.{RefreshedBelow}
use Rattle.session_parts.specs.Standing.{HavePast}
use Rattle.session_parts.proofs.publisher.Publisher.refresh_if.Goals as goal

pub returns-clause-past : goal.returns-clause-past
returns-clause-past c =
    λ metas deeds past.
    let so : c.args.is_new ≡ true = search rules in
    subst (λ (b : Bool). HavePast c.args.config.now metas (cons_if b (RefreshedBelow (Group c.args.group)) deeds) c.refresh_below.new.self.groups.items) (sym so)
    (c.refresh_below.ensures.past metas deeds past)
