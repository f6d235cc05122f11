use Rattle.std.proofs.Common.{subst}
use Rattle.cases_group.specs.Kept.{IsTurner}
use Rattle.cases_group.proofs.Kept.{turner-set}
use Rattle.cases_group.proofs.publishing.Publishing.refresh.Goals as goal

pub invariant_of-self : goal.invariant_of-self
invariant_of-self c =
    let own = c.self.inside in
    turner-set own.config.now own.metas.items own.rows.items own.groups.items own.senders.items own.out c.args.index c.refresh.new.self
    c.self.invariant (subst (λ m. IsTurner own.config.now m c.refresh.new.self) c.deref.ensures.value c.refresh.ensures)
