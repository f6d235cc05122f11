use Rattle.std.proofs.Common.{subst}
use Rattle.cases_group.specs.Kept.{IsTurner}
use Rattle.cases_group.proofs.Kept.{turned-set}
use Rattle.cases_group.proofs.publishing.Publishing.open_turn.Goals as goal

pub invariant_of-self : goal.invariant_of-self
invariant_of-self c =
    let own = c.self.inside in
    turned-set own.config.now own.metas.items own.rows.items own.groups.items own.senders.items own.out c.turn.new.out c.args.index c.turn.new.self
    c.self.invariant (subst (λ m. IsTurner own.config.now m c.turn.new.self) c.deref.ensures.value c.turn.ensures.turner) c.turn.ensures.reserved
