use Rattle.std.proofs.Common.{set, subst}
use Rattle.cases_group.specs.Kept.{IsTurner}
use Rattle.cases_group.proofs.Kept.{sender-set, turned-set}
use Rattle.cases_group.proofs.publishing.Publishing.secured_turn.Goals as goal

pub invariant_of-self : goal.invariant_of-self
invariant_of-self c =
    let own = c.self.inside in
    let turn = c.secured_turn in
    turned-set own.config.now own.metas.items own.rows.items own.groups.items (set own.senders.items c.args.keygroup turn.new.sender) own.out turn.new.out
    c.args.index turn.new.self
    (sender-set own.config.now own.metas.items own.rows.items own.groups.items own.senders.items own.out c.args.keygroup turn.new.sender c.self.invariant
    turn.ensures.sender)
    (subst (λ m. IsTurner own.config.now m turn.new.self) c.deref.ensures.value turn.ensures.turner) turn.ensures.reserved
