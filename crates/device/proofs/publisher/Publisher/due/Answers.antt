use Rattle.std.proofs.Common.{ℕ, Option, List, inl, inr, sym, subst}
use Rattle.std.specs.Prelude.{All}
use Rattle.std.specs.List.{Any}
use Rattle.message_guard.specs.Senders.{SenderState}
use Rattle.writer_group.specs.declared.sampled.Sampled.{Sampled}
use Rattle.device.specs.Coming.{HasNewToken}
use Rattle.device.specs.Due.{HasTurnDue, IsCalm, IsDue, KeepsToken, SitsOut, TellsFirst}
use Rattle.device.specs.declared.side.Side.{Side}
use Rattle.device.proofs.Dues.{first-both}
use Rattle.device.proofs.publisher.Publisher.due.Goals as goal

pub returns-clause-first : goal.returns-clause-first
returns-clause-first c = λ none.
    let self = c.args.self.now in
    let now = c.args.now in
    let senders = self.senders.items in
    let sides = self.sides.items in
    let calm = SitsOut self.config self.rows.items senders in
    let due = HasTurnDue self.config self.rows.items senders in
    let tells : List Sampled → List SenderState → List Side → Type 0 = λ r s l.
    TellsFirst now (λ t. All (SitsOut self.config r s t) l) (λ t. Any (HasTurnDue self.config r s t) l) c.groups_due-groups.result in
    let groups : tells self.rows.items senders sides =
    subst (λ (l : List Sampled). tells l senders sides) c.deref-2.ensures.value
    (subst (λ (l : List SenderState). tells c.deref-2.result.now l sides) c.deref-3.ensures.value
    (subst (λ (l : List Side). tells c.deref-2.result.now c.deref-3.result.now l) c.deref.ensures.value c.groups_due-groups.ensures)) in
    let keys =
    subst (λ (l : List SenderState). TellsFirst now (λ t. All (KeepsToken t) l) (λ t. Any (HasNewToken t) l) c.keys_due-keys.result) c.deref-5.ensures.value c.keys_due-keys.ensures in
    subst (λ (o : Option ℕ). TellsFirst now (IsCalm self) (IsDue self) o) (sym c.earlier.ensures)
    (first-both now (IsCalm self) (IsDue self) (λ t. All (calm t) sides) (λ t. Any (due t) sides) (λ t. All (KeepsToken t) senders) (λ t. Any (HasNewToken t) senders)
    c.groups_due-groups.result c.keys_due-keys.result (λ t one other. record { groups = one; keys = other }) (λ t one. inl one) (λ t one. inr one) groups keys)
