use Rattle.std.proofs.Common.{sym, ◌∙◌}
use Rattle.lane_groups.proofs.Passing.{has-closing, has-due, has-spent, unspent-some}
use Rattle.lane_groups.proofs.place.Place.has_turn.Goals as goal

pub returns-then-is_spent-clause-has : goal.returns-then-is_spent-clause-has
returns-then-is_spent-clause-has c =
    λ g deeds place past sent.
    sym (has-spent c.args.told.now.config.now g c.args.told.now.moment c.args.told.now.closing deeds c.args.sender.now sent (sym c.is_spent.ensures ∙ c.if-is_spent.true))

pub returns-then-told-clause-has : goal.returns-then-told-clause-has
returns-then-told-clause-has c =
    λ g deeds place past sent. has-closing c.args.told.now g deeds c.args.sender.now sent (sym c.is_spent.ensures ∙ c.if-is_spent.false) c.if-told.true

pub returns-else-told-clause-has : goal.returns-else-told-clause-has
returns-else-told-clause-has c =
    λ g deeds place past sent.
    has-due c.args.told.now g deeds c.args.self.now c.args.sender.now c.due.result place past c.due.ensures sent (sym c.is_spent.ensures ∙ c.if-is_spent.false) c.if-told.false

pub returns-then-told-clause-unspent : goal.returns-then-told-clause-unspent
returns-then-told-clause-unspent c = λ so. unspent-some c.args.sender.now (sym c.is_spent.ensures ∙ c.if-is_spent.false)

pub returns-else-told-clause-unspent : goal.returns-else-told-clause-unspent
returns-else-told-clause-unspent c = λ so. unspent-some c.args.sender.now (sym c.is_spent.ensures ∙ c.if-is_spent.false)
