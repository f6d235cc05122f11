use Rattle.std.proofs.Common.{ℕ, sym, subst, ◌∙◌}
use Rattle.std.specs.Prelude.{IsTrue}
use Rattle.device.specs.Storing.{IsReleased}
use Rattle.device.proofs.Begins.{hands-over}
use Rattle.device.proofs.publisher.Publisher.may_hand_over.Goals as goal

pub returns-in-Some-clause-may : goal.returns-in-Some-clause-may
returns-in-Some-clause-may c =
    (hands-over c.is_released.result _ c.args.self.now (sym c.waiting_keygroup.ensures.keygroup ∙ c.in-Some.is)
    (subst (λ (k : ℕ). (IsTrue c.is_released.result → IsReleased k c.args.self.now) × (IsReleased k c.args.self.now → IsTrue c.is_released.result)) c.from.ensures c.is_released.ensures)).0

pub returns-in-Some-clause-not : goal.returns-in-Some-clause-not
returns-in-Some-clause-not c =
    (hands-over c.is_released.result _ c.args.self.now (sym c.waiting_keygroup.ensures.keygroup ∙ c.in-Some.is)
    (subst (λ (k : ℕ). (IsTrue c.is_released.result → IsReleased k c.args.self.now) × (IsReleased k c.args.self.now → IsTrue c.is_released.result)) c.from.ensures c.is_released.ensures)).1
