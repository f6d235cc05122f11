use Rattle.std.proofs.Common.{ℕ, inr, refl, subst}
use Rattle.device.specs.Sides.{ReadsNoKeys}
use Rattle.uapubsub_c.proofs.subscribing.renew.Goals as goal

pub returns-in_default-has_long_keys-clause-renews : goal.returns-in_default-has_long_keys-clause-renews
returns-in_default-has_long_keys-clause-renews c =
    (refl, inr (inr (subst (λ (group : ℕ). ReadsNoKeys c.args.subscriber.now.config group) c.in-Some.ensures.is c.in_default-has_long_keys.ensures.none)))
