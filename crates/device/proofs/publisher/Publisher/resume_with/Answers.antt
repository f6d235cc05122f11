use Rattle.std.proofs.Common.{◌⊎◌, inl, inr, sym, ap, ◌∙◌, arith}
use Rattle.std.proofs.lemmas.Bool.{OnFalse_at, OnFalse_from, OnTrue_from}
use Rattle.std.proofs.lemmas.Option.{same_Some}
use Rattle.group_keys.specs.Ring.{key_sets}
use Rattle.group_keys.specs.declared.key_set.KeySet.{KeySet}
use Rattle.device.specs.Resuming.{IsEarlier, MayNotResume}
use Rattle.device.proofs.publisher.Publisher.resume_with.Goals as goal

pub returns-then-at-token-clause-refused : goal.returns-then-at-token-clause-refused
returns-then-at-token-clause-refused c = inl (record { set = c.at.result.now; is = c.at.ensures.last; earlier = c.if-at-token.true })

pub returns-clause-no_earlier : goal.returns-clause-no_earlier
returns-clause-no_earlier c =
    OnTrue_from c.go_on.result (¬ IsEarlier c.args.now c.args.token (key_sets c.args.ring)) (λ yes earlier.
    let same = ap (λ (set : KeySet). set.token) (same_Some earlier.set c.at.result.now (sym earlier.is ∙ c.at.ensures.last)) in
    omega (arith, same, earlier.earlier, c.if-at-token.false))

pub returns-clause-refused : goal.returns-clause-refused
returns-clause-refused c =
    OnFalse_from c.go_on.result (IsEarlier c.args.now c.args.token (key_sets c.args.ring) ⊎ MayNotResume c.args.keygroup c.args.now c.args.used (key_sets c.args.ring) c.args.self.now)
    (λ no. inr (OnFalse_at no c.go_on.ensures.refused))
