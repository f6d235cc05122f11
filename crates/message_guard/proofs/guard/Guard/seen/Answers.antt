use Rattle.std.proofs.Common.{◌≡◌, ℕ, List, sym, ◌∙◌, ap, subst, eqb, eq-eqb, refl, false, true}
use Rattle.std.specs.Prelude.{Option, Some}
use Rattle.std.specs.Option.{option_eq}
use Rattle.replay_window.specs.Taken.{seen}
use Rattle.message_guard.specs.Guards.{high_in}
use Rattle.message_guard.proofs.Accepting.{none_under, fresh_of_none}
use Rattle.message_guard.proofs.guard.Guard.seen.Goals as goal

pub returns-else-eq-clause-value : goal.returns-else-eq-clause-value
returns-else-eq-clause-value c =
    λ accepted is.
    let token = c.args.token in
    let differs : option_eq eqb c.args.self.now.high (Some token) ≡ false = sym c.eq.ensures ∙ c.if-eq.false in
    let other : high_in accepted ≡ Some token → ⊥ = λ same.
    let at_token : eqb token token ≡ false = subst (λ (h : Option ℕ). option_eq eqb h (Some token) ≡ false) (is.high_is ∙ same) differs in
    let equal : eqb token token ≡ true = eq-eqb token token refl in cc in
    let none = none_under accepted token other (λ high at. c.requires high (is.high_is ∙ at)) in
    sym (ap (λ (taken : List ℕ). seen taken c.args.number) none ∙ fresh_of_none c.args.number)
