use Rattle.std.proofs.Common.{ℕ, Bool, refl, sym, subst, ap, ◌∙◌}
use Rattle.std.specs.Prelude.{Option}
use Rattle.device.specs.Raising.{IsRefreshedIf, is_raised}
use Rattle.device.proofs.sides.refresh_if.Goals as goal

pub returns-then-not-is_raised-clause-refreshed : goal.returns-then-not-is_raised-clause-refreshed
returns-then-not-is_raised-clause-refreshed c =
    subst (λ (b : Bool). IsRefreshedIf c.args.config.now b c.args.side.now c.args.side.now)
    (sym c.if-not-is_raised.true ∙ c.is_raised.ensures ∙ ap (λ (k : Option ℕ). is_raised c.args.raised.now k) c.keygroup.ensures) refl

pub returns-clause-refreshed : goal.returns-clause-refreshed
returns-clause-refreshed c =
    subst (λ (b : Bool). IsRefreshedIf c.args.config.now b c.args.side.now c.refresh.new.self)
    (sym c.if-not-is_raised.false ∙ c.is_raised.ensures ∙ ap (λ (k : Option ℕ). is_raised c.args.raised.now k) c.keygroup.ensures) c.refresh.ensures.refreshed
