use Rattle.std.proofs.Common.{◌≡◌, true, false, ap, sym, ◌∙◌, rules}
use Rattle.pubsub_states.specs.States.{is_operational}
use Rattle.session_parts.proofs.Having.{has-not, has-closing, has-due}
use Rattle.session_parts.proofs.publisher.Publisher.has_turn.Goals as goal

pub returns-then-not-is_operational-clause-has : goal.returns-then-not-is_operational-clause-has
returns-then-not-is_operational-clause-has c =
    λ t so_far done is.
    let off : c.is_operational.result ≡ false = search rules in
    has-not t c.args.g so_far done c.args.told.now c.args.self.now c.args.tree.now c.requires.may (sym (c.is_operational.ensures ∙ ap is_operational c.state_of.ensures) ∙ off) is

pub returns-then-told-clause-has : goal.returns-then-told-clause-has
returns-then-told-clause-has c =
    λ t so_far done is.
    let on : c.is_operational.result ≡ true = search rules in
    has-closing t c.args.g so_far done c.args.told.now c.args.self.now c.args.tree.now c.requires.may (sym (c.is_operational.ensures ∙ ap is_operational c.state_of.ensures) ∙ on) c.if-told.true is

pub returns-else-told-clause-has : goal.returns-else-told-clause-has
returns-else-told-clause-has c =
    λ t so_far done is.
    let on : c.is_operational.result ≡ true = search rules in
    has-due t c.args.g so_far done c.args.told.now c.args.self.now c.args.tree.now c.index.result.now c.due.result c.requires.may
    (sym (c.is_operational.ensures ∙ ap is_operational c.state_of.ensures) ∙ on) c.if-told.false c.index.ensures c.due.ensures is
