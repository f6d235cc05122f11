use Rattle.std.proofs.Common.{◌≡◌, Bool, true, false, get_or, sym, ap, ◌∙◌, arith}
use Rattle.std.proofs.lemmas.List.{get_or_default}
use Rattle.std.specs.Str.{bytes_eq}
use Rattle.pubsub_states.specs.declared.component.Component.{Component}
use Rattle.pubsub_states.specs.declared.component.Component.TheVariants.{Root}
use Rattle.pubsub_states.specs.Names.{name_of}
use Rattle.pubsub_states.proofs.Positions.{position-found, position-none, none-more}
use Rattle.pubsub_states.proofs.components.position_named.Goals as goal

pub returns-then-eq : goal.returns-then-eq
returns-then-eq c =
    let test : Component → Bool = λ component. bytes_eq (name_of c.args.config.now component) c.args.name.now in
    let here : test (get_or c.args.components.now c.loop-id.id Root) ≡ true =
    ap (λ name. bytes_eq name c.args.name.now) (sym c.name.ensures) ∙ sym c.eq.ensures ∙ c.if-eq.true in
    sym (position-found test c.args.components.now c.loop-id.id Root c.loop-id-test.true (λ k h. c.loop-id.invariant k Root h) here)

pub loop-id-preserved : goal.loop-id-preserved
loop-id-preserved c =
    let components = c.args.components.now in
    let test : Component → Bool = λ component. bytes_eq (name_of c.args.config.now component) c.args.name.now in
    let here : test (get_or components c.loop-id.id Root) ≡ false =
    ap (λ name. bytes_eq name c.args.name.now) (sym c.name.ensures) ∙ sym c.eq.ensures ∙ c.if-eq.false in
    none-more test components c.loop-id.id c.loop-id.invariant
    (λ d. ap test (get_or_default components c.loop-id.id d Root c.loop-id-test.true) ∙ here)

pub returns : goal.returns
returns c =
    let test : Component → Bool = λ component. bytes_eq (name_of c.args.config.now component) c.args.name.now in
    sym (position-none test c.args.components.now Root (λ k h. c.loop-id.invariant k Root (omega arith)))
