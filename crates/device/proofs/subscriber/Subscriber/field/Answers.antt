use Rattle.std.proofs.Common.{ℕ, get_or, ap, ◌∙◌, arith}
use Rattle.std.proofs.lemmas.Result.{IfErr-weaker, IfOk-weaker}
use Rattle.ua_values.specs.declared.value.Value.{Value}
use Rattle.device.specs.Readings.{HasFieldStatus, HasFieldValue, HasNoMisfit, IsUntold, IsUntoldAt, Keeps, ReaderKeeps}
use Rattle.device.specs.declared.asked.NoValue.{NoValue}
use Rattle.device.proofs.Telling.{keeps-at, untold-at}
use Rattle.device.proofs.subscriber.Subscriber.field.Goals as goal

pub returns-clause-value : goal.returns-clause-value
returns-clause-value c =
    let subscriber = c.args.self.now in
    let listening = c.index.result.now in
    IfOk-weaker c.field_in.result
    (λ (x : Value × ℕ). ReaderKeeps subscriber.config c.args.reader (HasFieldValue c.args.field x.0) listening)
    (λ (x : Value × ℕ). Keeps c.args.group c.args.reader (HasFieldValue c.args.field x.0) subscriber)
    (λ x. keeps-at subscriber c.args.group c.args.reader (HasFieldValue c.args.field x.0) listening
    (omega (arith, c.from-index.ensures, c.len.ensures, c.if-index-len.false))
    (c.index.ensures ∙ ap (λ (n : ℕ). get_or subscriber.groups.items n listening) c.from-index.ensures))
    c.field_in.ensures.value

pub returns-clause-status : goal.returns-clause-status
returns-clause-status c =
    let subscriber = c.args.self.now in
    let listening = c.index.result.now in
    IfOk-weaker c.field_in.result
    (λ (x : Value × ℕ). ReaderKeeps subscriber.config c.args.reader (HasFieldStatus c.args.field x.1) listening)
    (λ (x : Value × ℕ). Keeps c.args.group c.args.reader (HasFieldStatus c.args.field x.1) subscriber)
    (λ x. keeps-at subscriber c.args.group c.args.reader (HasFieldStatus c.args.field x.1) listening
    (omega (arith, c.from-index.ensures, c.len.ensures, c.if-index-len.false))
    (c.index.ensures ∙ ap (λ (n : ℕ). get_or subscriber.groups.items n listening) c.from-index.ensures))
    c.field_in.ensures.status

pub returns-clause-none : goal.returns-clause-none
returns-clause-none c =
    let subscriber = c.args.self.now in
    let listening = c.index.result.now in
    IfErr-weaker c.field_in.result
    (λ (none : NoValue). IsUntold HasNoMisfit subscriber.config c.args.reader c.args.field none listening)
    (λ (none : NoValue). IsUntoldAt HasNoMisfit c.args.group c.args.reader c.args.field subscriber none)
    (λ none. untold-at subscriber c.args.group c.args.reader c.args.field HasNoMisfit listening none
    (omega (arith, c.from-index.ensures, c.len.ensures, c.if-index-len.false))
    (c.index.ensures ∙ ap (λ (n : ℕ). get_or subscriber.groups.items n listening) c.from-index.ensures))
    c.field_in.ensures.none
