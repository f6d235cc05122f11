use Rattle.std.proofs.Common.{ℕ, get_or, ap, ◌∙◌, arith}
use Rattle.std.proofs.lemmas.Result.{IfErr-weaker, IfOk-weaker}
use Rattle.row_words.specs.Words.{scalar_in}
use Rattle.device.specs.Readings.{HasFieldValue, IsOfKind, IsOfOtherKind, IsUntold, IsUntoldAt, Keeps, ReaderKeeps}
use Rattle.device.specs.declared.asked.NoValue.{NoValue}
use Rattle.device.proofs.Telling.{keeps-at, untold-at}
use Rattle.device.proofs.subscriber.Subscriber.word.Goals as goal

pub returns-clause-word : goal.returns-clause-word
returns-clause-word c =
    let subscriber = c.args.self.now in
    let listening = c.index.result.now in
    IfOk-weaker c.word_in.result
    (λ (x : ℕ). ReaderKeeps subscriber.config c.args.reader (HasFieldValue c.args.field (scalar_in c.args.kind x)) listening)
    (λ (x : ℕ). Keeps c.args.group c.args.reader (HasFieldValue c.args.field (scalar_in c.args.kind x)) subscriber)
    (λ x. keeps-at subscriber c.args.group c.args.reader (HasFieldValue c.args.field (scalar_in c.args.kind x)) listening
    (omega (arith, c.from-index.ensures, c.len.ensures, c.if-index-len.false))
    (c.index.ensures ∙ ap (λ (n : ℕ). get_or subscriber.groups.items n listening) c.from-index.ensures))
    c.word_in.ensures.word

pub returns-clause-kind : goal.returns-clause-kind
returns-clause-kind c =
    let subscriber = c.args.self.now in
    let listening = c.index.result.now in
    IfOk-weaker c.word_in.result
    (λ (x : ℕ). ReaderKeeps subscriber.config c.args.reader (IsOfKind c.args.field c.args.kind) listening)
    (λ (x : ℕ). Keeps c.args.group c.args.reader (IsOfKind c.args.field c.args.kind) subscriber)
    (λ x. keeps-at subscriber c.args.group c.args.reader (IsOfKind c.args.field c.args.kind) listening
    (omega (arith, c.from-index.ensures, c.len.ensures, c.if-index-len.false))
    (c.index.ensures ∙ ap (λ (n : ℕ). get_or subscriber.groups.items n listening) c.from-index.ensures))
    c.word_in.ensures.kind

pub returns-clause-none : goal.returns-clause-none
returns-clause-none c =
    let subscriber = c.args.self.now in
    let listening = c.index.result.now in
    IfErr-weaker c.word_in.result
    (λ (none : NoValue). IsUntold (IsOfOtherKind c.args.field c.args.kind) subscriber.config c.args.reader c.args.field none listening)
    (λ (none : NoValue). IsUntoldAt (IsOfOtherKind c.args.field c.args.kind) c.args.group c.args.reader c.args.field subscriber none)
    (λ none. untold-at subscriber c.args.group c.args.reader c.args.field (IsOfOtherKind c.args.field c.args.kind) listening none
    (omega (arith, c.from-index.ensures, c.len.ensures, c.if-index-len.false))
    (c.index.ensures ∙ ap (λ (n : ℕ). get_or subscriber.groups.items n listening) c.from-index.ensures))
    c.word_in.ensures.none
