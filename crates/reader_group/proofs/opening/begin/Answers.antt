use Rattle.std.proofs.Common.{sym, ap, ◌∙◌, Option}
use Rattle.std.proofs.lemmas.Result.{err_from_is_err_and}
use Rattle.uadp_header.specs.Headers.{SecurityValue, header_in}
use Rattle.message_guard.specs.Guards.{setup_of}
use Rattle.message_guard.specs.Opening.{verdict}
use Rattle.reader_group.proofs.BytesLeft.{left-others, left-refused, left-unread}
use Rattle.reader_group.proofs.Opened.{refused-guard, security-lent}
use Rattle.reader_group.proofs.opening.begin.Goals as goal

pub returns-in_err-pass-clause-verdict : goal.returns-in_err-pass-clause-verdict
returns-in_err-pass-clause-verdict c = λ accepted is.
    let p = err_from_is_err_and c.from_residual-in_err-pass.result c.from_residual-in_err-pass.ensures.1 in
    let setup = setup_of c.args.guard.now in
    let datagram = c.args.bytes.now in
    let header = header_in c.in_ok-header.header in
    let payload = c.in_ok-header.payload in
    let lent = security-lent c.as_ref.result c.in_ok-header.header.security c.as_ref.ensures.value in
    let refused =
    sym (c.in_err-pass.ensures.verdict accepted is ∙ ap (λ (security : Option SecurityValue). verdict setup.mode setup.keys accepted security datagram payload) lent) in
    rw (p.1, p.2)
    (refused-guard c.args.group.now setup accepted datagram header payload c.in_err-pass.field-0.0 c.in_ok-header.ensures.answer.read c.in_ok-header.ensures.answer.within
    (sym c.is_ours.ensures ∙ c.if-not-is_ours.false) refused)

pub returns-in_err-header-clause-left : goal.returns-in_err-header-clause-left
returns-in_err-header-clause-left c = λ accepted is.
    let p = err_from_is_err_and c.from_residual.result c.from_residual.ensures.1 in
    rw p.1 (left-unread c.args.group.now (setup_of c.args.guard.now) accepted c.args.bytes.now c.in_err-header.field-0.0 c.in_err-header.ensures.answer)

pub returns-then-not-is_ours-clause-left : goal.returns-then-not-is_ours-clause-left
returns-then-not-is_ours-clause-left c = λ accepted is.
    left-others c.args.group.now (setup_of c.args.guard.now) accepted c.args.bytes.now (header_in c.in_ok-header.header) c.in_ok-header.payload c.in_ok-header.ensures.answer.read c.in_ok-header.ensures.answer.within
    (sym c.is_ours.ensures ∙ c.if-not-is_ours.true)

pub returns-in_err-pass-clause-left : goal.returns-in_err-pass-clause-left
returns-in_err-pass-clause-left c = λ accepted is.
    let p = err_from_is_err_and c.from_residual-in_err-pass.result c.from_residual-in_err-pass.ensures.1 in
    let setup = setup_of c.args.guard.now in
    let datagram = c.args.bytes.now in
    let header = header_in c.in_ok-header.header in
    let payload = c.in_ok-header.payload in
    let lent = security-lent c.as_ref.result c.in_ok-header.header.security c.as_ref.ensures.value in
    let refused =
    sym (c.in_err-pass.ensures.verdict accepted is ∙ ap (λ (security : Option SecurityValue). verdict setup.mode setup.keys accepted security datagram payload) lent) in
    rw p.1
    (left-refused c.args.group.now setup accepted datagram header payload c.in_err-pass.field-0.0 c.in_ok-header.ensures.answer.read c.in_ok-header.ensures.answer.within
    (sym c.is_ours.ensures ∙ c.if-not-is_ours.false) refused)
