use Rattle.std.proofs.Common.{sym, []}
use Rattle.std.proofs.lemmas.Result.{err_from_is_err_and}
use Rattle.message_guard.specs.Guards.{setup_of}
use Rattle.reader_group.proofs.BytesLeft.{left-opened}
use Rattle.reader_group.specs.Begun.{ids_carried, payload_in}
use Rattle.reader_group.specs.Opening.{Opened}
use Rattle.reader_group.specs.Payloads.{Messages}
use Rattle.reader_group.proofs.Opened.{opens-found, opens-refused}
use Rattle.reader_group.proofs.Refusing.{payload-keeps}
use Rattle.reader_group.proofs.opening.open.Goals as goal

pub returns-in_err-find_messages-clause-verdict : goal.returns-in_err-find_messages-clause-verdict
returns-in_err-find_messages-clause-verdict c = λ accepted is.
    let p = err_from_is_err_and c.from_residual-in_err-find_messages.result c.from_residual-in_err-find_messages.ensures.1 in
    rw (p.1, p.2)
    (opens-refused c.args.group.now (setup_of c.args.guard.now) accepted c.args.bytes.now c.decrypt.new.datagram c.in_ok-begun.begun c.begin.new.room c.find_messages.new.room
    c.in_err-find_messages.field-0.0 c.in_ok-begun.begun.order (c.in_ok-begun.ensures.verdict accepted is) c.decrypt.ensures c.in_err-find_messages.ensures)

pub returns-clause-verdict : goal.returns-clause-verdict
returns-clause-verdict c = λ accepted is.
    opens-found c.args.group.now (setup_of c.args.guard.now) accepted c.args.bytes.now c.decrypt.new.datagram c.in_ok-begun.begun c.begin.new.room c.find_messages.new.room
    c.in_ok-begun.begun.order (c.in_ok-begun.ensures.verdict accepted is) c.decrypt.ensures c.in_ok-find_messages.ensures

pub returns-in_err-begun-clause-bytes : goal.returns-in_err-begun-clause-bytes
returns-in_err-begun-clause-bytes c = λ accepted is. sym (c.in_err-begun.ensures.left accepted is)

pub returns-in_err-find_messages-clause-bytes : goal.returns-in_err-find_messages-clause-bytes
returns-in_err-find_messages-clause-bytes c = λ accepted is.
    left-opened c.args.group.now (setup_of c.args.guard.now) accepted c.args.bytes.now c.decrypt.new.datagram c.in_ok-begun.begun c.begin.new.room.ids.items c.in_ok-begun.begun.order
    (c.in_ok-begun.ensures.verdict accepted is) c.decrypt.ensures

pub returns-clause-bytes : goal.returns-clause-bytes
returns-clause-bytes c = λ accepted is.
    left-opened c.args.group.now (setup_of c.args.guard.now) accepted c.args.bytes.now c.decrypt.new.datagram c.in_ok-begun.begun c.begin.new.room.ids.items c.in_ok-begun.begun.order
    (c.in_ok-begun.ensures.verdict accepted is) c.decrypt.ensures

pub returns-in_err-find_messages-clause-sender : goal.returns-in_err-find_messages-clause-sender
returns-in_err-find_messages-clause-sender c =
    let p = err_from_is_err_and c.from_residual-in_err-find_messages.result c.from_residual-in_err-find_messages.ensures.1 in
    let begun = c.in_ok-begun.begun in
    let x : Opened = record { pass = begun.pass; payload = Messages [] } in
    rw (p.1, p.2)
    (payload-keeps c.args.group.now.layout (ids_carried begun.carried c.begin.new.room.ids.items) (payload_in begun c.decrypt.new.datagram) x c.in_err-find_messages.field-0.0
    c.args.bytes.now c.decrypt.new.datagram (c.in_err-find_messages.ensures x))
