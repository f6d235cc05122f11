use Rattle.message_guard.specs.Guards.{security_told, setup_of}
use Rattle.cmd_keys.proofs.Found.{finds_passed, finds_refused, read_secured}
use Rattle.cmd_keys.proofs.opening.found_by.Goals as goal

pub returns-in_default-test : goal.returns-in_default-test
returns-in_default-test c =
    let secured = read_secured c.args.datagram.now c.in-Ok.header c.in-Ok.payload c.as_ref.result c.in-Ok.ensures.answer c.as_ref.ensures.value in
    finds_refused (setup_of c.args.guard.now) c.args.datagram.now (security_told c.as_ref.result) c.in-Ok.payload c.in_default-test.field-0 secured
    (c.in_default-test.ensures.verdict _ c.requires.fresh)

pub returns : goal.returns
returns c =
    let secured = read_secured c.args.datagram.now c.in-Ok.header c.in-Ok.payload c.as_ref.result c.in-Ok.ensures.answer c.as_ref.ensures.value in
    finds_passed (setup_of c.args.guard.now) c.args.datagram.now c.decrypt.new.datagram c.copied.result.items (security_told c.as_ref.result) c.in-Ok.payload c.in-Ok-test.pass secured
    (c.in-Ok-test.ensures.verdict _ c.requires.fresh) c.decrypt.ensures c.copied.ensures
