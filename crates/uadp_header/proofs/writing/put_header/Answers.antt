use Rattle.std.proofs.Common.{arith}
use Rattle.ua_binary.proofs.Laying.{Puts-then}
use Rattle.uadp_header.specs.Headers.{header_in}
use Rattle.uadp_header.specs.Spelling.{header_bytes}
use Rattle.uadp_header.proofs.Lengths.{length-parts}
use Rattle.uadp_header.proofs.writing.put_header.Goals as goal

pub put_flags-requires : goal.put_flags-requires
put_flags-requires c = omega (arith, c.requires.room, length-parts (header_in c.args.header.now))

pub put_publisher_if-requires-clause-room : goal.put_publisher_if-requires-clause-room
put_publisher_if-requires-clause-room c = omega (arith, c.requires.room, length-parts (header_in c.args.header.now))

pub put_guid_if-requires : goal.put_guid_if-requires
put_guid_if-requires c = omega (arith, c.requires.room, length-parts (header_in c.args.header.now))

pub put_group-requires : goal.put_group-requires
put_group-requires c = omega (arith, c.requires.room, length-parts (header_in c.args.header.now))

pub put_ids-requires-clause-room : goal.put_ids-requires-clause-room
put_ids-requires-clause-room c = omega (arith, c.requires.room, length-parts (header_in c.args.header.now))

pub put_security_if-requires-clause-room : goal.put_security_if-requires-clause-room
put_security_if-requires-clause-room c = omega (arith, c.requires.room, length-parts (header_in c.args.header.now))

pub returns : goal.returns
unfolding header_bytes
returns c =
    let publisher = Puts-then c.args.pen.now c.put_flags.new.pen c.put_publisher_if.new.pen _ _ c.put_flags.ensures c.put_publisher_if.ensures in
    let class_id = Puts-then c.args.pen.now c.put_publisher_if.new.pen c.put_guid_if.new.pen _ _ publisher c.put_guid_if.ensures in
    let group = Puts-then c.args.pen.now c.put_guid_if.new.pen c.put_group.new.pen _ _ class_id c.put_group.ensures in
    let ids = Puts-then c.args.pen.now c.put_group.new.pen c.put_ids.new.pen _ _ group c.put_ids.ensures in
    Puts-then c.args.pen.now c.put_ids.new.pen c.put_security_if.new.pen _ _ ids c.put_security_if.ensures
