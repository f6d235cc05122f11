use Rattle.std.proofs.Common.{◌≤◌, length, map, arith}
use Rattle.writer_group.specs.Holding.{spelled_at}
use Rattle.writer_group.specs.Payloads.{in_slots}
use Rattle.writer_group.proofs.Slottings.{ends-within, length-cleared, slots-laid}
use Rattle.writer_group.proofs.slotting.lay_slots.Goals as goal

pub place_frames-requires-clause-room : goal.place_frames-requires-clause-room
place_frames-requires-clause-room c =
    let datagram = c.args.datagram.now in
    let zeros = c.fill.ensures.after (λ y is. is) in
    let within : c.args.header ≤ length datagram = omega (arith, c.requires.end, c.requires.header) in
    ends-within c.args.slots.now.start c.args.slots.now.slots datagram _ c.requires.end (length-cleared datagram c.fill.new.self c.args.header within zeros)

pub returns : goal.returns
returns c =
    let slots = c.args.slots.now in
    let frames = in_slots (map (spelled_at c.args.bytes.now) c.args.frames.now) in
    slots-laid c.args.header slots.start slots.slots c.args.datagram.now c.fill.new.self c.place_frames.new.datagram frames
    c.requires.header c.requires.apart c.requires.frames c.requires.end (c.fill.ensures.after (λ y is. is)) c.place_frames.ensures
