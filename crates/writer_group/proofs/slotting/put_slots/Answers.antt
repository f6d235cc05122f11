use Rattle.std.proofs.Common.{◌≡◌, ◌+◌, ◌-◌, ◌++◌, List, ℕ, map, take, drop, refl, ap, ◌∙◌, arith}
use Rattle.fixed_layout.specs.Datagrams.{fixed_payload}
use Rattle.writer_group.specs.declared.spelled.SpelledFrame.{SpelledFrame}
use Rattle.writer_group.specs.Holding.{frames_at, spelled_at}
use Rattle.writer_group.specs.Payloads.{in_slots}
use Rattle.writer_group.proofs.Slottings.{part-laid}
use Rattle.writer_group.proofs.slotting.put_slots.Goals as goal

pub returns : goal.returns
returns c =
    let bytes = c.args.pen.now.bytes.now in
    let at = c.args.pen.now.at in
    let start = c.args.start in
    let slots = c.args.slots.now in
    let count : ℕ = start + c.end.result - start in
    let part = take count (drop start bytes) in
    let payload = fixed_payload slots.start slots.slots (in_slots (frames_at c.args.bytes.now c.args.frames.now)) in
    let same : start + count ≡ start + c.end.result = omega arith in
    let is : c.lay_slots.new.datagram ≡ take (at - start) part ++ payload =
    c.lay_slots.ensures
    ∙ ap (λ (l : List SpelledFrame). take (at - start) part ++ fixed_payload slots.start slots.slots (in_slots (map (spelled_at c.args.bytes.now) l))) c.list.ensures in
    let put = part-laid bytes payload c.lay_slots.new.datagram at start count
    (omega (arith, c.requires.header)) (omega (arith, c.requires.header, c.end.ensures.end)) (omega (arith, c.requires.header, c.end.ensures.end, c.requires.room)) is c.lay_slots.auto.datagram in
    record { written = put.written; moved = omega (arith, put.moved, same); same_loan = refl; same_length = put.same }
