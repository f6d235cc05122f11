use Rattle.std.proofs.Common.{◌≡◌, ◌≤◌, List, ℕ, get_or, length, sym, ap, subst, ◌∙◌, arith}
use Rattle.fixed_layout.specs.declared.slot.Slot.{Slot}
use Rattle.fixed_layout.specs.Datagrams.{placed, slot_at}
use Rattle.std.proofs.lemmas.List.{get_or_default}
use Rattle.writer_group.specs.Holding.{spelled_at}
use Rattle.writer_group.proofs.LoadBytes.{no_spelled}
use Rattle.writer_group.proofs.Slottings.{frame-at, length-placed, no_slot, placed-more}
use Rattle.writer_group.proofs.slotting.place_frames.Goals as goal

pub place-requires-clause-index : goal.place-requires-clause-index
place-requires-clause-index c =
    (frame-at c.args.slots.now.slots c.args.bytes.now c.args.frames.now c.loop-frame.frame-index no_spelled c.requires.frames c.loop-frame-test.true).known

pub place-requires-clause-fits : goal.place-requires-clause-fits
place-requires-clause-fits c = λ (d : Slot).
    let slots = c.args.slots.now.slots in
    let frame = get_or c.args.frames.now c.loop-frame.frame-index no_spelled in
    let at = frame-at slots c.args.bytes.now c.args.frames.now c.loop-frame.frame-index no_spelled c.requires.frames c.loop-frame-test.true in
    subst (λ (slot : Slot). length (spelled_at c.args.bytes.now frame).bytes ≤ slot.size) (get_or_default slots frame.writer no_slot d at.known) at.fits

pub place-requires-clause-room : goal.place-requires-clause-room
place-requires-clause-room c = λ (d : Slot).
    let slots = c.args.slots.now.slots in
    let frame = get_or c.args.frames.now c.loop-frame.frame-index no_spelled in
    let at = frame-at slots c.args.bytes.now c.args.frames.now c.loop-frame.frame-index no_spelled c.requires.frames c.loop-frame-test.true in
    omega (arith, c.requires.room frame.writer d at.known, c.loop-frame.invariant.long)

pub loop-frame-preserved : goal.loop-frame-preserved
loop-frame-preserved c =
    let slots = c.args.slots.now.slots in
    let index = c.loop-frame.frame-index in
    let frame = get_or c.args.frames.now index no_spelled in
    let text = (spelled_at c.args.bytes.now frame).bytes in
    let at = frame-at slots c.args.bytes.now c.args.frames.now index no_spelled c.requires.frames c.loop-frame-test.true in
    let here : c.place.new.datagram ≡ placed c.loop-frame.datagram (slot_at slots frame.writer) text = c.place.ensures.placed no_slot in
    let room = c.requires.room frame.writer no_slot at.known in
    let same = length-placed slots c.loop-frame.datagram frame.writer text at (omega (arith, room, c.loop-frame.invariant.long)) in
    record {
      placed_is = here
          ∙ ap (λ (l : List ℕ). placed l (slot_at slots frame.writer) text) c.loop-frame.invariant.placed_is
          ∙ sym (placed-more slots c.args.datagram.now c.args.bytes.now c.args.frames.now index no_spelled c.loop-frame-test.true);
      long = ap length here ∙ same ∙ c.loop-frame.invariant.long;
    }
