use Rattle.std.proofs.Common.{◌≡◌, length, map, take}
use Rattle.writer_group.specs.Holding.{spelled_at}
use Rattle.writer_group.specs.Slotting.{placed_all}
use Rattle.writer_group.specs.Payloads.{in_slots}
use Rattle.writer_group.proofs.slotting.place_frames.Given as goal

abbrev pub invariant-loop-frame : goal.invariant-loop-frame
invariant-loop-frame l = record {
  placed_is : l.datagram ≡ placed_all l.slots.slots l.fn.datagram (in_slots (map (spelled_at l.bytes) (take l.frame-index l.frames)));
  long : length l.datagram ≡ length l.fn.datagram;
}
