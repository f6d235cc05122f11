use Rattle.std.proofs.Common.{length, sym, ap, subst, arith}
use Rattle.ua_binary.specs.Writing.{Puts}
use Rattle.fixed_layout.proofs.DatagramLaws.{length-payload}
use Rattle.writer_group.specs.declared.load.Load.{Load}
use Rattle.writer_group.specs.Holding.{cargo_in, payload_in}
use Rattle.writer_group.specs.Loading.{AreInSlots}
use Rattle.writer_group.proofs.laying.Cargo.put.Goals as goal
use Rattle.writer_group.specs.Payloads.{in_slots}

pub put_slots-requires-clause-room : goal.put_slots-requires-clause-room
put_slots-requires-clause-room c =
    let cargo = cargo_in c.args.self.now in
    let is : AreInSlots cargo = rw c.in-Slots.is at c.requires.load in
    omega (
      arith,
      length-payload cargo.start cargo.slots (in_slots cargo.frames) is.frames,
      ap (λ (load : Load). length (payload_in cargo load).1) c.in-Slots.is,
      c.requires.room,
    )

pub returns-in-Chunk : goal.returns-in-Chunk
returns-in-Chunk c = subst (λ (load : Load). Puts c.args.pen.now c.put_chunk.new.pen (payload_in (cargo_in c.args.self.now) load).1) (sym c.in-Chunk.is) c.put_chunk.ensures
