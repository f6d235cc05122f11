use Rattle.std.proofs.Common.{◌≡◌, ◌+◌, ◌*◌, ◌^◌, ◌≤◌, drop}
use Rattle.ps_config.specs.Rooms.{datagrams_in}
use Rattle.writer_group.proofs.need.datagrams_in.Given as goal

-- those of the writers so far, and those of the writers that are left
abbrev pub invariant-loop-writer : goal.invariant-loop-writer
invariant-loop-writer l = record {
  whole : l.datagrams + datagrams_in l.room l.metas (drop l.writer-index l.writers) ≡ datagrams_in l.room l.metas l.writers;
  bound : l.datagrams ≤ 2 ^ 33 * l.writer-index;
}
