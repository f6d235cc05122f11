use Rattle.std.proofs.Common.{◌≡◌, map, take}
use Rattle.ps_config.specs.FixedSound.{writer_slot}
use Rattle.writer_group.proofs.setup.list_of.Given as goal

abbrev pub invariant-loop-writer : goal.invariant-loop-writer
invariant-loop-writer l = l.slots.items ≡ map (writer_slot l.config) (take l.writer-index l.writers)
