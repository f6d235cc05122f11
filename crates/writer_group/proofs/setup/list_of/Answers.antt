use Rattle.std.proofs.Common.{length, take, ap, arith}
use Rattle.std.proofs.lemmas.List.{length-map, length-take-le}
use Rattle.ps_config.specs.FixedSound.{writer_slot}
use Rattle.writer_group.proofs.setup.list_of.Goals as goal

pub push-requires : goal.push-requires
push-requires c =
    let front = take c.loop-writer.writer-index c.args.writers.now in
    omega (
      arith,
      ap length c.loop-writer.invariant,
      length-map front (writer_slot c.args.config.now),
      length-take-le c.loop-writer.writer-index c.args.writers.now (omega arith),
      c.requires.few,
    )
