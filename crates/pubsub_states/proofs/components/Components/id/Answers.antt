use Rattle.std.proofs.Common.{arith}
use Rattle.pubsub_states.specs.declared.component.Component.TheVariants.{Group, Writer, ReadGroup, Reader}
use Rattle.pubsub_states.proofs.Places.{id_within}
use Rattle.pubsub_states.proofs.components.Components.id.Goals as goal

pub returns-in-Group-clause-among : goal.returns-in-Group-clause-among
returns-in-Group-clause-among c =
    let within = id_within c.args.self.now (Group c.in-Group.group) (rw c.in-Group.is at c.requires) in
    omega (arith, within, c.group_id.ensures.id)

pub returns-in-Writer-clause-among : goal.returns-in-Writer-clause-among
returns-in-Writer-clause-among c =
    let within = id_within c.args.self.now (Writer c.in-Writer.group c.in-Writer.writer) (rw c.in-Writer.is at c.requires) in
    omega (arith, within, c.group_id-in-Writer.ensures.id)

pub returns-in-ReadGroup-clause-among : goal.returns-in-ReadGroup-clause-among
returns-in-ReadGroup-clause-among c =
    let within = id_within c.args.self.now (ReadGroup c.in-ReadGroup.read_group) (rw c.in-ReadGroup.is at c.requires) in
    omega (arith, within, c.read_group_id.ensures.id)

pub returns-in-Reader-clause-among : goal.returns-in-Reader-clause-among
returns-in-Reader-clause-among c =
    let within = id_within c.args.self.now (Reader c.in-Reader.read_group c.in-Reader.reader) (rw c.in-Reader.is at c.requires) in
    omega (arith, within, c.read_group_id-in-Reader.ensures.id)
