use Rattle.writer_group.specs.Payloads.{writer_at}
use Rattle.writer_group.specs.Turns.{settings_of, writer_past}
use Rattle.writer_group.proofs.group.Group.next_number.Goals as goal

pub returns : goal.returns
returns c = λ metas part past within stands.
    let index = c.args.index in
    c.next_number.ensures (metas index) (settings_of (writer_at part index)) (writer_past index past) (c.writer.ensures.stands metas part past within stands)
