use Rattle.std.proofs.Common.{sym, ap, ◌∙◌}
use Rattle.reader_group.specs.Payloads.{part_count}
use Rattle.reader_group.specs.Held.{payload_in}
use Rattle.reader_group.proofs.Parts.{listed-length}
use Rattle.reader_group.proofs.feeding.part_count.Goals as goal

pub returns-in-Messages : goal.returns-in-Messages
returns-in-Messages c =
    let messages = c.in-Messages.messages in
    sym (listed-length messages messages.count) ∙ ap (λ payload. part_count c.args.on.now (payload_in payload)) (sym c.in-Messages.is)
