use Rattle.std.proofs.Common.{ℕ, List, subst}
use Rattle.reader_group.specs.Filter.{takes_number}
use Rattle.reader_group.specs.Groups.{HadIf}
use Rattle.device.specs.Sides.{NotesRefusal}
use Rattle.device.proofs.listening.Listening.datagram_copied.Goals as goal

pub returns-clause-had : goal.returns-clause-had
returns-clause-had c =
    let was = c.args.self.now in
    let is = c.datagram.new.self in
    record {
      left = c.datagram.new.bytes;
      had = subst (λ (l : List ℕ). HadIf (takes_number was.number l) c.args.config.now was.group is.group c.args.now was.on.items l c.datagram.new.bytes c.datagram.result)
          c.copy_from_slice.ensures.after c.datagram.ensures.had;
    }

pub returns-clause-refused : goal.returns-clause-refused
returns-clause-refused c = subst (λ (l : List ℕ). NotesRefusal c.datagram.result l c.args.self.now c.datagram.new.self) c.copy_from_slice.ensures.after c.datagram.ensures.refused
