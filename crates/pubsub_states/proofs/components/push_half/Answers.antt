use Rattle.std.proofs.Common.{refl, arith, get_or}
use Rattle.pubsub_states.specs.Halves.{head_of, member_of}
use Rattle.pubsub_states.proofs.Families.{half-more}
use Rattle.pubsub_states.proofs.components.push_half.Goals as goal

pub loop-group-preserved : goal.loop-group-preserved
loop-group-preserved c =
    let counts = c.args.counts.now in
    let group = c.loop-group.group in
    half-more (head_of c.args.half) (member_of c.args.half) counts group (get_or counts group 0) c.args.list.now.items c.loop-group.list.items
    c.push_family.new.list.items (omega arith) refl c.loop-group.invariant (c.in_ok-push_family.ensures)
