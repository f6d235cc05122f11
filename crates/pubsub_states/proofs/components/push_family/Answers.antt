use Rattle.std.proofs.Common.{◌≡◌, [], ◌∷◌, ◌++◌, arith, rules}
use Rattle.std.proofs.lemmas.Grind.{common_steps}
use Rattle.pubsub_states.specs.Halves.{member_of}
use Rattle.pubsub_states.proofs.Families.{members-more}
use Rattle.pubsub_states.proofs.components.push_family.Goals as goal

pub loop-index-preserved : goal.loop-index-preserved
loop-index-preserved c =
    let more : c.push-in-loop-index.new.self.items ≡ c.loop-index.list.items ++ member_of c.args.half c.args.group c.loop-index.index ∷ [] =
    first_of (search rules, grind (arith, common_steps)) in
    members-more (member_of c.args.half c.args.group) c.loop-index.index c.push.new.self.items c.loop-index.list.items _ c.loop-index.invariant more
