use Rattle.std.proofs.Common.{map, ap, ◌∙◌}
use Rattle.pubsub_states.specs.Changes.{opening_flags}
use Rattle.pubsub_states.proofs.ChangeLaws.{opening-stands}
use Rattle.pubsub_states.proofs.tree.Tree.new.Goals as goal

pub returns : goal.returns
returns c =
    opening-stands c.args.config.now c.in_ok-parts.parts c.in_ok-flags.flags.items (c.in_ok-parts.ensures)
    (c.in_ok-flags.ensures ∙ ap (map opening_flags) c.as_slice.ensures.all)
