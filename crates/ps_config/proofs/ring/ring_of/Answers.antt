use Rattle.std.proofs.Common.{map, sym, ap, subst, ◌∙◌}
use Rattle.std.proofs.lemmas.Bool.{false≢true}
use Rattle.group_keys.specs.Faults.{IsAccepted}
use Rattle.ps_config.specs.Configs.{is_long}
use Rattle.ps_config.specs.Rings.{key_set}
use Rattle.ps_config.proofs.Rings.{makes_ring}
use Rattle.ps_config.proofs.ring.ring_of.Goals as goal

pub unreachable-requires : goal.unreachable-requires
unreachable-requires c =
    let made = makes_ring c.args.group.now c.requires in
    let sets = c.key_sets_of.ensures ∙ ap (map key_set) c.as_slice.ensures in
    false≢true (c.in-Err.ensures.accepted.1 (subst (λ long. IsAccepted long c.key_sets_of.result.items) (sym c.is_long.ensures) (subst (IsAccepted (is_long c.args.group.now.policy)) (sym sets) made)))
