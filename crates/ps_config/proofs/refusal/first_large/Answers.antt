use Rattle.std.proofs.Common.{◌≡◌, true, false, map, take, refl, sym, ap, ◌∙◌, arith}
use Rattle.config_tables.specs.declared.fault.Fault.TheVariants.{FrameLarge}
use Rattle.config_tables.specs.Seen.{seen}
use Rattle.ps_config.specs.declared.parts.Config.{Config}
use Rattle.ps_config.specs.Configs.{config_of, group_of}
use Rattle.ps_config.specs.Refusals.{stands}
use Rattle.ps_config.proofs.Large.{group_next, group_other, this_group, other_groups, stands_by, stands_not, found_here, not_here}
use Rattle.ps_config.proofs.refusal.first_large.Goals as goal
use Rattle.ps_config.proofs.refusal.first_large.Goals.{then-is_outer+else-lacks_room, else-is_outer}

pub loop-placed-init : goal.loop-placed-init
unfolding config_of
loop-placed-init c = record { none = refl; left = c.as_slice-groups.ensures ∙ ap (λ (k : Config). k.group) c.requires }

pub returns-then-lacks_room : goal.returns-then-lacks_room
returns-then-lacks_room c =
    let all = c.args.tables.now in
    let ts = map seen all in
    let i = c.loop-placed.placed-index in
    let t = c.placed-item.result in
    let passes = sym c.is_outer.ensures ∙ c.if-is_outer.true in
    let next = group_next (group_of ts) c.as_slice-groups.result.now c.loop-placed.index all i t (omega arith) c.placed-item.is passes c.loop-placed.invariant.left in
    let same = this_group c.as_slice-groups.result.now c.loop-placed.index c.index-groups-index.result _ _ next c.index-groups-index.is in
    let here : stands FrameLarge ts (map seen (take i all)) (seen t) ≡ true =
    stands_by ts (map seen (take i all)) (seen t) c.args.config.now c.as_slice-metas.result.now c.index-groups-index.result c.requires c.as_slice-metas.ensures same passes
    ∙ sym c.lacks_room.ensures ∙ c.if-lacks_room.true in
    found_here (stands FrameLarge ts) all i t _ (omega arith) c.placed-item.is here c.loop-placed.invariant.none

pub loop-placed-preserved : goal.loop-placed-preserved
loop-placed-preserved c =
    let all = c.args.tables.now in
    let ts = map seen all in
    let i = c.loop-placed.placed-index in
    let t = c.placed-item.result in
    let groups = c.as_slice-groups.result.now in
    elim c.if-is_outer.branch [
      | then-is_outer+else-lacks_room w ↦
          let passes = sym c.is_outer.ensures ∙ w.if-is_outer.true in
          let next = group_next (group_of ts) groups c.loop-placed.index all i t (omega arith) c.placed-item.is passes c.loop-placed.invariant.left in
          let same = this_group groups c.loop-placed.index w.index-groups-index.result _ _ next w.index-groups-index.is in
          let here : stands FrameLarge ts (map seen (take i all)) (seen t) ≡ false =
          stands_by ts (map seen (take i all)) (seen t) c.args.config.now c.as_slice-metas.result.now w.index-groups-index.result c.requires c.as_slice-metas.ensures same passes
          ∙ sym w.lacks_room.ensures ∙ w.if-lacks_room.false in
          record {
            none = not_here (stands FrameLarge ts) all i t _ (omega arith) c.placed-item.is here c.loop-placed.invariant.none;
            left = rw (w.index-is) (other_groups groups c.loop-placed.index w.index-groups-index.result _ _ next);
          }
      | else-is_outer w ↦
          let fails = sym c.is_outer.ensures ∙ w.if-is_outer.false in
          record {
            none = not_here (stands FrameLarge ts) all i t _ (omega arith) c.placed-item.is (stands_not ts (map seen (take i all)) (seen t) fails) c.loop-placed.invariant.none;
            left = rw (w.index-is) (group_other (group_of ts) groups c.loop-placed.index all i t (omega arith) c.placed-item.is fails c.loop-placed.invariant.left);
          }
    ]
