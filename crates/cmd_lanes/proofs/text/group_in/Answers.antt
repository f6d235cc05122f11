use Rattle.std.proofs.Common.{◌≡◌, inl, inr, true, false, ◌<◌, sym, ◌∙◌, arith}
use Rattle.std.proofs.lemmas.Option.{slice_get_cases}
use Rattle.cmd_lanes.proofs.text.group_in.Goals as goal

never : false ≡ true → ⊥
never e = cc

pub unreachable-requires : goal.unreachable-requires
unreachable-requires c =
    let had = c.requires in
    let below : had.lane < c.loop-lane.lane-index = omega (arith, had.within, c.loop-lane-test.false) in
    elim ((slice_get_cases c.args.lanes.now had.lane).1) [
      | inl at ↦ never (sym (c.loop-lane.invariant had.lane at.0 below) ∙ had.there at.0)
      | inr past ↦ omega (arith, had.within, past.0)
    ]
