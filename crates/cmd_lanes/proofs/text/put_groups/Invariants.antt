use Rattle.std.proofs.Common.{◌≡◌, ℕ, ◌<◌, List, ◌++◌}
use Rattle.std.specs.List.{flat_map, range_with_len}
use Rattle.session_model.specs.Deeds.{Deed}
use Rattle.cmd_lanes.specs.Alike.{GroupHasNumbers}
use Rattle.cmd_lanes.specs.Standing.{StandAll, counts_of, logs_by}
use Rattle.cmd_lanes.specs.Texts.{group_lines}
use Rattle.cmd_lanes.proofs.text.put_groups.Given as goal

abbrev pub invariant-loop-g : goal.invariant-loop-g
invariant-loop-g l =
    (deeds : List Deed) → StandAll l.config deeds l.ran.lanes.items
    → (l.out.items ≡ l.fn.out.items ++ flat_map (group_lines l.config (counts_of l.ran) (logs_by l.config deeds)) (range_with_len 0 l.g))
    × ((g : ℕ) → g < l.g → GroupHasNumbers l.config (counts_of l.ran) (logs_by l.config deeds) g)
