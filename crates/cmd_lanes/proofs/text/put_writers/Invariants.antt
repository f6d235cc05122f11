use Rattle.std.proofs.Common.{◌≡◌, ℕ, ◌<◌, List, ◌++◌}
use Rattle.std.specs.List.{flat_map, range_with_len}
use Rattle.dataset_meta.specs.Metas.{MetaData}
use Rattle.report_laws.specs.Numbers.{LogHasNumbers}
use Rattle.writer_group.specs.Payloads.{writer_at}
use Rattle.writer_group.specs.Standing.{IsGroup}
use Rattle.writer_group.specs.Turns.{GroupDeed}
use Rattle.cmd_lanes.specs.Standing.{log_in}
use Rattle.cmd_lanes.specs.Texts.{writer_line}
use Rattle.cmd_lanes.proofs.text.put_writers.Given as goal

abbrev pub invariant-loop-w : goal.invariant-loop-w
invariant-loop-w l =
    (metas : ℕ → MetaData) (past : List GroupDeed) → IsGroup metas l.part past l.group
    → (l.out.items ≡ l.fn.out.items ++ flat_map (λ w. writer_line (writer_at l.part w).name (log_in l.part past w)) (range_with_len 0 l.w))
    × ((w : ℕ) → w < l.w → LogHasNumbers (log_in l.part past w))
