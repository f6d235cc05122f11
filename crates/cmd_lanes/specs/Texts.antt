-- The lines of the command.
use Rattle.std.specs.Prelude.{ℕ, List, ◌++◌, length, codes, flat_map, slice_index}
use Rattle.std.specs.Fmt.{decimal}
use Rattle.ps_config.specs.declared.parts.Config.{Config}
use Rattle.ps_config.specs.declared.parts.GroupPart.{GroupPart}
use Rattle.ps_report.specs.Lines.{count_text, feed, log_text}
use Rattle.ps_report.specs.Reports.{end_line}
use Rattle.writer_group.specs.Parts.{group_at}
use Rattle.writer_group.specs.Payloads.{writer_at}
use Rattle.session_model.specs.Deeds.{group_indexes, writer_indexes}
use Rattle.cmd_lanes.specs.Sends.{Counts}

-- `lane NAME sent N`
unfoldable pub lane_line : List ℕ → ℕ → List ℕ
lane_line name sent = codes "lane " ++ name ++ codes " sent " ++ decimal sent ++ feed

-- `writer NAME N: P=V ..`: place and version of each data frame
unfoldable pub writer_line : List ℕ → List (ℕ × ℕ) → List ℕ
writer_line name log = codes "writer " ++ name ++ count_text (length log) ++ log_text log ++ feed

-- `lanes sent A failed B`
unfoldable pub totals_line : ℕ → ℕ → List ℕ
totals_line sent failed = codes "lanes sent " ++ decimal sent ++ codes " failed " ++ decimal failed ++ feed

-- the log of a writer by its group and its index in this
abbrev pub Logs : Type 0
Logs = ℕ → ℕ → List (ℕ × ℕ)

-- for each writer of a group
abbrev pub writer_lines : GroupPart → (ℕ → List (ℕ × ℕ)) → List ℕ
writer_lines part logs = flat_map (λ w. writer_line (writer_at part w).name (logs w)) (writer_indexes part)

-- for a group, and after it for each of its writers
abbrev pub group_lines : Config → Counts → Logs → ℕ → List ℕ
group_lines config counts logs g =
    lane_line (group_at config g).name (slice_index counts.sent g) ++ writer_lines (group_at config g) (logs g)

unfoldable pub lanes_text : Config → Counts → Logs → List ℕ
lanes_text config counts logs =
    flat_map (group_lines config counts logs) (group_indexes config)
    ++ totals_line counts.all counts.failed
    ++ end_line
