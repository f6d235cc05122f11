use Rattle.std.specs.List.{range_with_len}
use Rattle.session_model.specs.Deeds.{is_writer_below}
use Rattle.session_parts.proofs.Refreshing.{Refreshes}
use Rattle.session_parts.proofs.publisher.refresh_below.Given as goal

abbrev pub invariant-loop-w : goal.invariant-loop-w
invariant-loop-w l = Refreshes l.part (is_writer_below l.component l.g) (range_with_len 0 l.w) l.fn.group l.group
