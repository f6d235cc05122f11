use Rattle.std.proofs.Common.{◌≡◌, ◌<◌, ◌≤◌, ◌++◌, ◌+◌, length, drop, Some, refl, sym, ap, ◌∙◌, arith}
use Rattle.std.specs.List.{slice_get}
use Rattle.std.proofs.lemmas.List.{length-append}
use Rattle.std.proofs.lemmas.Option.{slice_get_read}
use Rattle.ps_report.specs.Conditions.{readers_of}
use Rattle.ps_report.proofs.Groups.{readers_from}
use Rattle.ps_report.proofs.Rows.{slice_get_front, slice_get_behind}
use Rattle.ps_report.proofs.readers.reader_at.Goals as goal

pub returns-then-left-readers : goal.returns-then-left-readers
returns-then-left-readers c =
    let own = c.group-item.result.reader in
    let later = readers_of (drop (c.loop-group.group-index + 1) c.args.groups.now) in
    let whole = readers_from c.args.groups.now c.loop-group.group-index c.group-item.result (omega arith) c.group-item.is in
    let low : c.loop-group.left < length own = rw c.as_slice-readers.ensures at c.if-left-readers.true in
    let read : slice_get own c.loop-group.left ≡ Some c.index-readers-left.result =
    slice_get_read own (length own) c.loop-group.left c.index-readers-left.result refl low (rw c.as_slice-readers.ensures at c.index-readers-left.is) in
    sym c.loop-group.invariant.1 ∙ ap (λ l. slice_get l c.loop-group.left) whole ∙ slice_get_front own later c.loop-group.left low ∙ read

pub loop-group-preserved : goal.loop-group-preserved
loop-group-preserved c =
    let own = c.group-item.result.reader in
    let later = readers_of (drop (c.loop-group.group-index + 1) c.args.groups.now) in
    let whole : readers_of (drop c.loop-group.group-index c.args.groups.now) ≡ own ++ later = readers_from c.args.groups.now c.loop-group.group-index c.group-item.result (omega arith) c.group-item.is in
    let past : length own ≤ c.loop-group.left = rw c.as_slice-readers.ensures at c.if-left-readers.false in
    let len : length (readers_of (drop c.loop-group.group-index c.args.groups.now)) ≡ length own + length later = ap length whole ∙ length-append own later in
    let first = c.loop-group.invariant.0 in
    rw c.as_slice-readers.ensures
    (omega arith, slice_get_behind own later c.loop-group.left past ∙ ap (λ l. slice_get l c.loop-group.left) (sym whole) ∙ c.loop-group.invariant.1)
