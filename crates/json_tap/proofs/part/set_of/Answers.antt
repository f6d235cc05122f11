use Rattle.std.proofs.Common.{◌≡◌, ℕ, suc, ◌+◌, drop, sym, ap, ◌∙◌, arith}
use Rattle.ps_config.specs.declared.parts.WriterPart.{WriterPart}
use Rattle.std.specs.Prelude.{List}
use Rattle.json_frames.specs.Reading.{set_of}
use Rattle.json_tap.proofs.Sets.{pairs, sets_in, group_here, found_in_group, none_in_group}
use Rattle.json_tap.proofs.part.set_of.Goals as goal

pub returns-in-Some : goal.returns-in-Some
returns-in-Some c =
    let groups = c.args.config.now.group in
    let here = group_here c.as_slice-group-items.result.now groups c.loop-group.group-index c.group-item.result c.as_slice-group-items.ensures c.loop-group-test.true c.group-item.is in
    let found = ap (λ (l : List WriterPart). set_of (pairs l) c.args.writer) (sym c.as_slice.ensures) ∙ sym c.set_in.ensures ∙ c.in-Some.is in
    sym (found_in_group groups c.loop-group.group-index c.group-item.result c.args.writer c.in-Some.set here found) ∙ c.loop-group.invariant

pub loop-group-preserved : goal.loop-group-preserved
loop-group-preserved c =
    let groups = c.args.config.now.group in
    let i = c.loop-group.group-index in
    let here = group_here c.as_slice-group-items.result.now groups i c.group-item.result c.as_slice-group-items.ensures c.loop-group-test.true c.group-item.is in
    let none = ap (λ (l : List WriterPart). set_of (pairs l) c.args.writer) (sym c.as_slice.ensures) ∙ sym c.set_in.ensures ∙ c.in-None.is in
    let next : i + 1 ≡ suc i = omega arith in
    ap (λ (n : ℕ). set_of (sets_in (drop n groups)) c.args.writer) next ∙ sym (none_in_group groups i c.group-item.result c.args.writer here none) ∙ c.loop-group.invariant
