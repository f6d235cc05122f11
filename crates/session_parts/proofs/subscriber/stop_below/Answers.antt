use Rattle.std.proofs.Common.{◌≡◌, ℕ, length, ap, ◌∙◌, subst, arith}
use Rattle.std.specs.List.{range_with_len}
use Rattle.ps_config.specs.declared.parts.ReadGroupPart.{ReadGroupPart}
use Rattle.reader_group.specs.Groups.{Stands}
use Rattle.session_model.specs.Readings.{read_on}
use Rattle.session_parts.proofs.Stopping.{count-kept, stopped_of, stops-more, stops-none}
use Rattle.session_parts.proofs.subscriber.stop_below.Goals as goal

pub loop-i-init : goal.loop-i-init
loop-i-init c = stops-none c.args.r c.args.component c.args.group.now

pub cut_if-requires : goal.cut_if-requires
cut_if-requires c =
    omega (
      arith,
      count-kept c.requires.made.0 c.args.group.now c.loop-i.group c.loop-i.invariant.index c.requires.made.1 (c.loop-i.invariant.made c.requires.made.0 c.requires.made.1),
      c.requires.count,
      c.loop-i-test.true,
      ap length c.as_slice-i-end.ensures,
    )

pub loop-i-preserved : goal.loop-i-preserved
loop-i-preserved c =
    let e = c.cut_if.ensures in
    stops-more c.args.r c.loop-i.i c.args.component c.is_at_or_above.result c.args.group.now c.loop-i.group c.cut_if.new.group c.is_at_or_above.ensures e.index e.made e.stands c.loop-i.invariant

pub returns-clause-stands : goal.returns-clause-stands
returns-clause-stands c =
    λ config setting value befell is h.
    let all : c.loop-i.i ≡ length c.args.part.now.reader = omega (arith, ap length c.as_slice-i-end.ensures, c.loop-i-test.false, c.loop-i.auto.i-end) in
    subst (λ (n : ℕ). Stands setting (read_on setting value (stopped_of c.args.r c.args.component befell (range_with_len 0 n))) c.loop-i.group)
    (all ∙ ap (λ (p : ReadGroupPart). length p.reader) is) (c.loop-i.invariant.stands setting value befell h)
