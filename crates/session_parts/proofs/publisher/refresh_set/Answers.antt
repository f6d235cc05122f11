use Rattle.std.proofs.Common.{◌≡◌, ◌∙◌, ◌<◌, ℕ, List, length, ap, subst, arith, get_or}
use Rattle.std.specs.Prelude.{◌==◌}
use Rattle.std.proofs.lemmas.List.{get_or_default}
use Rattle.ps_config.specs.declared.parts.WriterPart.{WriterPart}
use Rattle.writer_group.specs.Payloads.{no_writer}
use Rattle.writer_group.specs.Standing.{metas_for}
use Rattle.session_parts.proofs.RefreshingSets.{RefreshesSet, all-aside, set-more, set-none}
use Rattle.session_parts.proofs.publisher.refresh_set.Goals as goal

pub loop-w-init : goal.loop-w-init
loop-w-init c = set-none c.args.part.now c.args.set c.args.group.now c.requires.made.1.writers

pub refresh_grown-requires : goal.refresh_grown-requires
refresh_grown-requires c =
    omega (arith, (c.loop-w.invariant.made c.requires.made.0 c.requires.made.1).writers, c.loop-w-test.true, ap length c.as_slice-w-end.ensures)

pub loop-w-preserved : goal.loop-w-preserved
loop-w-preserved c =
    let e = c.refresh_grown.ensures in
    let low : c.loop-w.w < length c.args.part.now.writer = omega (arith, c.loop-w-test.true, ap length c.as_slice-w-end.ensures) in
    set-more c.args.part.now c.args.set c.loop-w.w _ c.args.group.now c.loop-w.group c.refresh_grown.new.group
    (ap (λ (l : List WriterPart). (get_or l c.loop-w.w c.index-as_slice-w.result).dataset == c.args.set) c.as_slice.ensures
    ∙ ap (λ (w : WriterPart). w.dataset == c.args.set) (get_or_default c.args.part.now.writer c.loop-w.w c.index-as_slice-w.result no_writer low))
    (c.loop-w.invariant.made c.requires.made.0 c.requires.made.1).writers e.index e.made e.kept e.stands e.goes_on e.logs c.loop-w.invariant

pub returns-clause-stands : goal.returns-clause-stands
returns-clause-stands c =
    λ metas others past same h.
    let all : c.loop-w.w ≡ length c.args.part.now.writer = omega (arith, ap length c.as_slice-w-end.ensures, c.loop-w-test.false, c.loop-w.auto.w-end) in
    (subst (λ (n : ℕ). RefreshesSet c.args.part.now c.args.set n c.args.group.now c.loop-w.group) all c.loop-w.invariant).stands
    (metas_for c.args.part.now metas) (metas_for c.args.part.now others) past (all-aside c.args.part.now c.args.set metas others same) h

pub returns-clause-goes_on : goal.returns-clause-goes_on
returns-clause-goes_on c =
    λ metas others turns same h.
    let all : c.loop-w.w ≡ length c.args.part.now.writer = omega (arith, ap length c.as_slice-w-end.ensures, c.loop-w-test.false, c.loop-w.auto.w-end) in
    (subst (λ (n : ℕ). RefreshesSet c.args.part.now c.args.set n c.args.group.now c.loop-w.group) all c.loop-w.invariant).goes_on
    (metas_for c.args.part.now metas) (metas_for c.args.part.now others) turns (all-aside c.args.part.now c.args.set metas others same) h
