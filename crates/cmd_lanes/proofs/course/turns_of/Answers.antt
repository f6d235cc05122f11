use Rattle.std.proofs.Common.{◌<◌, ◌≤◌, [], ◌∷◌, List, length, get_or, sym, ap, ◌∙◌, subst, arith}
use Rattle.dataset_meta.specs.Metas.{MetaData}
use Rattle.ps_script.specs.declared.script.Line.{Line}
use Rattle.script_player.proofs.Next.{no_line}
use Rattle.cmd_lanes.specs.Courses.{IsCourse, MayFollow}
use Rattle.cmd_lanes.proofs.Bounds.{may-close, may-follow, turns-are, underway-more, underway-none}
use Rattle.cmd_lanes.proofs.course.turns_of.Goals as goal

pub loop-line-init : goal.loop-line-init
loop-line-init c =
    underway-none c.args.config.now c.args.script.now c.in_ok-course.course
    (subst (λ (metas : List MetaData). IsCourse metas [] c.in_ok-course.course) c.as_slice-metas.ensures c.in_ok-course.ensures)

pub follow-requires : goal.follow-requires
follow-requires c =
    let low : c.loop-line.line-index < length c.args.script.now.lines = omega (arith, c.loop-line-test.true, ap length c.as_slice-line-items.ensures) in
    record {
      may = subst (λ (metas : List MetaData). MayFollow metas (get_or c.as_slice-line-items.result.now c.loop-line.line-index no_line).act c.loop-line.course) (sym c.as_slice-metas.ensures)
          (subst (λ (lines : List Line). MayFollow c.args.config.now.dataset (get_or lines c.loop-line.line-index no_line).act c.loop-line.course) (sym c.as_slice-line-items.ensures)
          (may-follow c.args.config.now c.args.script.now c.loop-line.line-index no_line c.requires.script c.requires.taken low c.loop-line.course c.loop-line.invariant));
    }

pub loop-line-preserved : goal.loop-line-preserved
loop-line-preserved c =
    let low : c.loop-line.line-index < length c.args.script.now.lines = omega (arith, c.loop-line-test.true, ap length c.as_slice-line-items.ensures) in
    underway-more c.args.config.now c.args.script.now c.loop-line.line-index no_line c.requires.script c.requires.taken low c.loop-line.course c.loop-line.invariant c.follow.new.self
    (λ lines line is.
    subst (λ (metas : List MetaData). IsCourse metas lines c.loop-line.course → IsCourse metas (line ∷ lines) c.follow.new.self) c.as_slice-metas.ensures
    (c.in_ok-follow.ensures lines line (is ∙ ap (λ (l : List Line). (get_or l c.loop-line.line-index no_line).act) (sym c.as_slice-line-items.ensures))))

pub tick-requires : goal.tick-requires
tick-requires c =
    let end : length c.args.script.now.lines ≤ c.loop-line.line-index = omega (arith, c.loop-line-test.false, ap length c.as_slice-line-items.ensures) in
    record { may = may-close c.args.config.now c.args.script.now c.loop-line.line-index c.loop-line.course c.requires.script c.requires.taken end c.loop-line.invariant }

pub returns : goal.returns
returns c =
    let end : length c.args.script.now.lines ≤ c.loop-line.line-index = omega (arith, c.loop-line-test.false, ap length c.as_slice-line-items.ensures) in
    turns-are c.args.config.now c.args.script.now c.loop-line.line-index c.loop-line.course c.requires.script c.requires.taken end c.loop-line.invariant c.tick.new.self c.in_ok-tick.ensures
