use Rattle.std.proofs.Common.{◌≡◌, ◌<◌, length, sym, ◌∙◌, append-nil, arith}
use Rattle.std.proofs.lemmas.Grind.{common_steps}
use Rattle.ps_script.proofs.Judging.{acts_step, acts_end}
use Rattle.ps_script.proofs.acts.lines_of.Goals as goal

pub lines-preserved : goal.lines-preserved
lines-preserved c = λ reader.
    let some : 0 < length c.lines.rest.now = grind (arith, common_steps) in
    acts_step reader c.args.given.now.config.now c.args.metas.now c.lines.number c.saturating_add-number.result c.lines.rest.now c.cut.result.0.now c.cut.result.1.now c.lines.lines.items c.add_line.new.lines.items _ c.act_of.result (c.lines.invariant reader) some c.cut.ensures.front c.cut.ensures.rest c.saturating_add-number.ensures (c.act_of.ensures reader) c.in_ok-add_line.ensures

pub returns : goal.returns
returns c = λ reader.
    let none : length c.lines.rest.now ≡ 0 = grind (arith, common_steps) in
    sym (append-nil c.lines.lines.items) ∙ acts_end reader c.args.given.now.config.now c.args.metas.now c.lines.number c.lines.rest.now c.lines.lines.items _ (c.lines.invariant reader) none
