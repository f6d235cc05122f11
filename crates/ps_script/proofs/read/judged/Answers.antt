use Rattle.std.proofs.Common.{◌≡◌, ◌<◌, length, sym, append-nil, ap, ◌∙◌, subst, arith}
use Rattle.std.proofs.lemmas.Grind.{common_steps}
use Rattle.ps_script.specs.Values.{ValueReader}
use Rattle.ps_script.specs.Past.{done_by}
use Rattle.ps_script.specs.Acts.{acts_from}
use Rattle.ps_script.specs.Scripts.{Steps, judged}
use Rattle.ps_script.specs.Texts.{lines_of}
use Rattle.ps_script.specs.Writes.{Reads}
use Rattle.ps_script.proofs.Judging.{judged_next, judged_fault, acts_end, none_appended, read_step}
use Rattle.ps_script.proofs.read.judged.Goals as goal

pub returns-in-Some-clause-refused : goal.returns-in-Some-clause-refused
returns-in-Some-clause-refused c = λ reader.
    let some : 0 < length c.lines.rest.now = grind (arith, common_steps) in
    let steps = subst (Steps reader c.args.given.now.config.now c.args.given.now.takes_fates (done_by c.lines.reading.past) (done_by c.read.new.self.past) c.cut.result.0.now) c.in-Some.is (c.in_ok-fault.ensures.steps reader) in
    judged_fault reader c.args.given.now.config.now c.args.given.now.takes_fates (done_by c.lines.reading.past) c.lines.number c.lines.rest.now c.cut.result.0.now c.cut.result.1.now c.in-Some.fault (judged reader c.args.given.now.config.now c.args.given.now.takes_fates c.args.bytes.now) (c.lines.invariant.judged reader) some c.cut.ensures.front c.cut.ensures.rest steps

pub lines-preserved : goal.lines-preserved
lines-preserved c =
    let some : 0 < length c.lines.rest.now = grind (arith, common_steps) in
    let config = c.args.given.now.config.now in
    let old = c.lines.reading in
    let new = c.read.new.self in
    let steps = λ (reader : ValueReader). subst (Steps reader config c.args.given.now.takes_fates (done_by old.past) (done_by new.past) c.cut.result.0.now) c.in_default.is (c.in_ok-fault.ensures.steps reader) in
    record {
      few = omega (arith, c.read.ensures.kept, c.lines.invariant.few);
      judged = λ reader.
          judged_next reader config c.args.given.now.takes_fates (done_by old.past) (done_by new.past) c.lines.number c.saturating_add-number.result c.lines.rest.now c.cut.result.0.now c.cut.result.1.now (judged reader config c.args.given.now.takes_fates c.args.bytes.now) (c.lines.invariant.judged reader) some c.cut.ensures.front c.cut.ensures.rest (steps reader).0 (steps reader).1 c.saturating_add-number.ensures;
      same = λ reader none.
          let u = none_appended config (done_by old.past) (done_by new.past) c.cut.result.0.now (steps reader).1 none in
          u.1 ∙ c.lines.invariant.same reader u.0;
      read = λ reader none.
          read_step reader config (done_by old.past) (done_by new.past) config.dataset c.lines.number c.saturating_add-number.result c.lines.rest.now c.cut.result.0.now c.cut.result.1.now old.lines.items new.lines.items _ (steps reader).1 none
          (c.lines.invariant.same reader) (c.lines.invariant.read reader) some c.cut.ensures.front c.cut.ensures.rest c.saturating_add-number.ensures
          (subst (Reads reader config new.past.metas.items c.lines.number c.cut.result.0.now old.lines.items new.lines.items) c.in_default.is (c.in_ok-fault.ensures.lines reader));
    }

pub returns-clause-lines : goal.returns-clause-lines
returns-clause-lines c = λ reader appended.
    let none : length c.lines.rest.now ≡ 0 = grind (arith, common_steps) in
    let config = c.args.given.now.config.now in
    sym (append-nil c.lines.reading.lines.items)
    ∙ acts_end reader config config.dataset c.lines.number c.lines.rest.now c.lines.reading.lines.items _ (c.lines.invariant.read reader appended) none
    ∙ ap (λ sets. acts_from reader config sets 1 (lines_of c.args.bytes.now)) (sym (c.lines.invariant.same reader appended))
