use Rattle.std.proofs.Common.{◌≡◌, List, sym, subst, arith}
use Rattle.std.specs.Vec.{with_items}
use Rattle.std.proofs.lemmas.List.{with_items_is}
use Rattle.dataset_writer.specs.declared.writer.Writer.{Writer}
use Rattle.writer_group.specs.Answering.{HaveAnswered, MayGo}
use Rattle.writer_group.specs.Holding.{frames_at}
use Rattle.writer_group.specs.Making.{spelled_in}
use Rattle.writer_group.specs.Turns.{told_of}
use Rattle.writer_group.proofs.SpelledOut.{WereSpelled, are-spelled, spelled-out, spelled-room, spelled_out}
use Rattle.writer_group.proofs.group.Group.answer.Goals as goal
use Rattle.writer_group.proofs.group.Group.answer.Goals.{After-answer_all}

spelled : (c : After-answer_all) → WereSpelled c.args.group.now c.args.metas.now c.args.on.now c.forget.new.self c.answer_all.new.bytes c.answer_all.new.frames
spelled c = record {
  no_loads = c.forget.ensures.loads;
  no_ranges = c.forget.ensures.ranges;
  long = omega arith;
  on_are = c.requires.may.on_are;
  few = c.answer_all.ensures.few;
  spelled = c.answer_all.ensures.spelled;
  answers = c.answer_all.ensures.answers;
}

kept : (c : After-answer_all) → (with_items c.args.self.now.writers c.answer_all.new.writers).items ≡ c.answer_all.new.writers
kept c = with_items_is c.args.self.now.writers c.answer_all.new.writers (omega (arith, c.answer_all.ensures.goes_on.count, c.args.self.now.writers.ok.0))

pub returns-clause-answered : goal.returns-clause-answered
returns-clause-answered c = λ past.
    let r = (goal.at.returns-clause-answered c).After-answer_all in
    let told = told_of c.args.now c.args.closing c.args.metas.now c.args.rows.now in
    let were = spelled r in
    let out = spelled_out c.forget.new.self c.answer_all.new.bytes c.answer_all.new.frames in
    subst (λ (l : List Writer). HaveAnswered c.args.group.now told c.args.on.now past c.args.self.now.writers.items l (spelled_in out)) (sym (kept r))
    (subst (HaveAnswered c.args.group.now told c.args.on.now past c.args.self.now.writers.items c.answer_all.new.writers)
    (sym (spelled-out c.args.group.now c.args.metas.now c.args.on.now c.forget.new.self c.answer_all.new.bytes c.answer_all.new.frames were))
    (subst (λ (l : List Writer). HaveAnswered c.args.group.now told c.args.on.now past l c.answer_all.new.writers (frames_at c.answer_all.new.bytes c.answer_all.new.frames)) c.deref_mut.ensures.value
    (c.answer_all.ensures.answered past)))

pub returns-clause-goes_on : goal.returns-clause-goes_on
returns-clause-goes_on c =
    let r = (goal.at.returns-clause-goes_on c).After-answer_all in
    subst (MayGo c.args.group.now c.args.metas.now c.args.self.now.writers.items) (sym (kept r))
    (subst (λ (l : List Writer). MayGo c.args.group.now c.args.metas.now l c.answer_all.new.writers) c.deref_mut.ensures.value c.answer_all.ensures.goes_on)

pub returns-clause-spelled : goal.returns-clause-spelled
returns-clause-spelled c =
    let r = (goal.at.returns-clause-spelled c).After-answer_all in
    are-spelled c.args.group.now c.args.metas.now c.args.on.now c.forget.new.self c.answer_all.new.bytes c.answer_all.new.frames (spelled r)

pub returns-clause-room : goal.returns-clause-room
returns-clause-room c = λ need before.
    spelled-room c.forget.new.self c.answer_all.new.bytes c.answer_all.new.frames need (c.forget.ensures.room need before)
