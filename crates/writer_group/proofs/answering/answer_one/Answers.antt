use Rattle.std.proofs.Common.{Bool, Some, None, ap, subst}
use Rattle.std.specs.Prelude.{if◌then◌else◌}
use Rattle.frame_codec.specs.declared.frame.Frame.{Frame as FrameWords}
use Rattle.dataset_writer.specs.Standing.{Answers, frame_of_turn, lent}
use Rattle.dataset_writer.specs.Turns.{turn_at}
use Rattle.writer_group.specs.Answering.{HasNarrowNumbers}
use Rattle.writer_group.specs.Holding.{frames_at}
use Rattle.writer_group.specs.Turns.{settings_of}
use Rattle.writer_group.proofs.OneAnswer.{adds-none, adds-one, lives-on, off-answered, quiet-answered, sent-answered}
use Rattle.writer_group.proofs.answering.answer_one.Goals as goal

pub returns-then-not-on-clause-answered : goal.returns-then-not-on-clause-answered
returns-then-not-on-clause-answered c = λ deeds.
    let turn = turn_at c.args.meta.now.fields c.args.now c.args.sampled.now.row c.args.sampled.now.version c.args.closing in
    off-answered c.args.part.now c.args.index c.args.layout c.args.meta.now (if c.args.on then Some turn else None) deeds c.args.writer.now (frames_at c.args.bytes.now c.args.frames.now)
    (ap (λ (b : Bool). if b then Some turn else None) c.if-not-on.true)

pub returns-then-not-on-clause-adds : goal.returns-then-not-on-clause-adds
returns-then-not-on-clause-adds c = adds-none c.args.part.now c.args.index c.args.layout c.args.meta.now (frames_at c.args.bytes.now c.args.frames.now)

pub returns-then-not-answer-clause-answered : goal.returns-then-not-answer-clause-answered
returns-then-not-answer-clause-answered c = λ deeds.
    let turn = turn_at c.args.meta.now.fields c.args.now c.args.sampled.now.row c.args.sampled.now.version c.args.closing in
    quiet-answered c.args.part.now c.args.index c.args.layout c.args.meta.now (if c.args.on then Some turn else None) turn deeds c.args.writer.now c.answer.new.self (frames_at c.args.bytes.now c.args.frames.now)
    (ap (λ (b : Bool). if b then Some turn else None) c.if-not-on.false)
    (λ past stands. subst (λ (b : Bool). Answers c.args.meta.now (settings_of c.args.part.now) past turn c.answer.new.self (lent b c.answer.new.self)) c.if-not-answer.true (c.answer.ensures.answers (settings_of c.args.part.now) past stands))

pub returns-then-not-answer-clause-adds : goal.returns-then-not-answer-clause-adds
returns-then-not-answer-clause-adds c = adds-none c.args.part.now c.args.index c.args.layout c.args.meta.now (frames_at c.args.bytes.now c.args.frames.now)

pub returns-then-not-answer-clause-lived : goal.returns-then-not-answer-clause-lived
returns-then-not-answer-clause-lived c =
    let turn = turn_at c.args.meta.now.fields c.args.now c.args.sampled.now.row c.args.sampled.now.version c.args.closing in
    lives-on c.args.part.now c.args.meta.now turn c.args.writer.now c.answer.new.self (lent c.answer.result c.answer.new.self) c.requires.lived
    (λ past stands. c.answer.ensures.answers (settings_of c.args.part.now) past stands)

pub returns-clause-answered : goal.returns-clause-answered
returns-clause-answered c = λ deeds.
    let turn = turn_at c.args.meta.now.fields c.args.now c.args.sampled.now.row c.args.sampled.now.version c.args.closing in
    let frame : FrameWords = frame_of_turn c.answer.new.self in
    sent-answered c.args.part.now c.args.index c.args.layout c.args.meta.now (if c.args.on then Some turn else None) turn deeds c.args.writer.now c.answer.new.self frame
    (frames_at c.args.bytes.now c.args.frames.now) (frames_at c.spell.new.bytes c.spell.new.self)
    (ap (λ (b : Bool). if b then Some turn else None) c.if-not-on.false)
    (c.answer.ensures.frame c.if-not-answer.false) (subst HasNarrowNumbers c.frame-lent.ensures c.numbers_are_narrow.ensures)
    (λ past stands. subst (λ (b : Bool). Answers c.args.meta.now (settings_of c.args.part.now) past turn c.answer.new.self (lent b c.answer.new.self)) c.if-not-answer.false (c.answer.ensures.answers (settings_of c.args.part.now) past stands))
    (rw (← c.frame-lent.ensures) c.spell.ensures.added)

pub returns-clause-adds : goal.returns-clause-adds
returns-clause-adds c =
    let turn = turn_at c.args.meta.now.fields c.args.now c.args.sampled.now.row c.args.sampled.now.version c.args.closing in
    let frame : FrameWords = frame_of_turn c.answer.new.self in
    adds-one c.args.part.now c.args.index c.args.layout c.args.meta.now turn c.args.writer.now c.answer.new.self frame
    (frames_at c.args.bytes.now c.args.frames.now) (frames_at c.spell.new.bytes c.spell.new.self) c.fields.ensures.meta (c.answer.ensures.frame c.if-not-answer.false) (subst HasNarrowNumbers c.frame-lent.ensures c.numbers_are_narrow.ensures) c.requires.lived
    (λ past stands. subst (λ (b : Bool). Answers c.args.meta.now (settings_of c.args.part.now) past turn c.answer.new.self (lent b c.answer.new.self)) c.if-not-answer.false (c.answer.ensures.answers (settings_of c.args.part.now) past stands))
    (rw (← c.frame-lent.ensures) c.spell.ensures.short)
    (rw (← c.frame-lent.ensures) c.spell.ensures.added)

pub returns-clause-lived : goal.returns-clause-lived
returns-clause-lived c =
    let turn = turn_at c.args.meta.now.fields c.args.now c.args.sampled.now.row c.args.sampled.now.version c.args.closing in
    lives-on c.args.part.now c.args.meta.now turn c.args.writer.now c.answer.new.self (lent c.answer.result c.answer.new.self) c.requires.lived
    (λ past stands. c.answer.ensures.answers (settings_of c.args.part.now) past stands)
