use Rattle.std.proofs.Common.{◌≤◌, List, length}
use Rattle.writer_group.specs.Answering.{AreAnswers}
use Rattle.writer_group.specs.Holding.{AreSpelledIn, frames_at, listed}
use Rattle.writer_group.specs.Turns.{GroupDeed, told_of, turns_from}
use Rattle.writer_group.proofs.AnsweringLaws.{HaveSoFar}
use Rattle.writer_group.proofs.KeptWriters.{KeptSoFar}
use Rattle.writer_group.proofs.answering.answer_all.Given as goal

abbrev pub invariant-loop-index : goal.invariant-loop-index
invariant-loop-index l = record {
  answered : (past : List GroupDeed) → HaveSoFar l.group l.metas past (turns_from l.group (told_of l.now l.closing l.metas l.rows) 0 l.on) l.fn.writers l.writers l.index (frames_at l.bytes l.frames);
  answers : AreAnswers l.group l.metas l.index (frames_at l.bytes l.frames);
  goes_on : KeptSoFar l.group l.metas l.fn.writers l.writers l.index;
  spelled : AreSpelledIn l.bytes l.frames;
  few : length (listed l.frames) ≤ l.index;
}
