use Rattle.std.proofs.Common.{ℕ, ap, subst, ◌∙◌}
use Rattle.dataset_reader.specs.declared.passed.Passed.{Passed}
use Rattle.device.specs.Readings.{IsNoticeFor, IsReaderAt}
use Rattle.uapubsub_c.specs.Noticing.{passed_words}
use Rattle.uapubsub_c.proofs.noticing.passed_in.Goals as goal

pub returns-in-Some-notice : goal.returns-in-Some-notice
returns-in-Some-notice c = record {
  value = c.in-Some-reader.holder.now;
  is = subst (λ (places : ℕ × ℕ). IsReaderAt places.0 places.1 c.args.subscriber.now c.in-Some-reader.holder.now) c.in-Some.ensures.are c.in-Some-reader.ensures.reader;
  notice = c.in-Some-notice.notice;
  noted = subst (λ (places : ℕ × ℕ). IsNoticeFor places.0 places.1 c.args.subscriber.now c.in-Some-notice.notice) c.in-Some.ensures.are c.in-Some-notice.ensures.notice;
  words_are = c.passed_words.ensures ∙ ap (λ (passed : Passed). passed_words passed c.in-Some-notice.notice) c.passed.ensures;
}
