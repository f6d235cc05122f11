use Rattle.std.proofs.Common.{Bool, List, ℕ, arith, length, sym, subst, ◌≡◌, ◌∙◌}
use Rattle.std.specs.List.{AllZip}
use Rattle.ps_report.specs.declared.closed.History.{History}
use Rattle.ps_report.specs.declared.closed.ReaderEnd.{ReaderEnd}
use Rattle.ps_report.specs.declared.closed.WriterEnd.{WriterEnd}
use Rattle.session_model.specs.Closing.{reader_places, writer_places}
use Rattle.pubsub_engine.specs.Authored.{AreHistories}
use Rattle.pubsub_engine.specs.LifeEnds.{IsToldBy, IsWriterEndBy}
use Rattle.pubsub_engine.specs.Logs.{log_after, logs_told}
use Rattle.pubsub_engine.proofs.Whole.{few-sets, passes-count}
use Rattle.pubsub_engine.proofs.closing.closed_of.Goals as goal

pub overflow_cast-sets : goal.overflow_cast-sets
overflow_cast-sets c = omega (arith, few-sets c.args.session.now c.requires)

pub histories-requires : goal.histories-requires
histories-requires c = omega (arith, passes-count c.args.session.now c.requires)

pub returns : goal.returns
returns c =
    let s = c.args.session.now in
    let dones = c.args.dones.now in
    let sets : ℕ = c.len-sets.result in
    let count : sets ≡ length s.sets.metas.items = omega arith in
    record {
      histories = subst (λ (n : ℕ). AreHistories s.samples.passes dones n c.new.result) count
          (subst (λ (l : List History). AreHistories s.samples.passes dones sets l) (sym c.new.ensures) c.in_ok-histories.ensures);
      groups = λ most p steps a have. c.new-2.ensures ∙ c.in_ok-groups.ensures most p steps a have;
      writers = λ most p steps a have.
          subst (λ (l : List WriterEnd). AllZip (IsWriterEndBy (log_after most p.config a.deeds) p steps a) (writer_places p.config) l) (sym c.new-3.ensures)
          (c.in_ok-writers.ensures most p steps a have);
      read_groups = λ p steps a have. c.new-4.ensures ∙ c.in_ok-read_groups.ensures p steps a have;
      readers = λ most p steps a published have.
          subst (λ (versions : Bool). AllZip (IsToldBy (logs_told versions (log_after most p.config a.deeds)) p steps a) (reader_places p.config) c.new-5.result) c.tells_versions.ensures
          (subst (λ (l : List ReaderEnd). AllZip (IsToldBy (logs_told c.tells_versions.result (log_after most p.config a.deeds)) p steps a) (reader_places p.config) l) (sym c.new-5.ensures)
          (c.in_ok-readers.ensures most p steps a published have));
      watches = c.new-6.ensures ∙ c.in_ok-watches.ensures;
      link = λ steps a. c.link_end.ensures a.journal steps;
    }
