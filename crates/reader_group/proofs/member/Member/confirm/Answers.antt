use Rattle.std.proofs.Common.{ap, ◌∙◌, ℕ, Option}
use Rattle.dataset_reader.specs.Kept.{Kept}
use Rattle.reader_group.specs.Members.{confirmed_on}
use Rattle.reader_group.proofs.member.Member.confirm.Goals as goal

pub returns-clause-member : goal.returns-clause-member
returns-clause-member c = λ seat member h.
    let carried = c.args.self.now.frame.number in
    record {
      kept = h.kept;
      passed = h.passed;
      numbering = h.numbering;
      joining = h.joining;
      timer = h.timer;
      late = h.late;
      ready = h.ready;
      confirmed = c.confirmed_on-self.ensures
          ∙ ap (λ (held : Option ℕ). confirmed_on c.args.now c.args.outcome carried held c.args.self.now.confirmed) (c.number-held.ensures seat.meta.fields ∙ ap (λ (kept : Kept). kept.number) h.kept)
          ∙ ap (confirmed_on c.args.now c.args.outcome carried member.kept.number) h.confirmed;
    }
