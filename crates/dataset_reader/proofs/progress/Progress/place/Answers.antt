use Rattle.std.proofs.Common.{◌≡◌, ℕ, sym, subst, ◌∙◌}
use Rattle.frame_codec.specs.Words.{content_in}
use Rattle.dataset_reader.specs.declared.took.Took.{Took}
use Rattle.dataset_reader.specs.Cases.{placed_case}
use Rattle.dataset_reader.specs.Progress.{kept_in}
use Rattle.dataset_reader.proofs.Places.{ends}
use Rattle.dataset_reader.proofs.progress.Progress.place.Goals as goal

pub returns-clause-kept : goal.returns-clause-kept
returns-clause-kept c =
    let fields = c.args.meta.now.fields in
    let old = kept_in fields c.args.self.now in
    let content = content_in fields c.args.kind.now in
    let step = c.go_on-broke in
    subst (λ (place : ℕ). kept_in fields c.record.new.self ≡ (placed_case old content c.args.number place c.args.self.now.last).0) (c.record_number-here.ensures fields)
    (ends old (kept_in fields step.new.self) (kept_in fields c.record.new.self) content c.args.number c.record_number-here.result c.args.self.now.last step.result c.is_some.result c.record.result
    (sym c.has_passed.ensures ∙ c.if-has_passed.false) (step.ensures.broke fields) (step.ensures.kept fields) c.is_some.ensures c.record.ensures.kept c.record.ensures.outcome).0

pub returns-clause-took : goal.returns-clause-took
returns-clause-took c =
    let fields = c.args.meta.now.fields in
    let old = kept_in fields c.args.self.now in
    let content = content_in fields c.args.kind.now in
    let step = c.go_on-broke in
    subst (λ (place : ℕ). Path Took (record { outcome = c.record.result; broke = step.result }) (placed_case old content c.args.number place c.args.self.now.last).1) (c.record_number-here.ensures fields)
    (ends old (kept_in fields step.new.self) (kept_in fields c.record.new.self) content c.args.number c.record_number-here.result c.args.self.now.last step.result c.is_some.result c.record.result
    (sym c.has_passed.ensures ∙ c.if-has_passed.false) (step.ensures.broke fields) (step.ensures.kept fields) c.is_some.ensures c.record.ensures.kept c.record.ensures.outcome).1
