use Rattle.std.proofs.Common.{refl, ap, ◌∙◌}
use Rattle.group_keys.specs.declared.ring.Ring.{Ring}
use Rattle.key_service.specs.Answers.{answer}
use Rattle.cmd_keys.proofs.answering.answer_by.Goals as goal

pub returns-clause-answer : goal.returns-clause-answer
returns-clause-answer c =
    let ring = c.ring_of.result in
    let request = c.args.request.now in (
      ring,
      record { long = c.ring_of.ensures.long; keys = c.ring_of.ensures.keys },
      (
        c.in-Ok.ensures.accepted.0 refl,
        c.in-Ok-get.ensures.answer ∙ ap (λ (r : Ring). answer r c.args.moment request.start request.count) c.in-Ok.ensures.ring,
      ),
    )
