use Rattle.std.proofs.Common.{◌≡◌, ◌-◌, sym, ap, subst, ◌∙◌}
use Rattle.fixed_layout.specs.Slots.{AreSlots}
use Rattle.fixed_layout.proofs.JudgeLaws.{no-fault}
use Rattle.ps_config.specs.Headers.{signature_len}
use Rattle.writer_group.specs.Payloads.{fixed_header}
use Rattle.writer_group.proofs.SetupLaws.{data-sets-there, slots-accepted}
use Rattle.writer_group.proofs.setup.slots_of.Goals as goal

pub own_slots-slots-requires-clause-known : goal.own_slots-slots-requires-clause-known
own_slots-slots-requires-clause-known c = data-sets-there c.args.config.now c.args.group.now c.requires.sound

pub unreachable-requires : goal.unreachable-requires
unreachable-requires c =
    let part = c.args.group.now in
    let header = fixed_header c.args.config.now.publisher.id part in
    let start = c.fixed_header-start.result in
    let limit = c.saturating_sub-limit.result in
    let slots = c.own_slots-slots.result.items in
    let limited : limit ≡ part.max_size - signature_len part.security = c.saturating_sub-limit.ensures ∙ ap (λ n. part.max_size - n) c.signature_size.ensures.size in
    let accepted = slots-accepted c.args.config.now part slots c.own_slots-slots.ensures c.requires.fixed in
    no-fault start limit c.as_slice.result.now c.in-Err.field-0 c.in-Err.ensures.refused
    (subst (AreSlots start limit) (sym c.as_slice.ensures.value)
    (subst (λ n. AreSlots n limit slots) (sym c.fixed_header-start.ensures.size) (subst (λ n. AreSlots header n slots) (sym limited) accepted)))
