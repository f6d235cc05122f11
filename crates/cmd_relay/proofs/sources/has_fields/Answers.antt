use Rattle.std.proofs.Common.{◌∙◌, [], sym, arith}
use Rattle.std.proofs.lemmas.List.{ext_get_or}
use Rattle.ua_values.specs.declared.kind.Kind.TheVariants.{Boolean}
use Rattle.dataset_meta.specs.declared.field.Field.{Field}
use Rattle.cmd_relay.proofs.sources.has_fields.Goals as goal

pub returns-clause-yes : goal.returns-clause-yes
returns-clause-yes c = λ e.
    let d : Field = record { name = []; kind = Boolean; cap = 0 } in
    sym c.fields-mine.ensures.fields
    ∙ ext_get_or d c.fields-mine.result.now c.args.fields.now c.if-mine-fields.false (λ j lt. c.loop-k.invariant j (omega (arith, lt, c.loop-k-test.false)) d)
