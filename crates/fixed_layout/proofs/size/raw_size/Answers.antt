use Rattle.std.proofs.Common.{◌≤◌, length, ap, arith}
use Rattle.std.proofs.lemmas.List.{take_all}
use Rattle.fixed_layout.specs.Spelling.{raw_size}
use Rattle.fixed_layout.proofs.Sizes.{small_size}
use Rattle.fixed_layout.proofs.size.raw_size.Goals as goal

pub returns-clause-small : goal.returns-clause-small
returns-clause-small c =
    let fields = c.args.meta.now.fields in
    let all : length fields ≤ c.loop-field.field-index = rw c.fields-field-items.ensures.fields at c.loop-field-test.false in
    omega (arith, ap raw_size (take_all c.loop-field.field-index fields all), small_size fields c.fields-field-items.ensures.meta, c.loop-field.invariant.so_far)
