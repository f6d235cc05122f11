use Rattle.std.proofs.Common.{below_more, ◌∙◌, sym, arith, length}
use Rattle.group_keys.proofs.Rising.{field_at}
use Rattle.group_keys.proofs.ring.first_misfit.Goals as goal

pub loop-i-preserved : goal.loop-i-preserved
loop-i-preserved c =
    below_more _ _ c.loop-i.invariant
    (field_at (λ set. length set.encrypting.items) c.args.sets.now c.loop-i.i c.index-sets-i.result c.index-sets-i.is (omega arith)
    ∙ sym c.len.ensures.value ∙ c.if-len-encrypting_length.false ∙ c.encrypting_length.ensures)
