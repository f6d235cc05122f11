use Rattle.std.proofs.Common.{◌≡◌, eqb-true, eq-eqb, sym, ◌∙◌, ap}
use Rattle.std.specs.List.{zip}
use Rattle.hmac_sign.proofs.Bytes.{differing, same_from_differing, differing_of_same}
use Rattle.hmac_sign.proofs.hmac.is_same.Goals as goal

pub returns : goal.returns
returns c = (
  λ none.
      let no_bits : c.differing_bits.result ≡ 0 = eqb-true c.differing_bits.result 0 none in
      same_from_differing c.args.left.now c.args.right.now (c.told-left ∙ sym c.told-right) (sym c.differing_bits.ensures ∙ no_bits),
  λ same.
      eq-eqb c.differing_bits.result 0
      (c.differing_bits.ensures ∙ ap (λ xs. differing 0 (zip xs c.args.right.now)) same ∙ differing_of_same c.args.right.now),
)
