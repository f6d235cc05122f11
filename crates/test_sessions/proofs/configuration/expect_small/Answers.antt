use Rattle.std.proofs.Common.{◌≡◌, List, length, sym, ap, ◌∙◌, arith}
use Rattle.ps_config.specs.declared.parts.KeyGroupPart.{KeyGroupPart}
use Rattle.ps_config.specs.declared.parts.ReadGroupPart.{ReadGroupPart}
use Rattle.ps_config.specs.declared.parts.ReaderPart.{ReaderPart}
use Rattle.test_sessions.proofs.Small.{small}
use Rattle.test_sessions.proofs.configuration.expect_small.Goals as goal

pub returns : goal.returns
returns c =
    let config = c.args.config.now in
    let keys = c.keys-item.result in
    let group = c.group-item.result in
    let one : length c.as_slice.result.now ≡ 1 = omega arith in
    let only : length c.as_slice-2.result.now ≡ 1 = omega arith in
    let reader : length c.as_slice-3.result.now ≡ 1 = omega arith in
    small config keys group
    (ap (λ (l : List KeyGroupPart). length l) (sym c.as_slice.ensures) ∙ one)
    (rw c.as_slice.ensures at c.keys-item.is)
    c.in-Aes128.is
    (ap (λ (l : List ReadGroupPart). length l) (sym c.as_slice-2.ensures) ∙ only)
    (rw c.as_slice-2.ensures at c.group-item.is)
    (ap (λ (l : List ReaderPart). length l) (sym c.as_slice-3.ensures) ∙ reader)
