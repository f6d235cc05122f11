use Rattle.std.proofs.Common.{◌≡◌, ◌<◌, List, length, get_or, refl, ap, arith}
use Rattle.std.proofs.lemmas.List.{get_or_default}
use Rattle.ps_config.specs.declared.parts.ReadGroupPart.{ReadGroupPart}
use Rattle.device.proofs.Keys.{keyed-at, unkeyed-at}
use Rattle.device.proofs.Places.{holds-at}
use Rattle.device.proofs.making.keygroup_of.Goals as goal

pub returns-clause-keyed : goal.returns-clause-keyed
returns-clause-keyed c =
    let config = c.args.config.now in
    let groups = c.as_slice-groups.result.now in
    let read = c.index-groups-index.result in
    let low : c.from-index.result < length groups = omega (arith, c.if-index-groups.false) in
    let part = get_or groups c.from-index.result read in
    let within : c.args.group < length config.readgroup = omega (arith, low, c.from-index.ensures, ap (λ (l : List ReadGroupPart). length l) c.as_slice-groups.ensures) in
    keyed-at config c.args.group part.keygroup within
    (holds-at (λ (p : ReadGroupPart). p.keygroup ≡ part.keygroup) groups config.readgroup c.from-index.result c.args.group part c.as_slice-groups.ensures c.from-index.ensures low
    (get_or_default groups c.from-index.result read part low) refl)

pub returns-clause-none : goal.returns-clause-none
returns-clause-none c =
    let config = c.args.config.now in
    let groups = c.as_slice-groups.result.now in
    let read = c.index-groups-index.result in
    let low : c.from-index.result < length groups = omega (arith, c.if-index-groups.false) in
    let part = get_or groups c.from-index.result read in
    unkeyed-at config c.args.group part.keygroup
    (holds-at (λ (p : ReadGroupPart). p.keygroup ≡ part.keygroup) groups config.readgroup c.from-index.result c.args.group part c.as_slice-groups.ensures c.from-index.ensures low
    (get_or_default groups c.from-index.result read part low) refl)
