use Rattle.std.proofs.Common.{◌<◌, ℕ, List, length, refl, ap, subst, arith}
use Rattle.ps_config.specs.declared.parts.ReadGroupPart.{ReadGroupPart}
use Rattle.cmd_relay.specs.Sources.{HasSourceIn}
use Rattle.cmd_relay.proofs.Matched.{none-more}
use Rattle.cmd_relay.proofs.Sourcing.{source-in, source-of}
use Rattle.cmd_relay.proofs.sources.has_source.Goals as goal

pub returns-then-has_source_in-clause-yes : goal.returns-then-has_source_in-clause-yes
returns-then-has_source_in-clause-yes c =
    let low = subst (λ (l : List ReadGroupPart). c.loop-r.r < length l) c.as_slice-r-end.ensures c.loop-r-test.true in
    λ e. source-of c.args.first.now c.loop-r.r c.args.meta.now low (c.if-has_source_in.ensures.yes refl)

pub loop-r-preserved : goal.loop-r-preserved
loop-r-preserved c =
    none-more (λ (q : ℕ). HasSourceIn c.args.first.now q c.args.meta.now) c.loop-r.r c.loop-r.invariant
    (λ is. let no = c.if-has_source_in.ensures.no is in absurd (cc))

pub returns-clause-no : goal.returns-clause-no
returns-clause-no c = λ has.
    let s = source-in c.args.first.now c.args.meta.now has in
    let all = ap (λ (l : List ReadGroupPart). length l) c.as_slice-r-end.ensures in
    absurd (c.loop-r.invariant s.0 (let lt = s.1 in omega (arith, lt, all, c.loop-r-test.false)) s.2)
