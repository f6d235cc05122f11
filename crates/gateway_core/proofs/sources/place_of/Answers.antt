use Rattle.std.proofs.Common.{◌∙◌, ℕ, List, sym, ap, arith, Some}
use Rattle.std.proofs.lemmas.Option.{slice_get-get_or, slice_get_within}
use Rattle.std.proofs.lemmas.Slice.Eq.{bytes_eq-Decides}
use Rattle.gateway_core.proofs.FindNames.{not-more}
use Rattle.gateway_core.proofs.sources.place_of.Goals as goal

pub returns-then-eq : goal.returns-then-eq
returns-then-eq c =
    let item = c.index-names-k.result in
    slice_get-get_or c.args.names.now c.loop-k.k item c.loop-k-test.true
    ∙ ap (λ (x : List ℕ). Some x) (sym c.index-names-k.is ∙ (bytes_eq-Decides item c.args.name.now).0 (sym c.eq.ensures ∙ c.if-eq.true))

pub loop-k-preserved : goal.loop-k-preserved
loop-k-preserved c =
    not-more c.args.names.now c.loop-k.k c.index-names-k.result c.args.name.now c.index-names-k.is (sym c.eq.ensures ∙ c.if-eq.false) c.loop-k.invariant

pub unreachable-requires : goal.unreachable-requires
unreachable-requires c =
    let low = slice_get_within c.args.names.now c.requires.there.0 c.args.name.now c.requires.there.1 in
    c.loop-k.invariant c.requires.there.0 (omega (arith, low, c.loop-k-test.false)) c.requires.there.1
