use Rattle.std.proofs.Common.{◌<◌, ◌∙◌, ℕ, List, length, get_or, refl, sym, ap, subst, arith}
use Rattle.dataset_meta.specs.Metas.{MetaData, no_meta}
use Rattle.session_model.specs.Sets.{meta_in}
use Rattle.cmd_relay.specs.Sources.{HasSource}
use Rattle.cmd_relay.proofs.Matched.{all-more, read-at}
use Rattle.cmd_relay.proofs.Sourcing.{sourced}
use Rattle.cmd_relay.proofs.sources.unsourced.Goals as goal

pub loop-set-preserved : goal.loop-set-preserved
loop-set-preserved c =
    let item = c.index-sets-set.result in
    let low = subst (λ (l : List MetaData). c.loop-set.set < length l) c.as_slice-sets.ensures c.loop-set-test.true in
    let is = c.index-sets-set.is ∙ ap (λ (l : List MetaData). get_or l c.loop-set.set item) c.as_slice-sets.ensures in
    all-more (λ (k : ℕ). HasSource c.args.first.now (meta_in c.args.second.now.dataset k)) c.loop-set.set c.loop-set.invariant
    (subst (HasSource c.args.first.now) (sym (read-at c.args.second.now.dataset c.loop-set.set item no_meta low is)) (c.if-not-has_source.ensures.yes refl))

pub returns-clause-none : goal.returns-clause-none
returns-clause-none c = λ e.
    let all = ap (λ (l : List MetaData). length l) c.as_slice-sets.ensures in
    sourced c.args.first.now c.args.second.now (λ k lt. c.loop-set.invariant k (omega (arith, lt, all, c.loop-set-test.false)))
