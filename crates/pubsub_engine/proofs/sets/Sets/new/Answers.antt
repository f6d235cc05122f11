use Rattle.std.proofs.Common.{◌≡◌, refl, sym, ap, ◌∙◌, subst, arith, ◌+◌, List, length, get_or}
use Rattle.dataset_meta.specs.Metas.{MetaData}
use Rattle.pubsub_engine.specs.declared.size.Append.{Append}
use Rattle.pubsub_engine.specs.declared.sets.Growth.{Growth}
use Rattle.pubsub_engine.specs.declared.sets.Sets.{Sets}
use Rattle.pubsub_engine.specs.Holding.{IsGrowthBy, grown_by}
use Rattle.pubsub_engine.proofs.OpenSets.{HaveMade, made-later, made-more, made-sets}
use Rattle.pubsub_engine.proofs.sets.Sets.new.Goals as goal

pub loop-append-preserved : goal.loop-append-preserved
loop-append-preserved c =
    let config = c.args.config.now in
    let appends = c.args.appends.now in
    let index = c.loop-append.append-index in
    let append = c.append-item.result in
    let full = c.loop-append.full.items in
    let growth = c.in_ok-grow.field-0 in
    let is = subst (λ (a : Append). IsGrowthBy full a growth) c.append-item.is c.in_ok-grow.ensures.growth in
    let more = made-more config appends index append full c.loop-append.later.items growth c.loop-append-test.true c.loop-append.invariant is in
    subst (λ (l : List MetaData). HaveMade config appends (index + 1) l c.push.new.self.items) (sym (c.in_ok-grow.ensures.metas ∙ ap (grown_by full) c.append-item.is))
    (subst (λ (l : List Growth). HaveMade config appends (index + 1) (grown_by full (get_or appends index append)) l) (sym {A = List Growth} c.in_ok-push.ensures.items) more)

pub returns-clause-holds : goal.returns-clause-holds
returns-clause-holds c =
    let sets : Sets = record { metas = c.in_ok-copies.field-0; full = c.loop-append.full; later = c.loop-append.later; made = 0 } in
    let end : c.loop-append.append-index ≡ length c.args.appends.now = omega arith in
    made-sets c.args.config.now c.args.appends.now c.loop-append.append-index sets end c.requires.good c.requires.appends c.loop-append.invariant (c.in_ok-copies.ensures ∙ c.as_slice-2.ensures) refl

pub returns-clause-later : goal.returns-clause-later
returns-clause-later c =
    let end : c.loop-append.append-index ≡ length c.args.appends.now = omega arith in
    made-later c.args.config.now c.args.appends.now c.loop-append.append-index c.loop-append.full.items c.loop-append.later.items end c.loop-append.invariant
