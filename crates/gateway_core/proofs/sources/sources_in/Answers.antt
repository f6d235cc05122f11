use Rattle.std.proofs.Common.{◌≡◌, ◌+◌, ◌∙◌, ℕ, List, length, sym, ap, subst, arith}
use Rattle.dataset_meta.specs.Metas.{MetaData}
use Rattle.session_parts.proofs.MadeTo.{MadeTo, made-more, made-none}
use Rattle.gateway_core.proofs.FindNames.{IsFound, found-is, name-found}
use Rattle.gateway_core.proofs.sources.sources_in.Goals as goal

pub loop-meta-init : goal.loop-meta-init
loop-meta-init c = record {
  items = c.as_slice-meta-items.ensures;
  made = subst (λ (l : List ℕ). MadeTo (IsFound c.args.first.now c.args.second.now) 0 l) (sym c.new-sources.ensures.items) (made-none (IsFound c.args.first.now c.args.second.now));
}

pub place_of-requires-clause-there : goal.place_of-requires-clause-there
place_of-requires-clause-there c =
    name-found c.args.first.now c.args.second.now c.requires.sources.0 c.loop-meta.meta-index c.meta-item.result c.as_slice-meta-items.result.now c.deref.result.now c.name.result.now
    c.requires.sources.1 c.loop-meta.invariant.items c.loop-meta-test.true c.meta-item.is (c.deref.ensures.value ∙ c.in_ok-names.ensures) c.name.ensures

pub loop-meta-preserved : goal.loop-meta-preserved
loop-meta-preserved c =
    let first = c.args.first.now in
    let second = c.args.second.now in
    let n = c.loop-meta.meta-index in
    let found =
    found-is first second c.requires.sources.0 n c.place_of.result c.meta-item.result c.as_slice-meta-items.result.now c.deref.result.now c.name.result.now c.requires.good
    c.requires.sources.1 c.loop-meta.invariant.items c.loop-meta-test.true c.meta-item.is (c.deref.ensures.value ∙ c.in_ok-names.ensures) c.name.ensures c.place_of.ensures in
    record {
      items = c.loop-meta.invariant.items;
      made = subst (λ (l : List ℕ). MadeTo (IsFound first second) (n + 1) l) (sym c.in_ok-push.ensures.items)
          (made-more (IsFound first second) n c.loop-meta.sources.items c.place_of.result c.loop-meta.invariant.made found);
    }

pub returns : goal.returns
returns c =
    let second = c.args.second.now in
    let made = c.loop-meta.invariant.made in
    let count = ap (λ (l : List MetaData). length l) c.loop-meta.invariant.items in
    let all : c.loop-meta.meta-index ≡ length second.dataset = omega (arith, count, c.loop-meta-test.false, c.loop-meta.auto.meta-index-end) in
    record {
      sources = record { count = made.count ∙ all; each = λ set low. made.each set (omega (arith, low, all)) 0 };
    }
