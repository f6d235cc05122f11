use Rattle.std.proofs.Common.{◌≡◌, ◌<◌, length, slice_index, sym, subst}
use Rattle.std.proofs.lemmas.List.Elements.{same_from_all_zip}
use Rattle.std.specs.List.Sorted.{IsStrictlyIncreasing}
use Rattle.group_keys.specs.KeySets.{tokens, moments, LengthsFit}
use Rattle.group_keys.proofs.Copies.{same_set}
use Rattle.group_keys.proofs.ring.RingClone.clone.Goals as goal
use Rattle.group_keys.proofs.ring.RingClone.clone.Goals.{After-is_long}

same_keys : (c : After-is_long) → c.in_ok-keys.keys.items ≡ c.args.self.now.keys.items
same_keys c = same_from_all_zip _ c.args.self.now.keys.items c.in_ok-keys.keys.items c.in_ok-keys.ensures.cases (λ set copy is. same_set set copy is)

pub invariant_of-result-clause-has_key : goal.invariant_of-result-clause-has_key
invariant_of-result-clause-has_key c =
    subst (λ sets. 0 < length sets) (sym (same_keys c)) c.args.self.now.has_key

pub invariant_of-result-clause-tokens_rise : goal.invariant_of-result-clause-tokens_rise
invariant_of-result-clause-tokens_rise c =
    subst (λ sets. IsStrictlyIncreasing (tokens sets)) (sym (same_keys c)) c.args.self.now.tokens_rise

pub invariant_of-result-clause-moments_rise : goal.invariant_of-result-clause-moments_rise
invariant_of-result-clause-moments_rise c =
    subst (λ sets. IsStrictlyIncreasing (moments sets)) (sym (same_keys c)) c.args.self.now.moments_rise

pub invariant_of-result-clause-first_at_zero : goal.invariant_of-result-clause-first_at_zero
invariant_of-result-clause-first_at_zero c =
    subst (λ sets. slice_index (moments sets) 0 ≡ 0) (sym (same_keys c)) c.args.self.now.first_at_zero

pub invariant_of-result-clause-lengths_fit : goal.invariant_of-result-clause-lengths_fit
invariant_of-result-clause-lengths_fit c =
    subst (λ sets. LengthsFit c.is_long.result sets) (sym (same_keys c)) (subst (λ long. LengthsFit long c.args.self.now.keys.items) (sym c.is_long.ensures) c.args.self.now.lengths_fit)

pub returns : goal.returns
returns c = record {
  cases = (
    c.is_long.ensures,
    same_from_all_zip _ c.args.self.now.keys.items c.in_ok-keys.keys.items c.in_ok-keys.ensures.cases (λ set copy is. same_set set copy is),
  );
}
