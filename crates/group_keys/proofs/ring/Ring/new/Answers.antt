use Rattle.std.proofs.Common.{List, subst}
use Rattle.group_keys.specs.Faults.{IsAccepted, IsRefusedBy}
use Rattle.group_keys.specs.declared.key_set.KeySet.{KeySet}
use Rattle.group_keys.specs.declared.ring.RingFault.TheVariants.{NoKey, NotRising, FirstLate, BadLength}
use Rattle.group_keys.proofs.Judging.{no_ring, no_key, some_key, first_late, first_at_zero}
use Rattle.group_keys.proofs.ring.Ring.new.Goals as goal

pub returns-then-is_empty : goal.returns-then-is_empty
returns-then-is_empty c =
    let refused = subst (λ (sets : List KeySet). IsRefusedBy c.args.long sets NoKey) c.as_slice-sets.ensures.value
    (no_key c.as_slice-sets.result.now c.is_empty.result c.is_empty.ensures c.if-is_empty.true) in
    record { accepted = no_ring c.args.long c.args.keys.items NoKey refused; sets = tt; length = tt; refused = refused }

pub returns-in-Some : goal.returns-in-Some
returns-in-Some c =
    let fault = NotRising c.in-Some.index in
    let refused = subst (λ (sets : List KeySet). IsRefusedBy c.args.long sets fault) c.as_slice-sets.ensures.value c.in-Some.ensures.first in
    record { accepted = no_ring c.args.long c.args.keys.items fault refused; sets = tt; length = tt; refused = refused }

pub returns-then-sets-ne0 : goal.returns-then-sets-ne0
returns-then-sets-ne0 c =
    let sets = c.as_slice-sets.result.now in
    let refused = subst (λ (sets : List KeySet). IsRefusedBy c.args.long sets FirstLate) c.as_slice-sets.ensures.value
    (first_late c.args.long sets c.index-sets-0.result (some_key sets c.is_empty.result c.is_empty.ensures c.if-is_empty.false)
    c.in_default.ensures.none c.index-sets-0.is c.if-sets-ne0.true) in
    record { accepted = no_ring c.args.long c.args.keys.items FirstLate refused; sets = tt; length = tt; refused = refused }

pub returns-in-Some-first_misfit : goal.returns-in-Some-first_misfit
returns-in-Some-first_misfit c =
    let sets = c.as_slice-sets.result.now in
    let fault = BadLength c.in-Some-first_misfit.index in
    let some = some_key sets c.is_empty.result c.is_empty.ensures c.if-is_empty.false in
    let refused = subst (λ (sets : List KeySet). IsRefusedBy c.args.long sets fault) c.as_slice-sets.ensures.value
    (c.in_default.ensures.none, first_at_zero sets c.index-sets-0.result some c.index-sets-0.is c.if-sets-ne0.false, c.in-Some-first_misfit.ensures.first) in
    record { accepted = no_ring c.args.long c.args.keys.items fault refused; sets = tt; length = tt; refused = refused }

pub invariant_of-result : goal.invariant_of-result
invariant_of-result c =
    let sets = c.as_slice-sets.result.now in
    let some = some_key sets c.is_empty.result c.is_empty.ensures c.if-is_empty.false in
    let rises = c.in_default.ensures.none in
    let judged : IsAccepted c.args.long sets = record {
      has_key = some;
      rises = rises;
      first_at_zero = first_at_zero sets c.index-sets-0.result some c.index-sets-0.is c.if-sets-ne0.false;
      lengths_fit = c.in_default-first_misfit.ensures.none;
    } in
    let accepted = subst (IsAccepted c.args.long) c.as_slice-sets.ensures.value judged in
    record {
      has_key = accepted.has_key;
      tokens_rise = accepted.rises.tokens_rise;
      moments_rise = accepted.rises.moments_rise;
      first_at_zero = accepted.first_at_zero;
      lengths_fit = accepted.lengths_fit;
    }
