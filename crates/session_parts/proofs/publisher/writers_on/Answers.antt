use Rattle.std.proofs.Common.{◌≡◌, ◌+◌, ◌<◌, ◌≤◌, ℕ, Bool, false, List, length, ap, sym, ◌∙◌, subst, arith, get_or, take}
use Rattle.std.specs.Prelude.{slice_set, map}
use Rattle.std.specs.List.{range_with_len}
use Rattle.std.proofs.lemmas.List.{length-set, get_or-take, length-take-le}
use Rattle.std.proofs.lemmas.List.Edits.{fill_by_more}
use Rattle.std.proofs.lemmas.List.FromFn.{fill_by_all}
use Rattle.pubsub_states.specs.declared.component.Component.TheVariants.{Writer}
use Rattle.pubsub_states.specs.Changes.{flags_in}
use Rattle.pubsub_states.specs.States.{state_of, is_operational}
use Rattle.session_parts.proofs.publisher.writers_on.Goals as goal

pub loop-w-preserved : goal.loop-w-preserved
loop-w-preserved c =
    let f : ℕ → Bool = λ w. is_operational (state_of (flags_in c.args.tree.now) (Writer c.args.group w)) in
    record {
      few = length-set c.loop-w.on c.loop-w.w c.is_operational.result ∙ c.loop-w.invariant.few;
      each = subst (λ (b : Bool). (k : ℕ) → k < c.loop-w.w + 1 → get_or (slice_set c.loop-w.on c.loop-w.w b) k false ≡ f k)
          (sym (c.is_operational.ensures ∙ ap is_operational c.state_of.ensures))
          (fill_by_more f c.loop-w.on c.loop-w.w false (omega (arith, c.loop-w.invariant.few, c.requires.few, c.loop-w-test.true)) c.loop-w.invariant.each);
    }

first : (f : ℕ → Bool) (on : List Bool) (n w : ℕ) → n ≤ w → n ≤ length on → ((k : ℕ) → k < w → get_or on k false ≡ f k) → take n on ≡ map f (range_with_len 0 n)
first f on n w low short each =
    fill_by_all f (take n on) n false (length-take-le n on short) (λ k below. get_or-take n on k false below ∙ each k (omega (arith, below, low)))

pub returns : goal.returns
returns c =
    first (λ w. is_operational (state_of (flags_in c.args.tree.now) (Writer c.args.group w))) c.loop-w.on c.args.count c.loop-w.w (omega (arith, c.loop-w-test.false))
    (omega (arith, c.loop-w.invariant.few, c.requires.few)) c.loop-w.invariant.each
