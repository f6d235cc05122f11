use Rattle.std.proofs.Common.{◌≡◌, ◌+◌, ◌<◌, ℕ, Bool, false, sym, ◌∙◌, subst, arith, get_or, take}
use Rattle.std.specs.Prelude.{slice_set}
use Rattle.std.proofs.lemmas.List.{length-set, get_or-take, length-take-le}
use Rattle.std.proofs.lemmas.List.Edits.{fill_by_more}
use Rattle.std.proofs.lemmas.List.FromFn.{fill_by_all}
use Rattle.pubsub_states.specs.declared.component.Component.TheVariants.{Reader}
use Rattle.pubsub_states.specs.Changes.{flags_in}
use Rattle.session_parts.proofs.subscriber.readers_on.Goals as goal

pub loop-i-preserved : goal.loop-i-preserved
loop-i-preserved c =
    let f : ℕ → Bool = λ i. (flags_in c.args.tree.now (Reader c.args.read_group i)).enabled in
    record {
      few = length-set c.loop-i.on c.loop-i.i c.is_enabled.result ∙ c.loop-i.invariant.few;
      each = subst (λ (b : Bool). (k : ℕ) → k < c.loop-i.i + 1 → get_or (slice_set c.loop-i.on c.loop-i.i b) k false ≡ f k) (sym c.is_enabled.ensures)
          (fill_by_more f c.loop-i.on c.loop-i.i false (omega (arith, c.loop-i.invariant.few, c.requires.few, c.loop-i-test.true)) c.loop-i.invariant.each);
    }

pub returns : goal.returns
returns c =
    let f : ℕ → Bool = λ i. (flags_in c.args.tree.now (Reader c.args.read_group i)).enabled in
    let n = c.args.count in
    fill_by_all f (take n c.loop-i.on) n false (length-take-le n c.loop-i.on (omega (arith, c.loop-i.invariant.few, c.requires.few)))
    (λ k below. get_or-take n c.loop-i.on k false below ∙ c.loop-i.invariant.each k (omega (arith, below, c.loop-i-test.false)))
