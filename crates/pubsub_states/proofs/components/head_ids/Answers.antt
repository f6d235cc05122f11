use Rattle.std.proofs.Common.{◌≡◌, ◌≢◌, ℕ, ◌+◌, ◌<◌, length, slice_index, slice_set, below_more, arith, refl, get_or-set_other, get_or-set_same, length-set}
use Rattle.pubsub_states.specs.Components.{before_family}
use Rattle.pubsub_states.proofs.components.head_ids.Goals as goal

pub loop-family-init : goal.loop-family-init
loop-family-init c = record { five = refl; done = λ k h. absurd (omega (arith, h)) }

pub loop-family-preserved : goal.loop-family-preserved
loop-family-preserved c =
    let counts = c.args.counts.now in
    let ids = c.loop-family.ids in
    let family = c.loop-family.family in
    let id = c.args.first + c.before_family.result in
    record {
      five = rw (length-set) c.loop-family.invariant.five;
      done = below_more (λ (k : ℕ). slice_index (slice_set ids family id) k ≡ c.args.first + before_family counts k) family
          (λ k h. let other : k ≢ family = omega arith in rw get_or-set_other (c.loop-family.invariant.done k h))
          (let within : family < length ids = omega (arith, c.loop-family.invariant.five, c.loop-family-test.true, c.requires.few) in rw (get_or-set_same, c.before_family.ensures.before) refl);
    }

pub returns : goal.returns
returns c = λ family h. c.loop-family.invariant.done family (omega (arith, h, c.loop-family-test.false))
