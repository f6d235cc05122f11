use Rattle.std.proofs.Common.{◌≡◌, ℕ, ◌+◌, ◌≤◌, length, take, sum, slice_index, ap, ◌∙◌, arith}
use Rattle.std.proofs.lemmas.List.Sums.{sum_by-take-le}
use Rattle.pubsub_states.proofs.Families.{before-room}
use Rattle.pubsub_states.proofs.components.before_family.Goals as goal

pub total-requires : goal.total-requires
total-requires c =
    let within : sum (take c.from.result c.args.counts.now) ≤ sum c.args.counts.now = sum_by-take-le (λ (x : ℕ). x) c.args.counts.now c.from.result in
    omega (arith, within, c.requires.small)

pub overflow_add-result : goal.overflow_add-result
overflow_add-result c =
    let total : c.total.result ≡ sum (take c.args.family c.args.counts.now) = c.total.ensures ∙ ap (λ n. sum (take n c.args.counts.now)) c.from.ensures in
    let room : c.args.family + sum (take c.args.family c.args.counts.now) + slice_index c.args.counts.now c.args.family
    ≤ length c.args.counts.now + sum c.args.counts.now = before-room c.args.counts.now c.args.family c.requires.there in
    omega (arith, total, room, c.requires.few, c.requires.small)

pub returns-clause-room : goal.returns-clause-room
returns-clause-room c =
    let total : c.total.result ≡ sum (take c.args.family c.args.counts.now) = c.total.ensures ∙ ap (λ n. sum (take n c.args.counts.now)) c.from.ensures in
    let room : c.args.family + sum (take c.args.family c.args.counts.now) + slice_index c.args.counts.now c.args.family
    ≤ length c.args.counts.now + sum c.args.counts.now = before-room c.args.counts.now c.args.family c.requires.there in
    omega (arith, total, room, c.requires.few, c.requires.small)
