use Rattle.std.proofs.Common.{◌≡◌, ◌+◌, ◌*◌, ◌-◌, ◌<◌, ◌≤◌, ◌∷◌, ◌++◌, List, [], ℕ, length, take, drop, map, get_or, ap, sym, subst, ◌∙◌, arith}
use Rattle.std.specs.Int.{w16, from_le_bytes}
use Rattle.std.proofs.lemmas.List.{take_more_set, length-set}
use Rattle.std.proofs.lemmas.List.Elements.{All-push}
use Rattle.payload_layout.specs.declared.parts.Part.{Part}
use Rattle.payload_layout.specs.Payloads.{sizes_of, cut_by, frame_at, IsWithin, StandBehind}
use Rattle.payload_layout.proofs.Pieces.{sizes-step, piece-step, sum-step, end_of, end-push, behind-push}
use Rattle.payload_layout.proofs.parts.find_each.Goals as goal

pub loop-index-preserved : goal.loop-index-preserved
loop-index-preserved c =
    let below : c.loop-index.index < c.args.count = omega arith in
    let size : c.from.result ≡ from_le_bytes w16 (take 2 (drop (2 * c.loop-index.index) c.args.payload.now)) = c.from.ensures ∙ c.size_at.ensures in
    let payload = c.args.payload.now in
    let later = sizes_of (c.args.count - (c.loop-index.index + 1)) (drop (2 * (c.loop-index.index + 1)) payload) in
    let part : Part = record { start = c.loop-index.start; end = c.loop-index.start + c.from.result } in
    let sums = sum-step c.args.count c.loop-index.index c.from.result payload below size in
    let within : c.loop-index.start + c.from.result ≤ length payload = omega (arith, c.loop-index.invariant.sums, sums, c.requires.good) in
    let put = take_more_set c.loop-index.places c.loop-index.index part (omega (arith, c.loop-index.invariant.many)) in
    record {
      found = c.loop-index.invariant.found
          ∙ ap (λ (sizes : List ℕ). map (frame_at payload) (take c.loop-index.index c.loop-index.places) ++ cut_by sizes (drop c.loop-index.start payload)) (sizes-step c.args.count c.loop-index.index payload below ∙ ap (λ (n : ℕ). n ∷ later) (sym size))
          ∙ piece-step payload c.loop-index.start c.from.result later (take c.loop-index.index c.loop-index.places)
          ∙ ap (λ (parts : List Part). map (frame_at payload) parts ++ cut_by later (drop (c.loop-index.start + c.from.result) payload)) (sym put);
      sums = omega (arith, c.loop-index.invariant.sums, sums);
      each = subst (λ (parts : List Part). (k : ℕ) (d : Part) → k < length parts → IsWithin payload (get_or parts k d)) (sym put) (All-push (IsWithin payload) (take c.loop-index.index c.loop-index.places) part c.loop-index.invariant.each (record { rising = omega arith; within = within }));
      order = subst (StandBehind (2 * c.args.count)) (sym put) (behind-push (2 * c.args.count) (take c.loop-index.index c.loop-index.places) part c.loop-index.invariant.order (sym c.loop-index.invariant.ends));
      ends = ap (end_of (2 * c.args.count)) put ∙ end-push (2 * c.args.count) (take c.loop-index.index c.loop-index.places) part;
      many = omega (arith, c.loop-index.invariant.many, length-set c.loop-index.places c.loop-index.index part);
    }
