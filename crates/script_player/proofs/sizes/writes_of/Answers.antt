-- One data set more has its quotas.
use Rattle.std.proofs.Common.{ap, ◌∙◌, sym, arith, ℕ, ◌<◌, ◌++◌, ◌∷◌, [], List, length, map}
use Rattle.std.specs.List.{range_with_len}
use Rattle.std.proofs.lemmas.List.FromFn.{length-map-range_with_len, map-range_with_len_more}
use Rattle.ps_script.specs.Sessions.{writes_in}
use Rattle.script_player.specs.Sizes.{quotas_by}
use Rattle.script_player.proofs.sizes.writes_of.Goals as goal

pub push-requires : goal.push-requires
push-requires c =
    let all = length-map-range_with_len (λ (set : ℕ). map (λ (thread : ℕ). writes_in thread set c.args.script.now.lines) (range_with_len 0 8)) 0 c.loop-set.set in
    let same = ap (λ (qs : List (List ℕ)). length qs) c.loop-set.invariant.writes in
    let room : length c.loop-set.writes.items < 8 = omega arith in
    (omega arith, room)

pub loop-set-preserved : goal.loop-set-preserved
loop-set-preserved c = record {
  few = c.loop-set.invariant.few;
  writes =
      c.push.ensures.items
      ∙ ap (λ (qs : List (List ℕ)). qs ++ c.writes_to.result ∷ []) c.loop-set.invariant.writes
      ∙ ap (λ (q : List ℕ). quotas_by c.loop-set.set c.args.script.now.lines ++ q ∷ []) c.writes_to.ensures
      ∙ sym (map-range_with_len_more (λ (set : ℕ). map (λ (thread : ℕ). writes_in thread set c.args.script.now.lines) (range_with_len 0 8)) 0 c.loop-set.set c.loop-set.set (omega arith));
}
