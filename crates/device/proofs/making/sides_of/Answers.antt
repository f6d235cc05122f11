use Rattle.std.proofs.Common.{◌≡◌, ℕ, ◌+◌, ◌<◌, ◌∷◌, [], List, get_or, length, length-append, take, sym, subst, ap, arith, ◌∙◌}
use Rattle.std.specs.Prelude.{All}
use Rattle.std.specs.List.{AllZip, range_with_len}
use Rattle.std.proofs.lemmas.List.{take_all}
use Rattle.std.proofs.lemmas.List.FromFn.{get_or-range_with_len, length-range_with_len}
use Rattle.std.proofs.lemmas.List.Elements.{All-push}
use Rattle.ps_config.specs.declared.parts.GroupPart.{GroupPart}
use Rattle.writer_group.proofs.SetupLaws.{zip-more}
use Rattle.device.specs.declared.side.Side.{Side}
use Rattle.device.specs.Sides.{IsOpeningSide, IsSide}
use Rattle.device.proofs.making.sides_of.Goals as goal

pub loop-g-preserved : goal.loop-g-preserved
loop-g-preserved c =
    let config = c.args.config.now in
    let g = c.loop-g.g in
    let all = range_with_len 0 (length config.group) in
    let many = length-range_with_len 0 (length config.group) in
    let end = ap (λ (l : List GroupPart). length l) c.as_slice-g-end.ensures in
    let within : g < length config.group = omega (arith, end) in
    let at : get_or all g g ≡ g = get_or-range_with_len 0 (length config.group) g g within ∙ omega arith in
    record {
      sides = subst (λ (l : List Side). All (IsSide config) l) (sym c.in_ok-push.ensures.items)
          (All-push (IsSide config) c.loop-g.sides.items c.in_ok-side.side c.loop-g.invariant.sides c.in_ok-side.ensures.side);
      opening = subst (AllZip (IsOpeningSide config) (take (g + 1) all)) (sym c.in_ok-push.ensures.items)
          (zip-more (IsOpeningSide config) all c.loop-g.sides.items g g c.in_ok-side.side (omega (arith, within, many)) (sym at) c.loop-g.invariant.opening c.in_ok-side.ensures.opening);
      count = ap length c.in_ok-push.ensures.items ∙ length-append c.loop-g.sides.items (c.in_ok-side.side ∷ []) ∙ ap (λ n. n + 1) c.loop-g.invariant.count;
    }

pub returns-clause-opening : goal.returns-clause-opening
returns-clause-opening c =
    let config = c.args.config.now in
    let all = range_with_len 0 (length config.group) in
    let many = length-range_with_len 0 (length config.group) in
    let end = ap (λ (l : List GroupPart). length l) c.as_slice-g-end.ensures in
    subst (λ (l : List ℕ). AllZip (IsOpeningSide config) l c.loop-g.sides.items) (take_all c.loop-g.g all (omega (arith, many, end))) c.loop-g.invariant.opening
