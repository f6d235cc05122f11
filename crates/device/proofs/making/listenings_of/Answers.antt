use Rattle.std.proofs.Common.{◌≡◌, ℕ, ◌+◌, ◌<◌, ◌∷◌, [], List, get_or, length, length-append, take, sym, subst, ap, arith, ◌∙◌}
use Rattle.std.specs.Prelude.{All}
use Rattle.std.specs.List.{AllZip, range_with_len}
use Rattle.std.proofs.lemmas.List.{take_all}
use Rattle.std.proofs.lemmas.List.FromFn.{get_or-range_with_len, length-range_with_len}
use Rattle.std.proofs.lemmas.List.Elements.{All-push}
use Rattle.ps_config.specs.declared.parts.ReadGroupPart.{ReadGroupPart}
use Rattle.writer_group.proofs.SetupLaws.{zip-more}
use Rattle.device.specs.declared.listening.Listening.{Listening}
use Rattle.device.specs.Sides.{IsListening, IsOpeningListening}
use Rattle.device.proofs.making.listenings_of.Goals as goal

pub loop-g-preserved : goal.loop-g-preserved
loop-g-preserved c =
    let config = c.args.config.now in
    let g = c.loop-g.g in
    let all = range_with_len 0 (length config.readgroup) in
    let many = length-range_with_len 0 (length config.readgroup) in
    let end = ap (λ (l : List ReadGroupPart). length l) c.as_slice-g-end.ensures in
    let within : g < length config.readgroup = omega (arith, end) in
    let at : get_or all g g ≡ g = get_or-range_with_len 0 (length config.readgroup) g g within ∙ omega arith in
    record {
      groups = subst (λ (l : List Listening). All (IsListening config) l) (sym c.in_ok-push.ensures.items)
          (All-push (IsListening config) c.loop-g.groups.items c.in_ok-listening.listening c.loop-g.invariant.groups c.in_ok-listening.ensures.listening);
      opening = subst (AllZip (IsOpeningListening config) (take (g + 1) all)) (sym c.in_ok-push.ensures.items)
          (zip-more (IsOpeningListening config) all c.loop-g.groups.items g g c.in_ok-listening.listening (omega (arith, within, many)) (sym at) c.loop-g.invariant.opening c.in_ok-listening.ensures.opening);
      count = ap length c.in_ok-push.ensures.items ∙ length-append c.loop-g.groups.items (c.in_ok-listening.listening ∷ []) ∙ ap (λ n. n + 1) c.loop-g.invariant.count;
    }

pub returns-clause-opening : goal.returns-clause-opening
returns-clause-opening c =
    let config = c.args.config.now in
    let all = range_with_len 0 (length config.readgroup) in
    let many = length-range_with_len 0 (length config.readgroup) in
    let end = ap (λ (l : List ReadGroupPart). length l) c.as_slice-g-end.ensures in
    subst (λ (l : List ℕ). AllZip (IsOpeningListening config) l c.loop-g.groups.items) (take_all c.loop-g.g all (omega (arith, many, end))) c.loop-g.invariant.opening
