use Rattle.std.proofs.Common.{◌≡◌, List, [], length, sym, subst, ◌∙◌, arith}
use Rattle.std.specs.Prelude.{All}
use Rattle.std.proofs.lemmas.List.{map-id}
use Rattle.std.proofs.lemmas.List.Elements.{All-nil, All-push}
use Rattle.version_cell.specs.Known.{Known}
use Rattle.script_player.specs.declared.hand.Hand.{Hand}
use Rattle.script_player.proofs.Leaving.{moved-all, moved-none, moved-on}
use Rattle.script_player.proofs.player.hands_of.Goals as goal

pub loop-own-init : goal.loop-own-init
loop-own-init c =
    let none = c.in_ok-hands.ensures.items in
    let passes = c.args.passes.items in
    let NoVersions : Hand → Type 0 = λ h. h.versions.items ≡ [] in
    let NoLooks : Hand → Type 0 = λ h. h.looks.items ≡ [] in
    record {
      passes = moved-none (λ (h : Hand). h.passes) (λ (own : List Known). own) c.in_ok-hands.hands.items c.into_iter-own-iterator.result.rest.items passes none
          c.into_iter-own-iterator.ensures.into_iter_gives.0 ∙ map-id passes;
      versions = subst (All NoVersions) (sym none) (All-nil NoVersions);
      looks = subst (All NoLooks) (sym none) (All-nil NoLooks);
    }

pub loop-own-preserved : goal.loop-own-preserved
loop-own-preserved c =
    let i = c.loop-own.invariant in
    let hands = c.loop-own.hands.items in
    let more = c.push.new.self.items in
    let hand = c.new.result in
    let pushed = c.in_ok-push.ensures.items in
    let NoVersions : Hand → Type 0 = λ h. h.versions.items ≡ [] in
    let NoLooks : Hand → Type 0 = λ h. h.looks.items ≡ [] in
    record {
      passes = moved-on (λ (h : Hand). h.passes) (λ (own : List Known). own) hands more hand c.loop-own.own-iterator.rest.items _ c.in-Some.own c.args.passes.items pushed
          c.in-Some.ensures.steps.0 c.new.ensures.passes i.passes;
      versions = subst (All NoVersions) (sym pushed) (All-push NoVersions hands hand i.versions c.new.ensures.versions);
      looks = subst (All NoLooks) (sym pushed) (All-push NoLooks hands hand i.looks c.new.ensures.looks);
    }

pub returns-clause-passes : goal.returns-clause-passes
returns-clause-passes c =
    let rest = c.loop-own.own-iterator.rest in
    let none : length rest.items ≡ 0 = let n = c.in-None.ensures.steps.0 in let o = rest.ok.0 in omega (arith, n, o) in
    moved-all (λ (h : Hand). h.passes) (λ (own : List Known). own) c.loop-own.hands.items rest.items c.args.passes.items none c.loop-own.invariant.passes
