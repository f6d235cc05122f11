use Rattle.std.proofs.Common.{◌≡◌, ℕ, List, length, refl, ap, sym, subst, ◌∙◌, arith}
use Rattle.std.specs.List.{range_with_len}
use Rattle.version_cell.specs.Sets.{ArePassesOf}
use Rattle.app_threads.specs.declared.done.Done.{Done}
use Rattle.script_player.specs.declared.hand.Hand.{Hand}
use Rattle.script_player.proofs.Leaving.{moved-all, moved-on, numbered-more, one-more}
use Rattle.script_player.proofs.player.dones_of.Goals as goal

pub overflow_cast-thread : goal.overflow_cast-thread
overflow_cast-thread c =
    let n = c.loop-hand.invariant.count in
    let few = c.requires.few in
    let is = c.len.ensures in
    let ok = c.loop-hand.dones.ok.0 in
    omega (arith, n, few, is, ok)

pub done-requires : goal.done-requires
done-requires c = record { own = subst (ArePassesOf c.args.targets.now.cells) (sym c.loop-hand.invariant.watches) c.requires.own }

pub loop-hand-preserved : goal.loop-hand-preserved
loop-hand-preserved c =
    let i = c.loop-hand.invariant in
    let dones = c.loop-hand.dones.items in
    let more = c.push.new.self.items in
    let left = c.loop-hand.hand-iterator.rest.items in
    let rest = c.next.new.self.rest.items in
    let hand = c.in-Some.hand in
    let pushed = c.in_ok-push.ensures.items in
    let taken = c.in-Some.ensures.steps.0 in
    let told = c.in_ok-done.ensures in
    let done = c.in_ok-done.field-0 in
    record {
      watches = c.done.ensures.same ∙ i.watches;
      count = (let a = one-more dones more done pushed refl in let b = ap (λ (l : List Hand). length l) taken in let was = i.count in omega (arith, a, b, was));
      lists = numbered-more (λ (d : Done). d.list) dones more done pushed (told.list ∙ c.len-thread.ensures ∙ c.loop-hand.dones.ok.0) i.lists;
      versions = moved-on (λ (d : Done). d.versions) (λ (h : Hand). h.versions.items) dones more done left rest hand _ pushed taken told.versions i.versions;
      looks = moved-on (λ (d : Done). d.looks) (λ (h : Hand). h.looks.items) dones more done left rest hand _ pushed taken told.looks i.looks;
    }

pub returns : goal.returns
returns c =
    let i = c.loop-hand.invariant in
    let left = c.loop-hand.hand-iterator.rest in
    let none : length left.items ≡ 0 = let n = c.in-None.ensures.steps.0 in let o = left.ok.0 in omega (arith, n, o) in
    let n = i.count in
    let all : length c.loop-hand.dones.items ≡ length c.args.hands.items = omega (arith, n, none) in
    record {
      dones = record {
        lists = i.lists ∙ ap (λ (k : ℕ). range_with_len 0 k) all;
        versions = moved-all (λ (d : Done). d.versions) (λ (h : Hand). h.versions.items) c.loop-hand.dones.items left.items _ none i.versions;
        looks = moved-all (λ (d : Done). d.looks) (λ (h : Hand). h.looks.items) c.loop-hand.dones.items left.items _ none i.looks;
      };
    }
