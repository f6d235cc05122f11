use Rattle.std.proofs.Common.{◌≡◌, ◌∷◌, [], ◌<◌, ◌^◌, length, vec_len, sym, ap, subst, arith, length-append, List, Vec}
use Rattle.std.specs.Prelude.{All}
use Rattle.std.specs.declared.alloc.Global.{Global}
use Rattle.std.proofs.lemmas.List.Elements.{All-push}
use Rattle.app_threads.specs.declared.item.Item.{Item}
use Rattle.test_threads.specs.Lists.{AreThreeItems}
use Rattle.test_threads.proofs.crews.lists.Goals as goal

pub loop-k-preserved : goal.loop-k-preserved
loop-k-preserved c =
    let i = c.loop-k.invariant in
    let old = c.loop-k.lists.items in
    let list = c.in_ok-list.list in
    let pushed = c.in_ok-push.ensures.items in
    let IsShort = λ (l : Vec Item Global). vec_len l < 2 ^ 32 in
    let Three = λ (l : Vec Item Global). AreThreeItems c.args.first.now c.args.second.now l.items in
    record {
      count = let n = length-append old (list ∷ []) in let m = ap length pushed in omega (arith, n, m, i.count);
      short = subst (λ (ls : List (Vec Item Global)). All IsShort ls) (sym pushed) (All-push IsShort old list i.short c.in_ok-list.ensures.short);
      each = subst (λ (ls : List (Vec Item Global)). All Three ls) (sym pushed) (All-push Three old list i.each c.in_ok-list.ensures.items);
    }
