use Rattle.std.proofs.Common.{◌<◌, List, ℕ, [], ◌∷◌, length, take, sym, subst, arith}
use Rattle.version_cell.specs.Sets.{pass_at}
use Rattle.app_threads.specs.Duties.{Watched}
use Rattle.app_threads.proofs.Working.{changes_on, take_set, watched_on, watched_one}
use Rattle.app_threads.proofs.hand.look_each.Goals as goal

pub loop-k-preserved : goal.loop-k-preserved
loop-k-preserved g c =
    let i = c.loop-k.invariant in
    let told = c.look.ensures in
    let k = c.loop-k.k in
    let old = pass_at c.args.watches.now c.args.reader in
    let now = pass_at c.loop-k.watches c.args.reader in
    let new = pass_at c.look.new.passes c.args.reader in
    let within : k < length c.loop-k.counts = let t = c.loop-k-test.true in let n = c.loop-k.auto.counts in omega (arith, t, n) in
    record {
      own = told.own;
      others = changes_on c.args.watches.now c.loop-k.watches c.look.new.passes c.args.reader i.others told.others;
      watched = subst (λ (l : List ℕ). Watched old new l) (sym (take_set c.loop-k.counts k c.look.result within))
          (watched_on old now new (take k c.loop-k.counts) (c.look.result ∷ []) i.watched (watched_one now new c.look.result told.seen told.count));
    }
