use Rattle.std.proofs.Common.{refl, arith}
use Rattle.std.specs.Vec.{with_item}
use Rattle.std.proofs.lemmas.Result.{on_ok_weaker}
use Rattle.script_player.proofs.Looking.{AreLooks, player-watched, player-watches, targets-count}
use Rattle.script_player.proofs.player.Player.watch.Goals as goal

pub look-requires-clause-reader : goal.look-requires-clause-reader
look-requires-clause-reader g c =
    let n = targets-count c.args.self.now.session c.args.self.now c.requires.player.targets in
    let lt = c.requires.may.there in
    omega (arith, n, lt)

pub index_mut-requires : goal.index_mut-requires
index_mut-requires g c = let n = c.requires.player.eight in omega (arith, c.requires.may.bound, c.from.ensures, n, c.args.self.now.hands.ok.0)

pub returns : goal.returns
returns g c =
    let player = c.args.self.now in
    let hand = c.index_mut.result.now in
    let level = c.level.new.self in
    let new = c.level-2.new.self in
    let first = c.level.new.looks in
    let looked = c.look.new.watches in
    let last = c.level-2.new.looks in
    let counts = c.in_ok-counts.counts.items in
    let after = c.looked.new.self in
    let hands = with_item player.hands c.from.result after in
    let one = c.level.ensures in
    let two = c.level-2.ensures in
    let l : AreLooks c.args.reader c.args.times player level new first looked last counts = record {
      levels = one.level;
      kept = one.same;
      own = c.look.ensures.own;
      more = c.look.ensures.more;
      count = c.in_ok-counts.ensures.count;
      counted = c.in_ok-counts.ensures.counted;
      levels_again = two.level;
      changes = one.rest;
      changes_again = two.rest;
      stood = one.stands;
      stood_again = two.stands;
      session = two.session;
      targets = two.targets;
      own_last = two.own;
    } in
    record {
      player = on_ok_weaker c.looked.result (λ looks. player-watched player c.requires.player c.args.thread c.from.result c.args.reader c.args.times c.requires.may hand c.from.ensures
          c.index_mut.ensures.value level new first looked last counts l after hands refl looks c.looked.ensures.rest) c.looked.ensures.looks;
      watches = on_ok_weaker c.looked.result (λ looks. player-watches player c.requires.player c.args.thread c.from.result c.args.reader c.args.times c.requires.may hand c.from.ensures
          c.index_mut.ensures.value level new first looked last counts l after hands refl looks c.looked.ensures.rest) c.looked.ensures.looks;
    }
