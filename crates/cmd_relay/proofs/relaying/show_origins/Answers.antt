use Rattle.std.proofs.Common.{◌<◌, ◌∙◌, length, length-set, arith}
use Rattle.cmd_relay.proofs.Following.{origins-more}
use Rattle.cmd_relay.proofs.relaying.show_origins.Goals as goal

pub loop-reader-preserved : goal.loop-reader-preserved
loop-reader-preserved c =
    let inv = c.loop-reader.invariant in
    let low : c.loop-reader.reader < length c.loop-reader.origins.items = (let e = inv.count in let t = c.loop-reader-test.true in omega (arith, t, e)) in
    record {
      count = length-set c.loop-reader.origins.items c.loop-reader.reader c.origin.result ∙ inv.count;
      origins = origins-more c.args.player.now c.loop-reader.origins.items c.loop-reader.reader c.origin.result low inv.origins c.origin.ensures.origin;
      sound = λ some. c.origin.ensures.sound;
    }

pub returns-clause-shows : goal.returns-clause-shows
returns-clause-shows c =
    let inv = c.loop-reader.invariant in
    record {
      origins_are = λ k lt. inv.origins k (let e = inv.count in omega (arith, lt, e, c.loop-reader-test.false));
      sound = λ low. inv.sound (let e = inv.count in omega (arith, low, e, c.loop-reader-test.false));
    }
