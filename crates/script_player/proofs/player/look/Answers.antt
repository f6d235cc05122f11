use Rattle.version_cell.specs.Sets.{pass_at}
use Rattle.version_cell.proofs.Retries.{sees_on}
use Rattle.script_player.proofs.Leaving.{one-more}
use Rattle.script_player.proofs.Looking.{counts-more}
use Rattle.script_player.proofs.player.look.Goals as goal

pub loop-look-preserved : goal.loop-look-preserved
loop-look-preserved g c =
    let i = c.loop-look.invariant in
    let first = pass_at c.args.watches.now c.args.reader in
    let last = pass_at c.loop-look.watches c.args.reader in
    let new = pass_at c.look.new.passes c.args.reader in
    let counts = c.loop-look.counts.items in
    let pushed = c.in_ok-push.ensures.items in
    record {
      own = c.look.ensures.own;
      more = sees_on first last new i.more c.look.ensures.seen;
      count = one-more counts c.push.new.self.items c.look.result pushed i.count;
      counted = counts-more first last new counts c.push.new.self.items c.look.result i.more c.look.ensures.seen c.look.ensures.count pushed i.counted;
    }
