use Rattle.app_threads.proofs.Working.{item_at, room_item}
use Rattle.app_threads.proofs.opening.fresh.Goals as goal

pub loop-k-preserved : goal.loop-k-preserved
loop-k-preserved c =
    room_item c.args.list.now c.loop-k.k _ _ _ c.loop-k-test.true (item_at c.args.list.now c.loop-k.k _ c.loop-k-test.true) c.in_ok-add_room.ensures c.loop-k.invariant
