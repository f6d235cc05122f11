use Rattle.std.proofs.Common.{refl, arith, None}
use Rattle.writer_group.specs.Holding.{cargo_in, envelope_in, payload_in}
use Rattle.writer_group.specs.Sealing.{datagram_at}
use Rattle.writer_group.proofs.Posts.{next-room, post-one, posted-all, posted-count, posted-next, posted-none}
use Rattle.writer_group.proofs.posting.post_open.Goals as goal

pub loop-index-init : goal.loop-index-init
loop-index-init c = record {
  so_far = posted-none (envelope_in c.args.parts.now) None (cargo_in c.args.cargo.now) c.args.loads.now c.args.free.now c.args.ranges.now.items c.requires.empty;
  capacity = omega arith;
}

pub open_datagram-end-requires-clause-post : goal.open_datagram-end-requires-clause-post
open_datagram-end-requires-clause-post c =
    post-one (envelope_in c.args.parts.now) c.args.cargo.now c.args.loads.now c.loop-index.index c.load_at-load.result c.requires.post (omega arith) (c.load_at-load.ensures c.load_at-load.result)

pub open_datagram-end-requires-clause-room : goal.open_datagram-end-requires-clause-room
open_datagram-end-requires-clause-room c =
    omega (
      arith,
      next-room (envelope_in c.args.parts.now) None (cargo_in c.args.cargo.now) c.args.loads.now c.loop-index.index c.args.free.now c.loop-index.free c.loop-index.start c.loop-index.ranges.items
          c.load_at-load.result c.loop-index.invariant.so_far (omega arith) (c.load_at-load.ensures c.load_at-load.result) c.requires.room,
      c.loop-index.auto.free,
    )

pub push_range-requires : goal.push_range-requires
push_range-requires c =
    omega (
      arith,
      posted-count (envelope_in c.args.parts.now) None (cargo_in c.args.cargo.now) c.args.loads.now c.loop-index.index c.args.free.now c.loop-index.free c.loop-index.start c.loop-index.ranges.items
          c.loop-index.invariant.so_far (omega arith),
      c.loop-index.ranges.ok.0,
      c.loop-index.invariant.capacity,
      c.requires.left,
    )

pub loop-index-preserved : goal.loop-index-preserved
loop-index-preserved c = record {
  so_far = posted-next (envelope_in c.args.parts.now) None (cargo_in c.args.cargo.now) c.args.loads.now c.loop-index.index c.args.free.now c.loop-index.free c.open_datagram-end.new.free c.loop-index.start c.open_datagram-end.result c.loop-index.ranges.items c.push_range.new.ranges.items
      c.load_at-load.result (datagram_at (envelope_in c.args.parts.now) None c.loop-index.index (payload_in (cargo_in c.args.cargo.now) c.load_at-load.result))
      c.loop-index.invariant.so_far (omega arith) (c.load_at-load.ensures c.load_at-load.result) refl c.open_datagram-end.ensures.laid c.open_datagram-end.ensures.end c.push_range.ensures.pushed c.open_datagram-end.ensures.header;
  capacity = omega (arith, c.loop-index.invariant.capacity, c.push_range.ensures.capacity);
}

pub returns-clause-laid : goal.returns-clause-laid
returns-clause-laid c =
    (posted-all (envelope_in c.args.parts.now) None (cargo_in c.args.cargo.now) c.args.loads.now c.loop-index.index c.args.free.now c.loop-index.free c.loop-index.start c.loop-index.ranges.items (omega arith) c.loop-index.invariant.so_far).laid_is

pub returns-clause-ranges : goal.returns-clause-ranges
returns-clause-ranges c =
    (posted-all (envelope_in c.args.parts.now) None (cargo_in c.args.cargo.now) c.args.loads.now c.loop-index.index c.args.free.now c.loop-index.free c.loop-index.start c.loop-index.ranges.items (omega arith) c.loop-index.invariant.so_far).ranges_are

pub returns-clause-written : goal.returns-clause-written
returns-clause-written c =
    (posted-all (envelope_in c.args.parts.now) None (cargo_in c.args.cargo.now) c.args.loads.now c.loop-index.index c.args.free.now c.loop-index.free c.loop-index.start c.loop-index.ranges.items (omega arith) c.loop-index.invariant.so_far).written
