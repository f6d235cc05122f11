use Rattle.std.proofs.Common.{◌≡◌, ◌+◌, ◌<◌, suc, length, refl, sym, ap, subst, ◌∙◌, arith, Some}
use Rattle.message_guard.specs.Senders.{SenderState, IsSender, advanced}
use Rattle.writer_group.specs.Holding.{cargo_in, envelope_in}
use Rattle.writer_group.specs.Posting.{secured_load}
use Rattle.writer_group.specs.Sealing.{advanced_by}
use Rattle.writer_group.proofs.Joining.{advanced-sender, advanced-used}
use Rattle.writer_group.proofs.Posts.{header-at, next-room, post-one, posted-all, posted-count, posted-next, posted-none, secured-at}
use Rattle.writer_group.proofs.posting.post_secured.Goals as goal

pub loop-index-init : goal.loop-index-init
loop-index-init c = record {
  so_far = posted-none (envelope_in c.args.parts.now) (Some c.args.sender.now) (cargo_in c.args.cargo.now) c.args.loads.now c.args.free.now c.args.ranges.now.items c.requires.empty;
  capacity = omega arith;
  sender_is = refl;
}

pub secured_datagram-end-requires-clause-post : goal.secured_datagram-end-requires-clause-post
secured_datagram-end-requires-clause-post c =
    post-one (envelope_in c.args.parts.now) c.args.cargo.now c.args.loads.now c.loop-index.index c.load_at-load.result c.requires.post (omega arith) (c.load_at-load.ensures c.load_at-load.result)

pub secured_datagram-end-requires-clause-numbers : goal.secured_datagram-end-requires-clause-numbers
secured_datagram-end-requires-clause-numbers c =
    let used = ap (λ (s : SenderState). s.used) c.loop-index.invariant.sender_is in
    omega (arith, used, advanced-used c.args.mode c.args.sender.now c.loop-index.index, c.requires.numbers)

pub secured_datagram-end-requires-clause-sender : goal.secured_datagram-end-requires-clause-sender
secured_datagram-end-requires-clause-sender c =
    let room : c.loop-index.index < length c.args.loads.now = omega arith in
    subst IsSender (sym c.loop-index.invariant.sender_is)
    (advanced-sender c.args.mode c.args.sender.now c.loop-index.index c.requires.sender (omega (arith, room, c.requires.numbers)))

pub secured_datagram-end-requires-clause-room : goal.secured_datagram-end-requires-clause-room
secured_datagram-end-requires-clause-room c =
    let load = c.load_at-load.result in
    let text = secured-at (envelope_in c.args.parts.now) c.args.mode c.args.sender.now c.loop-index.sender c.loop-index.index (cargo_in c.args.cargo.now) load c.requires.mode c.loop-index.invariant.sender_is in
    omega (
      arith,
      ap length text,
      next-room (envelope_in c.args.parts.now) (Some c.args.sender.now) (cargo_in c.args.cargo.now) c.args.loads.now c.loop-index.index c.args.free.now c.loop-index.free c.loop-index.start c.loop-index.ranges.items
          load c.loop-index.invariant.so_far (omega arith) (c.load_at-load.ensures load) c.requires.room,
      c.loop-index.auto.free,
    )

pub push_range-requires : goal.push_range-requires
push_range-requires c =
    omega (
      arith,
      posted-count (envelope_in c.args.parts.now) (Some c.args.sender.now) (cargo_in c.args.cargo.now) c.args.loads.now c.loop-index.index c.args.free.now c.loop-index.free c.loop-index.start c.loop-index.ranges.items
          c.loop-index.invariant.so_far (omega arith),
      c.loop-index.ranges.ok.0,
      c.loop-index.invariant.capacity,
      c.requires.left,
    )

pub loop-index-preserved : goal.loop-index-preserved
loop-index-preserved c =
    let load = c.load_at-load.result in
    let cargo = cargo_in c.args.cargo.now in
    let next : suc c.loop-index.index ≡ c.loop-index.index + 1 = omega arith in
    record {
      so_far = posted-next (envelope_in c.args.parts.now) (Some c.args.sender.now) cargo c.args.loads.now c.loop-index.index c.args.free.now c.loop-index.free c.secured_datagram-end.new.free c.loop-index.start c.secured_datagram-end.result c.loop-index.ranges.items c.push_range.new.ranges.items
          load (secured_load (envelope_in c.args.parts.now) (advanced c.args.mode c.loop-index.sender) c.loop-index.index cargo load)
          c.loop-index.invariant.so_far (omega arith) (c.load_at-load.ensures load)
          (secured-at (envelope_in c.args.parts.now) c.args.mode c.args.sender.now c.loop-index.sender c.loop-index.index cargo load c.requires.mode c.loop-index.invariant.sender_is)
          c.secured_datagram-end.ensures.laid c.secured_datagram-end.ensures.end c.push_range.ensures.pushed
          (header-at (envelope_in c.args.parts.now) c.args.mode c.args.sender.now c.loop-index.sender c.loop-index.index cargo load c.requires.mode c.loop-index.invariant.sender_is c.secured_datagram-end.ensures.header);
      capacity = omega (arith, c.loop-index.invariant.capacity, c.push_range.ensures.capacity);
      sender_is = c.secured_datagram-end.ensures.sender ∙ ap (advanced c.args.mode) c.loop-index.invariant.sender_is ∙ ap (advanced_by c.args.mode c.args.sender.now) next;
    }

pub returns-clause-laid : goal.returns-clause-laid
returns-clause-laid c =
    (posted-all (envelope_in c.args.parts.now) (Some c.args.sender.now) (cargo_in c.args.cargo.now) c.args.loads.now c.loop-index.index c.args.free.now c.loop-index.free c.loop-index.start c.loop-index.ranges.items (omega arith) c.loop-index.invariant.so_far).laid_is

pub returns-clause-ranges : goal.returns-clause-ranges
returns-clause-ranges c =
    (posted-all (envelope_in c.args.parts.now) (Some c.args.sender.now) (cargo_in c.args.cargo.now) c.args.loads.now c.loop-index.index c.args.free.now c.loop-index.free c.loop-index.start c.loop-index.ranges.items (omega arith) c.loop-index.invariant.so_far).ranges_are

pub returns-clause-sender : goal.returns-clause-sender
returns-clause-sender c =
    let all : c.loop-index.index ≡ length c.args.loads.now = omega arith in
    c.loop-index.invariant.sender_is ∙ ap (advanced_by c.args.mode c.args.sender.now) all

pub returns-clause-written : goal.returns-clause-written
returns-clause-written c =
    (posted-all (envelope_in c.args.parts.now) (Some c.args.sender.now) (cargo_in c.args.cargo.now) c.args.loads.now c.loop-index.index c.args.free.now c.loop-index.free c.loop-index.start c.loop-index.ranges.items (omega arith) c.loop-index.invariant.so_far).written
