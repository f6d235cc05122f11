use Rattle.std.proofs.Common.{◌≡◌, ℕ, suc, ◌+◌, ◌≤◌, List, Some, length, map, sym, subst, arith}
use Rattle.uadp_header.specs.Headers.{ids_of}
use Rattle.payload_layout.specs.Payloads.{frame_at}
use Rattle.json_frames.specs.declared.message.JsonPart.{JsonPart}
use Rattle.json_tap.specs.Transcoding.{part_of, all_of}
use Rattle.json_tap.specs.Parts.{ArePartsIf}
use Rattle.json_tap.proofs.Listed.{SoFar, messages_at, message_here, no_further, so_far-more, so_far-missing, so_far-all}
use Rattle.json_tap.proofs.message.parts_at.Goals as goal

pub returns-in-None : goal.returns-in-None
returns-in-None c =
    let ids = c.args.ids.now in
    let payload = c.args.payload.now in
    let places = c.args.places.now in
    let i = c.loop-index.index in
    let here = message_here ids payload places i _ c.id_at.result c.bytes_at.result.now c.requires.count c.loop-index-test.true c.id_at.ensures c.bytes_at.ensures in
    so_far-missing c.args.config.now (messages_at ids payload places) i (c.id_at.result, c.bytes_at.result.now) c.loop-index.parts.items here c.in-None.ensures c.loop-index.invariant

pub loop-index-preserved : goal.loop-index-preserved
loop-index-preserved c =
    let config = c.args.config.now in
    let ids = c.args.ids.now in
    let payload = c.args.payload.now in
    let places = c.args.places.now in
    let i = c.loop-index.index in
    let messages = messages_at ids payload places in
    let here = message_here ids payload places i _ c.id_at.result c.bytes_at.result.now c.requires.count c.loop-index-test.true c.id_at.ensures c.bytes_at.ensures in
    let next : suc i ≡ i + 1 = omega arith in
    subst (λ (n : ℕ). SoFar config messages n c.push.new.self.items) next
    (subst (λ (parts : List JsonPart). SoFar config messages (suc i) parts) (sym c.in_ok-push-in-Some.ensures.items)
    (so_far-more config messages i (c.id_at.result, c.bytes_at.result.now) c.loop-index.parts.items c.in-Some.part here c.in-Some.ensures.0 c.in-Some.ensures.1 c.loop-index.invariant))

pub returns : goal.returns
returns c =
    let config = c.args.config.now in
    let messages = messages_at c.args.ids.now c.args.payload.now c.args.places.now in
    let past : length c.args.places.now ≤ c.loop-index.index = omega (arith, c.loop-index-test.false) in
    let ends = no_further (frame_at c.args.payload.now) (ids_of c.args.ids.now) c.args.places.now c.loop-index.index past in
    subst (λ (parts : List JsonPart). ArePartsIf config (Some parts) (all_of (map (part_of config) messages))) (sym c.new.ensures)
    (so_far-all config messages c.loop-index.index c.loop-index.parts.items ends c.loop-index.invariant)
