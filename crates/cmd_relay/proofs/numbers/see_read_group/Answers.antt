use Rattle.std.proofs.Common.{◌≡◌, ◌<◌, ◌∙◌, ℕ, List, length, get_or, sym, ap, subst, arith}
use Rattle.ps_config.specs.declared.parts.ReadGroupPart.{ReadGroupPart}
use Rattle.ps_config.specs.declared.parts.ReaderPart.{ReaderPart}
use Rattle.reader_group.specs.Settings.{group_at as read_group_at, no_group}
use Rattle.gateway_core.specs.Lived.{session_steps}
use Rattle.gateway_core.specs.Holding.{sources_of}
use Rattle.pubsub_engine.proofs.Places.{few-readers, first-most}
use Rattle.cmd_relay.proofs.Matched.{all-more, read-at}
use Rattle.cmd_relay.specs.Seen.{ReaderIsSeen}
use Rattle.cmd_relay.proofs.Seen.{reader-seen}
use Rattle.cmd_relay.proofs.numbers.see_read_group.Goals as goal

pub overflow_cast-i : goal.overflow_cast-i
overflow_cast-i c =
    let second = c.args.second.now in
    let r = c.args.r in
    let group = c.index-groups-r.result in
    let same : read_group_at second r ≡ group = read-at second.readgroup r group no_group c.requires.within (c.index-groups-r.is ∙ ap (λ (l : List ReadGroupPart). get_or l r group) c.as_slice-groups.ensures) in
    let listed : c.as_slice-readers.result.now ≡ (read_group_at second r).reader = c.as_slice-readers.ensures ∙ ap (λ (x : ReadGroupPart). x.reader) (sym c.index-groups-r.is ∙ sym same) in
    let there = subst (λ (l : List ReaderPart). c.loop-i.i < length l) listed c.loop-i-test.true in
    omega (arith, few-readers second c.requires.gateway.good, first-most second r c.requires.within, there)

pub loop-i-preserved : goal.loop-i-preserved
loop-i-preserved c = λ lived stands.
    let second = c.args.second.now in
    let r = c.args.r in
    let steps = session_steps (sources_of c.args.gateway.now) lived in
    all-more (λ (k : ℕ). ReaderIsSeen second steps r k) c.loop-i.i (c.loop-i.invariant lived stands)
    (reader-seen second c.args.gateway.now.config.now steps r c.loop-i.i c.reader.result.now c.requires.gateway.config (c.reader.ensures.kept second lived stands) c.reader.ensures.made
    c.see_reader.ensures.number c.see_reader.ensures.row)
