use Rattle.std.proofs.Common.{◌≡◌, ◌<◌, ◌∙◌, ℕ, List, length, get_or, sym, ap, subst, arith}
use Rattle.ps_config.specs.declared.parts.GroupPart.{GroupPart}
use Rattle.ps_config.specs.declared.parts.WriterPart.{WriterPart}
use Rattle.writer_group.specs.Parts.{group_at}
use Rattle.writer_group.specs.Payloads.{no_writer, writer_at}
use Rattle.gateway_core.specs.Lived.{session_steps}
use Rattle.gateway_core.specs.Holding.{sources_of}
use Rattle.session_parts.proofs.Few.{few-writers}
use Rattle.cmd_relay.specs.Texts.{kept_by_index}
use Rattle.cmd_relay.proofs.Matched.{all-more, group-read, read-at}
use Rattle.cmd_relay.specs.Seen.{LogIsSeen}
use Rattle.cmd_relay.proofs.numbers.see_group.Goals as goal

pub overflow_cast-w : goal.overflow_cast-w
overflow_cast-w c =
    let second = c.args.second.now in
    let item = c.index-groups-g.result in
    let same : group_at second c.args.g ≡ item = group-read second c.args.g item c.requires.within (c.index-groups-g.is ∙ ap (λ (l : List GroupPart). get_or l c.args.g item) c.as_slice-groups.ensures) in
    let few = few-writers second c.args.g c.requires.gateway.good c.requires.within in
    let own = ap (λ (x : GroupPart). length x.writer) (same ∙ c.index-groups-g.is) in
    omega (arith, few, own, ap (λ (l : List WriterPart). length l) c.as_slice-writers.ensures, c.loop-w-test.true)

pub loop-w-preserved : goal.loop-w-preserved
loop-w-preserved c = λ lived stands.
    let second = c.args.second.now in
    let g = c.args.g in
    let w = c.loop-w.w in
    let from = sources_of c.args.gateway.now in
    let group = c.index-groups-g.result in
    let item = c.index-writers-w.result in
    let same : group_at second g ≡ group = group-read second g group c.requires.within (c.index-groups-g.is ∙ ap (λ (l : List GroupPart). get_or l g group) c.as_slice-groups.ensures) in
    let listed = c.as_slice-writers.ensures ∙ ap (λ (x : GroupPart). x.writer) (sym c.index-groups-g.is ∙ sym same) in
    let low = subst (λ (l : List WriterPart). w < length l) listed c.loop-w-test.true in
    let at : writer_at (group_at second g) w ≡ item = read-at (group_at second g).writer w item no_writer low (c.index-writers-w.is ∙ ap (λ (l : List WriterPart). get_or l w item) listed) in
    let own : get_or c.as_slice-writers.result.now w item ≡ writer_at (group_at second g) w = sym c.index-writers-w.is ∙ sym at in
    all-more (λ (v : ℕ). LogIsSeen second (session_steps from lived) (kept_by_index from lived (writer_at (group_at second g) v).dataset) g v) w (c.loop-w.invariant lived stands)
    (subst (λ (x : WriterPart). LogIsSeen second (session_steps from lived) (kept_by_index from lived x.dataset) g w) own (c.see_writer.ensures second lived stands))

pub returns : goal.returns
returns c = λ lived stands w within.
    let second = c.args.second.now in
    let g = c.args.g in
    let group = c.index-groups-g.result in
    let same : group_at second g ≡ group = group-read second g group c.requires.within (c.index-groups-g.is ∙ ap (λ (l : List GroupPart). get_or l g group) c.as_slice-groups.ensures) in
    let listed : c.as_slice-writers.result.now ≡ (group_at second g).writer = c.as_slice-writers.ensures ∙ ap (λ (x : GroupPart). x.writer) (sym c.index-groups-g.is ∙ sym same) in
    let count = ap (λ (l : List WriterPart). length l) listed in
    let low : w < c.loop-w.w = omega (arith, count, within, c.loop-w-test.false) in
    c.loop-w.invariant lived stands w low
