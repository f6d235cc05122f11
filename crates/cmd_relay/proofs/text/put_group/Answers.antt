use Rattle.std.proofs.Common.{◌≡◌, ◌<◌, ◌∙◌, ℕ, List, length, get_or, sym, ap, subst, arith}
use Rattle.ps_config.specs.declared.parts.GroupPart.{GroupPart}
use Rattle.ps_config.specs.declared.parts.WriterPart.{WriterPart}
use Rattle.writer_group.specs.Parts.{group_at}
use Rattle.writer_group.specs.Payloads.{no_writer, writer_at}
use Rattle.session_model.specs.Deeds.{log_at}
use Rattle.gateway_core.specs.Lived.{plan_again, session_steps}
use Rattle.gateway_core.specs.Holding.{logged_of, sources_of}
use Rattle.session_parts.proofs.Few.{few-writers}
use Rattle.cmd_relay.specs.Texts.{IsWriterText, gateway_line}
use Rattle.cmd_relay.proofs.Lining.{whole-log, wrote-more}
use Rattle.cmd_relay.proofs.Matched.{group-read, read-at}
use Rattle.cmd_relay.proofs.text.put_group.Goals as goal

pub overflow_cast-w : goal.overflow_cast-w
overflow_cast-w c =
    let second = c.args.second.now in
    let item = c.index-groups-g.result in
    let same : group_at second c.args.g ≡ item = group-read second c.args.g item c.requires.within (c.index-groups-g.is ∙ ap (λ (l : List GroupPart). get_or l c.args.g item) c.as_slice-groups.ensures) in
    let few = few-writers second c.args.g c.requires.gateway.good c.requires.within in
    let own = ap (λ (x : GroupPart). length x.writer) (same ∙ c.index-groups-g.is) in
    omega (arith, few, own, ap (λ (l : List WriterPart). length l) c.as_slice-writers.ensures, c.loop-w-test.true)

pub loop-w-preserved : goal.loop-w-preserved
loop-w-preserved c = λ lived places front stands wrote.
    let second = c.args.second.now in
    let g = c.args.g in
    let w = c.loop-w.w in
    let group = c.index-groups-g.result in
    let item = c.index-writers-w.result in
    let same : group_at second g ≡ group = group-read second g group c.requires.within (c.index-groups-g.is ∙ ap (λ (l : List GroupPart). get_or l g group) c.as_slice-groups.ensures) in
    let listed = c.as_slice-writers.ensures ∙ ap (λ (x : GroupPart). x.writer) (sym c.index-groups-g.is ∙ sym same) in
    let low = subst (λ (l : List WriterPart). w < length l) listed c.loop-w-test.true in
    let at : writer_at (group_at second g) w ≡ item = read-at (group_at second g).writer w item no_writer low (c.index-writers-w.is ∙ ap (λ (l : List WriterPart). get_or l w item) listed) in
    let own : get_or c.as_slice-writers.result.now w item ≡ writer_at (group_at second g) w = sym c.index-writers-w.is ∙ sym at in
    let whole = log_at (plan_again second) g w (session_steps (sources_of c.args.gateway.now) lived) in
    let log : c.log.result.now ≡ whole =
    whole-log _ (logged_of c.args.gateway.now) c.log.result.now whole (c.log.ensures.first _ _ _ (c.writer.ensures.lived second lived stands)) c.writer.ensures.logged
    (c.writer.ensures.all c.requires.gateway.keeps second lived stands) in
    wrote-more (IsWriterText second (session_steps (sources_of c.args.gateway.now) lived)) places (λ (x : ℕ). (g, x)) w front c.loop-w.out.items _
    (gateway_line (get_or c.as_slice-writers.result.now w item).name c.log.result.now) (c.loop-w.invariant lived places front stands wrote)
    (λ i. gateway_line (own i).name (log i)) c.in_ok-put_gateway.ensures
