use Rattle.std.proofs.Common.{◌≡◌, ◌++◌, ◌∙◌, ℕ, List, length, get_or, map, sym, ap, subst, arith}
use Rattle.std.specs.List.{range_with_len}
use Rattle.ps_config.specs.declared.parts.ReadGroupPart.{ReadGroupPart}
use Rattle.ps_config.specs.declared.parts.ReaderPart.{ReaderPart}
use Rattle.reader_group.specs.Settings.{group_at, no_group}
use Rattle.gateway_core.specs.Lived.{session_steps}
use Rattle.gateway_core.specs.Holding.{sources_of}
use Rattle.cmd_relay.specs.Texts.{IsReaderText, Wrote, kept_by_index}
use Rattle.cmd_relay.proofs.Lining.{wrote-more}
use Rattle.cmd_relay.proofs.Matched.{read-at}
use Rattle.cmd_relay.proofs.text.put_read_group.Goals as goal

pub loop-i-preserved : goal.loop-i-preserved
loop-i-preserved c = λ lived places front stands wrote.
    let second = c.args.second.now in
    let r = c.args.r in
    let from = sources_of c.args.gateway.now in
    let on = c.in_ok-put_reader.ensures lived stands in
    wrote-more (IsReaderText second (session_steps from lived) (kept_by_index from lived)) places (λ (x : ℕ). (r, x)) c.loop-i.i front c.loop-i.out.items _ on.0
    (c.loop-i.invariant lived places front stands wrote) on.1 on.2

pub returns : goal.returns
returns c = λ lived places front stands wrote.
    let second = c.args.second.now in
    let r = c.args.r in
    let from = sources_of c.args.gateway.now in
    let group = c.index-groups-r.result in
    let same : group_at second r ≡ group = read-at second.readgroup r group no_group c.requires.within (c.index-groups-r.is ∙ ap (λ (l : List ReadGroupPart). get_or l r group) c.as_slice-groups.ensures) in
    let count = ap (λ (l : List ReaderPart). length l) (c.as_slice-readers.ensures ∙ ap (λ (x : ReadGroupPart). x.reader) (sym c.index-groups-r.is ∙ sym same)) in
    let all : c.loop-i.i ≡ length (group_at second r).reader = omega (arith, count, c.loop-i-test.false, c.loop-i.auto.i-end) in
    subst (λ (n : ℕ). Wrote (IsReaderText second (session_steps from lived) (kept_by_index from lived)) (places ++ map (λ (x : ℕ). (r, x)) (range_with_len 0 n)) front c.loop-i.out.items) all
    (c.loop-i.invariant lived places front stands wrote)
