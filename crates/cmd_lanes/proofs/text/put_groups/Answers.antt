use Rattle.std.proofs.Common.{◌≡◌, ℕ, ◌<◌, List, ◌++◌, length, get_or, sym, ap, ◌∙◌, subst, arith, append_assoc}
use Rattle.std.specs.List.{flat_map, range_with_len}
use Rattle.std.proofs.lemmas.List.{get_or_read}
use Rattle.ps_config.specs.declared.parts.GroupPart.{GroupPart}
use Rattle.writer_group.specs.Parts.{group_at, no_group}
use Rattle.writer_group.specs.Standing.{IsGroup, metas_for}
use Rattle.session_parts.proofs.Few.{few-writers}
use Rattle.session_model.specs.Deeds.{group_past}
use Rattle.lane_groups.specs.declared.lane.Lane.{Lane}
use Rattle.cmd_lanes.specs.Alike.{GroupHasNumbers, LogsHaveNumbers}
use Rattle.cmd_lanes.specs.Standing.{IsGroupOf, counts_of, log_in, logs_by}
use Rattle.cmd_lanes.specs.Texts.{group_lines, lane_line, writer_lines}
use Rattle.cmd_lanes.proofs.Texts.{group-logs, group-made, group-stands, lines-more, one-more}
use Rattle.cmd_lanes.proofs.text.put_groups.Goals as goal

pub put_writers-requires-clause-count : goal.put_writers-requires-clause-count
put_writers-requires-clause-count c =
    let config = c.args.config.now in
    let low : c.loop-g.g < length config.group = omega (arith, c.loop-g-test.true, ap length c.as_slice-parts.ensures) in
    let own : c.index-parts-g.result ≡ group_at config c.loop-g.g =
    get_or_read c.as_slice-parts.result.now c.loop-g.g c.index-parts-g.result c.loop-g-test.true c.index-parts-g.is no_group
    ∙ ap (λ (l : List GroupPart). get_or l c.loop-g.g no_group) c.as_slice-parts.ensures in
    (group-made config c.args.ran.now.lanes.items c.loop-g.g c.group_in.result.now c.requires.lanes low
    (subst (λ (lanes : List Lane). IsGroupOf lanes c.loop-g.g c.group_in.result.now) c.deref.ensures.value c.group_in.ensures)).writers
    ∙ ap (λ (p : GroupPart). length p.writer) (sym own)

pub put_writers-requires-clause-logs : goal.put_writers-requires-clause-logs
put_writers-requires-clause-logs c =
    group-logs c.args.config.now c.args.ran.now.lanes.items c.loop-g.g c.group_in.result.now c.requires.lanes (omega (arith, c.loop-g-test.true, ap length c.as_slice-parts.ensures))
    (subst (λ (lanes : List Lane). IsGroupOf lanes c.loop-g.g c.group_in.result.now) c.deref.ensures.value c.group_in.ensures)

pub put_writers-requires-clause-few : goal.put_writers-requires-clause-few
put_writers-requires-clause-few c =
    let config = c.args.config.now in
    let low : c.loop-g.g < length config.group = omega (arith, c.loop-g-test.true, ap length c.as_slice-parts.ensures) in
    let own : c.index-parts-g.result ≡ group_at config c.loop-g.g =
    get_or_read c.as_slice-parts.result.now c.loop-g.g c.index-parts-g.result c.loop-g-test.true c.index-parts-g.is no_group
    ∙ ap (λ (l : List GroupPart). get_or l c.loop-g.g no_group) c.as_slice-parts.ensures in
    omega (arith, few-writers config c.loop-g.g c.requires.good low, ap (λ (p : GroupPart). length p.writer) own)

pub loop-g-preserved : goal.loop-g-preserved
loop-g-preserved c = λ deeds stand.
    let config = c.args.config.now in
    let low : c.loop-g.g < length config.group = omega (arith, c.loop-g-test.true, ap length c.as_slice-parts.ensures) in
    let own : c.index-parts-g.result ≡ group_at config c.loop-g.g =
    get_or_read c.as_slice-parts.result.now c.loop-g.g c.index-parts-g.result c.loop-g-test.true c.index-parts-g.is no_group
    ∙ ap (λ (l : List GroupPart). get_or l c.loop-g.g no_group) c.as_slice-parts.ensures in
    let here = group-stands config deeds c.args.ran.now.lanes.items c.loop-g.g c.group_in.result.now stand low
    (subst (λ (lanes : List Lane). IsGroupOf lanes c.loop-g.g c.group_in.result.now) c.deref.ensures.value c.group_in.ensures) in
    let past = group_past config c.loop-g.g deeds in
    let writers : c.put_writers.new.out.items ≡ c.put_lane.new.out.items ++ writer_lines c.index-parts-g.result (log_in c.index-parts-g.result past) =
    c.in_ok-put_writers.ensures.lines (metas_for (group_at config c.loop-g.g) config.dataset) past
    (subst (λ (p : GroupPart). IsGroup (metas_for (group_at config c.loop-g.g) config.dataset) p past c.group_in.result.now) (sym own) here) in
    let numbers : LogsHaveNumbers c.index-parts-g.result (log_in c.index-parts-g.result past) =
    c.in_ok-put_writers.ensures.numbers (metas_for (group_at config c.loop-g.g) config.dataset) past
    (subst (λ (p : GroupPart). IsGroup (metas_for (group_at config c.loop-g.g) config.dataset) p past c.group_in.result.now) (sym own) here) in (
      lines-more (group_lines config (counts_of c.args.ran.now) (logs_by config deeds)) c.loop-g.g c.args.out.now.items c.loop-g.out.items c.put_writers.new.out.items
          (lane_line c.index-parts-g.result.name (get_or c.args.ran.now.sent c.loop-g.g 0) ++ writer_lines c.index-parts-g.result (log_in c.index-parts-g.result past))
          (c.loop-g.invariant deeds stand).0
          (writers ∙ ap (λ (l : List ℕ). l ++ writer_lines c.index-parts-g.result (log_in c.index-parts-g.result past)) c.in_ok-put_lane.ensures.line
          ∙ append_assoc c.loop-g.out.items (lane_line c.index-parts-g.result.name (get_or c.args.ran.now.sent c.loop-g.g 0)) (writer_lines c.index-parts-g.result (log_in c.index-parts-g.result past)))
          (ap (λ (p : GroupPart). lane_line p.name (get_or c.args.ran.now.sent c.loop-g.g 0) ++ writer_lines p (log_in p past)) own),
      one-more (GroupHasNumbers config (counts_of c.args.ran.now) (logs_by config deeds)) c.loop-g.g (c.loop-g.invariant deeds stand).1
          (record { sent = c.in_ok-put_lane.ensures.number; writers = subst (λ (p : GroupPart). LogsHaveNumbers p (log_in p past)) own numbers }),
    )

pub returns-clause-numbers : goal.returns-clause-numbers
returns-clause-numbers c = λ deeds stand.
    λ g low. (c.loop-g.invariant deeds stand).1 g (omega (arith, low, c.loop-g-test.false, c.loop-g.auto.g-end, ap length c.as_slice-parts.ensures))

pub returns-clause-lines : goal.returns-clause-lines
returns-clause-lines c = λ deeds stand.
    let all : c.loop-g.g ≡ length c.args.config.now.group = omega (arith, c.loop-g-test.false, c.loop-g.auto.g-end, ap length c.as_slice-parts.ensures) in
    (c.loop-g.invariant deeds stand).0
    ∙ ap (λ (n : ℕ). c.args.out.now.items ++ flat_map (group_lines c.args.config.now (counts_of c.args.ran.now) (logs_by c.args.config.now deeds)) (range_with_len 0 n)) all
