use Rattle.std.proofs.Common.{◌≤◌, ◌<◌, ◌∙◌, List, length, get_or, ap, subst}
use Rattle.ps_config.specs.declared.parts.GroupPart.{GroupPart}
use Rattle.session_parts.proofs.Few.{few-writers}
use Rattle.cmd_relay.proofs.Matched.{group-read}
use Rattle.cmd_relay.proofs.matching.matched_writer.Goals as goal

pub writer_in-requires-clause-few : goal.writer_in-requires-clause-few
writer_in-requires-clause-few c =
    let config = c.args.config.now in
    let g = c.loop-g.g in
    let item = c.index-groups-g.result in
    let low = subst (λ (l : List GroupPart). g < length l) c.as_slice-groups.ensures c.loop-g-test.true in
    let is = c.index-groups-g.is ∙ ap (λ (l : List GroupPart). get_or l g item) c.as_slice-groups.ensures in
    subst (λ (x : GroupPart). length x.writer ≤ 16) (group-read config g item low is) (few-writers config g c.requires.good low)
