use Rattle.std.proofs.Common.{◌≡◌, ◌<◌, length, ap, ◌∙◌, subst}
use Rattle.std.specs.List.{All}
use Rattle.ps_report.specs.declared.closed.WatchEnd.{WatchEnd}
use Rattle.ps_report.specs.Conditions.{HoldsRow, HoldRows, writers_of, readers_of}
use Rattle.ps_report.proofs.Pairs.{zip_length}
use Rattle.cases_text.proofs.reports.closing.closed_of.Goals as goal

pub returns : goal.returns
returns c =
    let config = c.args.config.now in
    let readers = c.in_ok-readers.readers in
    let rows : HoldRows config.dataset (readers_of config.readgroup) readers =
    rw (c.as_slice-sets.ensures, c.as_slice-read_group_parts.ensures) at c.in_ok-readers.ensures in
    let all : length readers ≡ length (readers_of config.readgroup) = zip_length (HoldsRow config.dataset) (readers_of config.readgroup) readers rows in
    record {
      histories = c.in_ok-histories.ensures ∙ ap length c.as_slice-sets.ensures;
      groups = c.in_ok-groups.ensures ∙ ap length c.as_slice-group_parts.ensures;
      writers = c.in_ok-writers.ensures ∙ ap (λ l. length (writers_of l)) c.as_slice-group_parts.ensures;
      read_groups = c.in_ok-read_groups.ensures ∙ ap length c.as_slice-read_group_parts.ensures;
      rows = rows;
      watches = subst (λ n. All (λ (end : WatchEnd). end.reader < n) c.in_ok-watches.watches) (ap length c.as_slice.ensures ∙ all) c.in_ok-watches.ensures;
    }
