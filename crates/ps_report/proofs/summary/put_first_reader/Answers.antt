use Rattle.std.proofs.Common.{sym}
use Rattle.std.proofs.lemmas.Option.{get_or_from_slice_get, slice_get_within}
use Rattle.ps_report.specs.Conditions.{HoldsRow, readers_of}
use Rattle.ps_report.proofs.Pairs.{zip_at}
use Rattle.ps_report.proofs.summary.put_first_reader.Goals as goal

pub put_held_row-requires : goal.put_held_row-requires
put_held_row-requires c =
    let part = c.reader_at-part.result.now in
    zip_at (HoldsRow c.args.sets.now) (readers_of c.args.groups.now) c.args.ends.now 0 part c.end-item.result c.requires
    (slice_get_within (readers_of c.args.groups.now) 0 part c.reader_at-part.ensures)
    (sym (get_or_from_slice_get (readers_of c.args.groups.now) 0 part part c.reader_at-part.ensures)) c.end-item.is
