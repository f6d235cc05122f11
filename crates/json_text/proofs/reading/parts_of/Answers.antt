use Rattle.std.proofs.Common.{sym, subst, ◌∙◌, arith}
use Rattle.json_frames.specs.Reading.{HavePlaces}
use Rattle.json_text.proofs.Read.{lines_more, writable_more}
use Rattle.json_text.proofs.Places.{have-places}
use Rattle.json_text.proofs.reading.parts_of.Goals as goal

pub read_line-requires-clause-places : goal.read_line-requires-clause-places
read_line-requires-clause-places c =
    subst (HavePlaces c.args.config.now.dataset) (sym (c.deref.ensures.value ∙ c.in_ok-sets.ensures)) (have-places c.args.config.now c.requires)

pub loop-line-preserved : goal.loop-line-preserved
loop-line-preserved c = (
  lines_more c.args.config.now c.args.lines.now c.loop-line.line-index c.line-item.result c.as_bytes.result.now c.loop-line.parts.items c.read_line.new.parts.items
      (omega arith) c.line-item.is c.as_bytes.ensures.bytes c.loop-line.invariant.0 c.in_ok-read_line.ensures,
  writable_more c.args.config.now c.as_bytes.result.now c.loop-line.parts.items c.read_line.new.parts.items c.loop-line.invariant.1 c.in_ok-read_line.ensures,
)
