use Rattle.std.proofs.Common.{take}
use Rattle.std.specs.Prelude.{All}
use Rattle.json_frames.specs.Parts.{IsPartOf, parts_in}
use Rattle.json_text.specs.Reading.{ReadsLines}
use Rattle.json_text.proofs.reading.parts_of.Given as goal

abbrev pub invariant-loop-line : goal.invariant-loop-line
invariant-loop-line l =
    ReadsLines l.config (take l.line-index l.lines) (parts_in l.config.dataset l.parts.items)
    × All (IsPartOf l.config.dataset) l.parts.items
