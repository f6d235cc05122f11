use Rattle.std.proofs.Common.{◌≡◌, ◌++◌, take}
use Rattle.std.specs.List.{filter}
use Rattle.json_frames.specs.Parts.{parts_in}
use Rattle.json_text.specs.Matching.{is_matched}
use Rattle.json_text.specs.Texts.{readers_text}
use Rattle.json_text.proofs.text.put_matched.Given as goal

abbrev pub invariant-loop-reader : goal.invariant-loop-reader
invariant-loop-reader l =
    l.out.items ≡ l.fn.out.items ++ readers_text l.config (parts_in l.config.dataset l.parts)
    (filter (is_matched l.config l.group) (take l.reader-index l.group.reader))
