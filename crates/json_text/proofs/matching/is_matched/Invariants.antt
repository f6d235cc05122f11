use Rattle.std.proofs.Common.{◌≡◌, drop}
use Rattle.std.specs.List.{list_any}
use Rattle.json_text.specs.Matching.{reads_group}
use Rattle.json_text.proofs.matching.is_matched.Given as goal

-- none so far
abbrev pub invariant-loop-group : goal.invariant-loop-group
invariant-loop-group l =
    list_any (reads_group l.config l.readers l.reader) (drop l.group-index l.config.group)
    ≡ list_any (reads_group l.config l.readers l.reader) l.config.group
