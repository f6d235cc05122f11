use Rattle.std.proofs.Common.{◌≡◌, ◌++◌, take}
use Rattle.std.specs.Prelude.{flat_map}
use Rattle.json_frames.specs.Parts.{parts_in}
use Rattle.json_text.specs.Matching.{readers_in}
use Rattle.json_text.specs.Texts.{readers_text}
use Rattle.json_text.proofs.text.put_groups.Given as goal

abbrev pub invariant-loop-group : goal.invariant-loop-group
invariant-loop-group l =
    l.out.items ≡ l.fn.out.items ++ readers_text l.config (parts_in l.config.dataset l.parts)
    (flat_map (readers_in l.config) (take l.group-index l.config.readgroup))
