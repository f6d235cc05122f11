use Rattle.std.proofs.Common.{◌≡◌, ℕ, map, take}
use Rattle.std.specs.List.{All}
use Rattle.serde_json.specs.View.{view, items_of}
use Rattle.json_frames.specs.Parts.{IsPartOf, parts_in}
use Rattle.json_frames.specs.Documents.{counted}
use Rattle.json_frames.specs.Reading.{ReadAs}
use Rattle.json_frames.proofs.document.read_parts.Given as goal

-- what the elements so far are read as; their parts can be written
abbrev pub invariant-loop-json : goal.invariant-loop-json
invariant-loop-json l =
    (bad : ℕ) × (l.bad ≡ counted bad) × ReadAs l.metas l.sets (items_of (map view (take l.json-index l.messages))) (parts_in l.metas l.parts.items) bad
    × All (IsPartOf l.metas) l.parts.items
