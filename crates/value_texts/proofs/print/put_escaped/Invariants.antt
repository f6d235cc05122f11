use Rattle.std.proofs.Common.{◌≡◌, ◌*◌, ◌≤◌, length, take}
use Rattle.std.specs.List.{flat_map}
use Rattle.value_texts.specs.Texts.{byte_text}
use Rattle.value_texts.proofs.print.put_escaped.Given as goal

abbrev pub invariant-loop-byte : goal.invariant-loop-byte
invariant-loop-byte l =
    (l.text.items ≡ flat_map byte_text (take l.byte-index l.bytes)) × (length l.text.items ≤ 3 * l.byte-index)
