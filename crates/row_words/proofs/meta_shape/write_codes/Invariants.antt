use Rattle.std.proofs.Common.{◌≡◌, ◌*◌, take, drop, map}
use Rattle.row_words.specs.Digits.{grouped}
use Rattle.row_words.specs.Shapes.{code_of}
use Rattle.row_words.proofs.meta_shape.write_codes.Given as goal

abbrev pub invariant-loop-word : goal.invariant-loop-word
invariant-loop-word l = record { filled : take l.word-index l.words ≡ grouped 65536 4 l.word-index (map (code_of l.quality) l.fields); left : l.rest ≡ drop (4 * l.word-index) l.fields }
