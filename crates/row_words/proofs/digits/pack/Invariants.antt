use Rattle.std.proofs.Common.{◌≡◌, ◌*◌, take, drop}
use Rattle.row_words.specs.Words.{packed}
use Rattle.row_words.proofs.digits.pack.Given as goal

abbrev pub invariant-loop-word : goal.invariant-loop-word
invariant-loop-word l = record { filled : take l.word-index l.words ≡ packed l.word-index l.bytes; left : l.rest ≡ drop (8 * l.word-index) l.bytes }
