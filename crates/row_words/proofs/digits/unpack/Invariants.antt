use Rattle.std.proofs.Common.{◌≡◌, ◌*◌, take}
use Rattle.row_words.specs.Words.{unpacked}
use Rattle.row_words.proofs.digits.unpack.Given as goal

abbrev pub invariant-loop-index : goal.invariant-loop-index
invariant-loop-index l = take (8 * l.index) l.bytes ≡ unpacked (take l.index l.words)
