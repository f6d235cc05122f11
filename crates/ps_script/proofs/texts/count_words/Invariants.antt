use Rattle.std.proofs.Common.{◌≡◌, ◌+◌, ◌≤◌, length}
use Rattle.ps_script.specs.Texts.{words_of}
use Rattle.ps_script.proofs.texts.count_words.Given as goal

-- the words so far, and those of the bytes that are left
abbrev pub invariant-words : goal.invariant-words
invariant-words l = record {
  words : l.count + length (words_of l.rest) ≡ length (words_of l.line);
  bound : l.count + length l.rest ≤ length l.line;
}

abbrev pub decreases-words : goal.decreases-words
decreases-words l = length l.rest
