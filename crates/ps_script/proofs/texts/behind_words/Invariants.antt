use Rattle.std.proofs.Common.{◌≡◌, ◌≤◌, length, drop}
use Rattle.ps_script.specs.Texts.{words_of}
use Rattle.ps_script.proofs.texts.behind_words.Given as goal

-- of the words that are left as many are to go as of the line's
abbrev pub invariant-words : goal.invariant-words
invariant-words l = record {
  words : drop l.left (words_of l.rest) ≡ drop l.count (words_of l.line);
  bound : length l.rest ≤ length l.line;
}

abbrev pub decreases-words : goal.decreases-words
decreases-words l = l.left
