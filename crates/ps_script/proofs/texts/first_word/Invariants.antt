use Rattle.std.proofs.Common.{◌≡◌, ◌≤◌, length}
use Rattle.ps_script.specs.Texts.{words_of}
use Rattle.ps_script.proofs.texts.first_word.Given as goal

-- the words are those of the bytes that are left
abbrev pub invariant-words : goal.invariant-words
invariant-words l = record { words : words_of l.rest ≡ words_of l.line; bound : length l.rest ≤ length l.line }

abbrev pub decreases-words : goal.decreases-words
decreases-words l = length l.rest
