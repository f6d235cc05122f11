use Rattle.std.proofs.Common.{◌≡◌, length}
use Rattle.std.specs.List.{list_all}
use Rattle.ps_script.specs.Texts.{words_of}
use Rattle.ps_script.specs.Fields.{is_field_word}
use Rattle.ps_script.specs.Faults.{field_words}
use Rattle.ps_script.proofs.shapes.has_field_words.Given as goal

-- each word so far is a field word
abbrev pub invariant-words : goal.invariant-words
invariant-words l = list_all is_field_word (words_of l.rest) ≡ list_all is_field_word (field_words l.line)

abbrev pub decreases-words : goal.decreases-words
decreases-words l = length l.rest
