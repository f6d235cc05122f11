use Rattle.std.proofs.Common.{◌≡◌, length, is_none}
use Rattle.std.specs.List.{list_any}
use Rattle.ps_script.specs.Texts.{words_of}
use Rattle.ps_script.specs.Values.{ValueReader}
use Rattle.ps_script.specs.Fields.{change_of}
use Rattle.ps_script.specs.Faults.{field_words}
use Rattle.ps_script.proofs.changes.has_bad_value.Given as goal

-- each word so far gives its field a value
abbrev pub invariant-words : goal.invariant-words
invariant-words l =
    (reader : ValueReader) → list_any (λ word. is_none (change_of reader l.meta.quality l.meta.fields word)) (words_of l.rest)
    ≡ list_any (λ word. is_none (change_of reader l.meta.quality l.meta.fields word)) (field_words l.line)

abbrev pub decreases-words : goal.decreases-words
decreases-words l = length l.rest
