use Rattle.std.proofs.Common.{length}
use Rattle.value_texts.proofs.Spellings.{IsRead}
use Rattle.value_texts.proofs.spelling.text_spelled.Given as goal

abbrev pub invariant-bytes : goal.invariant-bytes
invariant-bytes l = IsRead l.word l.bytes.items l.rest

abbrev pub decreases-bytes : goal.decreases-bytes
decreases-bytes l = length l.rest
