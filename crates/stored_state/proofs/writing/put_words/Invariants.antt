use Rattle.std.proofs.Common.{◌≡◌, ◌*◌, take}
use Rattle.stored_state.specs.States.{words_bytes}
use Rattle.stored_state.proofs.writing.put_words.Given as goal

abbrev pub invariant-loop-i : goal.invariant-loop-i
invariant-loop-i l = take (4 * l.i) l.bytes ≡ words_bytes (take l.i l.words)
