use Rattle.std.proofs.Common.{◌*◌, ℕ, List, ap, sym, arith, ◌∙◌}
use Rattle.stored_state.specs.States.{words_bytes}
use Rattle.stored_state.proofs.Words.{take-whole, words-more}
use Rattle.stored_state.proofs.writing.put_words.Goals as goal

pub loop-i-preserved : goal.loop-i-preserved
loop-i-preserved c =
    words-more c.args.words.now c.loop-i.bytes c.write_u32.new.buf _ c.loop-i.i _ (omega (arith, c.loop-i-test.true, c.told-words)) (omega (arith, c.loop-i-test.true, c.loop-i.auto.bytes, c.requires))
    c.write_u32.ensures c.loop-i.invariant

pub returns : goal.returns
returns c =
    sym (take-whole c.loop-i.bytes (4 * c.loop-i.i) (omega (arith, c.loop-i-test.false, c.loop-i.auto.bytes, c.requires)))
    ∙ c.loop-i.invariant
    ∙ ap (λ (l : List ℕ). words_bytes l) (take-whole c.args.words.now c.loop-i.i (omega (arith, c.loop-i-test.false, c.told-words)))
