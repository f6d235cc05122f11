use Rattle.std.proofs.Common.{◌/◌, ◌%◌, ◌<◌, ◌∙◌, sym, arith}
use Rattle.std.proofs.lemmas.Bool.{eq-eqb}
use Rattle.std.proofs.lemmas.List.{get_or-take, length-take}
use Rattle.chunker.proofs.CoverLaws.{word_lacks, full_more, whole_words, last_word}
use Rattle.chunker.proofs.cover.is_full.Goals as goal

pub returns-then-word : goal.returns-then-word
returns-then-word c =
    let less : c.loop-word.word-index < c.args.total / 64 = omega (arith, length-take (c.args.total / 64) c.args.words.now) in
    word_lacks c.args.words.now c.args.total c.loop-word.word-index less (c.fits-words c.loop-word.word-index)
    (λ e. c.if-word.true (get_or-take (c.args.total / 64) c.args.words.now c.loop-word.word-index 0 less ∙ e))

pub loop-word-preserved : goal.loop-word-preserved
loop-word-preserved c =
    let less : c.loop-word.word-index < c.args.total / 64 = omega (arith, length-take (c.args.total / 64) c.args.words.now) in
    full_more c.args.words.now c.loop-word.word-index c.loop-word.invariant (sym (get_or-take (c.args.total / 64) c.args.words.now c.loop-word.word-index 0 less) ∙ c.if-word.false)

pub returns-then-total-eq0 : goal.returns-then-total-eq0
returns-then-total-eq0 c =
    eq-eqb (c.args.total % 64) 0 c.if-total-eq0.true
    ∙ sym (whole_words c.args.words.now c.args.total c.if-total-eq0.true (λ x less. c.loop-word.invariant x (omega (arith, less, length-take (c.args.total / 64) c.args.words.now))))

pub returns-else-total-eq0 : goal.returns-else-total-eq0
returns-else-total-eq0 c =
    last_word c.args.words.now c.args.total c.has_bits.result (omega arith)
    (λ x less. c.loop-word.invariant x (omega (arith, less, length-take (c.args.total / 64) c.args.words.now))) c.has_bits.ensures.yes c.has_bits.ensures.no
