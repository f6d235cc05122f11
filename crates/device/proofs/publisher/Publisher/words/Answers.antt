use Rattle.std.proofs.Common.{ℕ, ◌<◌, ◌^◌, length, subst, arith, ◌∙◌}
use Rattle.std.proofs.lemmas.List.{get_or_default, length-set}
use Rattle.device.specs.Storing.{IsWordAt}
use Rattle.device.proofs.Savings.{more-places}
use Rattle.device.proofs.publisher.Publisher.words.Goals as goal

pub loop-i-preserved : goal.loop-i-preserved
loop-i-preserved c =
    let count = c.loop-i.invariant.count in
    let low : c.loop-i.i < length c.loop-i.words = omega (arith, c.loop-i-test.true, count) in
    record {
      count = length-set c.loop-i.words c.loop-i.i c.word_at.result ∙ count;
      each = more-places (IsWordAt c.args.ahead c.args.self.now) c.loop-i.words c.loop-i.i c.word_at.result low c.word_at.ensures c.loop-i.invariant.each;
      fit = more-places (λ (place word : ℕ). word < 2 ^ 32) c.loop-i.words c.loop-i.i c.word_at.result low c.word_at.type_inv c.loop-i.invariant.fit;
    }

pub returns-clause-words : goal.returns-clause-words
returns-clause-words c = λ place within. c.loop-i.invariant.each place (omega (arith, within, c.loop-i-test.false))

pub returns-clause-fit : goal.returns-clause-fit
returns-clause-fit c = λ k d low.
    subst (λ (n : ℕ). n < 2 ^ 32) (get_or_default c.loop-i.words k 0 d low) (c.loop-i.invariant.fit k (omega (arith, low, c.loop-i.invariant.count, c.loop-i-test.false)))
