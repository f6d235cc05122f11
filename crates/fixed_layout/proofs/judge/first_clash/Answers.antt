use Rattle.std.proofs.Common.{ℕ, below_more, arith}
use Rattle.std.proofs.lemmas.Bool.{false≢true}
use Rattle.fixed_layout.specs.Faults.{IsClash}
use Rattle.fixed_layout.proofs.JudgeLaws.{apart-from}
use Rattle.fixed_layout.proofs.judge.first_clash.Goals as goal

pub loop-index-preserved : goal.loop-index-preserved
loop-index-preserved c =
    below_more (λ (k : ℕ). IsClash c.args.start c.args.slots.now k → ⊥) _ c.loop-index.invariant (λ h. absurd (false≢true (c.if-is_clash.ensures.1 h)))

pub returns-clause-none : goal.returns-clause-none
returns-clause-none c = apart-from c.args.start c.args.slots.now (λ k h. c.loop-index.invariant k (omega arith))
