use Rattle.std.proofs.Common.{inl, inr, sym, ◌∙◌}
use Rattle.std.proofs.lemmas.Bool.{false≢true}
use Rattle.fixed_layout.proofs.JudgeLaws.{clash-shares, clash-cases}
use Rattle.fixed_layout.proofs.judge.is_clash.Goals as goal

pub returns-else-share_a_byte : goal.returns-else-share_a_byte
returns-else-share_a_byte c = (
  λ is. clash-shares c.args.start c.args.slots.now c.args.index c.requires (c.shares_with_one.ensures.0 is),
  λ clash. elim (clash-cases c.args.start c.args.slots.now c.args.index c.requires clash) [
    | inl share ↦ absurd (false≢true (sym c.if-share_a_byte.false ∙ c.share_a_byte.ensures.1 share))
    | inr any ↦ c.shares_with_one.ensures.1 any
  ],
)
