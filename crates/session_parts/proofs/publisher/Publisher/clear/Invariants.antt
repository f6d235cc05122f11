use Rattle.std.proofs.Common.{◌≡◌, ℕ, false}
use Rattle.session_parts.specs.declared.sends.GroupSends.{GroupSends}
use Rattle.session_parts.proofs.Each.{EachTo}
use Rattle.session_parts.proofs.publisher.Publisher.clear.Given as goal

abbrev pub invariant-loop-g : goal.invariant-loop-g
invariant-loop-g l = record {
  each : EachTo (λ (g : ℕ) (old new : GroupSends). new ≡ record old { is_failing = false }) l.g l.fn.self.sends.items l.self.sends.items;
  rest : l.self ≡ record l.fn.self { sends = l.self.sends };
}
