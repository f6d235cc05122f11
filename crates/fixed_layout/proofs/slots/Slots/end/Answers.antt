use Rattle.std.proofs.Common.{ap, arith}
use Rattle.fixed_layout.specs.Datagrams.{last_end}
use Rattle.fixed_layout.specs.Slots.{Layout}
use Rattle.fixed_layout.proofs.DatagramLaws.{last-within}
use Rattle.fixed_layout.proofs.slots.Slots.end.Goals as goal

pub last_end-requires : goal.last_end-requires
last_end-requires c = rw c.as_slice.ensures.value (λ k d h. omega (arith, c.self.invariant.within k d h))

pub returns-clause-within : goal.returns-clause-within
returns-clause-within c = λ small.
    omega (
      arith,
      small,
      last-within c.self.inside.limit c.self.inside.slots.items c.self.invariant.within,
      c.last_end.ensures,
      ap last_end c.as_slice.ensures.value,
      ap (λ (l : Layout). l.limit) c.self.view_is,
      ap (λ (l : Layout). l.start) c.self.view_is,
    )
