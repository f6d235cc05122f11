-- What a handle owns: the box behind it, where it holds one.
use base.Fml.{Fml, ftrue}
use denote.RattleType.{RattleType}
use denote.RawPtr.{Ptr}
use Rattle.std.specs.declared.option.Option.{Option}
use Rattle.std.specs.declared.option.Option.TheVariants.{None, Some}
use Rattle.std_alloc.specs.Box.Ownership.{box_owns}
use Rattle.libc.specs.Heap.{chunk}

abbrev pub held_by : (R : RattleType) → Ptr → Option R.Denot → Fml
held_by R p None = ftrue
held_by R p (Some x) = box_owns chunk R p x
