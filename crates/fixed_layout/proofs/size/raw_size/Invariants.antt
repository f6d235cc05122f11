use Rattle.std.proofs.Common.{◌≡◌, ◌*◌, ◌≤◌, take}
use Rattle.fixed_layout.specs.Spelling.{raw_size}
use Rattle.fixed_layout.proofs.size.raw_size.Given as goal

abbrev pub invariant-loop-field : goal.invariant-loop-field
invariant-loop-field l = record { so_far : l.size ≡ raw_size (take l.field-index l.meta.fields); small : l.size ≤ 65539 * l.field-index }
