use Rattle.std.proofs.Common.{◌≡◌, ℕ, ◌<◌, get_or}
use Rattle.dataset_meta.specs.declared.field.Field.{Field}
use Rattle.cmd_relay.proofs.sources.has_fields.Given as goal

abbrev pub invariant-loop-k : goal.invariant-loop-k
invariant-loop-k l = (j : ℕ) → j < l.k → (d : Field) → get_or l.mine j d ≡ get_or l.fields j d
