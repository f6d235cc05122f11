-- What holds of the group with an index, and what clauses say of it.
use Rattle.std.proofs.Common.{ℕ, ◌<◌, subst, length}
use Rattle.std.specs.List.{HoldsAt}
use Rattle.std.proofs.lemmas.List.{get_or_default}
use Rattle.ps_config.specs.declared.parts.Config.{Config}
use Rattle.ps_config.specs.declared.parts.GroupPart.{GroupPart}
use Rattle.writer_group.specs.Parts.{group_at, no_group}

pub from-group : (P : GroupPart → Type 0) (config : Config) (index : ℕ) → HoldsAt P config.group index → P (group_at config index)
from-group P config index holds = holds no_group

pub at-group : (P : GroupPart → Type 0) (config : Config) (index : ℕ) → index < length config.group → P (group_at config index) → HoldsAt P config.group index
at-group P config index within here = λ other. subst P (get_or_default config.group index no_group other within) here
