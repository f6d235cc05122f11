-- The groups of a configuration by their indexes.
use Rattle.std.specs.Prelude.{ℕ, [], None, false, slice_index_or}
use Rattle.config_tables.specs.declared.words.Layout.TheVariants as layouts
use Rattle.config_tables.specs.declared.words.Security.TheVariants as security
use Rattle.ps_config.specs.declared.parts.Config.{Config}
use Rattle.ps_config.specs.declared.parts.GroupPart.{GroupPart}

-- what stands where the configuration has no group
abbrev pub no_group : GroupPart
no_group = record {
  name = [];
  id = 0;
  interval = 0;
  max_size = 0;
  layout = layouts.Dynamic;
  security = security.None;
  keygroup = None;
  version = 0;
  sequence = false;
  message_number = false;
  class_id = None;
  writer = [];
}

-- the group with this index: what a clause `HoldsAt P config.group index` says of a group, it says of this one
abbrev pub group_at : Config → ℕ → GroupPart
group_at config index = slice_index_or config.group index no_group
