-- What a script is read for.
use Rattle.std.specs.Prelude.{◌≡◌, ◌≤◌, length}
use Rattle.ps_script.specs.declared.past.Given.{Given}
use Rattle.ps_config.specs.Sound.{component_names}
use Rattle.ps_script.specs.Names.{reader_names}

-- the names are those of the configuration, and not more than there may be
pub record HasNames (given : Given) : Type 0 where
  pub components : given.components.items ≡ component_names given.config.now
  pub readers : given.readers.items ≡ reader_names given.config.now
  pub few_components : length given.components.items ≤ 64
  pub few_readers : length given.readers.items ≤ 64
  pub few_sets : length given.config.now.dataset ≤ 8
