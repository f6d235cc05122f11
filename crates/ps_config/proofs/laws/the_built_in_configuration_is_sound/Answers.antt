use Rattle.ps_config.proofs.BuiltIn.{built_in_sound, built_in_fixed, built_in_types}
use Rattle.ps_config.proofs.laws.the_built_in_configuration_is_sound.Goals as goal

pub returns-clause-sound : goal.returns-clause-sound
returns-clause-sound c = built_in_sound

pub returns-clause-fixed : goal.returns-clause-fixed
returns-clause-fixed c = built_in_fixed

pub returns-clause-types : goal.returns-clause-types
returns-clause-types c = built_in_types
