use Rattle.ps_config.proofs.Accepted.{sound_configuration, fixed_configuration}
use Rattle.ps_config.proofs.laws.an_accepted_configuration_is_sound.Goals as goal

pub returns-clause-sound : goal.returns-clause-sound
returns-clause-sound c = sound_configuration

pub returns-clause-fixed : goal.returns-clause-fixed
returns-clause-fixed c = fixed_configuration
