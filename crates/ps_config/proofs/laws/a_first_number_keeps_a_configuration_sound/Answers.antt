use Rattle.ps_config.proofs.Beginning.{fixed-beginning, sound-beginning, types-beginning}
use Rattle.ps_config.proofs.laws.a_first_number_keeps_a_configuration_sound.Goals as goal

pub returns-clause-sound : goal.returns-clause-sound
returns-clause-sound c = sound-beginning

pub returns-clause-fixed : goal.returns-clause-fixed
returns-clause-fixed c = fixed-beginning

pub returns-clause-types : goal.returns-clause-types
returns-clause-types c = types-beginning
