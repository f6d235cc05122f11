use Rattle.ps_script.proofs.Sound.{sound_script, fateless_script}
use Rattle.ps_script.proofs.laws.an_accepted_script_is_sound.Goals as goal

pub returns-clause-sound : goal.returns-clause-sound
returns-clause-sound c = sound_script

pub returns-clause-fateless : goal.returns-clause-fateless
returns-clause-fateless c = fateless_script
