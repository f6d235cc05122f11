use Rattle.ps_script.proofs.Work.{generated_sound}
use Rattle.ps_script.proofs.laws.generated_work_is_sound.Goals as goal

pub returns : goal.returns
returns c = generated_sound
