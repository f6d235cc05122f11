use Rattle.ps_script.proofs.Patching.{each_patch, patch_count, patch_more, no_patch_more}
use Rattle.ps_script.proofs.laws.written_patches_are_of_their_data_set.Goals as goal

pub returns-clause-each : goal.returns-clause-each
returns-clause-each c = each_patch

pub returns-clause-count : goal.returns-clause-count
returns-clause-count c = patch_count

pub returns-clause-write : goal.returns-clause-write
returns-clause-write c = patch_more

pub returns-clause-other : goal.returns-clause-other
returns-clause-other c = no_patch_more
