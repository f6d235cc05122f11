use Rattle.ps_config.proofs.OtherIds.{other_group_id, other_writer_ids}
use Rattle.ps_config.proofs.laws.no_other_group_has_its_ids.Goals as goal

pub returns-clause-group : goal.returns-clause-group
returns-clause-group c = other_group_id

pub returns-clause-writers : goal.returns-clause-writers
returns-clause-writers c = other_writer_ids
