use Rattle.row_words.proofs.SettingLaws.{both_set, set_in_turn, set_good}
use Rattle.row_words.proofs.laws.values_and_statuses_stand_apart.Goals as goal

pub returns-clause-both : goal.returns-clause-both
returns-clause-both c = both_set

pub returns-clause-either : goal.returns-clause-either
returns-clause-either c = set_in_turn

pub returns-clause-good : goal.returns-clause-good
returns-clause-good c = set_good
