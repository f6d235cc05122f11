use Rattle.group_laws.proofs.Ahead.{turned-ahead}
use Rattle.group_laws.proofs.Delivered.{opening-ahead, shared-ahead}
use Rattle.group_laws.proofs.laws.a_sender_stays_ahead.Goals as goal

pub returns-clause-opening : goal.returns-clause-opening
returns-clause-opening c = opening-ahead

pub returns-clause-turned : goal.returns-clause-turned
returns-clause-turned c = λ now s accepted ahead. turned-ahead accepted now s ahead

pub returns-clause-shared : goal.returns-clause-shared
returns-clause-shared c = λ mode s count accepted ahead. shared-ahead accepted mode s count ahead
