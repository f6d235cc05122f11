use Rattle.pubsub_model.proofs.HistoryLaws.{All-legal_rows, IsRow-last_legal, IsRow-row_of}
use Rattle.pubsub_model.proofs.laws.legal_rows_fit.Goals as goal

pub returns : goal.returns
returns c = record { rows = All-legal_rows; last = IsRow-last_legal; versions = IsRow-row_of }
