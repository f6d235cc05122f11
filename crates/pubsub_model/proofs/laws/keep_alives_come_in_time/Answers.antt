use Rattle.pubsub_model.proofs.PlaceLaws.{quiet-never, quiet-due, quiet-early}
use Rattle.pubsub_model.proofs.laws.keep_alives_come_in_time.Goals as goal

pub returns : goal.returns
returns c = record { never = quiet-never; due = quiet-due; early = quiet-early }
