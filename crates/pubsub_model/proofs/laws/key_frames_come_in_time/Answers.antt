use Rattle.pubsub_model.proofs.KeyLaws.{key-next, key-not-sooner, key-often}
use Rattle.pubsub_model.proofs.laws.key_frames_come_in_time.Goals as goal

pub returns : goal.returns
returns c = record { next = key-next; sooner = key-not-sooner; often = key-often }
