use Rattle.pubsub_model.proofs.ThreadLaws.{legal-length, legal-threads}
use Rattle.pubsub_model.proofs.laws.legal_lists_have_a_place_for_each_patch.Goals as goal

pub returns : goal.returns
returns c = record { length = legal-length; threads = legal-threads }
