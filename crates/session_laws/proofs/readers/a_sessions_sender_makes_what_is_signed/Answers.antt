use Rattle.group_laws.specs.Witness.{three_config, three_text}
use Rattle.session_laws.specs.Witness.{three_plan}
use Rattle.session_laws.proofs.SmallSessions.MadeSigned.{signed-premises}
use Rattle.session_laws.proofs.SmallSessions.ThreeGroups.{ThreeLaws}
use Rattle.session_laws.proofs.readers.a_sessions_sender_makes_what_is_signed.Goals as goal

pub returns : goal.returns
unfolding three_plan three_config
returns c =
    let sound = c.an_accepted_configuration_is_sound.ensures in
    let read = c.the_premises_of_turns_are_met.ensures in
    let three : ThreeLaws = record { sound = sound.sound three_text three_config read.accepted; fixed = sound.fixed three_text three_config read.accepted; types = read.types } in
    signed-premises c.what_the_laws_below_say.ensures three
