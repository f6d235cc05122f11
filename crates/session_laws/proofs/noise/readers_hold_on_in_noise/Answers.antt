use Rattle.group_laws.specs.Witness.{three_config, three_text}
use Rattle.session_laws.proofs.SmallSessions.Meeting.{BuiltInLaws}
use Rattle.session_laws.proofs.SmallSessions.Noisy.{in-noisy, noisy-held, noisy-link, noisy-newest}
use Rattle.session_laws.proofs.SmallSessions.ThreeGroups.{ThreeLaws}
use Rattle.session_laws.proofs.noise.readers_hold_on_in_noise.Goals as goal

pub returns : goal.returns
returns c =
    let small : BuiltInLaws = record {
      sound = c.the_built_in_configuration_is_sound.ensures.sound;
      types = c.the_built_in_configuration_is_sound.ensures.types;
      fixed = c.the_built_in_configuration_is_sound.ensures.fixed;
      matched = c.the_built_in_groups_are_matched.ensures.matched;
    } in
    let sound = c.an_accepted_configuration_is_sound.ensures in
    let read = c.the_premises_of_turns_are_met.ensures in
    let three : ThreeLaws = record { sound = sound.sound three_text three_config read.accepted; fixed = sound.fixed three_text three_config read.accepted; types = read.types } in
    record {
      noisy = in-noisy small;
      noisy_link = noisy-link;
      noisy_held = noisy-held;
      signed = noisy-newest three c.a_closing_frame_that_came_is_held.ensures.secured;
    }
