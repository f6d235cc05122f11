use Rattle.group_laws.specs.Witness.{three_config, three_text}
use Rattle.session_laws.specs.Witness.{three_plan}
use Rattle.session_laws.proofs.SmallSessions.Renewing.{life-rise, life-short, life-steps, life-there, life-versions}
use Rattle.session_laws.proofs.SmallSessions.ThreeGroups.{ThreeLaws, in-signed, versions-three}
use Rattle.session_laws.proofs.renewals.a_signed_life_meets_the_premises.Goals as goal

pub returns : goal.returns
unfolding three_plan three_config
returns c =
    let sound = c.an_accepted_configuration_is_sound.ensures in
    let read = c.the_premises_of_turns_are_met.ensures in
    let three : ThreeLaws = record { sound = sound.sound three_text three_config read.accepted; fixed = sound.fixed three_text three_config read.accepted; types = read.types } in
    let its = in-signed three in
    record { plan = its.plan; steps = life-steps its.steps_are; short = life-short; there = life-there; rise = life-rise its.rise; versions = life-versions versions-three }
