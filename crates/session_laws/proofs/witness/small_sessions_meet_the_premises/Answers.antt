use Rattle.session_laws.proofs.SmallSessions.Meeting.{BuiltInLaws, in-first, in-lossy, in-lost, lost-waits, in-whole, closed-whole, versions-whole, run-whole, first-held, lossy-held}
use Rattle.session_laws.proofs.SmallSessions.Reaching.{reaches}
use Rattle.session_laws.proofs.witness.small_sessions_meet_the_premises.Goals as goal

pub returns : goal.returns
returns c =
    let laws : BuiltInLaws = record {
      sound = c.the_built_in_configuration_is_sound.ensures.sound;
      types = c.the_built_in_configuration_is_sound.ensures.types;
      fixed = c.the_built_in_configuration_is_sound.ensures.fixed;
      matched = c.the_built_in_groups_are_matched.ensures.matched;
    } in
    record { first = in-first laws; lost = in-lost laws; lost_waits = lost-waits; lossy = in-lossy laws; whole = in-whole laws; closed = closed-whole c.a_report_reads_so.ensures.told; run = run-whole laws; versions = versions-whole; first_held = first-held; lossy_held = lossy-held; newest = reaches }
