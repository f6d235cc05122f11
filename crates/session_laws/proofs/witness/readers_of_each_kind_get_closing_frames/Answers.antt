use Rattle.session_laws.specs.Witness.{GotLast, bare_config, bare_text, chunks_config, chunks_text, lone_config, lone_text}
use Rattle.session_laws.proofs.SmallSessions.BareMeeting.{BareLaws, ChunksLaws, HeldLaw, any-newest, bare-is-read, bare-types, bare_any-held, bare_signed-held, bare_slotted-held, chunks-are-read, chunks-held, chunks-types, slotted-came-held, slotted-since-held}
use Rattle.session_laws.proofs.SmallSessions.BehindAnother.{LoneLaws, lone-is-read, received-again, since-old}
use Rattle.session_laws.proofs.witness.readers_of_each_kind_get_closing_frames.Goals as goal

pub returns : goal.returns
returns c =
    let sound = c.an_accepted_configuration_is_sound.ensures in
    let types = c.the_premises_of_turns_are_met.ensures.types in
    let law = c.matched_readers_hold_published_versions.ensures in
    let held = c.a_closing_frame_that_came_is_held.ensures in
    let laws : BareLaws = record {
      sound = sound.sound bare_text bare_config bare-is-read;
      fixed = sound.fixed bare_text bare_config bare-is-read;
      types = bare-types types;
      taken = c.each_datagram_is_taken_as_it_was_sent.ensures.taken bare_config;
      comes = law.comes;
      reads = law.reads;
    } in
    let chunks : ChunksLaws = record {
      sound = sound.sound chunks_text chunks_config chunks-are-read;
      fixed = sound.fixed chunks_text chunks_config chunks-are-read;
      types = chunks-types types;
      comes = law.comes;
    } in
    let lone : LoneLaws = record {
      sound = sound.sound lone_text lone_config lone-is-read;
      fixed = sound.fixed lone_text lone_config lone-is-read;
      types = c.the_built_in_configuration_is_sound.ensures.types;
    } in
    let received : HeldLaw GotLast = λ p r i g w steps rows own is versions got. held.received_last p r i g w steps rows got.0 got.1 own is versions got.2 in
    record {
      accepted = bare-is-read;
      accepted_chunks = chunks-are-read;
      taken = any-newest laws held.taken;
      taken_last = bare_any-held laws held.taken_last;
      secured_last = bare_signed-held laws held.since_last;
      received_last = bare_slotted-held laws received;
      since_last = slotted-since-held laws held.since_last;
      chunks_last = chunks-held chunks held.since_last;
      accepted_again = lone-is-read;
      received_again = received-again lone received;
      since_old = since-old lone held.since_last;
      came_last = slotted-came-held laws received;
    }
