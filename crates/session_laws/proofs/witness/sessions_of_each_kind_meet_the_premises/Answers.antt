use Rattle.group_laws.specs.Witness.{three_config, three_text}
use Rattle.session_laws.specs.Witness.{CameSinceCut, GotAll, telling_config, telling_text}
use Rattle.session_laws.proofs.SmallSessions.Growing.{TellingLaws, growing-held, growing-newest, in-growing, telling-is-read}
use Rattle.session_laws.proofs.SmallSessions.SinceCut.{whole-newest}
use Rattle.session_laws.proofs.SmallSessions.ThreeGroups.{NewestLaw, ThreeLaws, cut-held, cut-newest, four-sends, in-cut, in-signed, in-slotted, run-three, secured-held, signed-newest, slotted-held, slotted-newest}
use Rattle.session_laws.proofs.witness.sessions_of_each_kind_meet_the_premises.Goals as goal

pub returns : goal.returns
returns c =
    let sound = c.an_accepted_configuration_is_sound.ensures in
    let read = c.the_premises_of_turns_are_met.ensures in
    let three : ThreeLaws = record { sound = sound.sound three_text three_config read.accepted; fixed = sound.fixed three_text three_config read.accepted; types = read.types } in
    let telling : TellingLaws = record {
      sound = sound.sound telling_text telling_config telling-is-read;
      fixed = sound.fixed telling_text telling_config telling-is-read;
      types = c.the_built_in_configuration_is_sound.ensures.types;
    } in
    let law = c.a_closing_frame_that_came_is_held.ensures in
    let received : NewestLaw GotAll = λ p r i g w steps rows own is versions got. law.received p r i g w steps rows got.0 got.1 own is versions got.2 in
    let secured = law.secured in
    let came : NewestLaw CameSinceCut = λ p r i g w steps rows own is versions came. law.came p r i g w steps rows came.0 own is versions came.1 in
    let small = c.small_sessions_meet_the_premises.ensures in
    record {
      signed = in-signed three;
      fixed = in-slotted three;
      chunked = in-cut three;
      growing = in-growing telling;
      run = run-three three;
      sends = four-sends;
      signed_held = secured-held three secured;
      fixed_held = slotted-held three received;
      chunked_held = cut-held three received;
      signed_got = signed-newest three secured;
      fixed_got = slotted-newest three received;
      chunked_got = cut-newest three received;
      growing_got = growing-newest telling received;
      whole_came = whole-newest small.whole small.versions came;
      growing_held = growing-held telling received;
    }
