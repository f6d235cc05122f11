use Rattle.session_laws.proofs.Closing.BareEnd.{got-last-held}
use Rattle.session_laws.proofs.HeldRows.BareHeld.{bare-held}
use Rattle.session_laws.proofs.Closing.ClosingGot.{got-held}
use Rattle.session_laws.proofs.Closing.ClosingHeld.{closing-held}
use Rattle.session_laws.proofs.Closing.ClosingVersions.{closes-with}
use Rattle.session_laws.proofs.Closing.SignedEnd.{secured-held, since-last-held, took-held, took-last-held}
use Rattle.session_laws.proofs.laws.a_closing_frame_that_came_is_held.Goals as goal

pub returns : goal.returns
returns c =
    let below = c.what_the_laws_below_say.ensures in
    let laws = c.matched_readers_hold_published_versions.ensures in
    let held = closing-held below.words c.answers_have_places_of_their_span.ensures.each laws.comes laws.reads laws.holds in
    let last = bare-held below laws.reads in
    record {
      received = got-held below held;
      secured = secured-held below held;
      taken = took-held below held;
      came = held;
      received_last = got-last-held below last;
      since_last = since-last-held below last;
      taken_last = took-last-held below last;
      came_last = last;
      sampled = λ limit. closes-with limit below.words;
    }
