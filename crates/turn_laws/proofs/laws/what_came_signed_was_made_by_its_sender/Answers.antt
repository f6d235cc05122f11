use Rattle.turn_laws.proofs.Sessions.{session-member, session-signing}
use Rattle.turn_laws.proofs.Signed.{comes-from-sender, made-by-sender, signed-member}
use Rattle.turn_laws.proofs.laws.what_came_signed_was_made_by_its_sender.Goals as goal

pub returns : goal.returns
returns c =
    let laws = c.what_the_laws_below_say.ensures in
    let signed = c.signed_readers_have_their_records.ensures in
    record {
      made = made-by-sender laws.turns;
      session = session-signing laws;
      records = signed-member laws.turns signed;
      comes = comes-from-sender laws.turns;
      session_records = session-member laws signed;
    }
