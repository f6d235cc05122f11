use Rattle.session_laws.proofs.Versions.EachTurn.{TurnsLaws, life-holds}
use Rattle.session_laws.proofs.turning.each_turn_of_a_life_holds.Goals as goal

pub returns : goal.returns
returns c =
    let laws : TurnsLaws = record {
      written = c.headers_of_a_turn_can_be_written.ensures;
      answer = c.each_answer_is_a_frame.ensures;
      few = c.a_turn_makes_at_most_1024_datagrams.ensures;
    } in
    λ limit. life-holds limit laws (record { belongs = c.cut_rows_have_words.ensures.belongs; row = c.cut_rows_have_words.ensures.row })
