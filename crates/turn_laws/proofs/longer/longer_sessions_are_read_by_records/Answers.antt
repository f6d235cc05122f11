use Rattle.std.proofs.Common.{arith}
use Rattle.turn_laws.specs.Longer.{play_in}
use Rattle.turn_laws.proofs.NearPlaces.{longer-play, script-session}
use Rattle.turn_laws.proofs.longer.longer_sessions_are_read_by_records.Goals as goal

pub returns : goal.returns
returns c =
    let play = longer-play c.what_the_laws_below_say.ensures c.each_turn_of_a_session_holds.ensures in
    let held = c.a_matched_reader_holds_what_was_sent.ensures in
    record {
      scripts = script-session;
      comes = λ most p r i g w steps few is. held.comes 65536 (play_in p r i g w steps) (omega arith) (play 65536 most p r i g w steps (omega (arith, few)) is);
      records = λ most p r i g w steps few is. held.keeps (play_in p r i g w steps) (play 16385 most p r i g w steps (omega (arith, few)) is);
      holds = λ most p r i g w steps row few is e. held.holds (play_in p r i g w steps) row (play 16385 most p r i g w steps (omega (arith, few)) is) e;
    }
