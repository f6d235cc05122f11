use Rattle.session_laws.proofs.HeldRows.Holding.{comes-from-writer, holds-version}
use Rattle.session_laws.proofs.HeldRows.Near.{reads-by-records}
use Rattle.session_laws.proofs.laws.a_matched_reader_holds_what_was_sent.Goals as goal

pub returns : goal.returns
returns c =
    let laws = c.what_the_laws_below_say.ensures in
    record {
      comes = comes-from-writer laws.turns;
      keeps = reads-by-records laws.turns laws.agrees;
      holds = holds-version laws.turns laws.agrees;
    }
