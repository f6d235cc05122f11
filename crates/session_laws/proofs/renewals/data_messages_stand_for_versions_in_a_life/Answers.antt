use Rattle.session_laws.proofs.Versions.LifeVersions.{never-older-in, publishes-in}
use Rattle.session_laws.proofs.Versions.Rowing.{WordLaws}
use Rattle.session_laws.proofs.renewals.data_messages_stand_for_versions_in_a_life.Goals as goal

pub returns : goal.returns
returns c =
    let words : WordLaws = record { belongs = c.cut_rows_have_words.ensures.belongs; row = c.cut_rows_have_words.ensures.row } in
    record {
      publish = λ limit p g w life rows later before turn plan are rise versions within split e. publishes-in limit words p plan g w within life rows later before turn are rise versions split e;
      never_older = λ limit p g w life plan are rise within. never-older-in limit words p plan g w within life are rise;
    }
