use Rattle.session_laws.proofs.HeldRows.Published.{comes-from, published, session-records}
use Rattle.session_laws.proofs.laws.matched_readers_hold_published_versions.Goals as goal

pub returns : goal.returns
returns c =
    let laws = c.what_the_laws_below_say.ensures in
    record { comes = comes-from laws; reads = session-records laws; holds = published laws }
