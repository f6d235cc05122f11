use Rattle.session_laws.proofs.Closing.Newest.{closing-logged, holds-newest, holds-row}
use Rattle.session_laws.proofs.laws.a_key_frame_that_comes_last_is_held.Goals as goal

pub returns : goal.returns
returns c =
    let law = c.a_lone_key_frame_is_held.ensures in
    record { held = holds-row law; newest = holds-newest law c.matched_readers_hold_published_versions.ensures.holds; closing = closing-logged }
