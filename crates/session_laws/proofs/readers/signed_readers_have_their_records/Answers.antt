use Rattle.session_laws.proofs.HeldRows.SignedReaders.{signed-records}
use Rattle.session_laws.proofs.readers.signed_readers_have_their_records.Goals as goal

pub returns : goal.returns
returns c = signed-records c.what_a_secured_group_takes_is_signed.ensures c.secured_readers_have_their_records.ensures
