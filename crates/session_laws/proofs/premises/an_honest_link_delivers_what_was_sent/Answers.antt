use Rattle.session_laws.proofs.HeldRows.Taking.{honest-for-takes}
use Rattle.session_laws.proofs.premises.an_honest_link_delivers_what_was_sent.Goals as goal

pub returns : goal.returns
returns c = honest-for-takes c.what_a_secured_group_takes_is_signed.ensures
