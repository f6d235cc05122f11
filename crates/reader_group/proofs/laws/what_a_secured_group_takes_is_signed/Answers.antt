use Rattle.reader_group.proofs.Signed.{taken-signed}
use Rattle.reader_group.proofs.laws.what_a_secured_group_takes_is_signed.Goals as goal

pub returns : goal.returns
returns c = taken-signed c.a_passed_datagram_is_signed_and_acceptable.ensures.signed
