use Rattle.turn_laws.proofs.LifeRecords.{honest-takes-in}
use Rattle.turn_laws.proofs.Sessions.{session-signed}
use Rattle.turn_laws.proofs.Signed.{matched-secured}
use Rattle.turn_laws.proofs.Taken.{taken-were-made}
use Rattle.turn_laws.proofs.laws.what_is_taken_came_signed.Goals as goal

pub returns : goal.returns
returns c =
    let signed = c.what_a_secured_group_takes_is_signed.ensures in
    record { secured = matched-secured; made = taken-were-made signed; session = session-signed; life = honest-takes-in signed }
