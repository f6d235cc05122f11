use Rattle.device_laws.proofs.OwnRinged.{own-ringed}
use Rattle.device_laws.proofs.RingedReads.{comes-ringed, holds-ringed, reads-ringed}
use Rattle.device_laws.proofs.signed.secured_readers_hold_whole_rows_at_any_length.Goals as goal

pub returns : goal.returns
returns c =
    let laws = c.what_the_laws_below_say.ensures in
    let signed = c.signed_readers_have_their_records.ensures in
    record {
      comes = λ text other pl sl readers r i g w k all is. comes-ringed laws.ring laws.turns text other pl sl readers r i g w k all is;
      keeps = λ text other pl sl readers r i g w k all is. reads-ringed laws.ring laws.turns text other pl sl readers r i g w k all is signed laws.agrees;
      holds = λ text other pl sl readers r i g w k all is counted. holds-ringed laws.ring laws.turns text other pl sl readers r i g w k all is signed laws.agrees counted;
      own = own-ringed;
    }
