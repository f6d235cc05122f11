use Rattle.reader_group.proofs.Answered.{StepKeeps}
use Rattle.device_laws.proofs.NearReads.{near-holds, near-keeps, placed-there}
use Rattle.device_laws.proofs.near.readers_hold_whole_rows_where_places_are_near.Goals as goal

pub returns : goal.returns
returns c =
    let ring = c.a_ring_makes_senders_of_its_key_group.ensures in
    let turns = c.what_the_laws_below_say.ensures.turns in
    let step : StepKeeps = record { frame = c.each_step_keeps_records.ensures.frame } in
    record {
      comes = λ text other pl sl readers r i g w are. placed-there ring turns text other pl sl readers r i g w are;
      keeps = λ text other pl sl readers r i g w list are comes near. near-keeps ring turns text other pl sl readers r i g w are step list comes near;
      holds = λ text other pl sl readers r i g w list are counted comes near reader row has e. near-holds ring turns text other pl sl readers r i g w are step counted list comes near reader row has e;
    }
