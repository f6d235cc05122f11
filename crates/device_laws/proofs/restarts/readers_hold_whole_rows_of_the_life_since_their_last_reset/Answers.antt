use Rattle.reader_group.proofs.Answered.{StepKeeps}
use Rattle.device_laws.proofs.SinceReset.{since-holds, since-keeps, since-there}
use Rattle.device_laws.proofs.restarts.readers_hold_whole_rows_of_the_life_since_their_last_reset.Goals as goal

pub returns : goal.returns
returns c =
    let ring = c.a_ring_makes_senders_of_its_key_group.ensures in
    let turns = c.what_the_laws_below_say.ensures.turns in
    let step : StepKeeps = record { frame = c.each_step_keeps_records.ensures.frame } in
    record {
      comes = λ text other pl sl readers r i g w before earlier are placed. since-there ring turns text other pl sl readers r i g w before are earlier placed;
      keeps = λ text other pl sl readers r i g w before list are comes near. since-keeps ring turns text other pl sl readers r i g w before are step list comes near;
      holds = λ text other pl sl readers r i g w before list are counted comes near reader row has e. since-holds ring turns text other pl sl readers r i g w before are step counted list comes near reader row has e;
    }
