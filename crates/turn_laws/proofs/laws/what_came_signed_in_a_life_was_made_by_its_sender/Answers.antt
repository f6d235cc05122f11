use Rattle.turn_laws.proofs.LifeRecords.{life-comes, life-made-by-sender, life-member}
use Rattle.turn_laws.proofs.laws.what_came_signed_in_a_life_was_made_by_its_sender.Goals as goal

pub returns : goal.returns
returns c =
    let laws = c.what_the_laws_below_say.ensures in
    let law = c.signed_readers_have_their_records.ensures in
    record { made = life-made-by-sender laws; records = λ most p r i g w k life is. life-member laws most p r i g w k life is law; comes = life-comes laws }
