use Rattle.session_laws.proofs.Versions.Numbers.{life-once}
use Rattle.session_laws.proofs.renewals.no_token_and_number_come_twice_in_a_life.Goals as goal

pub returns : goal.returns
returns c =
    let once_is = life-once c.no_token_and_number_come_twice_in_groups.ensures in
    let hold = c.each_turn_of_a_life_holds.ensures in
    λ limit p k life plan are short there. once_is p k life plan (hold limit p life plan are short) there
