use Rattle.text_laws.proofs.Small.{small-numbers}
use Rattle.text_laws.proofs.witness.a_small_relay_meets_what_is_asked.Goals as goal

pub returns : goal.returns
returns c =
    let premises = c.a_small_relay_meets_the_premises.ensures in
    small-numbers premises.logged premises.held premises.later
