use Rattle.session_model.specs.Counts.{most_ticks}
use Rattle.session_laws.specs.Witness.{three_plan}
use Rattle.turn_laws.specs.Lives.{between_life, ringed_life}
use Rattle.turn_laws.proofs.Honest.{three-renewed, three-short}
use Rattle.turn_laws.proofs.RingTick.{ringed-are, ringed-honest, ringed-rekeyed, ringed-rise, ringed-short, ringed-signed, ringed-tokens, ringed-versions}
use Rattle.turn_laws.proofs.witness.a_renewed_life_meets_the_premises.Goals as goal

pub returns : goal.returns
returns c =
    let is = c.sessions_of_each_kind_meet_the_premises.ensures.signed in
    let short = c.a_signed_life_meets_the_premises.ensures.short in
    let signed = c.what_a_secured_group_takes_is_signed.ensures in
    let holds = c.each_turn_of_a_life_holds.ensures in
    record {
      between = three-renewed signed is (holds most_ticks three_plan between_life is.plan is.steps_are (three-short short.0));
      ringed = ringed-signed signed is (holds most_ticks three_plan ringed_life is.plan (ringed-are is) (ringed-short short.0));
      honest = ringed-honest;
      steps = ringed-are is;
      rise = ringed-rise;
      versions = ringed-versions c.sessions_of_each_kind_meet_the_premises.ensures.run.versions;
      tokens = ringed-tokens;
      rekeyed = ringed-rekeyed is;
    }
