use Rattle.gateway_laws.specs.Witness.{again_config, again_text}
use Rattle.gateway_laws.proofs.Small.{AgainLaws, again-is-read, honest-again, honest-source, its-cell, its-indexes, its-lawful, its-pass, its-stored, logged-again, made-last, newer-told, numbered-again, older-told, row-again, small-came, small-lives, small-relay, uncut-small}
use Rattle.gateway_laws.proofs.witness.a_small_relay_meets_the_premises.Goals as goal

pub returns : goal.returns
returns c =
    let small = c.small_sessions_meet_the_premises.ensures in
    let sound = c.an_accepted_configuration_is_sound.ensures in
    let laws : AgainLaws = record {
      sound = sound.sound again_text again_config again-is-read;
      fixed = sound.fixed again_text again_config again-is-read;
      types = c.the_built_in_configuration_is_sound.ensures.types;
    } in
    record {
      accepted = again-is-read;
      relay = small-relay laws small.whole;
      versions = small.versions;
      honest_source = honest-source small.whole;
      honest_again = honest-again;
      numbered = numbered-again;
      logged = logged-again;
      held = row-again;
      earlier = older-told;
      later = newer-told;
      uncut = uncut-small;
      made = made-last;
      came = small-came;
      indexes = its-indexes small.whole.matched;
      lives = small-lives;
      cell = its-cell laws;
      pass = (its-pass, its-lawful laws, its-stored);
    }
