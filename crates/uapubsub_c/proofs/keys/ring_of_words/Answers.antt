use Rattle.std.proofs.Common.{List, sym, subst, ◌∙◌}
use Rattle.std.proofs.lemmas.Bool.{false≢true}
use Rattle.group_keys.specs.Faults.{IsAccepted}
use Rattle.group_keys.specs.declared.key_set.KeySet.{KeySet}
use Rattle.uapubsub_c.proofs.keys.ring_of_words.Goals as goal

pub returns-in-Ok-clause-sets : goal.returns-in-Ok-clause-sets
returns-in-Ok-clause-sets c = c.in-Ok.ensures.sets ∙ c.key_sets_of.ensures

pub returns-in-Err-clause-none : goal.returns-in-Err-clause-none
returns-in-Err-clause-none c =
    λ accepted. false≢true (c.in-Err.ensures.accepted.1 (subst (λ (sets : List KeySet). IsAccepted c.args.long sets) (sym c.key_sets_of.ensures) accepted))
