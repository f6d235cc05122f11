use Rattle.std.proofs.Common.{sym, subst}
use Rattle.ps_config.specs.Sound.{AreDistinct}
use Rattle.pubsub_states.proofs.NameLaws.{found_by_name}
use Rattle.pubsub_states.proofs.NamesInOrder.{names_in_order}
use Rattle.pubsub_states.proofs.laws.components_are_found_by_their_names.Goals as goal

pub returns-clause-names : goal.returns-clause-names
returns-clause-names c = names_in_order

pub returns-clause-found : goal.returns-clause-found
returns-clause-found c =
    λ config component sound among. found_by_name config component (subst AreDistinct (sym (names_in_order config)) sound.one_component) among
