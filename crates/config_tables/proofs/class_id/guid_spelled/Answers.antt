use Rattle.std.proofs.Common.{◌≡◌, ℕ, Bool, true, false, cond, List, Option, Some, None, option_map, refl}
use Rattle.std.proofs.lemmas.Bool.{false≢true}
use Rattle.uuid.specs.Text.{parsed}
use Rattle.config_tables.specs.Texts.{wire_of, is_plain}
use Rattle.config_tables.proofs.class_id.guid_spelled.Goals as goal

no_value : (o : Option (List ℕ)) (b : Bool) → ((u : List ℕ) × (o ≡ Some u) → ⊥) → None ≡ cond b (option_map wire_of o) None
no_value None true none = refl
no_value None false none = refl
no_value (Some u) b none = absurd (none (u, refl))

pub returns-in-Err : goal.returns-in-Err
returns-in-Err c = no_value (parsed c.args.text.now) (is_plain c.args.text.now) (λ p. false≢true (c.in-Err.ensures.ok.1 p))
