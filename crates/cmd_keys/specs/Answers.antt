-- What a key service answers that serves a key group of a configuration.
use Rattle.std.specs.Prelude.{◌≡◌, List, ℕ, map, find, Option, Some, None, option_and_then, Result, Ok, Err}
use Rattle.std.specs.Str.{bytes_eq}
use Rattle.group_keys.specs.declared.ring.Ring.{Ring}
use Rattle.group_keys.specs.Ring.{is_long as is_long_ring, key_sets}
use Rattle.key_service.specs.declared.reading.Request.{Request}
use Rattle.key_service.specs.declared.service.Keys.{Keys}
use Rattle.key_service.specs.Answers.{answer}
use Rattle.key_service.specs.Services.{IsServed, Refuses}
use Rattle.ps_config.specs.declared.parts.Config.{Config}
use Rattle.ps_config.specs.declared.parts.KeyGroupPart.{KeyGroupPart}
use Rattle.ps_config.specs.Configs.{is_long}
use Rattle.ps_config.specs.Rings.{key_set}
use Rattle.cmd_keys.specs.declared.refusal.Refusal.{Refusal}
use Rattle.cmd_keys.specs.declared.refusal.Refusal.TheVariants.{NotFound, Unserved}
use Rattle.cmd_keys.specs.declared.words.Asked.{Asked}

-- what a request asks for at a moment
abbrev pub asked_by : Request → ℕ → Asked
asked_by request moment = record { group = Some request.group; start = request.start; count = request.count; moment = moment }

-- the key group of this name, if there is one
abbrev pub group_named : List KeyGroupPart → List ℕ → Option KeyGroupPart
group_named groups name = find (λ group. bytes_eq group.name name) groups

-- the ring has the keys of the key group, for its policy
pub record IsRingOf (group : KeyGroupPart) (ring : Ring) : Type 0 where
  pub long : is_long_ring ring ≡ is_long group.policy
  pub keys : key_sets ring ≡ map key_set group.key

-- the answer of a service with this ring: keys where it can be served, and else the first of its faults
abbrev pub IsAnswerOf : Ring → Asked → Result Keys Refusal → Type 0
IsAnswerOf ring asked (Ok keys) = IsServed (key_sets ring) × (keys ≡ answer ring asked.moment asked.start asked.count)
IsAnswerOf ring asked (Err (Unserved fault)) = Refuses (key_sets ring) fault
IsAnswerOf ring asked (Err NotFound) = ⊥

-- the answer of the service of this key group
abbrev pub IsServiceAnswer : KeyGroupPart → Asked → Result Keys Refusal → Type 0
IsServiceAnswer group asked answer = (ring : Ring) × IsRingOf group ring × IsAnswerOf ring asked answer

-- NotFound where there is no key group, as where GROUP is no name
abbrev pub IsGroupAnswer : Option KeyGroupPart → Asked → Result Keys Refusal → Type 0
IsGroupAnswer None asked answer = answer ≡ Err NotFound
IsGroupAnswer (Some group) asked answer = IsServiceAnswer group asked answer

-- what is answered of a configuration
abbrev pub IsAnswer : Config → Asked → Result Keys Refusal → Type 0
IsAnswer config asked answer =
    IsGroupAnswer (option_and_then (group_named config.keygroup) asked.group) asked answer
