-- Where a read group stands with the keys that it has: what it read with those of earlier rings is its beginning.
use Rattle.std.specs.Prelude.{ℕ, List, [], ◌∷◌, Bool, true, false, ◌==◌, Result}
use Rattle.std.specs.Option.{option_map_or}
use Rattle.message_guard.specs.declared.keys.TokenKeys.{TokenKeys}
use Rattle.ps_config.specs.declared.parts.Config.{Config}
use Rattle.ps_config.specs.declared.parts.ReadGroupPart.{ReadGroupPart}
use Rattle.reader_group.specs.declared.refusal.Refusal.{Refusal}
use Rattle.reader_group.specs.declared.refusal.Taken.{Taken}
use Rattle.reader_group.specs.Plain.{Setting, PlainGroup, Event, Got, Expired, Stopped, answer, step, with_keys}
use Rattle.reader_group.specs.Settings.{setting_of}
use Rattle.session_model.specs.Steps.{Step}
use Rattle.session_model.specs.Events.{plain_at}
use Rattle.session_model.specs.Answers.{answers_at}

-- the keys, the plain reading, and its answers to datagrams, the latest first
pub record Reading : Type 0 where
  pub keys : List TokenKeys
  pub value : PlainGroup
  pub answered : List (Result Taken Refusal)

-- the setting of a read group with its keys
abbrev pub setting_in : Config → ℕ → Reading → Setting
setting_in config r reading = with_keys (setting_of config r) reading.keys

-- the plain reading once these befell the group besides
abbrev pub read_on : Setting → PlainGroup → List Event → PlainGroup
read_on setting value [] = value
read_on setting value (event ∷ before) = step setting (read_on setting value before) event

-- and its answers
abbrev pub answered_on : Setting → Reading → List Event → List (Result Taken Refusal)
answered_on setting reading [] = reading.answered
answered_on setting reading (Got moment on datagram ∷ before) =
    answer setting (read_on setting reading.value before) moment on datagram ∷ answered_on setting reading before
answered_on setting reading (Expired moment ∷ before) = answered_on setting reading before
answered_on setting reading (Stopped reader why ∷ before) = answered_on setting reading before

-- where the group stands then
abbrev pub goes_on : Config → ℕ → Reading → List Event → Reading
goes_on config r reading befell = record {
  keys = reading.keys;
  value = read_on (setting_in config r reading) reading.value befell;
  answered = answered_on (setting_in config r reading) reading befell;
}

-- where these steps leave a read group that no ring renewed
abbrev pub reading_at : Config → List Step → ℕ → Reading
reading_at config steps r =
    record { keys = (setting_of config r).setup.keys; value = plain_at config r steps; answered = answers_at config r steps }

-- ---- renewals

-- the read group has the keys of this key group
abbrev pub reads_with : ReadGroupPart → ℕ → Bool
reads_with group k = option_map_or (λ other. other == k) group.keygroup false

-- with other keys the group goes on where it stands
abbrev pub rekeyed_if : Bool → List TokenKeys → Reading → Reading
rekeyed_if true keys reading = record reading { keys = keys }
rekeyed_if false keys reading = reading
