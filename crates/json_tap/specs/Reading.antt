-- What is read of the lines that messages are written in.
use mathlib.Core.Sum.{⊎_set}
use Rattle.std.proofs.Props.{props}
use Rattle.std.specs.Prelude.{◌≡◌, ⊤, ℕ, ◌+◌, List, [], ◌∷◌, Option, Some}
use Rattle.ua_base.specs.Journal.{LinkState, sent_list}
use Rattle.ps_config.specs.declared.parts.Config.{Config}
use Rattle.ps_config.specs.Sound.{IsSound}
use Rattle.json_frames.specs.declared.message.JsonRead.{JsonRead}
use Rattle.json_frames.specs.Documents.{HasMessage, IsRead}
use Rattle.json_frames.specs.Parts.{Part}
use Rattle.json_tap.specs.Transcoding.{Message, line, messages_of, sets_of, transcoded}

-- what is read of the bytes is the message, with no bad element, by the data sets of the configuration's writers
abbrev pub IsReadAs : Config → List ℕ → Message → Type 0
IsReadAs config bytes message =
    (found : JsonRead) → IsRead config.dataset (sets_of config) bytes found
    → HasMessage config.dataset message.publisher message.parts found

-- each line of messages, of which the first has this number, is read as the message that it is of
abbrev pub AreReadAs : Config → ℕ → List Message → Type 0
AreReadAs config number [] = ⊤
AreReadAs config number (message ∷ messages) =
    IsReadAs config (line config number message) message × AreReadAs config (number + 1) messages

-- for a sound configuration, the lines of what a link tells that it sent are read as the messages that are transcoded of it
abbrev pub LinkIsReadAs : Config → Option LinkState → Type 0
LinkIsReadAs config told =
    (state : LinkState) → told ≡ Some state → IsSound config
    → AreReadAs config 0 (messages_of config (sent_list state.journal))

-- the line that a datagram gives under this number, where it gives one, is read as the message that is transcoded of it
abbrev pub IsReadBack : Config → ℕ → List ℕ → Type 0
IsReadBack config number datagram =
    (message : Message) → IsSound config → transcoded config datagram ≡ Some message
    → IsReadAs config (line config number message) message

-- ---- such a fact has one proof at most

pub part-set : IsSet Part
part-set = hlevel (⊎_set, props)

pub read-prop : (config : Config) (number : ℕ) (messages : List Message) → IsProp (AreReadAs config number messages)
read-prop config number [] = hlevel props
read-prop config number (message ∷ messages) = hlevel (part-set, read-prop config (number + 1) messages, props)

pub link-prop : (config : Config) (told : Option LinkState) → IsProp (LinkIsReadAs config told)
link-prop config told = hlevel (read-prop, props)
