-- What passed between a key service and a puller: request and reply in bytes, the keys that are read there, and what the puller's guard opened.
use Rattle.std.specs.Prelude.{◌≡◌, ◌≢◌, ℕ, List, [], ◌∷◌, map, Bool, Option, Some, None, option_map, Result, Ok, Err}
use Rattle.arrayvec.specs.ArrayVec.{ArrayVec}
use Rattle.group_keys.specs.declared.key_set.KeySet.{KeySet}
use Rattle.key_service.specs.declared.reading.Request.{Request}
use Rattle.key_service.specs.declared.service.Keys.{Keys}
use Rattle.key_service.specs.Laws.{IsReply, IsRequest}
use Rattle.key_service.specs.Reading.{reply_in, request_in}
use Rattle.key_service.specs.Spelling.{reply_bytes, request_bytes}
use Rattle.message_guard.specs.declared.mode.Mode.TheVariants.{Encrypt}
use Rattle.message_guard.specs.Guards.{Setup}
use Rattle.message_guard.specs.Protection.{keys_in}
use Rattle.ps_config.specs.declared.parts.Config.{Config}
use Rattle.cmd_keys.specs.declared.refusal.Refusal.{Refusal}
use Rattle.cmd_keys.specs.declared.refusal.Refusal.TheVariants.{NotFound}
use Rattle.cmd_keys.specs.declared.trial.Exchange.{Exchange}
use Rattle.cmd_keys.specs.declared.trial.Refused.{Refused}
use Rattle.cmd_keys.specs.declared.trial.Trial.{Trial}
use Rattle.cmd_keys.specs.declared.words.Asked.{Asked}
use Rattle.cmd_keys.specs.Answers.{IsAnswer, asked_by}
use Rattle.cmd_keys.specs.Opening.{Finds, IsProtected, is_zeros}

-- the bytes that were found, if some were
abbrev pub found_in : Trial → Option (List ℕ)
found_in trial = option_map (λ found. found.items) trial.found

-- the guard found four zero bytes
abbrev pub has_opened : Trial → Bool
has_opened trial = is_zeros (found_in trial)

-- A datagram of four zero bytes was protected under the key, and this is what the guard finds in it.
pub record IsTrial (setup : Setup) (set : KeySet) (trial : Trial) : Type 0 where
  pub token : trial.token ≡ set.token
  pub sent : IsProtected set trial.sent.items
  pub found : Finds setup trial.sent.items (found_in trial)

-- one for each key, in order
abbrev pub AreTrials : Setup → List KeySet → List Trial → Type 0
AreTrials setup [] trials = trials ≡ []
AreTrials setup (set ∷ sets) [] = ⊥
AreTrials setup (set ∷ sets) (trial ∷ trials) = IsTrial setup set trial × AreTrials setup sets trials

-- the guard of a puller that read these keys
abbrev pub puller_setup : Keys → Setup
puller_setup read = record { keys = map keys_in read.keys.items; mode = Encrypt; first_block = 1 }

-- where START is 0, each key of the answer was tried with the guard of the puller, and else none
abbrev pub AreTried : ℕ → Keys → Keys → Option (ArrayVec Trial) → Type 0
AreTried start keys read None = start ≢ 0
AreTried start keys read (Some trials) = (start ≡ 0) × AreTrials (puller_setup read) keys.keys.items trials.items

-- the bytes spell the request that is asked for: of a group with a name, from START on, of COUNT keys
pub record IsRequestOf (asked : Asked) (bytes : List ℕ) : Type 0 where
  pub group : List ℕ
  pub asks : asked.group ≡ Some group
  pub request : IsRequest group asked.start asked.count
  pub spelled : bytes ≡ request_bytes group asked.start asked.count

-- this is answered at the moment to the request that is read of the bytes
pub record IsAnswerTo (config : Config) (moment : ℕ) (bytes : List ℕ) (answer : Result Keys Refusal) : Type 0 where
  pub request : Request
  pub read : Ok request ≡ request_in bytes
  pub answers : IsAnswer config (asked_by request moment) answer

-- the bytes spell the keys in a reply
pub record IsReplyOf (keys : Keys) (bytes : List ℕ) : Type 0 where
  pub reply : IsReply keys
  pub spelled : bytes ≡ reply_bytes keys

-- The puller asked in the bytes of the request, and the service replied to what is read of them. The puller read the keys in the bytes of the reply, and tried them.
pub record IsExchangeOf (config : Config) (asked : Asked) (made : Exchange) : Type 0 where
  pub keys : Keys
  pub request : IsRequestOf asked made.request.items
  pub answer : IsAnswerTo config asked.moment made.request.items (Ok keys)
  pub reply : IsReplyOf keys made.reply.items
  pub read : Ok made.read ≡ reply_in made.reply.items
  pub tried : AreTried asked.start keys made.read made.trials

-- NotFound where GROUP is no name, of which there is no request, and else what is answered to what is read of the request's bytes
abbrev pub IsRefusal : Config → Asked → Option (ArrayVec ℕ) → Refusal → Type 0
IsRefusal config asked None refusal = (asked.group ≡ None) × (refusal ≡ NotFound)
IsRefusal config asked (Some request) refusal =
    IsRequestOf asked request.items × IsAnswerTo config asked.moment request.items (Err refusal)

-- what came of what was asked of a configuration
abbrev pub IsExchange : Config → Asked → Result Exchange Refused → Type 0
IsExchange config asked (Ok made) = IsExchangeOf config asked made
IsExchange config asked (Err refused) = IsRefusal config asked refused.request refused.refusal
