-- The lines of the command.
use Rattle.std.specs.Prelude.{ℕ, ◌==◌, Bool, false, List, [], ◌++◌, codes, flat_map, if◌then◌else◌, Option, Some, None, Result, Ok, Err}
use Rattle.arrayvec.specs.ArrayVec.{ArrayVec}
use Rattle.std.specs.Fmt.{decimal}
use Rattle.group_keys.specs.declared.key_set.KeySet.{KeySet}
use Rattle.key_service.specs.declared.service.Keys.{Keys}
use Rattle.key_service.specs.declared.service_fault.ServiceFault.TheVariants.{TooFew, NotConsecutive, Uneven}
use Rattle.key_service.specs.Spelling.{policy_of}
use Rattle.ps_report.specs.Lines.{feed}
use Rattle.ps_report.specs.Reports.{end_line}
use Rattle.cmd_keys.specs.declared.refusal.Refusal.{Refusal}
use Rattle.cmd_keys.specs.declared.refusal.Refusal.TheVariants.{NotFound, Unserved}
use Rattle.cmd_keys.specs.declared.trial.Exchange.{Exchange}
use Rattle.cmd_keys.specs.declared.trial.Refused.{Refused}
use Rattle.cmd_keys.specs.declared.trial.Trial.{Trial}
use Rattle.cmd_keys.specs.Trials.{has_opened}

-- the name of a refusal
abbrev pub refusal_name : Refusal → List ℕ
refusal_name NotFound = codes "NotFound"
refusal_name (Unserved TooFew) = codes "TooFew"
refusal_name (Unserved (NotConsecutive index)) = codes "NotConsecutive"
refusal_name (Unserved (Uneven index)) = codes "Uneven"

-- `policy NAME first T next A lifetime B`
unfoldable pub policy_line : Keys → List ℕ
policy_line keys =
    codes "policy " ++ policy_of keys.long ++ codes " first " ++ decimal keys.first ++ codes " next " ++ decimal keys.next
    ++ codes " lifetime " ++ decimal keys.lifetime ++ feed

-- `key T opens`, or `key T`
unfoldable pub key_line : Bool → ℕ → List ℕ
key_line opens token = codes "key " ++ decimal token ++ (if opens then codes " opens" else []) ++ feed

-- a line for each key
abbrev pub key_lines : Bool → List KeySet → List ℕ
key_lines opens sets = flat_map (λ set. key_line opens set.token) sets

-- what is written of a key that was tried: it opens where the guard found the four zero bytes
abbrev pub trial_lines : List Trial → List ℕ
trial_lines trials = flat_map (λ trial. key_line (has_opened trial) trial.token) trials

-- a line for each key that was tried, or, where none was, for each that was read
abbrev pub exchange_lines : Exchange → Option (ArrayVec Trial) → List ℕ
exchange_lines made None = key_lines false made.read.keys.items
exchange_lines made (Some trials) = trial_lines trials.items

-- `refused NAME`
abbrev pub refused_text : Refusal → List ℕ
refused_text refusal = codes "refused " ++ refusal_name refusal ++ feed ++ end_line

-- what is written of what passed between the service and the puller: the policy and the keys, or the refusal
abbrev pub exchange_text : Result Exchange Refused → List ℕ
exchange_text (Ok made) = policy_line made.read ++ exchange_lines made made.trials ++ end_line
exchange_text (Err refused) = refused_text refused.refusal

-- what so comes to be written of an answer to this START: of keys the policy and each key, which opens where START is 0; else the refusal
abbrev pub keys_text : ℕ → Result Keys Refusal → List ℕ
keys_text start (Ok keys) = policy_line keys ++ key_lines (start == 0) keys.keys.items ++ end_line
keys_text start (Err refusal) = refused_text refusal
