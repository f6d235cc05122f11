-- Each key that is tried opens, so what is told of the exchange is what is told of the answer.
use Rattle.std.proofs.Common.{◌≡◌, ℕ, Bool, true, List, [], ◌∷◌, ◌++◌, Option, Some, None, option_and_then, Ok, Err, Result, refl, sym, ap, subst, ◌∙◌, eq-eqb}
use Rattle.std.specs.Prelude.{◌==◌, All}
use Rattle.std.proofs.lemmas.List.Elements.{All-head, All-tail}
use Rattle.arrayvec.specs.ArrayVec.{ArrayVec}
use Rattle.group_keys.specs.declared.key_set.KeySet.{KeySet}
use Rattle.key_service.specs.declared.service.Keys.{Keys}
use Rattle.key_service.specs.Laws.{IsReply}
use Rattle.key_service.specs.Pulled.{as_read}
use Rattle.key_service.proofs.Looking.{not_equal}
use Rattle.ps_config.specs.declared.parts.Config.{Config}
use Rattle.ps_report.specs.Reports.{end_line}
use Rattle.cmd_keys.specs.declared.refusal.Refusal.{Refusal}
use Rattle.cmd_keys.specs.declared.refusal.Refusal.TheVariants.{NotFound}
use Rattle.cmd_keys.specs.declared.trial.Exchange.{Exchange}
use Rattle.cmd_keys.specs.declared.trial.Refused.{Refused}
use Rattle.cmd_keys.specs.declared.trial.Trial.{Trial}
use Rattle.cmd_keys.specs.declared.words.Asked.{Asked}
use Rattle.cmd_keys.specs.Answers.{IsAnswer, IsGroupAnswer, group_named}
use Rattle.cmd_keys.specs.Ends.{TellsAnswer, TellsExchange}
use Rattle.cmd_keys.specs.Opening.{is_zeros}
use Rattle.cmd_keys.specs.Texts.{exchange_lines, exchange_text, key_line, key_lines, keys_text, policy_line, trial_lines}
use Rattle.cmd_keys.specs.Trials.{AreTrials, AreTried, IsExchange, IsExchangeOf, IsRefusal, IsTrial, found_in, has_opened, puller_setup}
use Rattle.cmd_keys.proofs.Back.{answers_asked, read_is}
use Rattle.cmd_keys.proofs.Found.{finds_zeros}
use Rattle.cmd_keys.proofs.Known.{IsKnown, all_known, read_lines, read_policy}

opens : (read : Keys) (set : KeySet) (trial : Trial) → IsKnown read set → IsTrial (puller_setup read) set trial → has_opened trial ≡ true
opens read set trial known is = ap is_zeros (finds_zeros (puller_setup read) set trial.sent.items (found_in trial) refl refl known is.sent is.found)

one_line : (read : Keys) (set : KeySet) (trial : Trial) → IsKnown read set → IsTrial (puller_setup read) set trial → key_line (has_opened trial) trial.token ≡ key_line true set.token
one_line read set trial known is = ap (λ (b : Bool). key_line b trial.token) (opens read set trial known is) ∙ ap (key_line true) is.token

tried_lines : (read : Keys) (sets : List KeySet) (trials : List Trial) → All (IsKnown read) sets → AreTrials (puller_setup read) sets trials → trial_lines trials ≡ key_lines true sets
tried_lines read [] trials known are = ap trial_lines are
tried_lines read (set ∷ sets) [] known are = absurd are
tried_lines read (set ∷ sets) (trial ∷ trials) known are =
    ap (λ (text : List ℕ). text ++ trial_lines trials) (one_line read set trial (All-head (IsKnown read) set sets known) are.0)
    ∙ ap (λ (text : List ℕ). key_line true set.token ++ text) (tried_lines read sets trials (All-tail (IsKnown read) set sets known) are.1)

-- the lines of the exchange are those of the answer
lines_are : (start : ℕ) (keys : Keys) (made : Exchange) (trials : Option (ArrayVec Trial)) → IsReply keys → made.read ≡ as_read keys → AreTried start keys made.read trials
    → exchange_lines made trials ≡ key_lines (start == 0) keys.keys.items
lines_are start keys made None reply read other =
    read_lines keys made.read read ∙ ap (λ (b : Bool). key_lines b keys.keys.items) (sym (not_equal start 0 other))
lines_are start keys made (Some trials) reply read tried =
    tried_lines made.read keys.keys.items trials.items (all_known keys made.read reply read) tried.1
    ∙ ap (λ (b : Bool). key_lines b keys.keys.items) (sym (eq-eqb start 0 tried.0))

text_is : (start : ℕ) (keys : Keys) (made : Exchange) → IsReply keys → made.read ≡ as_read keys → AreTried start keys made.read made.trials
    → exchange_text (Ok made) ≡ keys_text start (Ok keys)
text_is start keys made reply read tried =
    ap (λ (text : List ℕ). text ++ exchange_lines made made.trials ++ end_line) (read_policy keys made.read read)
    ∙ ap (λ (text : List ℕ). policy_line keys ++ text ++ end_line) (lines_are start keys made made.trials reply read tried)

exchanged : (config : Config) (asked : Asked) (text : List ℕ) (made : Exchange) → IsExchangeOf config asked made → text ≡ exchange_text (Ok made) → TellsAnswer config asked text
exchanged config asked text made is text_of =
    let read = read_is is.keys made.read made.reply.items is.reply is.read in (
      Ok is.keys,
      answers_asked config asked made.request.items (Ok is.keys) is.request is.answer,
      text_of ∙ text_is asked.start is.keys made is.reply.reply read is.tried,
    )

refused : (config : Config) (asked : Asked) (request : Option (ArrayVec ℕ)) (refusal : Refusal) → IsRefusal config asked request refusal → IsAnswer config asked (Err refusal)
refused config asked None refusal is =
    subst (λ (r : Refusal). IsAnswer config asked (Err r)) (sym is.1)
    (subst (λ (group : Option (List ℕ)). IsGroupAnswer (option_and_then (group_named config.keygroup) group) asked (Err NotFound)) (sym is.0) refl)
refused config asked (Some request) refusal is = answers_asked config asked request.items (Err refusal) is.0 is.1

answers : (config : Config) (asked : Asked) (text : List ℕ) (made : Result Exchange Refused) → IsExchange config asked made → text ≡ exchange_text made → TellsAnswer config asked text
answers config asked text (Ok made) is text_of = exchanged config asked text made is text_of
answers config asked text (Err made) is text_of = (Err made.refusal, refused config asked made.request made.refusal is, text_of)

pub tells_answer : (config : Config) (asked : Asked) (text : List ℕ) → TellsExchange config asked text → TellsAnswer config asked text
tells_answer config asked text tells = answers config asked text tells.0 tells.1 tells.2
