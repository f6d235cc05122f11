-- What was written is read back.
use Rattle.std.proofs.Common.{◌≡◌, ℕ, List, Option, Result, Ok, sym, ap, subst, ◌∙◌}
use Rattle.std.specs.Prelude.{IsOk, is_ok}
use Rattle.key_service.specs.declared.reading.Request.{Request}
use Rattle.key_service.specs.declared.service.Keys.{Keys}
use Rattle.key_service.specs.declared.wire_fault.WireFault.{WireFault}
use Rattle.key_service.specs.Pulled.{as_read}
use Rattle.key_service.specs.Reading.{reply_in, request_in}
use Rattle.key_service.specs.Spelling.{reply_bytes, request_bytes}
use Rattle.key_service.proofs.Again.{reply_again, request_again}
use Rattle.ps_config.specs.declared.parts.Config.{Config}
use Rattle.cmd_keys.specs.declared.refusal.Refusal.{Refusal}
use Rattle.cmd_keys.specs.declared.words.Asked.{Asked}
use Rattle.cmd_keys.specs.Answers.{IsAnswer, asked_by}
use Rattle.cmd_keys.specs.Trials.{IsAnswerTo, IsReplyOf, IsRequestOf}

-- bytes are read as one value
one_value : {A : Type 0} (a b : A) (read : Result A WireFault) → Ok a ≡ read → read ≡ Ok b → a ≡ b
one_value a b read is law = let both : Ok a ≡ Ok b = is ∙ law in cc

-- ---- requests

abbrev request_for : List ℕ → Asked → Request
request_for group asked = record { group = group; start = asked.start; count = asked.count }

request_read : (asked : Asked) (bytes : List ℕ) (is : IsRequestOf asked bytes) → request_in bytes ≡ Ok (request_for is.group asked)
request_read asked bytes is =
    let law : request_in (request_bytes is.group asked.start asked.count) ≡ Ok (request_for is.group asked) = request_again is.group asked.start asked.count is.request in
    ap request_in is.spelled ∙ law

pub request_readable : (asked : Asked) (bytes : List ℕ) → IsRequestOf asked bytes → IsOk (request_in bytes)
request_readable asked bytes is = ap is_ok (request_read asked bytes is)

abbrev with_group : Asked → Option (List ℕ) → Asked
with_group asked group = record { group = group; start = asked.start; count = asked.count; moment = asked.moment }

-- what is read of the bytes is what is asked
pub is_asked : (asked : Asked) (bytes : List ℕ) (request : Request) → IsRequestOf asked bytes → Ok request ≡ request_in bytes → asked_by request asked.moment ≡ asked
is_asked asked bytes request is read =
    ap (λ (q : Request). asked_by q asked.moment) (one_value request (request_for is.group asked) (request_in bytes) read (request_read asked bytes is))
    ∙ ap (with_group asked) (sym is.asks)

pub answers_asked : (config : Config) (asked : Asked) (bytes : List ℕ) (answer : Result Keys Refusal) → IsRequestOf asked bytes → IsAnswerTo config asked.moment bytes answer
    → IsAnswer config asked answer
answers_asked config asked bytes answer is given = subst (λ (a : Asked). IsAnswer config a answer) (is_asked asked bytes given.request is given.read) given.answers

-- ---- replies

reply_read : (keys : Keys) (bytes : List ℕ) → IsReplyOf keys bytes → reply_in bytes ≡ Ok (as_read keys)
reply_read keys bytes is =
    let law : reply_in (reply_bytes keys) ≡ Ok (as_read keys) = reply_again keys is.reply in
    ap reply_in is.spelled ∙ law

pub reply_readable : (keys : Keys) (bytes : List ℕ) → IsReplyOf keys bytes → IsOk (reply_in bytes)
reply_readable keys bytes is = ap is_ok (reply_read keys bytes is)

-- what is read of the bytes is the keys, with the moments of a puller
pub read_is : (keys read : Keys) (bytes : List ℕ) → IsReplyOf keys bytes → Ok read ≡ reply_in bytes → read ≡ as_read keys
read_is keys read bytes is got = one_value read (as_read keys) (reply_in bytes) got (reply_read keys bytes is)
