use Rattle.std.proofs.Common.{Err, sym, ap, ◌∙◌}
use Rattle.key_service.specs.Reading.{request_in}
use Rattle.cmd_keys.specs.declared.words.Asked.{Asked}
use Rattle.cmd_keys.specs.Trials.{IsAnswerTo, IsExchangeOf, IsRequestOf}
use Rattle.cmd_keys.proofs.Back.{is_asked, request_readable}
use Rattle.cmd_keys.proofs.answering.exchange_with.Goals as goal

pub request_back-read-requires : goal.request_back-read-requires
request_back-read-requires c =
    let spelled = c.as_slice.ensures.value ∙ c.request_of-request.ensures.spelled in
    let asks : IsRequestOf c.args.asked.now c.as_slice.result.now =
    record { group = c.args.group.now; asks = c.requires.group; request = c.request_of-request.ensures.request; spelled = spelled } in
    request_readable c.args.asked.now c.as_slice.result.now asks

pub exchange_of-requires-clause-pullable : goal.exchange_of-requires-clause-pullable
exchange_of-requires-clause-pullable c =
    let spelled = c.as_slice.ensures.value ∙ c.request_of-request.ensures.spelled in
    let asks : IsRequestOf c.args.asked.now c.as_slice.result.now =
    record { group = c.args.group.now; asks = c.requires.group; request = c.request_of-request.ensures.request; spelled = spelled } in
    let same = is_asked c.args.asked.now c.as_slice.result.now c.request_back-read.result asks c.request_back-read.ensures in
    λ current. c.in-Ok.ensures.pullable (ap (λ (asked : Asked). asked.start) same ∙ current)

pub returns-in-Err : goal.returns-in-Err
returns-in-Err c =
    let asks : IsRequestOf c.args.asked.now c.request_of-request.result.items =
    record { group = c.args.group.now; asks = c.requires.group; request = c.request_of-request.ensures.request; spelled = c.request_of-request.ensures.spelled } in
    let answer : IsAnswerTo c.args.config.now c.args.asked.now.moment c.request_of-request.result.items (Err c.in-Err.refusal) =
    record { request = c.request_back-read.result; read = c.request_back-read.ensures ∙ ap request_in c.as_slice.ensures.value; answers = c.in-Err.ensures.answer } in
    (asks, answer)

pub returns : goal.returns
returns c =
    let moved = c.exchange_of.ensures.request in
    let read = c.request_back-read.ensures ∙ ap request_in (c.as_slice.ensures.value ∙ sym moved) in
    let made : IsExchangeOf c.args.config.now c.args.asked.now c.exchange_of.result =
    record {
      keys = c.in-Ok.keys;
      request = record { group = c.args.group.now; asks = c.requires.group; request = c.request_of-request.ensures.request; spelled = moved ∙ c.request_of-request.ensures.spelled };
      answer = record { request = c.request_back-read.result; read = read; answers = c.in-Ok.ensures.answer };
      reply = c.exchange_of.ensures.reply;
      read = c.exchange_of.ensures.read;
      tried = c.exchange_of.ensures.tried;
    } in
    made
