use Rattle.std.proofs.Common.{ap, ◌∙◌}
use Rattle.key_service.specs.Reading.{reply_in}
use Rattle.cmd_keys.proofs.Back.{read_is, reply_readable}
use Rattle.cmd_keys.proofs.answering.exchange_of.Goals as goal

pub reply_back-read-requires : goal.reply_back-read-requires
reply_back-read-requires c =
    reply_readable c.args.keys.now c.as_slice.result.now (record { reply = c.requires.reply; spelled = c.as_slice.ensures.value ∙ c.reply_of-reply.ensures })

pub trials_of-requires-clause-back : goal.trials_of-requires-clause-back
trials_of-requires-clause-back c =
    read_is c.args.keys.now c.reply_back-read.result c.as_slice.result.now (record { reply = c.requires.reply; spelled = c.as_slice.ensures.value ∙ c.reply_of-reply.ensures })
    c.reply_back-read.ensures

pub returns-clause-reply : goal.returns-clause-reply
returns-clause-reply c = record { reply = c.requires.reply; spelled = c.reply_of-reply.ensures }

pub returns-clause-read : goal.returns-clause-read
returns-clause-read c = c.reply_back-read.ensures ∙ ap reply_in c.as_slice.ensures.value
