use Rattle.std.proofs.Common.{◌∙◌, sym, ap, subst}
use Rattle.key_service.specs.Pulled.{IsPullable, pulled_sets}
use Rattle.cases_key.proofs.Back.{back_is}
use Rattle.cases_key.proofs.read_back.pulled_back.Goals as goal

pub pulled-requires : goal.pulled-requires
pulled-requires c =
    subst IsPullable
    (sym (back_is c.args.keys.now c.in-Ok.back _ c.in-Some.ensures.reply c.in-Ok.ensures (c.a_written_reply_is_read.ensures c.args.keys.now c.requires.reply)))
    (c.a_read_answer_is_pulled_as_the_answer.ensures.pullable c.args.keys.now c.requires.pullable)

pub returns-in-Ok : goal.returns-in-Ok
returns-in-Ok c =
    c.pulled.ensures.sets
    ∙ ap pulled_sets (back_is c.args.keys.now c.in-Ok.back _ c.in-Some.ensures.reply c.in-Ok.ensures (c.a_written_reply_is_read.ensures c.args.keys.now c.requires.reply))
    ∙ c.a_read_answer_is_pulled_as_the_answer.ensures.sets c.args.keys.now
