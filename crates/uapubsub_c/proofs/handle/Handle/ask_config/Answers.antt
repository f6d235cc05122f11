use Rattle.std.proofs.Common.{refl, ap, ◌∙◌}
use Rattle.std.specs.Fn.{FnOnceReturnsAt}
use Rattle.uapubsub_c.specs.Answers.{OfConfig}
use Rattle.uapubsub_c.specs.Handles.{config_in}
use Rattle.uapubsub_c.proofs.Answering.{answered}
use Rattle.uapubsub_c.proofs.handle.Handle.ask_config.Goals as goal

pub returns : goal.returns
returns g c =
    answered (OfConfig (FnOnceReturnsAt g.F.FnOnce c.args.question)) c.args.self.now c.put.new.self c.in-Some.kept.value c.in-Some.kept.value
    c.question-answer.result c.in-Some.ensures.held c.put.ensures.ready c.put.ensures.held
    (record { same = refl; so = (_, c.question-answer.ensures, c.config.ensures ∙ ap config_in c.deref.ensures) })
