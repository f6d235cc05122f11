use Rattle.std.proofs.Common.{subst}
use Rattle.device_laws.specs.Publishing.{ArePublisherSteps}
use Rattle.device_laws.proofs.Restarting.{once-given, restarted-apart}
use Rattle.device_laws.proofs.restarts.no_number_is_given_again_after_a_restart.Goals as goal

pub returns : goal.returns
returns c =
    let falls = c.no_sender_falls_back.ensures in
    record {
      once = λ text life k since before step pair other is e gives has.
          once-given falls k life.first since step before pair other (subst (ArePublisherSteps life.first) e is.steps_are) gives has;
      restarted = λ text other earlier later k one two is_earlier is_later goes has again.
          restarted-apart falls k earlier later one two is_earlier.steps_are is_later.steps_are goes has again;
    }
