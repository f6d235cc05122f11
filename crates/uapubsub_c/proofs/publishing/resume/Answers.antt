use Rattle.std.proofs.Common.{ℕ, subst}
use Rattle.device.specs.Resuming.{IsBehindConfigured}
use Rattle.uapubsub_c.proofs.publishing.resume.Goals as goal

pub returns-then-resume-clause-resumes : goal.returns-then-resume-clause-resumes
returns-then-resume-clause-resumes c =
    subst (λ (keygroup : ℕ). IsBehindConfigured keygroup c.args.now c.args.used c.args.publisher.now c.resume.new.self) c.in-Some.ensures.is
    c.if-resume.ensures.behind
