use Rattle.std.proofs.Common.{◌≡◌, take}
use Rattle.pubsub_model.specs.Answers.{version_of as version_in}
use Rattle.pubsub_engine.proofs.logs.version_of.Given as goal

abbrev pub invariant-loop-place : goal.invariant-loop-place
invariant-loop-place l = l.version ≡ version_in (take l.place-index l.log) l.number
