use Rattle.app_threads.proofs.Looking.{watched_never_falls, watched_within}
use Rattle.app_threads.proofs.laws.looks_never_fall.Goals as goal

pub returns : goal.returns
returns c = record {
  rising = λ bank targets duties dones t reader none done lt small. watched_never_falls _ _ _ ((done.each t none lt).watched reader small);
  counted = λ bank targets duties dones t reader none p done lt small later. watched_within _ _ p _ ((done.each t none lt).watched reader small) later;
}
