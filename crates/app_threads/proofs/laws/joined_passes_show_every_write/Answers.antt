use Rattle.std.proofs.Common.{arith}
use Rattle.app_threads.proofs.Joining.{joined_closed, versions_are}
use Rattle.app_threads.proofs.laws.joined_passes_show_every_write.Goals as goal

pub returns : goal.returns
returns c = record {
  closed = joined_closed;
  versions = λ bank targets duties dones set t p none j lt.
      versions_are bank targets duties dones set p j t none (let c = j.done.count in omega (arith, lt, c));
}
