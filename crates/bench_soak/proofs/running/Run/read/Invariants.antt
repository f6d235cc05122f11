use Rattle.std.proofs.Common.{◌≡◌, length}
use Rattle.writer_group.specs.Standing.{datagrams_in}
use Rattle.bench_soak.specs.Sides.{IsRun}
use Rattle.bench_soak.proofs.running.Run.read.Given as goal

abbrev pub invariant-loop-index : goal.invariant-loop-index
invariant-loop-index l = record { run : IsRun l.config l.self; count : l.count ≡ length (datagrams_in l.self.publisher.out) }
