use Rattle.std.proofs.Common.{◌≡◌}
use Rattle.gateway_core.proofs.Takes.{HaveTaken}
use Rattle.gateway_core.proofs.collected.Collected.take.Given as goal

abbrev pub invariant-loop-set : goal.invariant-loop-set
invariant-loop-set l = record {
  sources : l.self.sources ≡ l.fn.self.sources;
  logged : l.self.logged ≡ l.fn.self.logged;
  taken : HaveTaken l.fn.self.logged l.set l.fn.self.sources.items l.passes l.origins l.fn.self.samples.items l.self.samples.items l.fn.self.versions.items l.self.versions.items;
}
