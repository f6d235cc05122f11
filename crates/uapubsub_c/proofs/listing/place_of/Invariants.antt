use Rattle.std.proofs.Common.{ℕ, ◌<◌}
use Rattle.uapubsub_c.specs.Listing.{IsNamed}
use Rattle.uapubsub_c.proofs.listing.place_of.Given as goal

-- no part so far has the name
abbrev pub invariant-loop-index : goal.invariant-loop-index
invariant-loop-index l = (k : ℕ) → k < l.index → ¬ IsNamed l.config l.list l.of k l.name
