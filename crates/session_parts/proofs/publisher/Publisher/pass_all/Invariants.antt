use Rattle.std.proofs.Common.{◌≡◌, ◌+◌, ℕ, []}
use Rattle.ua_base.specs.Links.{KeepsLink}
use Rattle.session_parts.specs.Holding.{AreStillLogged, HoldPublisher, MayAllGoOn}
use Rattle.session_parts.specs.Ticking.{TickData, HasPassed, IsAt, IsToldOf, KnowsSpent, begun}
use Rattle.session_parts.proofs.Ticks.{GoOn}
use Rattle.session_parts.proofs.publisher.Publisher.pass_all.Given as goal

abbrev pub invariant-loop-g : goal.invariant-loop-g
invariant-loop-g g l = record {
  holds : HoldPublisher l.told.config.now l.self;
  counts : l.tree.counts ≡ l.fn.tree.counts;
  spent : KnowsSpent l.told.config.now l.self.senders.items l.tree;
  goes_on : (turns : ℕ) → MayAllGoOn l.told.config.now l.told.metas.now (turns + 1) l.fn.self.groups.items → GoOn l.told.config.now l.told.metas.now turns l.g l.self.groups.items;
  logs : AreStillLogged l.fn.self.groups.items l.self.groups.items;
  link : KeepsLink g.L.Link.told g.L.Link.patience g.L.Link.opened_with g.L.Link.faults g.L.Link.made g.L.Link.openings 0 l.fn.link l.link;
  passed : (t : TickData) → IsToldOf t l.told → IsAt t (begun t) [] l.fn.self l.fn.tree
      → HasPassed t l.g l.self l.tree (g.L.Link.told l.fn.link) (g.L.Link.told l.link);
}
