use Rattle.std.proofs.Common.{ap, ◌∙◌}
use Rattle.lane_groups.specs.declared.lane.Lane.{Lane}
use Rattle.lane_groups.proofs.Beginning.{begun-refreshed, begun-same, mid-count, mid-refreshable}
use Rattle.lane_groups.proofs.lane.Lane.begin.Goals as goal

pub come_to-requires : goal.come_to-requires
come_to-requires c = c.requires.lane.sender_is.sender_is

pub refresh-requires-clause-count : goal.refresh-requires-clause-count
refresh-requires-clause-count c =
    mid-count c.args.config.now c.args.moment c.args.self.now c.come_to.new.self c.come_to.result c.requires.lane c.come_to.ensures.come c.come_to.ensures.rest

pub refresh-requires-clause-placed : goal.refresh-requires-clause-placed
refresh-requires-clause-placed c =
    mid-refreshable c.args.config.now c.args.moment c.args.self.now c.come_to.new.self c.come_to.result c.requires.lane c.come_to.ensures.come c.come_to.ensures.rest

pub returns-then-come_to-clause-keygroup : goal.returns-then-come_to-clause-keygroup
returns-then-come_to-clause-keygroup c = ap (λ (l : Lane). l.keygroup) c.refresh.ensures.rest ∙ ap (λ (l : Lane). l.keygroup) c.come_to.ensures.rest

pub returns-else-come_to-clause-keygroup : goal.returns-else-come_to-clause-keygroup
returns-else-come_to-clause-keygroup c = ap (λ (l : Lane). l.keygroup) c.come_to.ensures.rest

pub returns-then-come_to-clause-begun : goal.returns-then-come_to-clause-begun
returns-then-come_to-clause-begun c =
    begun-refreshed c.args.config.now c.args.moment c.args.self.now c.come_to.new.self c.come_to.result c.requires.lane c.come_to.ensures.come c.come_to.ensures.rest c.refresh.new.self
    c.if-come_to.true c.refresh.ensures.refreshed c.refresh.ensures.rest

pub returns-else-come_to-clause-begun : goal.returns-else-come_to-clause-begun
returns-else-come_to-clause-begun c =
    begun-same c.args.config.now c.args.moment c.args.self.now c.come_to.new.self c.come_to.result c.requires.lane c.come_to.ensures.come c.come_to.ensures.rest c.if-come_to.false
