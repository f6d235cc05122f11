use Rattle.std.proofs.Common.{◌∷◌, List, refl, sym, subst, arith}
use Rattle.ua_base.proofs.Links.{KeepsLink-more, KeepsLink-then}
use Rattle.target_cells.specs.declared.origin.Origin.{Origin}
use Rattle.version_cell.specs.Known.{Known}
use Rattle.gateway_core.specs.Lived.{Collect}
use Rattle.gateway_core.specs.Holding.{MayTake}
use Rattle.gateway_core.specs.Standing.{Stands}
use Rattle.cmd_relay.proofs.Following.{follows-on, may-take, some}
use Rattle.cmd_relay.proofs.relaying.Relay.follow.Goals as goal

pub collect-requires : goal.collect-requires
collect-requires g c =
    let h = c.requires.may.holds in
    let origins = c.show_origins.new.origins.items in
    let count = c.show_origins.ensures.count in
    let may = may-take c.passes_show_what_is_collected.ensures h.0 c.args.self.now c.level.new.self origins h.1 c.level.ensures.levels c.level.ensures.player c.show_origins.ensures.shows count
    (some c.args.closing _ c.requires.may.left) in
    record {
      may = subst (λ (l : List Known). MayTake c.args.self.now.gateway l c.deref.result.now) (sym c.watches.ensures.watches)
          (subst (λ (l : List Origin). MayTake c.args.self.now.gateway c.level.new.self.watches l) (sym c.deref.ensures.value) may);
    }

pub returns-clause-follows : goal.returns-clause-follows
returns-clause-follows g c = λ second holds.
    let count = c.show_origins.ensures.count in
    follows-on c.args.ms c.args.closing c.args.self.now _ c.collect.new.self c.tick.new.self _ _ _
    (record {
      levels = c.level.ensures.levels;
      is = c.level.ensures.player;
      shows = c.show_origins.ensures.shows;
      counts_taken = c.collect.ensures.left;
      sources_taken = c.collect.ensures.sources;
      logged_taken = c.collect.ensures.logged;
      stands_taken = λ config lived stands.
          subst (λ (l : List Known). Stands config (Collect l c.show_origins.new.origins.items ∷ lived) c.collect.new.self) c.watches.ensures.watches
          (subst (λ (l : List Origin). Stands config (Collect c.watches.result.now l ∷ lived) c.collect.new.self) c.deref.ensures.value (c.collect.ensures.stands config lived stands));
      counts_ticked = c.tick.ensures.left;
      leads_ticked = c.in-Done.ensures.leads refl;
      kept_ticked = c.tick.ensures.collected;
      counts_pumped = c.pump.ensures.left;
      leads_pumped = λ config lived stands. let on = c.pump.ensures.leads config lived stands in (on.0, on.1);
      kept_pumped = c.pump.ensures.collected;
      gateway = c.pump.ensures.gateway;
    }) count second

pub returns-in-Memory-clause-link : goal.returns-in-Memory-clause-link
returns-in-Memory-clause-link g c =
    KeepsLink-more g.B.Link.told g.B.Link.patience g.B.Link.opened_with g.B.Link.faults g.B.Link.made g.B.Link.openings 0 1 c.args.wire.now c.tick.new.link (omega arith) c.tick.ensures.link

pub returns-clause-link : goal.returns-clause-link
returns-clause-link g c =
    KeepsLink-then g.B.Link.told g.B.Link.patience g.B.Link.opened_with g.B.Link.faults g.B.Link.made g.B.Link.openings 0 1 c.args.wire.now c.tick.new.link c.pump.new.link c.tick.ensures.link c.pump.ensures.link
