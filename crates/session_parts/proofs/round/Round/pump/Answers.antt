use Rattle.std.proofs.Common.{refl, ◌∙◌}
use Rattle.session_parts.specs.declared.round.Round.{Round}
use Rattle.session_parts.proofs.Rounds.{round-pumped}
use Rattle.session_parts.proofs.round.Round.pump.Goals as goal

pub returns-clause-holds : goal.returns-clause-holds
returns-clause-holds g c = record {
  publisher = c.requires.holds.publisher;
  subscriber = c.pump-pumped.ensures.holds;
  tree = c.tell.ensures.counts ∙ c.requires.holds.tree;
  buffers = c.pump-pumped.ensures.room;
}

pub returns-clause-pumped : goal.returns-clause-pumped
returns-clause-pumped g c =
    let old = c.args.self.now in
    let new : Round = record old { tree = c.tell.new.tree; subscriber = c.pump-pumped.new.subscriber; receiving = c.pump-pumped.new.self } in
    round-pumped c.args.config.now c.pump-pumped.result.taken old new (g.L.Link.told c.args.link.now) (g.L.Link.told c.pump-pumped.new.link) (record {
      changed = refl;
      counts = c.requires.holds.tree;
      kept = c.tell.ensures.counts;
      pumps = c.pump-pumped.ensures.pumps;
      told = c.tell.ensures.told;
    })
