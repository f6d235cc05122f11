use Rattle.std.proofs.Common.{refl, sym, ◌∙◌, subst}
use Rattle.pubsub_states.specs.Changes.{TreeValue}
use Rattle.session_parts.specs.declared.round.Round.{Round}
use Rattle.session_parts.specs.Rounds.{HoldRound, IsUnstepped}
use Rattle.session_parts.proofs.Rounds.{round-opened}
use Rattle.session_parts.proofs.round.Round.open.Goals as goal

-- the round that is opened, with this tree
abbrev opened : goal.In_ok-new → TreeValue → Round
opened c tree = record {
  moment = 0;
  tree = tree;
  publisher = c.in_ok-publisher.publisher;
  subscriber = c.in_ok-subscriber_of.field-0;
  receiving = c.in_ok-new.field-0;
}

pub returns-clause-holds : goal.returns-clause-holds
returns-clause-holds c = subst (λ (tree : TreeValue). HoldRound c.args.config.now (opened c tree)) (sym c.tree-2.view_is) (record {
  publisher = c.in_ok-publisher.ensures.holds;
  subscriber = c.in_ok-subscriber_of.ensures.holds;
  tree = c.tell.ensures.counts ∙ c.in_ok-tree.ensures.counts;
  buffers = c.in_ok-new.ensures.room;
})

pub returns-clause-stands : goal.returns-clause-stands
returns-clause-stands c =
    λ full.
    let publisher = c.in_ok-publisher.ensures in
    let subscriber = c.in_ok-subscriber_of.ensures in
    subst (λ (tree : TreeValue). IsUnstepped c.args.config.now full (opened c tree)) (sym c.tree-2.view_is)
    (round-opened full c.args.config.now c.args.turns (opened c c.tell.new.tree) refl c.requires.good (record {
      holds = publisher.holds;
      past = publisher.past;
      senders = publisher.senders;
      goes_on = publisher.goes_on;
      sends = publisher.sends;
      link = publisher.link;
    }) (record {
      holds = subscriber.holds;
      read = subscriber.read;
      tallied = subscriber.tallied;
    }) (record {
      room = c.in_ok-new.ensures.room;
      counts = c.in_ok-new.ensures.counts;
    }) (record {
      before = c.in_ok-tree.tree;
      opening = c.in_ok-tree.ensures;
      told = c.tell.ensures.faults;
      counts = c.tell.ensures.counts;
    }))
