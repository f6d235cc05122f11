use Rattle.std.proofs.Common.{refl, ap, sym, ◌∙◌, subst}
use Rattle.session_parts.specs.declared.publisher.Publisher.{Publisher}
use Rattle.session_parts.specs.declared.subscriber.Subscriber.{Subscriber}
use Rattle.session_parts.specs.Holding.{AreStillLogged, MayAllGoOn}
use Rattle.session_parts.proofs.Begun.{Begins, hold-cleared}
use Rattle.session_parts.proofs.Passed.{knows-told}
use Rattle.session_parts.proofs.Rounds.{round-begun, round-read}
use Rattle.session_parts.proofs.round.Round.begin.Goals as goal

pub tell-requires-clause-holds : goal.tell-requires-clause-holds
tell-requires-clause-holds c = c.expire.ensures.holds c.args.told.now.config.now c.requires.holds.subscriber

pub returns-clause-holds : goal.returns-clause-holds
returns-clause-holds c =
    let config = c.args.told.now.config.now in
    record {
      publisher = hold-cleared config c.come_to.new.self c.clear.new.self c.come_to.ensures.holds c.clear.ensures.sends c.clear.ensures.rest;
      subscriber = c.expire.ensures.holds config c.requires.holds.subscriber;
      tree = c.tell-2.ensures.counts ∙ c.tell.ensures.counts ∙ c.requires.holds.tree;
      buffers = c.requires.holds.buffers;
    }

pub returns-clause-begun : goal.returns-clause-begun
returns-clause-begun c =
    let old = c.args.self.now in
    let told = c.args.told.now in
    let config = told.config.now in
    let come = c.come_to.new.self in
    let cleared = c.clear.new.self in
    let subscriber = c.expire.new.self in
    let does : Begins config told.moment old.publisher come cleared old.subscriber subscriber old.tree c.tell.new.tree c.tell-2.new.tree = record {
      past = c.come_to.ensures.past;
      senders = c.come_to.ensures.senders;
      come_rest = c.come_to.ensures.rest;
      clears = c.clear.ensures.sends;
      clear_rest = c.clear.ensures.rest;
      read = c.expire.ensures.read;
      tree_counts = c.tell.ensures.counts;
      told = c.tell.ensures.told;
      new_counts = c.tell-2.ensures.counts;
      faults = c.tell-2.ensures.faults;
    } in
    record {
      moment = refl;
      received = refl;
      tallied = ap (λ (s : Subscriber). s.tallies) c.expire.ensures.rest;
      spent = knows-told config cleared c.tell.new.tree c.tell-2.new.tree c.tell-2.ensures.faults;
      goes_on = λ metas turns goes.
          subst (λ (x : Publisher). MayAllGoOn config metas turns x.groups.items) (sym c.clear.ensures.rest) (c.come_to.ensures.goes_on metas turns goes);
      logs = subst (λ (x : Publisher). AreStillLogged old.publisher.groups.items x.groups.items) (sym c.clear.ensures.rest) c.come_to.ensures.logs;
      sent = round-begun told old come cleared subscriber c.tell.new.tree c.tell-2.new.tree c.requires.good c.requires.holds does;
      read = round-read told old subscriber c.requires.holds c.expire.ensures.read;
    }
