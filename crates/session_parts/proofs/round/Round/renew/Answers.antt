use Rattle.std.proofs.Common.{refl, ap, arith}
use Rattle.group_keys.specs.Ring.{key_sets}
use Rattle.session_parts.specs.declared.publisher.Publisher.{Publisher}
use Rattle.session_parts.specs.declared.round.Round.{Round}
use Rattle.session_parts.proofs.Rounds.{round-renewed}
use Rattle.session_parts.proofs.round.Round.renew.Goals as goal

pub renew-requires : goal.renew-requires
renew-requires c = record { holds = c.requires.holds.subscriber }

pub renew-requires-2 : goal.renew-requires-2
renew-requires-2 c =
    let count = c.requires.holds.publisher.senders.count in omega (arith, count, c.requires.there)

pub returns-clause-holds : goal.returns-clause-holds
returns-clause-holds c = record {
  publisher = c.renew-2.ensures.holds c.args.config.now c.requires.holds.publisher;
  subscriber = c.renew.ensures.holds;
  tree = c.requires.holds.tree;
  buffers = c.requires.holds.buffers;
}

pub returns-clause-kept : goal.returns-clause-kept
returns-clause-kept c = c.renew-2.ensures.kept

pub returns-clause-renewed : goal.returns-clause-renewed
returns-clause-renewed c =
    let old = c.args.self.now in
    let new : Round = record old { publisher = c.renew-2.new.self; subscriber = c.renew.new.self } in
    round-renewed c.args.config.now c.args.key_group (key_sets c.args.ring) old new (record {
      changed = refl;
      sender = c.renew-2.ensures.rest;
      groups = c.renew.ensures.rest;
      renewed_are = c.renew-2.ensures.renewed;
      rekeyed_are = c.renew.ensures.rekeyed;
    })

pub returns-clause-groups : goal.returns-clause-groups
returns-clause-groups c = ap (λ (q : Publisher). q.groups) c.renew-2.ensures.rest
