use Rattle.std.proofs.Common.{refl}
use Rattle.pubsub_engine.specs.declared.session.Session.{Session}
use Rattle.pubsub_engine.proofs.Seen.{bank-sampled, lives-sampled, samples-met, session-sampled, stands-sampled}
use Rattle.pubsub_engine.proofs.session.Session.meet.Goals as goal

pub returns-clause-session : goal.returns-clause-session
returns-clause-session g c =
    let old = c.args.self.now in
    let new : Session = record old { samples = record old.samples { passes = c.join.new.passes } } in
    session-sampled old new c.requires.session refl (samples-met old c.args.bank.now new.samples c.requires.session c.requires.bank c.join.ensures.own refl)

pub returns-clause-bank : goal.returns-clause-bank
returns-clause-bank g c =
    let old = c.args.self.now in
    let new : Session = record old { samples = record old.samples { passes = c.join.new.passes } } in
    bank-sampled old new c.args.bank.now c.requires.bank refl c.join.ensures.own

pub returns-clause-stands : goal.returns-clause-stands
returns-clause-stands g c =
    let old = c.args.self.now in
    let new : Session = record old { samples = record old.samples { passes = c.join.new.passes } } in
    stands-sampled old new refl

pub returns-clause-lives : goal.returns-clause-lives
returns-clause-lives g c =
    let old = c.args.self.now in
    let new : Session = record old { samples = record old.samples { passes = c.join.new.passes } } in
    lives-sampled old new refl
