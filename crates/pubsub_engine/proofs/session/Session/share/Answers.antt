use Rattle.std.proofs.Common.{List, refl, sym, subst}
use Rattle.version_cell.specs.Known.{Known}
use Rattle.version_cell.specs.Sets.{ArePassesOf}
use Rattle.pubsub_engine.specs.declared.session.Session.{Session}
use Rattle.pubsub_engine.proofs.Seen.{bank-sampled, lives-sampled, samples-met, session-sampled, stands-sampled}
use Rattle.pubsub_engine.proofs.session.Session.share.Goals as goal

pub returns-clause-session : goal.returns-clause-session
returns-clause-session c =
    let old = c.args.self.now in
    let new : Session = record old { samples = record old.samples { passes = c.split.new.passes } } in
    let own : ArePassesOf c.args.bank.now c.split.new.passes = subst (λ (l : List Known). ArePassesOf c.args.bank.now l) (sym c.split.ensures.same) c.requires.bank.passes in
    session-sampled old new c.requires.session refl (samples-met old c.args.bank.now new.samples c.requires.session c.requires.bank own refl)

pub returns-clause-bank : goal.returns-clause-bank
returns-clause-bank c =
    let old = c.args.self.now in
    let new : Session = record old { samples = record old.samples { passes = c.split.new.passes } } in
    bank-sampled old new c.args.bank.now c.requires.bank refl (subst (λ (l : List Known). ArePassesOf c.args.bank.now l) (sym c.split.ensures.same) c.requires.bank.passes)

pub returns-clause-stands : goal.returns-clause-stands
returns-clause-stands c =
    let old = c.args.self.now in
    let new : Session = record old { samples = record old.samples { passes = c.split.new.passes } } in
    stands-sampled old new refl

pub returns-clause-lives : goal.returns-clause-lives
returns-clause-lives c =
    let old = c.args.self.now in
    let new : Session = record old { samples = record old.samples { passes = c.split.new.passes } } in
    lives-sampled old new refl
