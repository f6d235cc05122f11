use Rattle.std.proofs.Common.{refl, arith}
use Rattle.std.proofs.lemmas.Slice.Zip.{AllZip-long}
use Rattle.pubsub_engine.specs.declared.session.Session.{Session}
use Rattle.pubsub_engine.proofs.Seen.{bank-sampled, few-full, lives-sampled, passes-count, samples-seen, session-sampled, stands-sampled}
use Rattle.pubsub_engine.proofs.session.Session.sample.Goals as goal

pub take-requires-clause-few : goal.take-requires-clause-few
take-requires-clause-few g c =
    let old = c.args.self.now in
    omega (arith, few-full old c.requires.session, AllZip-long _ old.sets.full.items old.samples.taken.items c.requires.session.samples.rows, old.samples.taken.ok.0)

pub take-requires-clause-count : goal.take-requires-clause-count
take-requires-clause-count g c =
    let old = c.args.self.now in
    omega (
      arith,
      c.requires.bank.passes.count,
      passes-count old c.args.bank.now old.samples.passes c.requires.bank c.requires.bank.passes,
      AllZip-long _ old.sets.full.items old.samples.taken.items c.requires.session.samples.rows,
      old.samples.taken.ok.0,
    )

pub returns-clause-session : goal.returns-clause-session
returns-clause-session g c =
    let old = c.args.self.now in
    let samples = c.take.new.self in
    let new : Session = record old { samples = samples } in
    let e = c.take.ensures in
    session-sampled old new c.requires.session refl
    (samples-seen c.histories_are_the_models.ensures.belongs old c.args.bank.now samples c.requires.session c.requires.bank e.own e.lawful e.taken e.cut)

pub returns-clause-bank : goal.returns-clause-bank
returns-clause-bank g c =
    let old = c.args.self.now in
    let new : Session = record old { samples = c.take.new.self } in
    bank-sampled old new c.args.bank.now c.requires.bank refl c.take.ensures.own

pub returns-clause-stands : goal.returns-clause-stands
returns-clause-stands g c =
    let old = c.args.self.now in
    let new : Session = record old { samples = c.take.new.self } in
    stands-sampled old new refl

pub returns-clause-lives : goal.returns-clause-lives
returns-clause-lives g c =
    let old = c.args.self.now in
    let new : Session = record old { samples = c.take.new.self } in
    lives-sampled old new refl
