use Rattle.std.proofs.Common.{◌-◌, refl, arith}
use Rattle.pubsub_engine.specs.declared.session.Left.{Left}
use Rattle.pubsub_engine.specs.declared.session.Session.{Session}
use Rattle.pubsub_engine.specs.Holding.{CountsPump}
use Rattle.pubsub_engine.proofs.Receipts.{DoesPump, pumped-session, pumps-lead, pumps-live}
use Rattle.pubsub_engine.proofs.session.Session.pump.Goals as goal

pub returns-clause-session : goal.returns-clause-session
returns-clause-session g c =
    let old = c.args.self.now in
    let left : Left = record old.left { pumps = old.left.pumps - 1 } in
    let counts : CountsPump old.left left = record { pumps = omega (arith, c.requires.may.left); rest = refl } in
    pumped-session old left c.pump-pumped.new.self c.store_all.new.self c.requires.may.session counts c.pump-pumped.ensures.holds c.pump-pumped.ensures.rest c.store_all.ensures.left

pub returns-clause-leads : goal.returns-clause-leads
returns-clause-leads g c =
    λ p before stands.
    let old = c.args.self.now in
    let new : Session = record old {
      left = record old.left { pumps = old.left.pumps - 1 };
      round = c.pump-pumped.new.self;
      stores = c.store_all.new.self;
    } in
    let told = g.L.Link.told c.args.link.now in
    let after = g.L.Link.told c.pump-pumped.new.link in
    let does : DoesPump old new c.pump-pumped.result.taken told after = record {
      changed = refl;
      left = record { pumps = omega (arith, c.requires.may.left); rest = refl };
      pumped = c.pump-pumped.ensures.pumped;
      stored = c.store_all.ensures.stored;
    } in
    pumps-lead p before old new c.pump-pumped.result.taken told after does stands

pub returns-clause-lives : goal.returns-clause-lives
returns-clause-lives g c =
    λ p life stands.
    let old = c.args.self.now in
    let new : Session = record old {
      left = record old.left { pumps = old.left.pumps - 1 };
      round = c.pump-pumped.new.self;
      stores = c.store_all.new.self;
    } in
    let told = g.L.Link.told c.args.link.now in
    let after = g.L.Link.told c.pump-pumped.new.link in
    let does : DoesPump old new c.pump-pumped.result.taken told after = record {
      changed = refl;
      left = record { pumps = omega (arith, c.requires.may.left); rest = refl };
      pumped = c.pump-pumped.ensures.pumped;
      stored = c.store_all.ensures.stored;
    } in
    pumps-live p life old new c.pump-pumped.result.taken told after does stands
