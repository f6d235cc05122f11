use Rattle.std.proofs.Common.{◌-◌, map, refl, arith}
use Rattle.session_model.specs.Lives.{Stepped}
use Rattle.session_model.specs.Steps.{Pump as SessionPump}
use Rattle.gateway_core.specs.declared.gateway.Left.{Left}
use Rattle.gateway_core.specs.declared.gateway.Gateway.{Gateway}
use Rattle.gateway_core.specs.Lived.{Pump, plan_again}
use Rattle.gateway_core.specs.Holding.{CountsPump}
use Rattle.gateway_core.specs.Standing.{steps_of}
use Rattle.gateway_core.proofs.Lives.{lives-pumped}
use Rattle.gateway_core.proofs.Receipts.{DoesPump, pumped-gateway, pumps-live}
use Rattle.gateway_core.proofs.Unrenewed.{leads-back, stands-in}
use Rattle.gateway_core.proofs.gateway.Gateway.pump.Goals as goal

pub returns-clause-gateway : goal.returns-clause-gateway
returns-clause-gateway g c =
    let old = c.args.self.now in
    let left : Left = record old.left { pumps = old.left.pumps - 1 } in
    let counts : CountsPump old.left left = record { pumps = omega (arith, c.requires.may.left); rest = refl } in
    pumped-gateway old left c.pump.new.self c.requires.may.gateway counts c.pump.ensures.holds c.pump.ensures.rest

pub returns-clause-lives : goal.returns-clause-lives
returns-clause-lives g c =
    λ second lived life stands.
    let old = c.args.self.now in
    let new : Gateway = record old { left = record old.left { pumps = old.left.pumps - 1 }; round = c.pump.new.self } in
    let told = g.L.Link.told c.args.link.now in
    let after = g.L.Link.told c.pump.new.link in
    let does : DoesPump old new c.pump.result.taken told after = record {
      changed = refl;
      left = record { pumps = omega (arith, c.requires.may.left); rest = refl };
      pumped = c.pump.ensures.pumped;
    } in
    let leads = pumps-live (plan_again second) life old new c.pump.result.taken told after does stands.session in (
      leads.0,
      lives-pumped second lived life leads.0 old new told after refl does.left stands leads.1,
      leads.2,
    )

pub returns-clause-leads : goal.returns-clause-leads
returns-clause-leads g c =
    λ second lived stands.
    let old = c.args.self.now in
    let new : Gateway = record old { left = record old.left { pumps = old.left.pumps - 1 }; round = c.pump.new.self } in
    let steps = steps_of old lived in
    let leads = returns-clause-lives g c second lived (map Stepped steps) (stands-in second lived old stands) in (
      leads.0,
      leads-back second lived steps (Pump leads.0) (SessionPump leads.0) (g.L.Link.told c.args.link.now) (g.L.Link.told c.pump.new.link) new refl leads.1,
      leads.2,
    )
