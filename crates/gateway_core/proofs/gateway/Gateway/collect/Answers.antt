use Rattle.std.proofs.Common.{◌-◌, ◌∷◌, map, refl, arith}
use Rattle.session_model.specs.Lives.{Stepped}
use Rattle.gateway_core.specs.declared.gateway.Gateway.{Gateway}
use Rattle.gateway_core.specs.declared.gateway.Left.{Left}
use Rattle.gateway_core.specs.Holding.{CountsCollect}
use Rattle.gateway_core.specs.Lived.{Collect}
use Rattle.gateway_core.specs.Standing.{steps_of}
use Rattle.gateway_core.proofs.Collects.{collected-gateway, count-samples, count-versions, few-sources, has-room}
use Rattle.gateway_core.proofs.Lives.{lives-collected}
use Rattle.gateway_core.proofs.Unrenewed.{stands-back, stands-in}
use Rattle.gateway_core.proofs.gateway.Gateway.collect.Goals as goal

pub overflow_sub-self : goal.overflow_sub-self
overflow_sub-self c = omega (arith, c.requires.may.left)

pub take-requires-clause-few : goal.take-requires-clause-few
take-requires-clause-few c = omega (arith, few-sources c.args.self.now c.requires.may.gateway, c.args.self.now.collected.sources.ok.0)

pub take-requires-clause-samples : goal.take-requires-clause-samples
take-requires-clause-samples c = count-samples c.args.self.now.config.now c.args.self.now.collected c.requires.may.gateway.collected

pub take-requires-clause-versions : goal.take-requires-clause-versions
take-requires-clause-versions c = count-versions c.args.self.now.config.now c.args.self.now.collected c.requires.may.gateway.collected

pub take-requires-clause-room : goal.take-requires-clause-room
take-requires-clause-room c = has-room c.args.self.now.config.now c.args.self.now.collected c.requires.may.gateway.collected

pub returns-clause-lives : goal.returns-clause-lives
returns-clause-lives c = λ second lived life stands.
    let old = c.args.self.now in
    let left : Left = record old.left { collects = old.left.collects - 1 } in
    let counts : CountsCollect old.left left = record { collects = omega (arith, c.requires.may.left); rest = refl } in
    let e = c.take.ensures in
    lives-collected second lived life c.args.passes.now c.args.origins.now old left c.take.new.self counts e.sources e.samples e.logged (e.kept lived) stands

pub returns-clause-stands : goal.returns-clause-stands
returns-clause-stands c = λ second lived stands.
    let old = c.args.self.now in
    let new : Gateway = record old { left = record old.left { collects = old.left.collects - 1 }; collected = c.take.new.self } in
    let steps = steps_of old lived in
    stands-back second (Collect c.args.passes.now c.args.origins.now ∷ lived) steps new
    (returns-clause-lives c second lived (map Stepped steps) (stands-in second lived old stands))

pub returns-clause-gateway : goal.returns-clause-gateway
returns-clause-gateway c =
    let old = c.args.self.now in
    let may = c.requires.may in
    let left : Left = record old.left { collects = old.left.collects - 1 } in
    let counts : CountsCollect old.left left = record { collects = omega (arith, may.left); rest = refl } in
    let e = c.take.ensures in
    collected-gateway old left c.take.new.self c.args.passes.now may.gateway counts e.sources e.samples may.may.rows e.count e.room e.logged

pub returns-clause-left : goal.returns-clause-left
returns-clause-left c = record { collects = omega (arith, c.requires.may.left); rest = refl }
