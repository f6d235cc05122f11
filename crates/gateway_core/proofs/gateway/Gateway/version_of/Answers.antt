use Rattle.std.proofs.Common.{ap, ◌∙◌, ◌<◌, ℕ, List, length, map, get_or, arith}
use Rattle.session_model.specs.Lives.{Stepped}
use Rattle.gateway_core.specs.declared.collected.StoreVersion.{StoreVersion}
use Rattle.gateway_core.specs.declared.collected.Versions.{Versions}
use Rattle.gateway_core.specs.Lived.{version_in}
use Rattle.gateway_core.specs.Holding.{sources_of}
use Rattle.gateway_core.specs.Standing.{steps_of, versions_in}
use Rattle.gateway_core.proofs.Members.{versions-all}
use Rattle.gateway_core.proofs.Unrenewed.{stands-in}
use Rattle.gateway_core.proofs.gateway.Gateway.version_of.Goals as goal

pub returns-clause-lives : goal.returns-clause-lives
returns-clause-lives c = λ second lived life stands.
    let s = c.args.self.now in
    let kept = c.index.result.now in
    let low : c.args.set < length (sources_of s) = omega (arith, c.requires.set, c.requires.gateway.collected.sources) in
    let at = c.index.ensures ∙ ap (λ (n : ℕ). get_or s.collected.versions.items n kept) c.from.ensures in
    c.version_of.ensures
    ∙ ap (λ (v : Versions). version_in (versions_in v) c.args.store) at
    ∙ ap (λ (l : List StoreVersion). version_in l c.args.store) (stands.kept c.args.set low kept)

pub returns-clause-first : goal.returns-clause-first
returns-clause-first c = λ second lived stands.
    let s = c.args.self.now in returns-clause-lives c second lived (map Stepped (steps_of s lived)) (stands-in second lived s stands)

pub returns-clause-all : goal.returns-clause-all
returns-clause-all c = λ keeps second lived stands.
    let s = c.args.self.now in
    returns-clause-first c second lived stands
    ∙ ap (λ (l : List StoreVersion). version_in l c.args.store) (versions-all lived s (get_or (sources_of s) c.args.set 0) keeps stands.collects)

pub returns-clause-all_lives : goal.returns-clause-all_lives
returns-clause-all_lives c = λ keeps second lived life stands.
    let s = c.args.self.now in
    returns-clause-lives c second lived life stands
    ∙ ap (λ (l : List StoreVersion). version_in l c.args.store) (versions-all lived s (get_or (sources_of s) c.args.set 0) keeps stands.collects)
