use Rattle.std.proofs.Common.{ap, sym, ◌∙◌, ℕ, get_or}
use Rattle.session_model.specs.Steps.{Plan}
use Rattle.session_model.specs.Lives.{account_in}
use Rattle.session_parts.proofs.Shown.{reader-in}
use Rattle.gateway_core.specs.Lived.{plan_again}
use Rattle.gateway_core.proofs.Members.{reader-kept, reader-made, reader-there}
use Rattle.gateway_core.proofs.gateway.Gateway.reader.Goals as goal

pub reader-requires : goal.reader-requires
reader-requires c =
    let s = c.args.self.now in
    let group = c.index.result.now in
    reader-there s c.args.group c.args.index group c.requires.gateway c.requires.group c.requires.index
    (c.index.ensures ∙ ap (λ (n : ℕ). get_or s.round.subscriber.groups.items n group) c.from.ensures)

pub returns-clause-kept : goal.returns-clause-kept
returns-clause-kept c =
    λ second lived stands.
    let s = c.args.self.now in
    let group = c.index.result.now in
    reader-kept second lived s c.args.group c.args.index group c.reader.result.now stands c.requires.group
    (c.index.ensures ∙ ap (λ (n : ℕ). get_or s.round.subscriber.groups.items n group) c.from.ensures) c.reader.ensures.kept

pub returns-clause-made : goal.returns-clause-made
returns-clause-made c =
    let s = c.args.self.now in
    let group = c.index.result.now in
    reader-made s c.args.group c.args.index group c.reader.result.now c.requires.gateway c.requires.group
    (c.index.ensures ∙ ap (λ (n : ℕ). get_or s.round.subscriber.groups.items n group) c.from.ensures) c.reader.ensures.made

pub returns-clause-lives : goal.returns-clause-lives
returns-clause-lives c =
    λ second lived life stands.
    let s = c.args.self.now in
    let group = c.index.result.now in
    reader-in s.config.now (plan_again second) (account_in (plan_again second) life).readings s.round.subscriber c.args.group c.args.index group c.reader.result.now c.requires.gateway.round.subscriber
    (sym (ap (λ (q : Plan). q.config) stands.session.parts.plan)) stands.session.parts.round.readings c.requires.group
    (c.index.ensures ∙ ap (λ (n : ℕ). get_or s.round.subscriber.groups.items n group) c.from.ensures) c.reader.ensures.kept c.reader.ensures.passed c.reader.ensures.made
