use Rattle.std.proofs.Common.{ℕ, ap, sym, ◌∙◌, get_or}
use Rattle.session_model.specs.Steps.{Plan}
use Rattle.session_model.specs.Lives.{account_in}
use Rattle.session_parts.proofs.Shown.{reader-at, reader-in}
use Rattle.pubsub_engine.proofs.session.Session.reader.Goals as goal

pub returns-clause-stands : goal.returns-clause-stands
returns-clause-stands c = λ p steps stands.
    let s = c.args.self.now in
    let group = c.index.result.now in
    reader-at s.config.now p steps s.round.subscriber c.args.read_group c.args.index group c.reader.result.now c.requires.session.round.subscriber (sym (ap (λ (q : Plan). q.config) stands.plan)) stands.round.readings
    c.requires.there (c.index.ensures ∙ ap (λ (r : ℕ). get_or s.round.subscriber.groups.items r group) c.from.ensures) c.reader.ensures.kept c.reader.ensures.passed c.reader.ensures.made

pub returns-clause-lives : goal.returns-clause-lives
returns-clause-lives c = λ p life stands.
    let s = c.args.self.now in
    let group = c.index.result.now in
    reader-in s.config.now p (account_in p life).readings s.round.subscriber c.args.read_group c.args.index group c.reader.result.now c.requires.session.round.subscriber (sym (ap (λ (q : Plan). q.config) stands.parts.plan)) stands.parts.round.readings
    c.requires.there (c.index.ensures ∙ ap (λ (r : ℕ). get_or s.round.subscriber.groups.items r group) c.from.ensures) c.reader.ensures.kept c.reader.ensures.passed c.reader.ensures.made
