use Rattle.std.proofs.Common.{ap, ◌∙◌, ℕ, get_or}
use Rattle.gateway_core.proofs.Members.{writer-all, writer-all-in, writer-lived, writer-lives, writer-logged, writer-there}
use Rattle.gateway_core.proofs.gateway.Gateway.writer.Goals as goal

pub writer-requires : goal.writer-requires
writer-requires c =
    let s = c.args.self.now in
    let group = c.index.result.now in
    writer-there s c.args.group c.args.index group c.requires.gateway c.requires.group c.requires.index
    (c.index.ensures ∙ ap (λ (n : ℕ). get_or s.round.publisher.groups.items n group) c.from.ensures)

pub returns : goal.returns
returns c =
    let s = c.args.self.now in
    let group = c.index.result.now in
    record {
      lived = λ second lived stands.
          writer-lived second lived s c.args.group c.args.index group c.writer.result.now stands c.requires.group c.requires.index
          (c.index.ensures ∙ ap (λ (n : ℕ). get_or s.round.publisher.groups.items n group) c.from.ensures) c.writer.ensures.stands;
      lives = λ second lived life stands.
          writer-lives second lived life s c.args.group c.args.index group c.writer.result.now stands c.requires.group c.requires.index
          (c.index.ensures ∙ ap (λ (n : ℕ). get_or s.round.publisher.groups.items n group) c.from.ensures) c.writer.ensures.stands;
      logged = writer-logged s c.args.group group c.writer.result.now c.requires.gateway c.requires.group
          (c.index.ensures ∙ ap (λ (n : ℕ). get_or s.round.publisher.groups.items n group) c.from.ensures) c.writer.ensures.logs;
      all = λ keeps second lived stands. writer-all second lived s c.args.group c.args.index keeps stands;
      all_lives = λ keeps second lived life stands. writer-all-in second lived life s c.args.group c.args.index keeps stands;
    }
