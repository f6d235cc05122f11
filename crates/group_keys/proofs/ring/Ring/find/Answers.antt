use Rattle.std.proofs.Common.{◌==◌, ◌∙◌, ap, length}
use Rattle.group_keys.specs.KeySets.{with_token}
use Rattle.group_keys.proofs.Finding.{IfNone-equal, IfSome-equal, IfSome-found, IfSome-listed}
use Rattle.group_keys.proofs.ring.Ring.find.Goals as goal

pub returns-clause-listed : goal.returns-clause-listed
returns-clause-listed c =
    IfSome-listed (λ set. set.token == c.args.token) c.args.self.now.keys.items c.with_token.result
    (c.with_token.ensures ∙ ap (λ sets. with_token sets c.args.token) c.as_slice.ensures.value)

pub returns-clause-token : goal.returns-clause-token
returns-clause-token c =
    IfSome-equal (λ set. set.token) c.args.token c.args.self.now.keys.items c.with_token.result
    (c.with_token.ensures ∙ ap (λ sets. with_token sets c.args.token) c.as_slice.ensures.value)

pub returns-clause-none : goal.returns-clause-none
returns-clause-none c =
    IfNone-equal (λ set. set.token) c.args.token c.args.self.now.keys.items c.with_token.result
    (c.with_token.ensures ∙ ap (λ sets. with_token sets c.args.token) c.as_slice.ensures.value)

pub returns-clause-fits : goal.returns-clause-fits
returns-clause-fits c =
    IfSome-found (λ set. length set.encrypting.items) (λ set. set.token == c.args.token) c.args.self.now.keys.items _ c.with_token.result
    c.args.self.now.lengths_fit (c.with_token.ensures ∙ ap (λ sets. with_token sets c.args.token) c.as_slice.ensures.value)
