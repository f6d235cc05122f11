use Rattle.std.proofs.Common.{◌<◌, ℕ, length, refl, sym, ap, ◌∙◌, subst, get_or, set}
use Rattle.std.specs.Prelude.{IsTrue, ◌↔◌}
use Rattle.group_keys.specs.Ring.{key_sets}
use Rattle.message_guard.specs.Senders.{KeepsToken, SenderState}
use Rattle.session_parts.specs.Renewing.{HaveRenewed}
use Rattle.session_parts.proofs.Rekeying.{renewed-sent, still-publishes}
use Rattle.session_parts.proofs.publisher.Publisher.renew.Goals as goal

pub returns-clause-kept : goal.returns-clause-kept
returns-clause-kept c =
    λ config deeds low sent.
    let x = c.index_mut-sender.result.now in
    let items = c.args.self.now.senders.items in
    subst (λ (s : SenderState). IsTrue c.keeps_token-is_kept.result ↔ KeepsToken s (key_sets c.args.ring))
    (c.index_mut-sender.ensures.value ∙ ap (λ (n : ℕ). get_or items n x) c.from.ensures ∙ sent c.args.key_group low x)
    c.keeps_token-is_kept.ensures

pub returns-clause-renewed : goal.returns-clause-renewed
returns-clause-renewed c =
    let x = c.index_mut-sender.result.now in
    let items = c.args.self.now.senders.items in
    subst (λ (n : ℕ). HaveRenewed c.args.key_group (key_sets c.args.ring) items (set items n c.renew.new.self)) (sym c.from.ensures)
    (subst (λ (y : SenderState). HaveRenewed c.args.key_group (key_sets c.args.ring) items (set items c.args.key_group y)) (sym c.renew.ensures.state)
    (renewed-sent c.args.key_group (key_sets c.args.ring) items x c.requires.there
    (c.index_mut-sender.ensures.value ∙ ap (λ (n : ℕ). get_or items n x) c.from.ensures)))

pub returns-clause-holds : goal.returns-clause-holds
returns-clause-holds c =
    still-publishes c.from.result (key_sets c.args.ring) c.args.self.now _ c.index_mut-sender.result.now c.renew.new.self
    (subst (λ (n : ℕ). n < length c.args.self.now.senders.items) (sym c.from.ensures) c.requires.there) c.index_mut-sender.ensures.value c.renew.ensures.state refl refl
