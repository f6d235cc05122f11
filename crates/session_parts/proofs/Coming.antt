-- Senders come to a moment.
use Rattle.std.proofs.Common.{◌≡◌, refl, sym, ap, ◌∙◌, arith, ℕ, ◌<◌, Bool, true, false, List, [], ◌∷◌, length, Option, Some, None, get_or}
use Rattle.std.specs.Prelude.{fold, not, ◌==◌, IfSome}
use Rattle.std.specs.Option.{option_map, option_map_or}
use Rattle.dataset_meta.specs.Rows.{cons_if}
use Rattle.message_guard.specs.Senders.{SenderState, turned}
use Rattle.ps_config.specs.declared.parts.Config.{Config}
use Rattle.pubsub_states.specs.declared.component.Component.{Component}
use Rattle.session_model.specs.Deeds.{Deed, CameTo, RefreshedBelow, is_rekeyed, sender_after}
use Rattle.writer_group.specs.Parts.{group_at}
use Rattle.session_parts.specs.Standing.{HaveSent}
use Rattle.session_parts.specs.Ticking.{TurnEach, no_sender}

pub rekeyed-is : (config : Config) (moment g : ℕ) (deeds : List Deed) (old new : List SenderState) (is_changed : List Bool) (keygroup : Option ℕ)
    → (group_at config g).keygroup ≡ keygroup → IfSome keygroup (λ k. k < length config.keygroup) → length old ≡ length config.keygroup
    → TurnEach moment old new is_changed → HaveSent config deeds old
    → option_map_or (λ k. get_or is_changed k false) keygroup false ≡ is_rekeyed config moment deeds g
rekeyed-is config moment g deeds old new is_changed None keyed there count each sent =
    sym (ap (λ (o : Option ℕ). option_map_or (λ s. not ((turned s moment).keys.token == s.keys.token)) (option_map (λ k. sender_after config k deeds) o) false) keyed)
rekeyed-is config moment g deeds old new is_changed (Some k) keyed there count each sent =
    let low : k < length old = omega (arith, there, count) in
    each.changed k low no_sender
    ∙ ap (λ (s : SenderState). not (s.keys.token == (get_or old k no_sender).keys.token)) (each.each k low no_sender)
    ∙ ap (λ (s : SenderState). not ((turned s moment).keys.token == s.keys.token)) (sent k there no_sender)
    ∙ sym (ap (λ (o : Option ℕ). option_map_or (λ s. not ((turned s moment).keys.token == s.keys.token)) (option_map (λ k. sender_after config k deeds) o) false) keyed)

-- refreshes leave a sender
left-if : (config : Config) (k : ℕ) (test : Bool) (component : Component) (deeds : List Deed) → sender_after config k (cons_if test (RefreshedBelow component) deeds) ≡ sender_after config k deeds
left-if config k true component deeds = refl
left-if config k false component deeds = refl

pub left-all : (config : Config) (k : ℕ) (test : ℕ → Bool) (what : ℕ → Component) (indexes : List ℕ) (deeds : List Deed)
    → sender_after config k (fold (λ so_far g. cons_if (test g) (RefreshedBelow (what g)) so_far) deeds indexes) ≡ sender_after config k deeds
left-all config k test what [] deeds = refl
left-all config k test what (g ∷ indexes) deeds =
    left-all config k test what indexes (cons_if (test g) (RefreshedBelow (what g)) deeds) ∙ left-if config k (test g) (what g) deeds

pub turned-sent : (config : Config) (moment : ℕ) (deeds : List Deed) (old new : List SenderState) (is_changed : List Bool) (test : ℕ → Bool) (what : ℕ → Component) (indexes : List ℕ)
    → length old ≡ length config.keygroup → TurnEach moment old new is_changed → HaveSent config deeds old
    → HaveSent config (fold (λ so_far g. cons_if (test g) (RefreshedBelow (what g)) so_far) (CameTo moment ∷ deeds) indexes) new
turned-sent config moment deeds old new is_changed test what indexes count each sent k low d =
    let there : k < length old = omega (arith, low, count) in
    each.each k there d
    ∙ ap (λ (s : SenderState). turned s moment) (sent k low d)
    ∙ sym (left-all config k test what indexes (CameTo moment ∷ deeds))
