-- Which groups and writers are Operational, where all components are enabled: those whose sender isn't spent.
use Rattle.std.proofs.Common.{◌≡◌, refl, sym, ap, ◌∙◌, ℕ, Bool, true, false, List, [], length}
use Rattle.std.specs.Prelude.{not, replicate}
use Rattle.std.proofs.lemmas.List.{get_or-replicate, length-replicate}
use Rattle.std.proofs.lemmas.List.FromFn.{fill_by_all}
use Rattle.ps_config.specs.declared.parts.Config.{Config}
use Rattle.pubsub_states.specs.declared.component.Component.TheVariants.{Group, Writer}
use Rattle.pubsub_states.specs.declared.state.State.TheVariants.{Operational}
use Rattle.pubsub_states.specs.States.{is_operational, state_under}
use Rattle.session_model.specs.Deeds.{Deed, is_spent, works, writers_on}
use Rattle.writer_group.specs.Parts.{group_at}

group-state : (b : Bool) → is_operational (state_under Operational (record { enabled = true; fault = b; ready = true })) ≡ not b
group-state true = refl
group-state false = refl

pub group-works : (config : Config) (deeds : List Deed) (g : ℕ) → works config [] deeds (Group g) ≡ not (is_spent config g deeds)
group-works config deeds g = group-state (is_spent config g deeds)

writer-works : (config : Config) (deeds : List Deed) (g w : ℕ) → is_spent config g deeds ≡ false → works config [] deeds (Writer g w) ≡ true
writer-works config deeds g w unspent =
    ap (λ (b : Bool). is_operational (state_under (state_under Operational (record { enabled = true; fault = b; ready = true })) (record { enabled = true; fault = false; ready = true }))) unspent

pub all-work : (config : Config) (deeds : List Deed) (g : ℕ) → is_spent config g deeds ≡ false → replicate (length (group_at config g).writer) true ≡ writers_on config [] deeds g
all-work config deeds g unspent =
    let n = length (group_at config g).writer in
    fill_by_all (λ w. works config [] deeds (Writer g w)) (replicate n true) n false (length-replicate n true)
    (λ w low. get_or-replicate n w true false low ∙ sym (writer-works config deeds g w unspent))
