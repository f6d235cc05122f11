-- The flags of a tree after its changes.
use Rattle.std.proofs.Common.{◌≡◌, ℕ, ◌<◌, true, false, ◌==◌, cond, List, [], ◌∷◌, length, slice_index, slice_get, map, option_map, unwrap_or, sym, ap, subst, ◌∙◌, refl, arith, zero, suc}
use Rattle.ps_config.specs.declared.parts.Config.{Config}
use Rattle.pubsub_states.specs.declared.component.Component.{Component}
use Rattle.pubsub_states.specs.declared.component.Component.TheVariants.{Root, Connection, Group, Writer, ReadGroup, Reader}
use Rattle.pubsub_states.specs.declared.flags.Flags.{Flags}
use Rattle.pubsub_states.specs.Components.{Counts, counts_of, components, IsAmong, id_of}
use Rattle.pubsub_states.specs.States.{state_of}
use Rattle.pubsub_states.specs.Changes.{Change, Enable, Disable, Fault, Ready, TreeValue, Changes, StandsAfter, IsRun, changed, flags_at, flags_in, flags_after, opening_flags, no_flags}
use Rattle.pubsub_states.proofs.Places.{component_at}
use Rattle.std.proofs.lemmas.Option.{slice_get-map}

after-step : (counts : Counts) (change : Change) (before : List Change) (c : Component)
    → changed change (id_of counts c) (flags_after counts before c) ≡ flags_after counts (change ∷ before) c
after-step counts (Enable other) before c =
    let f = flags_after counts before c in
    elim (other == id_of counts c)
    as (λ b. cond b (record f { enabled = true }) f ≡ record f { enabled = cond b true f.enabled })
    [ true ↦ refl | false ↦ refl ]
after-step counts (Disable other) before c =
    let f = flags_after counts before c in
    elim (other == id_of counts c)
    as (λ b. cond b (record f { enabled = false }) f ≡ record f { enabled = cond b false f.enabled })
    [ true ↦ refl | false ↦ refl ]
after-step counts (Fault other on) before c =
    let f = flags_after counts before c in
    elim (other == id_of counts c)
    as (λ b. cond b (record f { fault = on }) f ≡ record f { fault = cond b on f.fault })
    [ true ↦ refl | false ↦ refl ]
after-step counts (Ready other on) before c =
    let f = flags_after counts before c in
    elim (other == id_of counts c)
    as (λ b. cond b (record f { ready = on }) f ≡ record f { ready = cond b on f.ready })
    [ true ↦ refl | false ↦ refl ]

pub stands-step : (config : Config) (change : Change) (before : List Change) (old new : TreeValue)
    → StandsAfter config before old → Changes change old new → StandsAfter config (change ∷ before) new
stands-step config change before old new stood step = record {
  counts = step.counts ∙ stood.counts;
  flags = λ c among.
      let counts_are = step.counts in
      let among_old : IsAmong old.counts c = subst (λ counts. IsAmong counts c) counts_are among in
      step.flags (id_of new.counts c)
      ∙ ap (λ counts. changed change (id_of counts c) (flags_at old (id_of counts c))) counts_are
      ∙ ap (changed change (id_of old.counts c)) (stood.flags c among_old)
      ∙ after-step old.counts change before c
      ∙ ap (λ counts. flags_after counts (change ∷ before) c) (sym counts_are);
}

pub run_stands : (config : Config) (changes : List Change) (tree : TreeValue) → IsRun config changes tree → StandsAfter config changes tree
run_stands config [] tree h = h
run_stands config (change ∷ before) tree h = stands-step config change before h.0 tree (run_stands config before h.0 h.1) h.2

-- a tree's first flags
pub opening-stands : (config : Config) (counts : Counts) (flags : List Flags) → counts ≡ counts_of config
    → flags ≡ map opening_flags (components counts) → StandsAfter config [] (record { counts = counts; flags = flags })
opening-stands config counts flags is all = record {
  counts = is;
  flags = λ c among.
      ap (λ fs. unwrap_or (slice_get fs (id_of counts c)) no_flags) all
      ∙ ap (λ o. unwrap_or o no_flags) (slice_get-map opening_flags (components counts) (id_of counts c) ∙ ap (option_map opening_flags) (component_at counts c among));
}

-- a family that has a member is there
pub family_there : (counts : List ℕ) (g w : ℕ) → w < slice_index counts g → g < length counts
family_there [] g w h = absurd (omega (arith, h))
family_there (n ∷ counts) zero w h = omega arith
family_there (n ∷ counts) (suc g) w h = let within = family_there counts g w h in omega (arith, within)

-- the states of two trees are the same where the flags are
pub same_states : (counts : Counts) (f g : Component → Flags) → ((c : Component) → IsAmong counts c → f c ≡ g c)
    → (c : Component) → IsAmong counts c → state_of f c ≡ state_of g c
same_states counts f g same Root h = rw (same Root tt) refl
same_states counts f g same Connection h = rw (same Root tt, same Connection tt) refl
same_states counts f g same (Group n) h = rw (same Root tt, same Connection tt, same (Group n) h) refl
same_states counts f g same (Writer n w) h =
    rw (same Root tt, same Connection tt, same (Group n) (family_there counts.writers n w h), same (Writer n w) h) refl
same_states counts f g same (ReadGroup n) h = rw (same Root tt, same Connection tt, same (ReadGroup n) h) refl
same_states counts f g same (Reader n i) h =
    rw (same Root tt, same Connection tt, same (ReadGroup n) (family_there counts.readers n i h), same (Reader n i) h) refl

pub run_states : (config : Config) (changes : List Change) (tree : TreeValue) (component : Component)
    → IsRun config changes tree → IsAmong (counts_of config) component
    → state_of (flags_in tree) component ≡ state_of (flags_after (counts_of config) changes) component
run_states config changes tree component run among =
    let stood = run_stands config changes tree run in
    let among_tree : IsAmong tree.counts component = subst (λ counts. IsAmong counts component) (sym stood.counts) among in
    same_states tree.counts (flags_in tree) (flags_after tree.counts changes) stood.flags component among_tree
    ∙ ap (λ counts. state_of (flags_after counts changes) component) stood.counts
