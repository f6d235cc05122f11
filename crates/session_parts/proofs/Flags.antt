-- The tree's flags within a tick, once it was told of faults.
use Rattle.std.proofs.Common.{◌≡◌, refl, sym, ap, ◌∙◌, subst, ℕ, ◌<◌, ◌≢◌, Bool, true, List, length, Some, get_or}
use Rattle.std.specs.Prelude.{zip, ◌||◌}
use Rattle.std.specs.List.{HoldsAt}
use Rattle.std.proofs.lemmas.List.{length-map}
use Rattle.ps_config.specs.declared.parts.Config.{Config}
use Rattle.pubsub_states.specs.declared.component.Component.{Component}
use Rattle.pubsub_states.specs.declared.component.Component.TheVariants.{Root, Connection, Group, Writer, ReadGroup, Reader}
use Rattle.pubsub_states.specs.Components.{IsAmong, Counts, counts_of}
use Rattle.pubsub_states.specs.Changes.{TreeValue, flags_in}
use Rattle.session_model.specs.Steps.{is_on}
use Rattle.session_model.specs.Deeds.{Deed}
use Rattle.writer_group.specs.Parts.{group_at}
use Rattle.session_model.specs.Sends.{last_sends, last_failed}
use Rattle.session_parts.specs.declared.publisher.Publisher.{Publisher}
use Rattle.session_parts.specs.declared.sends.GroupSends.{GroupSends}
use Rattle.session_parts.specs.Standing.{HaveSent, HasFlags}
use Rattle.session_parts.specs.Ticking.{TickData, TellsFaults, flags_in_tick, is_spent_by}
use Rattle.session_parts.proofs.Turning.{spent-is}

-- each group that is secured has a key group that is there
abbrev pub AreKeyed : Config → Type 0
AreKeyed config = (g k : ℕ) → g < length config.group → (group_at config g).keygroup ≡ Some k → k < length config.keygroup

-- all but the groups' faults is as it is to be
pub record IsButFaults (t : TickData) (so_far : List Deed) (done : List Bool) (tree : TreeValue) : Type 0 where
  pub others : (component : Component) → IsAmong tree.counts component → ((g : ℕ) → component ≢ Group g) → flags_in tree component ≡ flags_in_tick t so_far done component
  pub enabled : (g : ℕ) → g < length t.plan.config.group → (flags_in tree (Group g)).enabled ≡ is_on t.plan.config t.before (Group g)
  pub ready : (g : ℕ) → g < length t.plan.config.group → (flags_in tree (Group g)).ready ≡ true

-- another turn changes no other flag
pub but-faults : (t : TickData) (so_far later : List Deed) (done more : List Bool) (tree : TreeValue) → tree.counts ≡ counts_of t.plan.config
    → HasFlags (flags_in_tick t so_far done) tree → IsButFaults t later more tree
but-faults t so_far later done more tree counts flags = record {
  others = other;
  enabled = λ g within. ap (λ f. f.enabled) (flags (Group g) (among g within));
  ready = λ g within. ap (λ f. f.ready) (flags (Group g) (among g within));
}
  where
    among : (g : ℕ) → g < length t.plan.config.group → IsAmong tree.counts (Group g)
    among g within =
        subst (λ (c : Counts). IsAmong c (Group g)) (sym counts)
        (subst (λ (n : ℕ). g < n) (sym (length-map t.plan.config.group (λ group. length group.writer))) within)

    other : (component : Component) → IsAmong tree.counts component → ((g : ℕ) → component ≢ Group g) → flags_in tree component ≡ flags_in_tick t later more component
    other Root there apart = flags Root there
    other Connection there apart = flags Connection there
    other (Group g) there apart = absurd (apart g refl)
    other (Writer g w) there apart = flags (Writer g w) there
    other (ReadGroup r) there apart = flags (ReadGroup r) there
    other (Reader r i) there apart = flags (Reader r i) there

-- the tree once it was told of the groups' faults
pub flags-told : (t : TickData) (so_far : List Deed) (done : List Bool) (publisher : Publisher) (old new : TreeValue) → old.counts ≡ counts_of t.plan.config → new.counts ≡ old.counts
    → AreKeyed t.plan.config → HaveSent t.plan.config so_far publisher.senders.items
    → ((g : ℕ) → g < length t.plan.config.group → HoldsAt (λ (sends : GroupSends). sends.is_failing ≡ last_failed g (zip (last_sends so_far) done)) publisher.sends.items g)
    → (none : GroupSends) → IsButFaults t so_far done old → TellsFaults t.plan.config publisher old new → HasFlags (flags_in_tick t so_far done) new
flags-told t so_far done publisher old new counts kept keyed sent failing none but told component among = on component (subst (λ (c : Counts). IsAmong c component) kept among)
  where
    within : (g : ℕ) → IsAmong old.counts (Group g) → g < length t.plan.config.group
    within g there =
        subst (λ (n : ℕ). g < n) (length-map t.plan.config.group (λ group. length group.writer)) (subst (λ (c : Counts). IsAmong c (Group g)) counts there)

    on : (c : Component) → IsAmong old.counts c → flags_in new c ≡ flags_in_tick t so_far done c
    on Root there = told.others Root there (λ g same. cc) ∙ but.others Root there (λ g same. cc)
    on Connection there = told.others Connection there (λ g same. cc) ∙ but.others Connection there (λ g same. cc)
    on (Group g) there =
        let low = within g there in
        told.groups g low none
        ∙ ap (λ (e : Bool). record {
          enabled = e;
          fault = (get_or publisher.sends.items g none).is_failing || is_spent_by publisher.senders.items (group_at t.plan.config g).keygroup;
          ready = (flags_in old (Group g)).ready;
        }) (but.enabled g low)
        ∙ ap (λ (r : Bool). record {
          enabled = is_on t.plan.config t.before (Group g);
          fault = (get_or publisher.sends.items g none).is_failing || is_spent_by publisher.senders.items (group_at t.plan.config g).keygroup;
          ready = r;
        }) (but.ready g low)
        ∙ ap (λ (f : Bool). record {
          enabled = is_on t.plan.config t.before (Group g);
          fault = f || is_spent_by publisher.senders.items (group_at t.plan.config g).keygroup;
          ready = true;
        }) (failing g low none)
        ∙ ap (λ (s : Bool). record {
          enabled = is_on t.plan.config t.before (Group g);
          fault = last_failed g (zip (last_sends so_far) done) || s;
          ready = true;
        }) (spent-is t.plan.config g so_far publisher.senders.items (group_at t.plan.config g).keygroup refl (λ k is. keyed g k low is) sent)
    on (Writer g w) there = told.others (Writer g w) there (λ h same. cc) ∙ but.others (Writer g w) there (λ h same. cc)
    on (ReadGroup r) there = told.others (ReadGroup r) there (λ g same. cc) ∙ but.others (ReadGroup r) there (λ g same. cc)
    on (Reader r i) there = told.others (Reader r i) there (λ g same. cc) ∙ but.others (Reader r i) there (λ g same. cc)
