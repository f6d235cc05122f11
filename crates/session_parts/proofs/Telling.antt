-- The tree is told of faults, one component after another.
use Rattle.std.proofs.Common.{◌≡◌, refl, sym, ap, ◌∙◌, subst, arith, ℕ, ◌+◌, ◌<◌, ◌≢◌, ◌⊎◌, inl, inr, Bool, true, false, length, Some, get_or, eq-eqb}
use Rattle.std.specs.Prelude.{◌==◌, ◌||◌, slice_get, if◌then◌else◌}
use Rattle.std.proofs.lemmas.Bool.Decides.{eqb_tells}
use Rattle.ps_config.specs.declared.parts.Config.{Config}
use Rattle.pubsub_states.specs.declared.component.Component.{Component}
use Rattle.pubsub_states.specs.declared.component.Component.TheVariants.{Group}
use Rattle.pubsub_states.specs.declared.flags.Flags.{Flags}
use Rattle.pubsub_states.specs.Components.{Counts, IsAmong, components, counts_of, id_of}
use Rattle.pubsub_states.specs.Changes.{TreeValue, Changes, Fault, flags_at, flags_in}
use Rattle.writer_group.specs.Parts.{group_at}
use Rattle.session_parts.specs.declared.publisher.Publisher.{Publisher}
use Rattle.session_parts.specs.declared.sends.GroupSends.{GroupSends}
use Rattle.session_parts.specs.Ticking.{TellsFaults, is_spent_by}
use Rattle.session_parts.proofs.Few.{group-among}

-- each component stands at its id
abbrev pub AreInOrder : Type 0
AreInOrder = (counts : Counts) (component : Component) → IsAmong counts component → slice_get (components counts) (id_of counts component) ≡ Some component

pub same-component : AreInOrder → (counts : Counts) (c e : Component) → IsAmong counts c → IsAmong counts e → id_of counts c ≡ id_of counts e → c ≡ e
same-component order counts c e there other same =
    let is : Some c ≡ Some e = sym (order counts c there) ∙ ap (slice_get (components counts)) same ∙ order counts e other in
    cc

pub fault-own : (mid new : TreeValue) (e : Component) (id : ℕ) (on : Bool) → id ≡ id_of mid.counts e → Changes (Fault id on) mid new
    → flags_in new e ≡ record (flags_in mid e) { fault = on }
fault-own mid new e id on is change =
    ap (λ (n : Counts). flags_at new (id_of n e)) change.counts
    ∙ change.flags (id_of mid.counts e)
    ∙ ap (λ (b : Bool). if b then record (flags_in mid e) { fault = on } else flags_in mid e) (eq-eqb id (id_of mid.counts e) is)

pub fault-other : AreInOrder → (mid new : TreeValue) (c e : Component) (id : ℕ) (on : Bool) → id ≡ id_of mid.counts e → IsAmong mid.counts c → IsAmong mid.counts e → c ≢ e
    → Changes (Fault id on) mid new → flags_in new c ≡ flags_in mid c
fault-other order mid new c e id on is there other apart change =
    ap (λ (n : Counts). flags_at new (id_of n c)) change.counts
    ∙ change.flags (id_of mid.counts c)
    ∙ ap (λ (b : Bool). if b then record (flags_in mid c) { fault = on } else flags_in mid c) (unlike (eqb_tells id (id_of mid.counts c)))
  where
    unlike : ((id == id_of mid.counts c) ≡ true) × (id ≡ id_of mid.counts c) ⊎ ((id == id_of mid.counts c) ≡ false) × (id ≢ id_of mid.counts c) → (id == id_of mid.counts c) ≡ false
    unlike (inl same) = absurd (apart (same-component order mid.counts c e there other (sym same.1 ∙ is)))
    unlike (inr differ) = differ.0

-- of the first n groups
pub record TellsTo (config : Config) (publisher : Publisher) (n : ℕ) (old new : TreeValue) : Type 0 where
  pub counts : new.counts ≡ old.counts
  pub groups : (g : ℕ) → g < n → (d : GroupSends) → flags_in new (Group g)
      ≡ record (flags_in old (Group g)) { fault = (get_or publisher.sends.items g d).is_failing || is_spent_by publisher.senders.items (group_at config g).keygroup }
  pub others : (component : Component) → IsAmong old.counts component → ((g : ℕ) → g < n → component ≢ Group g) → flags_in new component ≡ flags_in old component

pub tells-none : (config : Config) (publisher : Publisher) (tree : TreeValue) → TellsTo config publisher 0 tree tree
tells-none config publisher tree = record { counts = refl; groups = λ g low. absurd (omega (arith, low)); others = λ component there apart. refl }

pub tells-more : AreInOrder → (config : Config) (publisher : Publisher) (n : ℕ) (old mid new : TreeValue) (id : ℕ) (on : Bool) → old.counts ≡ counts_of config → n < length config.group
    → id ≡ id_of mid.counts (Group n)
    → ((d : GroupSends) → on ≡ ((get_or publisher.sends.items n d).is_failing || is_spent_by publisher.senders.items (group_at config n).keygroup))
    → Changes (Fault id on) mid new → TellsTo config publisher n old mid → TellsTo config publisher (n + 1) old new
tells-more order config publisher n old mid new id on counts low is fault change so_far = record {
  counts = change.counts ∙ so_far.counts;
  groups = λ g below d. by_case g below d (eqb_tells n g);
  others = λ component there apart.
      fault-other order mid new component (Group n) id on is (back component there) mid_there (apart n (omega arith)) change
      ∙ so_far.others component there (λ g below. apart g (omega (arith, below)));
}
  where
    back : (c : Component) → IsAmong old.counts c → IsAmong mid.counts c
    back c there = subst (λ (k : Counts). IsAmong k c) (sym so_far.counts) there

    mid_there : IsAmong mid.counts (Group n)
    mid_there = group-among config mid.counts n (so_far.counts ∙ counts) low

    old_there : IsAmong old.counts (Group n)
    old_there = group-among config old.counts n counts low

    not_before : (g : ℕ) → g < n → Group n ≢ Group g
    not_before g below same = let e : n ≡ g = cc in omega (arith, e, below)

    own : (d : GroupSends) → flags_in new (Group n)
        ≡ record (flags_in old (Group n)) { fault = (get_or publisher.sends.items n d).is_failing || is_spent_by publisher.senders.items (group_at config n).keygroup }
    own d =
        fault-own mid new (Group n) id on is change
        ∙ ap (λ (f : Flags). record f { fault = on }) (so_far.others (Group n) old_there not_before)
        ∙ ap (λ (b : Bool). record (flags_in old (Group n)) { fault = b }) (fault d)

    by_case : (g : ℕ) → g < n + 1 → (d : GroupSends) → ((n == g) ≡ true) × (n ≡ g) ⊎ ((n == g) ≡ false) × (n ≢ g) → flags_in new (Group g)
        ≡ record (flags_in old (Group g)) { fault = (get_or publisher.sends.items g d).is_failing || is_spent_by publisher.senders.items (group_at config g).keygroup }
    by_case g below d (inl same) = subst (λ (k : ℕ). flags_in new (Group k)
        ≡ record (flags_in old (Group k)) { fault = (get_or publisher.sends.items k d).is_failing || is_spent_by publisher.senders.items (group_at config k).keygroup }) same.1 (own d)
    by_case g below d (inr other) =
        let before : g < n = omega (arith, below, other.1) in
        fault-other order mid new (Group g) (Group n) id on is (group-among config mid.counts g (so_far.counts ∙ counts) (omega (arith, before, low))) mid_there
        (λ same. let e : n ≡ g = cc in omega (arith, e, before)) change
        ∙ so_far.groups g before d

pub tells-all : (config : Config) (publisher : Publisher) (n : ℕ) (old new : TreeValue) → n ≡ length config.group → TellsTo config publisher n old new → TellsFaults config publisher old new
tells-all config publisher n old new all told = record {
  groups = λ g low d. told.groups g (omega (arith, low, all)) d;
  others = λ component there apart. told.others component there (λ g below. apart g);
}
