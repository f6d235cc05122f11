-- The tree is told of readers, one after another.
use Rattle.std.proofs.Common.{◌≡◌, refl, sym, ap, ◌∙◌, subst, arith, ℕ, zero, suc, ◌+◌, ◌<◌, ◌≤◌, ◌≢◌, ◌⊎◌, inl, inr, Bool, true, false, List, [], ◌∷◌, length, get_or, eq-eqb}
use Rattle.std.specs.Prelude.{◌==◌, if◌then◌else◌, slice_index}
use Rattle.std.proofs.lemmas.Bool.Decides.{eqb_tells}
use Rattle.std.proofs.lemmas.List.{length-map, get_or-map}
use Rattle.std.proofs.lemmas.List.Folds.{length-flat_map-take}
use Rattle.ps_config.specs.declared.parts.Config.{Config}
use Rattle.ps_config.specs.declared.parts.ReadGroupPart.{ReadGroupPart}
use Rattle.pubsub_states.specs.declared.component.Component.{Component}
use Rattle.pubsub_states.specs.declared.component.Component.TheVariants.{Reader}
use Rattle.pubsub_states.specs.declared.flags.Flags.{Flags}
use Rattle.pubsub_states.specs.Components.{Counts, IsAmong, counts_of, id_of, is_reader}
use Rattle.pubsub_states.specs.Changes.{TreeValue, Changes, Fault, Ready, flags_at, flags_in}
use Rattle.reader_group.specs.declared.group.ReaderGroup.{ReaderGroup}
use Rattle.reader_group.specs.Groups.{Stands, IsMadeOf, reader_count}
use Rattle.reader_group.specs.Plain.{PlainGroup, Setting, member_at}
use Rattle.reader_group.specs.Settings.{group_at, no_group}
use Rattle.session_model.specs.Lives.{late_in, ready_in}
use Rattle.session_model.specs.Readings.{Reading, setting_in}
use Rattle.writer_group.specs.Standing.{IsGood}
use Rattle.session_parts.specs.declared.subscriber.Subscriber.{Subscriber}
use Rattle.session_parts.specs.Standing.{HaveReadings}
use Rattle.session_parts.specs.Pumping.{TellsGroup, TellsReader, TellsReaders}
use Rattle.session_parts.proofs.Telling.{AreInOrder, fault-own, fault-other, same-component}

ready-own : (mid new : TreeValue) (e : Component) (id : ℕ) (on : Bool) → id ≡ id_of mid.counts e → Changes (Ready id on) mid new
    → flags_in new e ≡ record (flags_in mid e) { ready = on }
ready-own mid new e id on is change =
    ap (λ (n : Counts). flags_at new (id_of n e)) change.counts
    ∙ change.flags (id_of mid.counts e)
    ∙ ap (λ (b : Bool). if b then record (flags_in mid e) { ready = on } else flags_in mid e) (eq-eqb id (id_of mid.counts e) is)

ready-other : AreInOrder → (mid new : TreeValue) (c e : Component) (id : ℕ) (on : Bool) → id ≡ id_of mid.counts e → IsAmong mid.counts c → IsAmong mid.counts e → c ≢ e
    → Changes (Ready id on) mid new → flags_in new c ≡ flags_in mid c
ready-other order mid new c e id on is there other apart change =
    ap (λ (n : Counts). flags_at new (id_of n c)) change.counts
    ∙ change.flags (id_of mid.counts c)
    ∙ ap (λ (b : Bool). if b then record (flags_in mid c) { ready = on } else flags_in mid c) (unlike (eqb_tells id (id_of mid.counts c)))
  where
    unlike : ((id == id_of mid.counts c) ≡ true) × (id ≡ id_of mid.counts c) ⊎ ((id == id_of mid.counts c) ≡ false) × (id ≢ id_of mid.counts c) → (id == id_of mid.counts c) ≡ false
    unlike (inl same) = absurd (apart (same-component order mid.counts c e there other (sym same.1 ∙ is)))
    unlike (inr differ) = differ.0

pub tells-reader : AreInOrder → (group : ReaderGroup) (r i id : ℕ) (late ready : Bool) (old mid new : TreeValue) → IsAmong old.counts (Reader r i) → id ≡ id_of old.counts (Reader r i)
    → ((setting : Setting) (value : PlainGroup) → Stands setting value group → late ≡ (member_at value.members i).late)
    → ((setting : Setting) (value : PlainGroup) → Stands setting value group → ready ≡ (member_at value.members i).ready)
    → Changes (Fault id late) old mid → Changes (Ready id ready) mid new → TellsReader group r i old new
tells-reader order group r i id late ready old mid new there is is_late is_ready first next = record {
  counts = next.counts ∙ first.counts;
  reader = λ setting value stands.
      ready-own mid new (Reader r i) id ready is_mid next
      ∙ ap (λ (f : Flags). record f { ready = ready }) (fault-own old mid (Reader r i) id late is first)
      ∙ ap (λ (b : Bool). record { enabled = (flags_in old (Reader r i)).enabled; fault = b; ready = ready }) (is_late setting value stands)
      ∙ ap (λ (b : Bool). record { enabled = (flags_in old (Reader r i)).enabled; fault = (member_at value.members i).late; ready = b }) (is_ready setting value stands);
  others = λ c among apart.
      ready-other order mid new c (Reader r i) id ready is_mid (forth c among) (forth (Reader r i) there) apart next
      ∙ fault-other order old mid c (Reader r i) id late is among there apart first;
}
  where
    is_mid : id ≡ id_of mid.counts (Reader r i)
    is_mid = is ∙ sym (ap (λ (n : Counts). id_of n (Reader r i)) first.counts)

    forth : (c : Component) → IsAmong old.counts c → IsAmong mid.counts c
    forth c among = subst (λ (n : Counts). IsAmong n c) (sym first.counts) among

pub group-none : (group : ReaderGroup) (r : ℕ) (tree : TreeValue) → TellsGroup group r 0 tree tree
group-none group r tree = record { counts = refl; readers = λ i low. absurd (omega (arith, low)); others = λ c among apart. refl }

pub group-more : (group : ReaderGroup) (r n : ℕ) (old mid new : TreeValue) → IsAmong old.counts (Reader r n) → ((i : ℕ) → i < n → IsAmong old.counts (Reader r i))
    → TellsReader group r n mid new → TellsGroup group r n old mid → TellsGroup group r (n + 1) old new
group-more group r n old mid new own_there all_there tells so_far = record {
  counts = tells.counts ∙ so_far.counts;
  readers = λ i below setting value stands. by_case i below setting value stands (eqb_tells n i);
  others = λ c among apart. tells.others c (forth c among) (apart n (omega arith)) ∙ so_far.others c among (λ i below. apart i (omega (arith, below)));
}
  where
    forth : (c : Component) → IsAmong old.counts c → IsAmong mid.counts c
    forth c among = subst (λ (n : Counts). IsAmong n c) (sym so_far.counts) among

    own : (setting : Setting) (value : PlainGroup) → Stands setting value group → flags_in new (Reader r n)
        ≡ record { enabled = (flags_in old (Reader r n)).enabled; fault = (member_at value.members n).late; ready = (member_at value.members n).ready }
    own setting value stands =
        tells.reader setting value stands
        ∙ ap (λ (f : Flags). record { enabled = f.enabled; fault = (member_at value.members n).late; ready = (member_at value.members n).ready })
        (so_far.others (Reader r n) own_there (λ i below same. let e : n ≡ i = cc in omega (arith, e, below)))

    by_case : (i : ℕ) → i < n + 1 → (setting : Setting) (value : PlainGroup) → Stands setting value group → ((n == i) ≡ true) × (n ≡ i) ⊎ ((n == i) ≡ false) × (n ≢ i)
        → flags_in new (Reader r i)
        ≡ record { enabled = (flags_in old (Reader r i)).enabled; fault = (member_at value.members i).late; ready = (member_at value.members i).ready }
    by_case i below setting value stands (inl same) = subst (λ (k : ℕ). flags_in new (Reader r k)
        ≡ record { enabled = (flags_in old (Reader r k)).enabled; fault = (member_at value.members k).late; ready = (member_at value.members k).ready }) same.1 (own setting value stands)
    by_case i below setting value stands (inr other) =
        let before : i < n = omega (arith, below, other.1) in
        tells.others (Reader r i) (forth (Reader r i) (all_there i before)) (λ same. let e : n ≡ i = cc in omega (arith, e, before))
        ∙ so_far.readers i before setting value stands

-- ---- all read groups

pub record ToldTo (config : Config) (groups : List ReaderGroup) (n : ℕ) (old new : TreeValue) : Type 0 where
  pub counts : new.counts ≡ old.counts
  pub readers : (readings : ℕ → Reading) (r i : ℕ) → HaveReadings config readings groups → r < n → IsAmong old.counts (Reader r i)
      → flags_in new (Reader r i) ≡ record { enabled = (flags_in old (Reader r i)).enabled; fault = late_in readings r i; ready = ready_in readings r i }
  pub others : (component : Component) → IsAmong old.counts component → ((r i : ℕ) → r < n → component ≢ Reader r i) → flags_in new component ≡ flags_in old component

pub told-none : (config : Config) (groups : List ReaderGroup) (tree : TreeValue) → ToldTo config groups 0 tree tree
told-none config groups tree = record { counts = refl; readers = λ readings r i read low. absurd (omega (arith, low)); others = λ c among apart. refl }

among-low : (config : Config) (counts : Counts) (r i : ℕ) → counts ≡ counts_of config → r < length config.readgroup → IsAmong counts (Reader r i) → i < length (group_at config r).reader
among-low config counts r i is low among =
    subst (λ (n : ℕ). i < n) (get_or-map (λ (group : ReadGroupPart). length group.reader) config.readgroup r no_group 0 low)
    (subst (λ (c : Counts). IsAmong c (Reader r i)) is among)

pub low-among : (config : Config) (counts : Counts) (r i : ℕ) → counts ≡ counts_of config → r < length config.readgroup → i < length (group_at config r).reader → IsAmong counts (Reader r i)
low-among config counts r i is low within =
    subst (λ (c : Counts). IsAmong c (Reader r i)) (sym is)
    (subst (λ (n : ℕ). i < n) (sym (get_or-map (λ (group : ReadGroupPart). length group.reader) config.readgroup r no_group 0 low)) within)

pub told-more : (config : Config) (groups : List ReaderGroup) (n : ℕ) (group : ReaderGroup) (old mid new : TreeValue) → old.counts ≡ counts_of config → n < length config.readgroup
    → group ≡ get_or groups n group → TellsGroup group n (length (group_at config n).reader) mid new → ToldTo config groups n old mid → ToldTo config groups (n + 1) old new
told-more config groups n group old mid new is low at tells so_far = record {
  counts = tells.counts ∙ so_far.counts;
  readers = λ readings r i read below among. by_case readings r i read below among (eqb_tells n r);
  others = λ c among apart. tells.others c (forth c among) (λ i below. apart n i (omega arith)) ∙ so_far.others c among (λ r i below. apart r i (omega (arith, below)));
}
  where
    forth : (c : Component) → IsAmong old.counts c → IsAmong mid.counts c
    forth c among = subst (λ (n : Counts). IsAmong n c) (sym so_far.counts) among

    own : (readings : ℕ → Reading) (i : ℕ) → HaveReadings config readings groups → IsAmong old.counts (Reader n i)
        → flags_in new (Reader n i) ≡ record { enabled = (flags_in old (Reader n i)).enabled; fault = late_in readings n i; ready = ready_in readings n i }
    own readings i read among =
        let within : i < length (group_at config n).reader = among-low config old.counts n i is low among in
        tells.readers i within (setting_in config n (readings n)) (readings n).value
        (subst (λ (g : ReaderGroup). Stands (setting_in config n (readings n)) (readings n).value g) (sym at) (read n low group))
        ∙ ap (λ (f : Flags). record { enabled = f.enabled; fault = late_in readings n i; ready = ready_in readings n i })
        (so_far.others (Reader n i) among (λ r k below same. let e : n ≡ r = cc in omega (arith, e, below)))

    by_case : (readings : ℕ → Reading) (r i : ℕ) → HaveReadings config readings groups → r < n + 1 → IsAmong old.counts (Reader r i)
        → ((n == r) ≡ true) × (n ≡ r) ⊎ ((n == r) ≡ false) × (n ≢ r)
        → flags_in new (Reader r i) ≡ record { enabled = (flags_in old (Reader r i)).enabled; fault = late_in readings r i; ready = ready_in readings r i }
    by_case readings r i read below among (inl same) =
        subst (λ (k : ℕ). flags_in new (Reader k i) ≡ record { enabled = (flags_in old (Reader k i)).enabled; fault = late_in readings k i; ready = ready_in readings k i }) same.1
        (own readings i read (subst (λ (k : ℕ). IsAmong old.counts (Reader k i)) (sym same.1) among))
    by_case readings r i read below among (inr other) =
        let before : r < n = omega (arith, below, other.1) in
        tells.others (Reader r i) (forth (Reader r i) among) (λ k within same. let e : n ≡ r = cc in omega (arith, e, before))
        ∙ so_far.readers readings r i read before among

below : (counts : List ℕ) (r i : ℕ) → i < slice_index counts r → r < length counts
below [] r i within = absurd (omega (arith, within))
below (x ∷ counts) zero i within = omega arith
below (x ∷ counts) (suc r) i within = omega (arith, below counts r i within)

pub told-all : (config : Config) (subscriber : Subscriber) (n : ℕ) (old new : TreeValue) → old.counts ≡ counts_of config → n ≡ length config.readgroup
    → ToldTo config subscriber.groups.items n old new → TellsReaders config subscriber old new
told-all config subscriber n old new is all told = record {
  readers = λ readings r i read among. told.readers readings r i read (omega (arith, low r i among, all)) among;
  others = λ c among other. told.others c among (λ r i below same. not_reader c r i other same);
}
  where
    not_reader : (c : Component) (r i : ℕ) → is_reader c ≡ false → c ≡ Reader r i → ⊥
    not_reader c r i other same = let wrong : true ≡ false = sym (ap is_reader same) ∙ other in cc

    low : (r i : ℕ) → IsAmong old.counts (Reader r i) → r < length config.readgroup
    low r i among = subst (λ (m : ℕ). r < m) (length-map config.readgroup (λ group. length group.reader)) (below (counts_of config).readers r i (subst (λ (c : Counts). IsAmong c (Reader r i)) is among))

pub few-readers : (config : Config) (r : ℕ) → IsGood config → r < length config.readgroup → length (group_at config r).reader ≤ 16
few-readers config r good low = omega (arith, length-flat_map-take (λ (group : ReadGroupPart). group.reader) config.readgroup r no_group low, good.sound.few.readers)

pub made-count : (config : Config) (r : ℕ) (group : ReaderGroup) → IsMadeOf config group → group.index ≡ r → reader_count group ≡ length (group_at config r).reader
made-count config r group made is =
    made.readers.count ∙ length-map (group_at config group.index).reader _ ∙ ap (λ (k : ℕ). length (group_at config k).reader) is
