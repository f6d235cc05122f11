-- A read group is given a datagram.
use Rattle.std.proofs.Common.{◌≡◌, sym, ap, ◌∙◌, subst, arith, zero-add, ℕ, ◌<◌, ◌≢◌, ◌⊎◌, inl, inr, Bool, true, false, List, ◌∷◌, map, length, get_or, set}
use Rattle.std.specs.Prelude.{◌==◌, if◌then◌else◌, Result, vec_len}
use Rattle.std.specs.List.{range_with_len}
use Rattle.std.proofs.lemmas.Bool.Decides.{eqb_tells}
use Rattle.std.proofs.lemmas.List.{get_or-map, get_or-set_other, get_or-set_same, length-set}
use Rattle.std.proofs.lemmas.List.FromFn.{fill_by_all, get_or-range_with_len, length-map-range_with_len, length-range_with_len}
use Rattle.ua_base.specs.Journal.{Got}
use Rattle.ps_config.specs.declared.parts.Config.{Config}
use Rattle.pubsub_states.specs.declared.component.Component.TheVariants.{Root, Connection, ReadGroup, Reader}
use Rattle.pubsub_states.specs.declared.flags.Flags.{Flags}
use Rattle.pubsub_states.specs.declared.state.State.TheVariants.{Operational}
use Rattle.pubsub_states.specs.Changes.{TreeValue, flags_in}
use Rattle.pubsub_states.specs.States.{state_of, state_under, is_operational}
use Rattle.reader_group.specs.declared.group.ReaderGroup.{ReaderGroup}
use Rattle.reader_group.specs.declared.refusal.Refusal.{Refusal}
use Rattle.reader_group.specs.declared.refusal.Taken.{Taken}
use Rattle.reader_group.specs.Groups.{IsAnswer, IsMadeOf, Stands, StepsBy, index_of}
use Rattle.reader_group.specs.Plain as befalls
use Rattle.reader_group.specs.Plain.{Event, PlainGroup, Setting, answer, step}
use Rattle.reader_group.specs.Settings.{group_at}
use Rattle.session_model.specs.Steps.{Step, moment_of, is_on}
use Rattle.session_model.specs.Events.{receives, readers_on, switch_flags}
use Rattle.session_model.specs.Readings.{Reading, answered_on, read_on, setting_in}
use Rattle.session_parts.specs.declared.subscriber.Subscriber.{Subscriber}
use Rattle.session_parts.specs.declared.tally.Tally.{Tally}
use Rattle.session_parts.specs.Holding.{HoldSubscriber, MayReceive}
use Rattle.session_parts.specs.Standing.{IsTallyOf}
use Rattle.session_parts.specs.Pumping.{Hands, HasSwitches, brought, with_brought}
use Rattle.session_parts.proofs.Handing.{got-same}
use Rattle.session_parts.proofs.TellingReaders.{low-among}

-- ---- what the tree tells of a read group

pub operational-is : (config : Config) (before : List Step) (tree : TreeValue) (r : ℕ) → HasSwitches config before tree → r < length config.readgroup
    → is_operational (state_of (flags_in tree) (ReadGroup r)) ≡ receives config before r
operational-is config before tree r switches low =
    ap (λ (f : Flags). is_operational (state_under (state_under (state_under Operational f) (flags_in tree Connection)) (flags_in tree (ReadGroup r)))) switches.root
    ∙ ap (λ (f : Flags). is_operational (state_under (state_under (state_under Operational (switch_flags config before Root)) f) (flags_in tree (ReadGroup r)))) switches.connection
    ∙ ap (λ (f : Flags). is_operational (state_under (state_under (state_under Operational (switch_flags config before Root)) (switch_flags config before Connection)) f)) (switches.groups r low)

mapped : (f : ℕ → Bool) (n k : ℕ) → k < n → get_or (map f (range_with_len 0 n)) k false ≡ f k
mapped f n k low =
    get_or-map f (range_with_len 0 n) k 0 false (omega (arith, length-range_with_len 0 n, low)) ∙ ap f (get_or-range_with_len 0 n k 0 low ∙ zero-add k)

readers-are : (config : Config) (before : List Step) (tree : TreeValue) (r : ℕ) → HasSwitches config before tree → r < length config.readgroup
    → map (λ i. (flags_in tree (Reader r i)).enabled) (range_with_len 0 (length (group_at config r).reader)) ≡ readers_on config before r
readers-are config before tree r switches low =
    let n = length (group_at config r).reader in
    let f : ℕ → Bool = λ i. (flags_in tree (Reader r i)).enabled in
    fill_by_all (λ i. is_on config before (Reader r i)) (map f (range_with_len 0 n)) n false (length-map-range_with_len f 0 n)
    (λ k within. mapped f n k within ∙ switches.readers r k (low-among config tree.counts r k switches.counts low within))

-- ---- it is given nothing

pub gives-none : (config : Config) (tree : TreeValue) (moment r : ℕ) (datagram : List ℕ) (subscriber : Subscriber) → r < length config.readgroup
    → is_operational (state_of (flags_in tree) (ReadGroup r)) ≡ false → Hands config tree moment r datagram subscriber subscriber
gives-none config tree moment r datagram subscriber low off before from befell switches now got =
    got-same config from befell (with_brought config before datagram r befell) subscriber (λ q within. same q (eqb_tells q r)) got
  where
    none : brought config before (Got datagram) r (befell r) ≡ befell r
    none = ap (λ (b : Bool). if b then befalls.Got (moment_of before) (readers_on config before r) datagram ∷ befell r else befell r) (sym (operational-is config before tree r switches low) ∙ off)

    same : (q : ℕ) → ((q == r) ≡ true) × (q ≡ r) ⊎ ((q == r) ≡ false) × (q ≢ r) → befell q ≡ with_brought config before datagram r befell q
    same q (inl is) =
        subst (λ (k : ℕ). befell k ≡ brought config before (Got datagram) k (befell k)) (sym is.1) (sym none)
        ∙ sym (ap (λ (b : Bool). if b then brought config before (Got datagram) q (befell q) else befell q) is.0)
    same q (inr other) = sym (ap (λ (b : Bool). if b then brought config before (Got datagram) q (befell q) else befell q) other.0)

-- ---- it is given the datagram

pub given-holds : (config : Config) (r : ℕ) (old new : Subscriber) (x y : ReaderGroup) → new.groups.items ≡ set old.groups.items r y → vec_len new.tallies ≡ vec_len old.tallies
    → r < length config.readgroup → HoldSubscriber config old → x ≡ get_or old.groups.items r x → index_of y ≡ index_of x → IsMadeOf config y → HoldSubscriber config new
given-holds config r old new x y groups tallies low holds read index made = record {
  groups = record {
    count = ap (λ (l : List ReaderGroup). length l) groups ∙ length-set old.groups.items r y ∙ holds.groups.count;
    each = λ q within d. subst (λ (l : List ReaderGroup). MayReceive config q (get_or l q d)) (sym groups) (each q within d (eqb_tells q r));
  };
  tallies = tallies ∙ holds.tallies;
}
  where
    there : r < length old.groups.items
    there = omega (arith, low, holds.groups.count)

    own : MayReceive config r y
    own = record { index = index ∙ (subst (λ (g : ReaderGroup). MayReceive config r g) (sym read) (holds.groups.each r low x)).index; made = made }

    each : (q : ℕ) → q < length config.readgroup → (d : ReaderGroup) → ((q == r) ≡ true) × (q ≡ r) ⊎ ((q == r) ≡ false) × (q ≢ r) → MayReceive config q (get_or (set old.groups.items r y) q d)
    each q within d (inl is) =
        subst (λ (k : ℕ). MayReceive config k (get_or (set old.groups.items r y) k d)) (sym is.1)
        (subst (λ (g : ReaderGroup). MayReceive config r g) (sym (get_or-set_same old.groups.items r y d there)) own)
    each q within d (inr other) =
        subst (λ (g : ReaderGroup). MayReceive config q g) (sym (get_or-set_other old.groups.items r q y d other.1)) (holds.groups.each q within d)

pub gives : (config : Config) (tree : TreeValue) (moment r : ℕ) (datagram : List ℕ) (on : List Bool) (old new : Subscriber) (x y : ReaderGroup) (t u : Tally) (result : Result Taken Refusal)
    → new.groups.items ≡ set old.groups.items r y → new.tallies.items ≡ set old.tallies.items r u → r < length config.readgroup → HoldSubscriber config old
    → vec_len old.tallies ≡ length old.tallies.items
    → x ≡ get_or old.groups.items r x → t ≡ get_or old.tallies.items r t
    → on ≡ map (λ i. (flags_in tree (Reader r i)).enabled) (range_with_len 0 (length (group_at config r).reader))
    → is_operational (state_of (flags_in tree) (ReadGroup r)) ≡ true
    → StepsBy config (befalls.Got moment on datagram) x y → IsAnswer config x moment on datagram result
    → ((list : List (Result Taken Refusal)) → IsTallyOf list t → IsTallyOf (result ∷ list) u)
    → Hands config tree moment r datagram old new
gives config tree moment r datagram on old new x y t u result groups tallies low holds counted read noted on_is operational steps answers_so notes before from befell switches now got = record {
  readings = λ q within d. subst (λ (l : List ReaderGroup). Stands (setting_in config q (from q)) (read_on (setting_in config q (from q)) (from q).value (with_brought config before datagram r befell q)) (get_or l q d)) (sym groups)
      (reading q within d (eqb_tells q r));
  tallies = λ q within d. subst (λ (l : List Tally). IsTallyOf (answered_on (setting_in config q (from q)) (from q) (with_brought config before datagram r befell q)) (get_or l q d)) (sym tallies)
      (tallied q within d (eqb_tells q r));
}
  where
    there : r < length old.groups.items
    there = omega (arith, low, holds.groups.count)

    told : r < length old.tallies.items
    told = omega (arith, low, holds.tallies, counted)

    index : index_of x ≡ r
    index = (subst (λ (g : ReaderGroup). MayReceive config r g) (sym read) (holds.groups.each r low x)).index

    event : Event
    event = befalls.Got moment on datagram

    comes : brought config before (Got datagram) r (befell r) ≡ event ∷ befell r
    comes =
        ap (λ (b : Bool). if b then befalls.Got (moment_of before) (readers_on config before r) datagram ∷ befell r else befell r) (sym (operational-is config before tree r switches low) ∙ operational)
        ∙ ap (λ (m : ℕ). befalls.Got m (readers_on config before r) datagram ∷ befell r) (sym now)
        ∙ ap (λ (l : List Bool). befalls.Got moment l datagram ∷ befell r) (sym (on_is ∙ readers-are config before tree r switches low))

    setting : Setting
    setting = setting_in config r (from r)

    value : PlainGroup
    value = read_on setting (from r).value (befell r)

    stood : Stands setting value x
    stood = subst (λ (g : ReaderGroup). Stands setting value g) (sym read) (got.readings r low x)

    own : Stands setting (step setting value event) y
    own =
        subst (λ (k : ℕ). Stands (setting_in config k (from r)) value x → Stands (setting_in config k (from r)) (step (setting_in config k (from r)) value event) y) index
        (steps (from r).keys value) stood

    answered : result ≡ answer setting value moment on datagram
    answered =
        subst (λ (k : ℕ). Stands (setting_in config k (from r)) value x → result ≡ answer (setting_in config k (from r)) value moment on datagram) index
        (answers_so (from r).keys value) stood

    own_tally : IsTallyOf (answered_on setting (from r) (event ∷ befell r)) u
    own_tally =
        subst (λ (a : Result Taken Refusal). IsTallyOf (a ∷ answered_on setting (from r) (befell r)) u) answered
        (notes (answered_on setting (from r) (befell r)) (subst (λ (s : Tally). IsTallyOf (answered_on setting (from r) (befell r)) s) (sym noted) (got.tallies r low t)))

    with_own : (q : ℕ) → (q == r) ≡ true → q ≡ r → with_brought config before datagram r befell q ≡ event ∷ befell r
    with_own q is same =
        ap (λ (b : Bool). if b then brought config before (Got datagram) q (befell q) else befell q) is
        ∙ ap (λ (k : ℕ). brought config before (Got datagram) k (befell k)) same ∙ comes

    with_other : (q : ℕ) → (q == r) ≡ false → with_brought config before datagram r befell q ≡ befell q
    with_other q is = ap (λ (b : Bool). if b then brought config before (Got datagram) q (befell q) else befell q) is

    reading : (q : ℕ) → q < length config.readgroup → (d : ReaderGroup) → ((q == r) ≡ true) × (q ≡ r) ⊎ ((q == r) ≡ false) × (q ≢ r)
        → Stands (setting_in config q (from q)) (read_on (setting_in config q (from q)) (from q).value (with_brought config before datagram r befell q)) (get_or (set old.groups.items r y) q d)
    reading q within d (inl is) =
        subst (λ (l : List Event). Stands (setting_in config q (from q)) (read_on (setting_in config q (from q)) (from q).value l) (get_or (set old.groups.items r y) q d)) (sym (with_own q is.0 is.1))
        (subst (λ (k : ℕ). Stands (setting_in config k (from k)) (read_on (setting_in config k (from k)) (from k).value (event ∷ befell r)) (get_or (set old.groups.items r y) k d)) (sym is.1)
        (subst (λ (g : ReaderGroup). Stands setting (step setting value event) g) (sym (get_or-set_same old.groups.items r y d there)) own))
    reading q within d (inr other) =
        subst (λ (l : List Event). Stands (setting_in config q (from q)) (read_on (setting_in config q (from q)) (from q).value l) (get_or (set old.groups.items r y) q d)) (sym (with_other q other.0))
        (subst (λ (g : ReaderGroup). Stands (setting_in config q (from q)) (read_on (setting_in config q (from q)) (from q).value (befell q)) g) (sym (get_or-set_other old.groups.items r q y d other.1)) (got.readings q within d))

    tallied : (q : ℕ) → q < length config.readgroup → (d : Tally) → ((q == r) ≡ true) × (q ≡ r) ⊎ ((q == r) ≡ false) × (q ≢ r)
        → IsTallyOf (answered_on (setting_in config q (from q)) (from q) (with_brought config before datagram r befell q)) (get_or (set old.tallies.items r u) q d)
    tallied q within d (inl is) =
        subst (λ (l : List Event). IsTallyOf (answered_on (setting_in config q (from q)) (from q) l) (get_or (set old.tallies.items r u) q d)) (sym (with_own q is.0 is.1))
        (subst (λ (k : ℕ). IsTallyOf (answered_on (setting_in config k (from k)) (from k) (event ∷ befell r)) (get_or (set old.tallies.items r u) k d)) (sym is.1)
        (subst (λ (s : Tally). IsTallyOf (answered_on setting (from r) (event ∷ befell r)) s) (sym (get_or-set_same old.tallies.items r u d told)) own_tally))
    tallied q within d (inr other) =
        subst (λ (l : List Event). IsTallyOf (answered_on (setting_in config q (from q)) (from q) l) (get_or (set old.tallies.items r u) q d)) (sym (with_other q other.0))
        (subst (λ (s : Tally). IsTallyOf (answered_on (setting_in config q (from q)) (from q) (befell q)) s) (sym (get_or-set_other old.tallies.items r q u d other.1)) (got.tallies q within d))
