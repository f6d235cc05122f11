-- A group's turn, by what it asks for and what it is.
use Rattle.std.proofs.Common.{◌≡◌, sym, ap, ◌∙◌, subst, arith, ℕ, ◌+◌, ◌<◌, ◌≤◌, ◌≢◌, ◌⊎◌, inl, inr, Bool, true, false, List, length, map, Option, Some, None, get_or}
use Rattle.std.specs.Prelude.{◌==◌, nat_lt, is_some, slice_set, IfSome}
use Rattle.std.specs.List.{HoldsAt, range_with_len}
use Rattle.std.specs.Option.{option_map}
use Rattle.std.proofs.lemmas.Bool.Decides.{eqb_tells, nat_tests}
use Rattle.std.proofs.lemmas.List.{get_or-set_other, get_or-set_same, get_or_read, get_or_default, length-set}
use Rattle.std.proofs.lemmas.List.FromFn.{fill_by_all, length-map-range_with_len, get_or-map-range_with_len}
use Rattle.std.proofs.lemmas.List.Elements.{All-get_or}
use Rattle.dataset_meta.specs.Metas.{MetaData}
use Rattle.message_guard.specs.Senders.{SenderState, IsSender, numbers_left}
use Rattle.ps_config.specs.declared.parts.Config.{Config}
use Rattle.ps_config.specs.declared.parts.GroupPart.{GroupPart}
use Rattle.pubsub_states.specs.declared.component.Component.TheVariants.{Writer}
use Rattle.pubsub_states.specs.Changes.{TreeValue, flags_in}
use Rattle.pubsub_states.specs.States.{state_of, is_operational}
use Rattle.writer_group.specs.declared.datagrams.Datagrams.{Datagrams}
use Rattle.writer_group.specs.declared.group.Group.{Group as GroupWords}
use Rattle.writer_group.specs.declared.sampled.Sampled.{Sampled}
use Rattle.writer_group.specs.Standing.{HasTicked, IsGroup, IsSenderFor, MayGoOn, index_of, input_of, metas_for}
use Rattle.writer_group.specs.Turns.{GroupDeed, TurnInput}
use Rattle.session_model.specs.Sets.{metas_at, rows_at}
use Rattle.session_model.specs.Deeds.{Deed, group_past, sender_after, sender_of, turn_input, works, writers_on}
use Rattle.writer_group.specs.Parts.{group_at, no_group}
use Rattle.session_parts.specs.declared.publisher.Publisher.{Publisher}
use Rattle.session_parts.specs.declared.publisher.Told.{Told}
use Rattle.session_parts.specs.Holding.{AreGroups, IsGroupOf}
use Rattle.session_parts.specs.Standing.{HaveSent}
use Rattle.session_parts.specs.Ticking.{TickData, GoesOnAt, IsBefore, MayPass, MayTurn, TakesTurn, is_spent_by, no_sender, now_of}
use Rattle.session_parts.proofs.Few.{group-among, writer-among, sound-group}
use Rattle.session_parts.proofs.Passing.{writer-works}

-- ---- what is said of the group with an index of a configuration

pub at-index : (P : GroupPart → Type 0) (config : Config) (g i : ℕ) → i ≡ g → g < length config.group → P (group_at config g) → HoldsAt P config.group i
at-index P config g i is low holds =
    λ d. subst P (get_or_default config.group g no_group d low ∙ ap (λ (k : ℕ). get_or config.group k d) (sym is)) holds

pub from-index : (P : GroupPart → Type 0) (config : Config) (g i : ℕ) → i ≡ g → HoldsAt P config.group i → P (group_at config g)
from-index P config g i is holds = subst (λ (k : ℕ). P (get_or config.group k no_group)) is (holds no_group)

-- ---- the conditions

pub may-turn : (told : Told) (g : ℕ) (publisher : Publisher) (tree : TreeValue) (on : List Bool) (sender : Option SenderState) (group : GroupWords) → MayPass told g publisher tree
    → group ≡ get_or publisher.groups.items g group → length on ≡ length (group_at told.config.now g).writer → IsSenderFor (group_at told.config.now g) sender
    → MayTurn told g on sender group
may-turn told g publisher tree on sender group may at on_are sender_is = record {
  good = may.good;
  within = may.within;
  index = own.index;
  may = record {
    made = own.made;
    metas_are = may.metas_are;
    sampled = record { rows_are = may.rows_are; on_are = on_are };
    goes_on = subst (λ (w : GroupWords). MayGoOn (metas_for (group_at told.config.now g) told.metas.now) (group_at told.config.now g) 1 w) (sym at) (may.goes_on group);
    sender_is = sender_is;
  };
}
  where
    own : IsGroupOf told.config.now g group
    own = subst (λ (w : GroupWords). IsGroupOf told.config.now g w) (sym at) (may.holds.groups.each g may.within group)

pub open-sender : (told : Told) (g : ℕ) (publisher : Publisher) (tree : TreeValue) → MayPass told g publisher tree → (group_at told.config.now g).keygroup ≡ None
    → IsSenderFor (group_at told.config.now g) None
open-sender told g publisher tree may none = record {
  there = sym ((sound-group told.config.now g may.good may.within).keys.keyed ∙ ap is_some none);
  sender_is = tt;
  unspent = tt;
}

unspent-is : (s : SenderState) → nat_lt (numbers_left s) 1024 ≡ false → 1024 ≤ numbers_left s
unspent-is s told = grind (arith, nat_tests)

pub key-low : (told : Told) (g k : ℕ) (publisher : Publisher) (tree : TreeValue) → MayPass told g publisher tree → (group_at told.config.now g).keygroup ≡ Some k
    → k < length publisher.senders.items
key-low told g k publisher tree may some =
    omega (arith, subst (λ (o : Option ℕ). IfSome o (λ k. k < length told.config.now.keygroup)) some (sound-group told.config.now g may.good may.within).keys.there, may.holds.senders.count)

pub secured-sender : (told : Told) (g k : ℕ) (publisher : Publisher) (tree : TreeValue) (s : SenderState) → MayPass told g publisher tree → (group_at told.config.now g).keygroup ≡ Some k
    → s ≡ get_or publisher.senders.items k s → is_spent_by publisher.senders.items (group_at told.config.now g).keygroup ≡ false
    → IsSenderFor (group_at told.config.now g) (Some s)
secured-sender told g k publisher tree s may some at unspent = record {
  there = sym ((sound-group told.config.now g may.good may.within).keys.keyed ∙ ap is_some some);
  sender_is = subst IsSender (sym at) (All-get_or IsSender publisher.senders.items k s low may.holds.senders.each);
  unspent = unspent-is s
      (ap (λ (z : SenderState). nat_lt (numbers_left z) 1024) (get_or_read publisher.senders.items k s low at no_sender)
      ∙ sym (ap (is_spent_by publisher.senders.items) some) ∙ unspent);
}
  where
    low : k < length publisher.senders.items
    low = key-low told g k publisher tree may some

-- ---- what a turn is given

pub on-is : (t : TickData) (g n : ℕ) (so_far : List Deed) (done : List Bool) (told : Told) (publisher : Publisher) (tree : TreeValue) (on : List Bool)
    → IsBefore t g so_far done told publisher tree → MayPass told g publisher tree → n ≡ length (group_at told.config.now g).writer
    → on ≡ map (λ w. is_operational (state_of (flags_in tree) (Writer g w))) (range_with_len 0 n)
    → on ≡ writers_on t.plan.config t.before so_far g
on-is t g n so_far done told publisher tree on is may count at =
    at
    ∙ fill_by_all (λ w. works t.plan.config t.before so_far (Writer g w)) (map f (range_with_len 0 n)) n false (length-map-range_with_len f 0 n)
    (λ w low. get_or-map-range_with_len f 0 n w w false low (omega arith)
    ∙ writer-works t g w so_far done tree is.at.flags (is.none_failed g (omega arith)) (group-among told.config.now tree.counts g may.counts_are may.within)
    (writer-among told.config.now tree.counts g w may.counts_are may.within (omega (arith, low, count))))
    ∙ ap (λ (m : ℕ). map (λ w. works t.plan.config t.before so_far (Writer g w)) (range_with_len 0 m)) (count ∙ ap (λ (config : Config). length (group_at config g).writer) is.told_is.config)
  where
    f : ℕ → Bool
    f w = is_operational (state_of (flags_in tree) (Writer g w))

pub open-is : (t : TickData) (g : ℕ) (so_far : List Deed) (told : Told) → told.config.now ≡ t.plan.config → (group_at told.config.now g).keygroup ≡ None
    → None ≡ sender_of t.plan.config g so_far
open-is t g so_far told same none =
    sym (ap (λ (o : Option ℕ). option_map (λ k. sender_after t.plan.config k so_far) o) (sym (ap (λ (config : Config). (group_at config g).keygroup) same) ∙ none))

pub secured-is : (t : TickData) (g k : ℕ) (so_far : List Deed) (told : Told) (senders : List SenderState) (s : SenderState) → told.config.now ≡ t.plan.config
    → (group_at told.config.now g).keygroup ≡ Some k → k < length t.plan.config.keygroup → s ≡ get_or senders k s → HaveSent t.plan.config so_far senders
    → Some s ≡ sender_of t.plan.config g so_far
secured-is t g k so_far told senders s same some low at sent =
    ap Some (at ∙ sent k low s)
    ∙ sym (ap (λ (o : Option ℕ). option_map (λ k. sender_after t.plan.config k so_far) o) (sym (ap (λ (config : Config). (group_at config g).keygroup) same) ∙ some))

input-is : (t : TickData) (so_far : List Deed) (g now : ℕ) (closing : Bool) (rows : List Sampled) (on : List Bool) (sender : Option SenderState)
    → now ≡ now_of t → closing ≡ t.closing → rows ≡ rows_at t.plan t.before t.samples → on ≡ writers_on t.plan.config t.before so_far g → sender ≡ sender_of t.plan.config g so_far
    → input_of now closing (metas_at t.plan.config t.before) rows on sender ≡ turn_input t.plan t.before (now_of t) t.closing t.samples so_far g
input-is t so_far g now closing rows on sender now_is closing_is rows_are on_are sender_is =
    let metas = metas_at t.plan.config t.before in
    ap (λ (n : ℕ). input_of n closing metas rows on sender) now_is
    ∙ ap (λ (b : Bool). input_of (now_of t) b metas rows on sender) closing_is
    ∙ ap (λ (l : List Sampled). input_of (now_of t) t.closing metas l on sender) rows_are
    ∙ ap (λ (l : List Bool). input_of (now_of t) t.closing metas (rows_at t.plan t.before t.samples) l sender) on_are
    ∙ ap (λ (o : Option SenderState). input_of (now_of t) t.closing metas (rows_at t.plan t.before t.samples) (writers_on t.plan.config t.before so_far g) o) sender_is

pub has-ticked : (t : TickData) (g count : ℕ) (so_far : List Deed) (done : List Bool) (told : Told) (publisher : Publisher) (tree : TreeValue) (on : List Bool) (sender : Option SenderState)
    (group new : GroupWords) (out : Datagrams) → IsBefore t g so_far done told publisher tree → MayPass told g publisher tree → group ≡ get_or publisher.groups.items g group
    → TakesTurn told g on sender count group new out → on ≡ writers_on t.plan.config t.before so_far g → sender ≡ sender_of t.plan.config g so_far
    → HasTicked t.plan.config (group_at t.plan.config g) (group_past t.plan.config g so_far) (turn_input t.plan t.before (now_of t) t.closing t.samples so_far g) new out
has-ticked t g count so_far done told publisher tree on sender group new out is may at takes on_are sender_is =
    subst (λ (input : TurnInput). HasTicked t.plan.config (group_at t.plan.config g) (group_past t.plan.config g so_far) input new out)
    (input-is t so_far g told.moment told.closing told.rows.now on sender is.told_is.moment is.told_is.closing is.told_is.rows on_are sender_is)
    (there (group_past t.plan.config g so_far) stands)
  where
    here : (past : List GroupDeed) → IsGroup (metas_for (group_at t.plan.config g) told.metas.now) (group_at t.plan.config g) past group
        → HasTicked t.plan.config (group_at t.plan.config g) past (input_of told.moment told.closing told.metas.now told.rows.now on sender) new out
    here = subst (λ (config : Config). (past : List GroupDeed) → IsGroup (metas_for (group_at config g) told.metas.now) (group_at config g) past group
        → HasTicked config (group_at config g) past (input_of told.moment told.closing told.metas.now told.rows.now on sender) new out) is.told_is.config takes.stands

    there : (past : List GroupDeed) → IsGroup (metas_for (group_at t.plan.config g) (metas_at t.plan.config t.before)) (group_at t.plan.config g) past group
        → HasTicked t.plan.config (group_at t.plan.config g) past (input_of told.moment told.closing (metas_at t.plan.config t.before) told.rows.now on sender) new out
    there = subst (λ (metas : List MetaData). (past : List GroupDeed) → IsGroup (metas_for (group_at t.plan.config g) metas) (group_at t.plan.config g) past group
        → HasTicked t.plan.config (group_at t.plan.config g) past (input_of told.moment told.closing metas told.rows.now on sender) new out) is.told_is.metas here

    low : g < length t.plan.config.group
    low = subst (λ (config : Config). g < length config.group) is.told_is.config may.within

    stands : IsGroup (metas_for (group_at t.plan.config g) (metas_at t.plan.config t.before)) (group_at t.plan.config g) (group_past t.plan.config g so_far) group
    stands =
        subst (λ (w : GroupWords). IsGroup (metas_for (group_at t.plan.config g) (metas_at t.plan.config t.before)) (group_at t.plan.config g) (group_past t.plan.config g so_far) w) (sym at)
        (is.at.groups g low group)

-- ---- what it leaves

pub groups-after : (config : Config) (groups : List GroupWords) (g : ℕ) (new : GroupWords) → AreGroups config groups → g < length config.group → IsGroupOf config g new
    → AreGroups config (slice_set groups g new)
groups-after config groups g new are within own = record {
  count = length-set groups g new ∙ are.count;
  each = λ h low d. by_case h low d (eqb_tells g h);
}
  where
    low_g : g < length groups
    low_g = omega (arith, within, are.count)

    by_case : (h : ℕ) → h < length config.group → (d : GroupWords) → ((g == h) ≡ true) × (g ≡ h) ⊎ ((g == h) ≡ false) × (g ≢ h) → IsGroupOf config h (get_or (slice_set groups g new) h d)
    by_case h low d (inl same) =
        subst (λ (k : ℕ). IsGroupOf config k (get_or (slice_set groups g new) k d)) same.1
        (subst (λ (w : GroupWords). IsGroupOf config g w) (sym (get_or-set_same groups g new d low_g)) own)
    by_case h low d (inr other) =
        subst (λ (w : GroupWords). IsGroupOf config h w) (sym (get_or-set_other groups g h new d (λ same. other.1 (sym same)))) (are.each h low d)

pub own-after : (told : Told) (g count : ℕ) (publisher : Publisher) (tree : TreeValue) (on : List Bool) (sender : Option SenderState) (group new : GroupWords) (out : Datagrams)
    → MayPass told g publisher tree → group ≡ get_or publisher.groups.items g group → TakesTurn told g on sender count group new out → IsGroupOf told.config.now g new
own-after told g count publisher tree on sender group new out may at takes = record {
  index = takes.index ∙ ap index_of at ∙ (may.holds.groups.each g may.within group).index;
  made = takes.made;
}

pub goes-on-after : (told : Told) (g count turns : ℕ) (publisher : Publisher) (tree : TreeValue) (on : List Bool) (sender : Option SenderState) (group new : GroupWords) (out : Datagrams)
    → MayPass told g publisher tree → group ≡ get_or publisher.groups.items g group → TakesTurn told g on sender count group new out
    → GoesOnAt told.config.now told.metas.now (turns + 1) g publisher.groups.items → GoesOnAt told.config.now told.metas.now turns g (slice_set publisher.groups.items g new)
goes-on-after told g count turns publisher tree on sender group new out may at takes goes = λ d.
    subst (λ (w : GroupWords). MayGoOn (metas_for (group_at told.config.now g) told.metas.now) (group_at told.config.now g) turns w)
    (sym (get_or-set_same publisher.groups.items g new d (omega (arith, may.within, may.holds.groups.count))))
    (takes.goes_on turns (subst (λ (w : GroupWords). MayGoOn (metas_for (group_at told.config.now g) told.metas.now) (group_at told.config.now g) (turns + 1) w) (sym at) (goes group)))
