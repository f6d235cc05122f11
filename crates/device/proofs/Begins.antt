-- Writers that begin at another number, and senders that go on: what calls of a restart leave.
use Rattle.std.proofs.Common.{◌≡◌, ◌≢◌, ℕ, suc, ◌+◌, ◌*◌, ◌%◌, ◌/◌, ◌^◌, ◌<◌, ◌≤◌, ◌⊎◌, inl, inr, Bool, true, false, nat_eq, List, length, get_or, set, refl, sym, ap, subst, arith, ◌∙◌}
use Rattle.std.specs.Prelude.{◌==◌, All, IsTrue, Option, Some}
use Rattle.std.specs.Bool.{OnFalse, OnTrue}
use Rattle.std.specs.List.{AllZip, HoldsAt}
use Rattle.std.proofs.lemmas.Bool.{OnTrue_from, cases_eq, false≢true}
use Rattle.std.proofs.lemmas.Option.{none-some, same_Some}
use Rattle.std.proofs.lemmas.Bool.Decides.{eqb_tells}
use Rattle.std.proofs.lemmas.List.{get_or-set_same, get_or_read, length-set}
use Rattle.ps_config.specs.Beginning.{HasWriterAt, config_beginning}
use Rattle.ps_config.specs.declared.parts.Config.{Config}
use Rattle.group_keys.specs.declared.key_set.KeySet.{KeySet}
use Rattle.group_keys.specs.KeySets.{current}
use Rattle.group_keys.specs.Ring.{key_sets}
use Rattle.group_keys.specs.declared.ring.Ring.{Ring}
use Rattle.message_guard.specs.Senders.{SenderState}
use Rattle.writer_group.specs.Standing.{IsGood, IsMadeFor, index_of}
use Rattle.device.specs.Restarts.{BeginsOrStays, HasBegunAt, HasGoneOn, HasSideBegun, HaveGoneOn, HaveNumbersBegun, IsUnturned, MayNotBegin, passed_over}
use Rattle.device.specs.Resuming.{IsBehind, IsEarlier, MayNotResume, WouldRepeat}
use Rattle.device.specs.Sides.{ArePlaced, HasRing, HasWriter, IsPublisher, IsSide}
use Rattle.device.specs.Storing.{IsCovered, IsReleased, IsReleasedFor, MayHandOver, message_word, pair_in}
use Rattle.device.specs.declared.publisher.Publisher.{Publisher}
use Rattle.device.specs.declared.side.Side.{Side}
use Rattle.device.specs.declared.store.Saved.{Saved as SavedState}
use Rattle.writer_group.specs.Parts.{group_at}
use Rattle.writer_group.proofs.Needs.{room-begun}
use Rattle.device.proofs.Placing.{placed-set, sides-begun}
use Rattle.device.proofs.Rings.{ring-at}
use Rattle.device.proofs.Sending.{no_sender}

-- the configuration has the writer that a group has
pub has-writer-at : (writer : ℕ) (config : Config) (sides : List Side) (i : ℕ) (side : Side) → i < length sides → side ≡ get_or sides i side → ArePlaced sides → All (IsSide config) sides
    → HasWriter writer side → HasWriterAt i writer config
has-writer-at writer config sides i side low is placed all has =
    let side_is : IsSide config side = subst (IsSide config) (sym is) (all i side low) in
    let at : index_of side.group ≡ i = side_is.index ∙ ap (λ (s : Side). s.index) is ∙ placed i side low in
    record {
      group_there = omega (arith, side_is.keeps_to.index, at);
      writer_there = λ d.
          let made : IsMadeFor config (get_or config.group i d) side.group = subst (λ (k : ℕ). IsMadeFor config (get_or config.group k d) side.group) at (side_is.keeps_to.made d) in
          let group = has.group in
          let writers = made.writers in
          omega (arith, group, writers);
    }

-- ---- by their answers

pub begins-by : (result : Bool) (group writer number : ℕ) (old new : Publisher) → OnTrue result (HasBegunAt group writer number old new) → OnFalse result (new ≡ old)
    → OnFalse result (MayNotBegin group writer old) → BeginsOrStays group writer number old new
begins-by true group writer number old new begun stays refused = inl begun
begins-by false group writer number old new begun stays refused = inr (refused, stays)

pub begins-at : (group writer number place place2 word : ℕ) (old new : Publisher) → group ≡ place → writer ≡ place2 → number ≡ word → BeginsOrStays group writer number old new
    → BeginsOrStays place place2 word old new
begins-at group writer number place place2 word old new same_group same_writer same_number begins =
    subst (λ (g : ℕ). BeginsOrStays g place2 word old new) same_group
    (subst (λ (w : ℕ). BeginsOrStays group w word old new) same_writer (subst (λ (n : ℕ). BeginsOrStays group writer n old new) same_number begins))

place-split : (place : ℕ) → 8 + place ≡ 8 + 16 * (place / 16) + place % 16
place-split place = omega arith

pub numbers-more : (place word : ℕ) (words : List ℕ) (old mid new : Publisher) → word ≡ get_or words (8 + place) 0 → HaveNumbersBegun place words old mid
    → BeginsOrStays (place / 16) (place % 16) (word % 2 ^ 16) mid new → HaveNumbersBegun (place + 1) words old new
numbers-more place word words old mid new is have begins =
    let same : word ≡ message_word words (place / 16) (place % 16) = is ∙ ap (λ (n : ℕ). get_or words n 0) (place-split place) in
    let more : suc place ≡ place + 1 = omega arith in
    subst (λ (n : ℕ). HaveNumbersBegun n words old new) more
    (mid, (have, subst (λ (n : ℕ). BeginsOrStays (place / 16) (place % 16) (n % 2 ^ 16) mid new) same begins))

pub gone-more : (now count : ℕ) (pair : ℕ × ℕ) (words : List ℕ) (old mid new : Publisher) → pair ≡ pair_in words count → HaveGoneOn now count words old mid
    → HoldsAt (HasGoneOn now count pair mid new) mid.senders.items count → HaveGoneOn now (count + 1) words old new
gone-more now count pair words old mid new is have gone =
    let more : suc count ≡ count + 1 = omega arith in
    subst (λ (n : ℕ). HaveGoneOn now n words old new) more
    (mid, (have, subst (λ (p : ℕ × ℕ). HoldsAt (HasGoneOn now count p mid new) mid.senders.items count) is gone))

pub gone-from : (result : Bool) (now keygroup used : ℕ) (pair : ℕ × ℕ) (sets : List KeySet) (set : KeySet) (old new : Publisher) → keygroup < length old.senders.items
    → length old.senders.items ≡ length old.config.keygroup → ((d : SenderState) → sets ≡ (get_or old.senders.items keygroup d).sets) → current sets now ≡ Some set → used ≡ passed_over pair set.token
    → OnTrue result (IsBehind keygroup now used sets old new) → OnFalse result (new ≡ old) → OnFalse result (MayNotResume keygroup now used sets old)
    → HoldsAt (HasGoneOn now keygroup pair old new) old.senders.items keygroup
gone-from true now keygroup used pair sets set old new within count same current_is used_is behind stays refused = λ d. record {
  there = omega (arith, within, count);
  set = set;
  current_is = subst (λ (l : List KeySet). current l now ≡ Some set) (same d) current_is;
  is = inl (subst (λ (l : List KeySet). IsBehind keygroup now (passed_over pair set.token) l old new) (same d) (subst (λ (n : ℕ). IsBehind keygroup now n sets old new) used_is behind));
}
gone-from false now keygroup used pair sets set old new within count same current_is used_is behind stays refused = λ d. record {
  there = omega (arith, within, count);
  set = set;
  current_is = subst (λ (l : List KeySet). current l now ≡ Some set) (same d) current_is;
  is = inr (
    (λ p.
        subst (λ (l : List KeySet). WouldRepeat (get_or old.config.keygroup keygroup p) l now (passed_over pair set.token) (get_or old.senders.items keygroup d)) (same d)
        (subst (λ (n : ℕ). WouldRepeat (get_or old.config.keygroup keygroup p) sets now n (get_or old.senders.items keygroup d)) used_is (refused within (omega (arith, within, count)) p d))),
    stays,
  );
}

pub gone-count : (result : Bool) (now keygroup used : ℕ) (sets : List KeySet) (old new : Publisher) → OnTrue result (IsBehind keygroup now used sets old new) → OnFalse result (new ≡ old)
    → length new.senders.items ≡ length old.senders.items
gone-count true now keygroup used sets old new behind stays =
    ap (λ (l : List SenderState). length l) (behind.others no_sender) ∙ length-set old.senders.items keygroup (get_or new.senders.items keygroup no_sender)
gone-count false now keygroup used sets old new behind stays = ap (λ (p : Publisher). length p.senders.items) stays

-- ---- a publisher of which a writer begins anew

-- what was read twice is the same
pub same-read : {X : Type 0} (list : List X) (i : ℕ) (x y : X) → i < length list → x ≡ get_or list i x → y ≡ get_or list i y → x ≡ y
same-read {X} list i x y low x_is y_is = get_or_read list i x low x_is y ∙ sym y_is

pub begun-at : (old new : Publisher) (group writer number : ℕ) (was is : Side) → group < length old.sides.items → was ≡ get_or old.sides.items group was
    → new ≡ record old { config = new.config; sides = new.sides } → new.config ≡ config_beginning group writer number old.config → new.sides.items ≡ set old.sides.items group is
    → HasWriter writer was → IsUnturned old.config was → HasSideBegun writer number was is → HasBegunAt group writer number old new
begun-at old new group writer number was is low was_is rest config sides has unturned begun = record {
  within = low;
  has = λ d. subst (HasWriter writer) (there d) has;
  unturned = λ d. subst (IsUnturned old.config) (there d) unturned;
  is = λ d e. subst (λ (w : Side). HasSideBegun writer number w (get_or new.sides.items group e)) (there d) (subst (HasSideBegun writer number was) (here e) begun);
  others = λ e. sides ∙ ap (λ (s : Side). set old.sides.items group s) (here e);
  config = config;
  rest = rest;
}
  where
    there : (d : Side) → was ≡ get_or old.sides.items group d
    there d = get_or_read old.sides.items group was low was_is d

    here : (e : Side) → is ≡ get_or new.sides.items group e
    here e = sym (ap (λ (l : List Side). get_or l group e) sides ∙ get_or-set_same old.sides.items group is e low)

pub begun-publisher : (old new : Publisher) (group writer number : ℕ) (was is : Side) → IsPublisher old → group < length old.sides.items → was ≡ get_or old.sides.items group was
    → new ≡ record old { config = config_beginning group writer number old.config; sides = new.sides } → new.sides.items ≡ set old.sides.items group is
    → IsGood (config_beginning group writer number old.config) → IsSide (config_beginning group writer number old.config) is → is.index ≡ was.index → IsPublisher new
begun-publisher old new group writer number was is r low was_is new_is sides good side same =
    subst IsPublisher (sym new_is)
    (record {
      good = good;
      rows_are = r.rows_are;
      rows_count = r.rows_count;
      senders_are = r.senders_are;
      senders_count = r.senders_count;
      rings_are = r.rings_are;
      sides_are = subst (λ (l : List Side). All (IsSide (config_beginning group writer number old.config)) l) (sym sides)
          (sides-begun writer number old.config old.sides.items group is low r.places r.sides_are side);
      places = subst ArePlaced (sym sides) (placed-set old.sides.items group was is low was_is same r.places);
      reserved = room-begun old.config group writer number old.out r.reserved;
      made_is = r.made_is;
      handed_is = r.handed_is;
    })

-- ---- a group without a turn

pub due-at : (P : ℕ → Type 0) (moment read interval : ℕ) → read ≡ interval → P moment → OnTrue (nat_eq moment read) (P interval)
due-at P moment read interval same due = by_case (eqb_tells moment read)
  where
    by_case : ((moment == read) ≡ true) × (moment ≡ read) ⊎ ((moment == read) ≡ false) × (moment ≢ read) → OnTrue (nat_eq moment read) (P interval)
    by_case (inl equal) = OnTrue_from (nat_eq moment read) (P interval) (λ is. subst P (equal.1 ∙ same) due)
    by_case (inr other) = OnTrue_from (nat_eq moment read) (P interval) (λ is. absurd (false≢true (sym other.0 ∙ is)))

-- ---- tokens that aren't later

not-earlier : (now k : ℕ) (words : List ℕ) (senders : List SenderState) (rings : List Ring) (read : Ring) (set : KeySet) (d : SenderState) → AllZip HasRing senders rings → k < length senders
    → read ≡ get_or rings k read → current (key_sets read) now ≡ Some set → (pair_in words k).0 ≤ set.token → ¬ IsEarlier now (pair_in words k).0 (get_or senders k d).sets
not-earlier now k words senders rings read set d are low is current_is more = λ earlier.
    let sets : key_sets read ≡ (get_or senders k d).sets = ap key_sets is ∙ ring-at senders rings k d read are low in
    let same : set ≡ earlier.set = same_Some set earlier.set (sym current_is ∙ ap (λ (l : List KeySet). current l now) sets ∙ earlier.is) in
    let token = ap (λ (s : KeySet). s.token) same in
    let less = earlier.earlier in
    absurd (omega (arith, more, token, less))

pub timely-more : (now k : ℕ) (words : List ℕ) (senders : List SenderState) (rings : List Ring) (read : Ring) (set : KeySet) → AllZip HasRing senders rings → k < length senders
    → read ≡ get_or rings k read → current (key_sets read) now ≡ Some set → (pair_in words k).0 ≤ set.token
    → ((keygroup : ℕ) → keygroup < k → HoldsAt (λ (s : SenderState). ¬ IsEarlier now (pair_in words keygroup).0 s.sets) senders keygroup)
    → (keygroup : ℕ) → keygroup < k + 1 → HoldsAt (λ (s : SenderState). ¬ IsEarlier now (pair_in words keygroup).0 s.sets) senders keygroup
timely-more now k words senders rings read set are low is current_is more before keygroup below = by_place (cases_eq keygroup k)
  where
    by_place : (keygroup ≡ k) ⊎ (keygroup ≡ k → ⊥) → HoldsAt (λ (s : SenderState). ¬ IsEarlier now (pair_in words keygroup).0 s.sets) senders keygroup
    by_place (inl here) =
        subst (λ (n : ℕ). HoldsAt (λ (s : SenderState). ¬ IsEarlier now (pair_in words n).0 s.sets) senders n) (sym here)
        (λ d. not-earlier now k words senders rings read set d are low is current_is more)
    by_place (inr differs) = before keygroup (omega (arith, below, differs))

-- ---- numbers that may be sent

pub released-by : (result : Bool) (keygroup : ℕ) (publisher : Publisher) (sender : SenderState) (saved : SavedState) → keygroup < length publisher.senders.items
    → sender ≡ get_or publisher.senders.items keygroup sender → publisher.store.saved ≡ Some saved → (IsTrue result → IsCovered keygroup sender publisher.store.covered)
    → (IsCovered keygroup sender publisher.store.covered → IsTrue result) → (IsTrue result → IsReleased keygroup publisher) × (IsReleased keygroup publisher → IsTrue result)
released-by result keygroup publisher sender saved low is some covers covered = (
  λ yes. inr (λ d. subst (λ (s : SenderState). IsCovered keygroup s publisher.store.covered)
      (get_or_read publisher.senders.items keygroup sender low is d) (covers yes)),
  back,
)
  where
    back : IsReleased keygroup publisher → IsTrue result
    back (inl none) = absurd (none-some saved (sym none ∙ some))
    back (inr held) = covered (subst (λ (s : SenderState). IsCovered keygroup s publisher.store.covered) (sym is) (held sender))

pub hands-over : (result : Bool) (keygroup : ℕ) (publisher : Publisher) → (group_at publisher.config publisher.from).keygroup ≡ Some keygroup
    → (IsTrue result → IsReleased keygroup publisher) × (IsReleased keygroup publisher → IsTrue result) → OnTrue result (MayHandOver publisher) × OnFalse result (¬ MayHandOver publisher)
hands-over true keygroup publisher keyed told = (subst (λ (o : Option ℕ). IsReleasedFor o publisher) (sym keyed) (told.0 refl), tt)
hands-over false keygroup publisher keyed told = (tt, λ may. false≢true (told.1 (subst (λ (o : Option ℕ). IsReleasedFor o publisher) keyed may)))
