-- The groups of a lane have their parts one after another.
use Rattle.std.proofs.Common.{◌≡◌, refl, sym, ap, ◌∙◌, subst, arith, ℕ, zero, suc, ◌+◌, ◌<◌, ◌≤◌, ◌≢◌, ◌⊎◌, inl, inr, true, false, List, [], ◌++◌, length, get_or}
use Rattle.std.specs.Prelude.{◌==◌, Option, Some, None, IfSome, is_some, option_map, slice_set}
use Rattle.std.specs.List.{HoldsAt}
use Rattle.std.proofs.lemmas.Bool.Decides.{eqb_tells}
use Rattle.std.proofs.lemmas.List.{get_or-set_other, get_or-set_same, length-set}
use Rattle.message_guard.specs.Senders.{SenderState}
use Rattle.ps_config.specs.declared.parts.Config.{Config}
use Rattle.writer_group.specs.Parts.{group_at}
use Rattle.writer_group.specs.Standing.{IsGroup, datagrams_in, metas_for}
use Rattle.writer_group.specs.Turns.{GroupDeed}
use Rattle.session_model.specs.Deeds.{Deed, group_past, has_turn, sender_after, turn_of}
use Rattle.session_parts.specs.declared.publisher.Told.{Told}
use Rattle.session_parts.proofs.Counting.{fold-more}
use Rattle.lane_groups.specs.declared.place.Place.{Place}
use Rattle.lane_groups.specs.Deeds.{datagrams_of, plan_of}
use Rattle.lane_groups.specs.Places.{HasPast, IsPlaced, IsShown, MayGo}
use Rattle.lane_groups.specs.Lanes.{AreOfLane, HasSent, IsSenderOf, StandAt, is_in}
use Rattle.lane_groups.specs.Passing.{HasAdded, HavePassed, MayPassAll, MayPassIf, PassesFrom, PassesIf, passed_to, turned_by}
use Rattle.lane_groups.proofs.Past.{past-other, sender-apart}

-- the parts of the groups before it leave a group's past
not-yet : (told : Told) (g n : ℕ) (deeds : List Deed) → n ≤ g → group_past told.config.now g (passed_to told n deeds) ≡ group_past told.config.now g deeds
not-yet told g zero deeds low = refl
not-yet told g (suc n) deeds low =
    let on : suc n ≡ n + 1 = omega arith in
    let so_far = passed_to told n deeds in
    ap (λ (k : ℕ). group_past told.config.now g (passed_to told k deeds)) on
    ∙ ap (group_past told.config.now g) (fold-more (turned_by told) deeds n)
    ∙ past-other told.config.now g n (has_turn (plan_of told.config.now) [] told.moment told.closing so_far n)
    (turn_of (plan_of told.config.now) [] told.moment told.closing told.rows.now so_far n) so_far (λ same. omega (arith, same, low))
    ∙ not-yet told g n deeds (omega (arith, low))

-- before the first
pub passed-none : (told : Told) (keygroup : Option ℕ) (places : List (Option Place)) (sender : Option SenderState) → AreOfLane told.config.now keygroup places sender
    → HavePassed told 0 keygroup places places sender sender
passed-none told keygroup places sender are = record {
  are = are;
  same = λ g. refl;
  shown = λ g low. absurd (omega (arith, low));
  left = λ g at d. refl;
  goes_on = λ g low. absurd (omega (arith, low));
  stand = λ deeds stand. stand;
  made = λ deeds stand g low. absurd (omega (arith, low));
}

module _ (told : Told) (n : ℕ) (keygroup : Option ℕ) (olds mids : List (Option Place)) (before middle : Option SenderState) (may : MayPassAll told keygroup olds before)
    (low : n < length told.config.now.group) (is : HavePassed told n keygroup olds mids before middle) where
  abbrev config : Config
  config = told.config.now

  there : n < length mids
  there = omega (arith, low, is.are.count)

  -- the condition of the next group's part
  pub may-pass : (p : Option Place) → ((d : Option Place) → p ≡ get_or mids n d) → MayPassIf told n p middle
  may-pass None at = tt
  may-pass (Some place) at =
      let own : IsPlaced config keygroup n (Some place) = subst (IsPlaced config keygroup n) (sym (at None)) (is.are.places_are n low None) in
      record {
        told_is = may.told_is;
        within = low;
        place_is = own.1;
        goes_on = subst (λ (p : Option Place). IfSome p (MayGo config 1 n)) (sym (is.left n (omega arith) None) ∙ sym (at None)) (may.goes_on n low None);
        sender_is = subst (λ (k : Option ℕ). IsSenderOf k middle) (sym own.0) is.are.sender_is;
      }

  module _ (q : Option Place) where
    abbrev news : List (Option Place)
    news = slice_set mids n q

    -- of each place: this one, or another
    at-each : (P : ℕ → Option Place → Type 0) (d : Option Place) → P n q → ((g : ℕ) → g ≢ n → P g (get_or mids g d)) → (g : ℕ) → P g (get_or news g d)
    at-each P d here elsewhere g = by_case (eqb_tells g n)
      where
        by_case : ((g == n) ≡ true) × (g ≡ n) ⊎ ((g == n) ≡ false) × (g ≢ n) → P g (get_or news g d)
        by_case (inl same) = subst (λ (k : ℕ). P k (get_or news k d)) (sym same.1) (subst (P n) (sym (get_or-set_same mids n q d there)) here)
        by_case (inr other) = subst (P g) (sym (get_or-set_other mids n g q d other.1)) (elsewhere g other.1)

    -- what holds of the places before this one, and of this one, holds of one more
    at-low : (P : ℕ → Option Place → Type 0) → P n q → ((g : ℕ) → g < n → (d : Option Place) → P g (get_or mids g d)) → (g : ℕ) → g < n + 1 → (d : Option Place) → P g (get_or news g d)
    at-low P here earlier g below d = by_case (eqb_tells g n)
      where
        by_case : ((g == n) ≡ true) × (g ≡ n) ⊎ ((g == n) ≡ false) × (g ≢ n) → P g (get_or news g d)
        by_case (inl same) = subst (λ (k : ℕ). P k (get_or news k d)) (sym same.1) (subst (P n) (sym (get_or-set_same mids n q d there)) here)
        by_case (inr other) = subst (P g) (sym (get_or-set_other mids n g q d other.1)) (earlier g (omega (arith, below, other.1)) d)

    -- the past of another group is as it was
    past-left : (deeds : List Deed) (g : ℕ) → g ≢ n → (place : Option Place) → IfSome place (HasPast config deeds g) → IfSome place (HasPast config (turned_by told deeds n) g)
    past-left deeds g other None past = tt
    past-left deeds g other (Some place) past =
        subst (λ (l : List GroupDeed). IsGroup (metas_for (group_at config g) config.dataset) (group_at config g) l place.group)
        (sym (past-other config g n (has_turn (plan_of config) [] told.moment told.closing deeds n) (turn_of (plan_of config) [] told.moment told.closing told.rows.now deeds n) deeds (λ same. other (sym same)))) past

    added-left : (deeds first : List Deed) (g : ℕ) → g ≢ n → (place : Option Place) → IfSome place (HasAdded config g first deeds) → IfSome place (HasAdded config g first (turned_by told deeds n))
    added-left deeds first g other None added = tt
    added-left deeds first g other (Some place) added = record {
      made = ap datagrams_of
          (past-other config g n (has_turn (plan_of config) [] told.moment told.closing deeds n) (turn_of (plan_of config) [] told.moment told.closing told.rows.now deeds n) deeds (λ same. other (sym same)))
          ∙ added.made;
      whole = added.whole;
    }

    -- what one part leaves
    record Part (after : Option SenderState) : Type 0 where
      placed : IsPlaced config keygroup n q
      sender_is : IsSenderOf keygroup after
      same : is_some q ≡ is_some (get_or mids n None)
      shown : IfSome q IsShown
      goes_on : (turns : ℕ) → IfSome (get_or mids n None) (MayGo config (turns + 1) n) → IfSome q (MayGo config turns n)
      past : (deeds : List Deed) → StandAt config deeds keygroup mids middle → IfSome q (HasPast config (turned_by told deeds n) n)
      sent : (deeds : List Deed) → StandAt config deeds keygroup mids middle → HasSent config (turned_by told deeds n) keygroup after
      added : (deeds : List Deed) → StandAt config deeds keygroup mids middle → IfSome q (HasAdded config n deeds (turned_by told deeds n))

    passed-part : (after : Option SenderState) → Part after → HavePassed told (n + 1) keygroup olds news before after
    passed-part after part = record {
      are = record {
        count = length-set mids n q ∙ is.are.count;
        places_are = λ g within d. at-each (λ g p. g < length config.group → IsPlaced config keygroup g p) d (λ l. part.placed) (λ g other l. is.are.places_are g l d) g within;
        sender_is = part.sender_is;
      };
      same = λ g. at-each (λ g p. is_some p ≡ is_in olds g) None (part.same ∙ is.same n) (λ g other. is.same g) g;
      shown = at-low (λ g p. IfSome p IsShown) part.shown is.shown;
      left = λ g at d. get_or-set_other mids n g q d (λ same. omega (arith, same, at)) ∙ is.left g (omega (arith, at)) d;
      goes_on = λ g below turns may d. at-low (λ g p. HoldsAt (λ o. IfSome o (MayGo config (turns + 1) g)) olds g → IfSome p (MayGo config turns g))
          (λ may. part.goes_on turns (subst (λ (p : Option Place). IfSome p (MayGo config (turns + 1) n)) (sym (is.left n (omega arith) None)) (may None)))
          (λ g below d may. is.goes_on g below turns may d) g below d may;
      stand = λ deeds stand.
          let mid = is.stand deeds stand in
          record {
            past = λ g within d. at-each (λ g p. g < length config.group → IfSome p (HasPast config (passed_to told (n + 1) deeds) g)) d
                (λ l. subst (λ (x : List Deed). IfSome q (HasPast config x n)) (sym (fold-more (turned_by told) deeds n)) (part.past (passed_to told n deeds) mid))
                (λ g other l. subst (λ (x : List Deed). IfSome (get_or mids g d) (HasPast config x g)) (sym (fold-more (turned_by told) deeds n))
                (past-left (passed_to told n deeds) g other (get_or mids g d) (mid.past g l d))) g within;
            sent = subst (λ (x : List Deed). HasSent config x keygroup after) (sym (fold-more (turned_by told) deeds n)) (part.sent (passed_to told n deeds) mid);
          };
      made = λ deeds stand.
          let mid = is.stand deeds stand in
          at-low (λ g p. IfSome p (HasAdded config g deeds (passed_to told (n + 1) deeds)))
          (subst (λ (x : List Deed). IfSome q (HasAdded config n deeds x)) (sym (fold-more (turned_by told) deeds n)) (first-added deeds mid q (part.added (passed_to told n deeds) mid)))
          (λ g below d. subst (λ (x : List Deed). IfSome (get_or mids g d) (HasAdded config g deeds x)) (sym (fold-more (turned_by told) deeds n))
          (added-left (passed_to told n deeds) deeds g (λ same. omega (arith, same, below)) (get_or mids g d) (is.made deeds stand g below d)));
    }
      where
        first-added : (deeds : List Deed) → StandAt config (passed_to told n deeds) keygroup mids middle → (p : Option Place)
            → IfSome p (HasAdded config n (passed_to told n deeds) (turned_by told (passed_to told n deeds) n)) → IfSome p (HasAdded config n deeds (turned_by told (passed_to told n deeds) n))
        first-added deeds mid None added = tt
        first-added deeds mid (Some place) added = record {
          made = added.made ∙ ap (λ (l : List (List ℕ)). l ++ datagrams_in place.out) (ap datagrams_of (not-yet told n n deeds (omega arith)));
          whole = added.whole;
        }

  -- the part of a group that stands in another lane, and of one that stands in this
  part-of : (p q : Option Place) → ((d : Option Place) → p ≡ get_or mids n d) → (after : Option SenderState) → PassesIf told n p q middle after → Part q after
  part-of None None at after passes =
      let apart : IsPlaced config keygroup n None = subst (IsPlaced config keygroup n) (sym (at None)) (is.are.places_are n low None) in
      record {
        placed = apart;
        sender_is = subst (IsSenderOf keygroup) (sym passes) is.are.sender_is;
        same = ap is_some (at None);
        shown = tt;
        goes_on = λ turns may. tt;
        past = λ deeds stand. tt;
        sent = λ deeds stand.
            passes ∙ stand.sent
            ∙ sym (sender-apart config keygroup n (has_turn (plan_of config) [] told.moment told.closing deeds n) (turn_of (plan_of config) [] told.moment told.closing told.rows.now deeds n) deeds apart);
        added = λ deeds stand. tt;
      }
  part-of None (Some new) at after passes = absurd passes
  part-of (Some place) None at after passes = absurd passes
  part-of (Some place) (Some new) at after passes =
      let own : IsPlaced config keygroup n (Some place) = subst (IsPlaced config keygroup n) (sym (at None)) (is.are.places_are n low None) in
      record {
        placed = (own.0, passes.place_is);
        sender_is = subst (λ (k : Option ℕ). IsSenderOf k after) own.0 passes.sender_is;
        same = ap is_some (at None);
        shown = passes.shown;
        goes_on = λ turns may. passes.goes_on turns (subst (λ (p : Option Place). IfSome p (MayGo config (turns + 1) n)) (sym (at None)) may);
        past = λ deeds stand. (from deeds stand own.0).past;
        sent = λ deeds stand. (from deeds stand own.0).sender_is ∙ ap (λ (o : Option ℕ). option_map (λ k. sender_after config k (turned_by told deeds n)) o) own.0;
        added = λ deeds stand. record { made = (from deeds stand own.0).made; whole = (from deeds stand own.0).whole };
      }
    where
      from : (deeds : List Deed) → StandAt config deeds keygroup mids middle → (group_at config n).keygroup ≡ keygroup → PassesFrom told n deeds new after
      from deeds stand keyed =
          passes.from deeds (subst (λ (p : Option Place). IfSome p (HasPast config deeds n)) (sym (at None)) (stand.past n low None))
          (stand.sent ∙ ap (λ (o : Option ℕ). option_map (λ k. sender_after config k deeds) o) (sym keyed))

  pub passed-one : (p q : Option Place) → ((d : Option Place) → p ≡ get_or mids n d) → (after : Option SenderState) → PassesIf told n p q middle after
      → HavePassed told (n + 1) keygroup olds (slice_set mids n q) before after
  passed-one p q at after passes = passed-part q after (part-of p q at after passes)
