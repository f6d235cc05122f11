-- A turn of a lane begins: its sender comes to the moment, and its groups are refreshed where the token changed.
use Rattle.std.proofs.Common.{◌≡◌, refl, sym, ap, ◌∙◌, subst, arith, ℕ, ◌<◌, ◌≤◌, ◌≢◌, ◌⊎◌, inl, inr, Bool, true, false, List, length, get_or}
use Rattle.std.specs.Prelude.{◌==◌, not, Option, Some, None, IfSome, is_some, option_map, nat_lt, IsTrue, ◌↔◌, if◌then◌else◌}
use Rattle.std.specs.Option.{option_map_or}
use Rattle.std.proofs.lemmas.Bool.Decides.{eqb_tells, nat_tests}
use Rattle.std.proofs.lemmas.Bool.{ne_eqb}
use Rattle.group_keys.specs.KeySets.{current}
use Rattle.group_keys.specs.declared.key_set.KeySet.{KeySet}
use Rattle.message_guard.specs.Protection.{keys_in}
use Rattle.message_guard.specs.Senders.{SenderState, IsSender, turned, turned_by}
use Rattle.ps_config.specs.declared.parts.Config.{Config}
use Rattle.writer_group.specs.Parts.{group_at}
use Rattle.writer_group.specs.Standing.{IsGroup, IsReserved, metas_for}
use Rattle.writer_group.specs.Turns.{GroupDeed}
use Rattle.session_model.specs.Deeds.{Deed, group_past, rekeyed, sender_after}
use Rattle.lane_groups.specs.declared.lane.Lane.{Lane}
use Rattle.lane_groups.specs.declared.place.Place.{Place}
use Rattle.lane_groups.specs.Places.{HasPast, HasWriters, IsPlaced, IsRefreshedIf, MayGo}
use Rattle.lane_groups.specs.Lanes.{AreOfLane, HasSent, IsLane, is_in}
use Rattle.lane_groups.specs.Passing.{AreRefreshable, AreRefreshed, HasCome, HaveBegun}
use Rattle.lane_groups.proofs.Past.{past-rekeyed, refreshed_if, sender-rekeyed}

-- what becomes of a place
abbrev pub Begins : Config → ℕ → Bool → Option Place → Option Place → Type 0
Begins config g true old new = IsRefreshedIf (length (group_at config g).writer) old new
Begins config g false old new = new ≡ old

module _ (config : Config) (g : ℕ) where
  placed : (b : Bool) (keygroup : Option ℕ) (old new : Option Place) → Begins config g b old new → IsPlaced config keygroup g old → IsPlaced config keygroup g new
  placed true keygroup None None is was = was
  placed true keygroup None (Some new) is was = absurd is
  placed true keygroup (Some old) None is was = absurd is
  placed true keygroup (Some old) (Some new) is was = (
    was.0,
    record {
      index = is.0.index ∙ was.1.index;
      made = is.0.made config (group_at config g) was.1.made;
      logs = is.0.logs.all was.1.logs;
      reserved = subst (λ (p : Place). IsReserved p.out) (sym is.1) was.1.reserved;
    },
  )
  placed false keygroup old new is was = subst (IsPlaced config keygroup g) (sym is) was

  same-in : (b : Bool) (old new : Option Place) → Begins config g b old new → is_some new ≡ is_some old
  same-in true None None is = refl
  same-in true None (Some new) is = absurd is
  same-in true (Some old) None is = absurd is
  same-in true (Some old) (Some new) is = refl
  same-in false old new is = ap is_some is

  go : (b : Bool) (turns : ℕ) (old new : Option Place) → Begins config g b old new → IfSome old (MayGo config turns g) → IfSome new (MayGo config turns g)
  go true turns None None is may = tt
  go true turns None (Some new) is may = absurd is
  go true turns (Some old) None is may = absurd is
  go true turns (Some old) (Some new) is may = is.0.goes_on (metas_for (group_at config g) config.dataset) (group_at config g) turns may
  go false turns old new is may = subst (λ (p : Option Place). IfSome p (MayGo config turns g)) (sym is) may

  module _ (moment : ℕ) (deeds : List Deed) (keygroup : Option ℕ) (before : Option SenderState) (low : g < length config.group) (sent : HasSent config deeds keygroup before) where
    -- its past, where the groups of its sender are refreshed as the truth value says
    past-is : (b : Bool) → b ≡ option_map_or (λ s. not ((turned s moment).keys.token == s.keys.token)) before false → (group_at config g).keygroup ≡ keygroup
        → group_past config g (rekeyed config moment deeds) ≡ refreshed_if config g b (group_past config g deeds)
    past-is b changed keyed =
        past-rekeyed config moment deeds g (length config.group) low
        ∙ ap (λ (c : Bool). refreshed_if config g c (group_past config g deeds))
        (ap (λ (o : Option SenderState). option_map_or (λ s. not ((turned s moment).keys.token == s.keys.token)) o false)
        (ap (λ (o : Option ℕ). option_map (λ k. sender_after config k deeds) o) keyed ∙ sym sent) ∙ sym changed)

    past-begun : (b : Bool) (old new : Option Place) → b ≡ option_map_or (λ s. not ((turned s moment).keys.token == s.keys.token)) before false
        → Begins config g b old new → IsPlaced config keygroup g old → IfSome old (HasPast config deeds g) → IfSome new (HasPast config (rekeyed config moment deeds) g)
    past-begun true None None changed is was past = tt
    past-begun true None (Some new) changed is was past = absurd is
    past-begun true (Some old) None changed is was past = absurd is
    past-begun true (Some old) (Some new) changed is was past =
        subst (λ (l : List GroupDeed). IsGroup (metas_for (group_at config g) config.dataset) (group_at config g) l new.group) (sym (past-is true changed was.0))
        (is.0.stands (metas_for (group_at config g) config.dataset) (group_at config g) (group_past config g deeds) past)
    past-begun false None new changed is was past = subst (λ (p : Option Place). IfSome p (HasPast config (rekeyed config moment deeds) g)) (sym is) tt
    past-begun false (Some old) new changed is was past =
        subst (λ (p : Option Place). IfSome p (HasPast config (rekeyed config moment deeds) g)) (sym is)
        (subst (λ (l : List GroupDeed). IsGroup (metas_for (group_at config g) config.dataset) (group_at config g) l old.group) (sym (past-is false changed was.0)) past)

module _ (config : Config) (moment : ℕ) (keygroup : Option ℕ) (olds news : List (Option Place)) (before after : Option SenderState) (changed : Bool) (are : AreOfLane config keygroup olds before)
    (come : HasCome moment before changed after) (count : length news ≡ length olds)
    (each : (g : ℕ) → g < length olds → (d : Option Place) → Begins config g changed (get_or olds g d) (get_or news g d))
    (left : (g : ℕ) → length olds ≤ g → (d : Option Place) → get_or news g d ≡ get_or olds g d) where
  within : (g : ℕ) → g < length config.group → g < length olds
  within g low = omega (arith, low, are.count)

  same-there : (o : Option SenderState) → is_some (option_map (λ s. turned s moment) o) ≡ is_some o
  same-there None = refl
  same-there (Some s) = refl

  same-all : (g : ℕ) → is_in news g ≡ is_in olds g
  same-all g = by_case (nat_lt g (length olds)) refl
    where
      by_case : (b : Bool) → nat_lt g (length olds) ≡ b → is_in news g ≡ is_in olds g
      by_case true e = same-in config g changed (get_or olds g None) (get_or news g None) (each g (grind (arith, nat_tests)) None)
      by_case false e = ap is_some (left g (grind (arith, nat_tests)) None)

  pub begun : HaveBegun config moment keygroup olds news before after
  begun = record {
    are = record {
      count = count ∙ are.count;
      places_are = λ g low d. placed config g changed keygroup (get_or olds g d) (get_or news g d) (each g (within g low) d) (are.places_are g low d);
      sender_is = record { there = ap is_some come.sent ∙ same-there before ∙ are.sender_is.there; sender_is = come.sender_is };
    };
    same = same-all;
    goes_on = λ turns may g low d. go config g changed turns (get_or olds g d) (get_or news g d) (each g (within g low) d) (may g low d);
    stand = λ deeds stand. record {
      past = λ g low d. past-begun config g moment deeds keygroup before low stand.sent changed (get_or olds g d) (get_or news g d) come.changed_is (each g (within g low) d) (are.places_are g low d) (stand.past g low d);
      sent = come.sent ∙ ap (option_map (λ s. turned s moment)) stand.sent ∙ turned-all deeds keygroup;
    };
  }
    where
      turned-all : (deeds : List Deed) (k : Option ℕ) → option_map (λ s. turned s moment) (option_map (λ k. sender_after config k deeds) k) ≡ option_map (λ k. sender_after config k (rekeyed config moment deeds)) k
      turned-all deeds None = refl
      turned-all deeds (Some k) = ap Some (sym (sender-rekeyed config moment deeds k (length config.group)))

-- ---- lanes

pub refreshable : (config : Config) (lane : Lane) → IsLane config lane → AreRefreshable config lane.places.items
refreshable config lane is g low d = of (get_or lane.places.items g d) (is.places_are g low d)
  where
    of : (place : Option Place) → IsPlaced config lane.keygroup g place → IfSome place (λ p. HasWriters (length (group_at config g).writer) p.group)
    of None placed = tt
    of (Some place) placed = (config, group_at config g, placed.1.made, refl)

module _ (config : Config) (moment : ℕ) (old mid : Lane) (changed : Bool) (is : IsLane config old) (come : HasCome moment old.sender changed mid.sender) (rest : mid ≡ record old { sender = mid.sender }) where
  same-places : mid.places.items ≡ old.places.items
  same-places = ap (λ (l : Lane). l.places.items) rest

  pub mid-refreshable : AreRefreshable config mid.places.items
  mid-refreshable = subst (AreRefreshable config) (sym same-places) (refreshable config old is)

  pub mid-count : length mid.places.items ≡ length config.group
  mid-count = ap length same-places ∙ is.count

  pub begun-same : changed ≡ false → HaveBegun config moment old.keygroup old.places.items mid.places.items old.sender mid.sender
  begun-same not =
      subst (λ (l : List (Option Place)). HaveBegun config moment old.keygroup old.places.items l old.sender mid.sender) (sym same-places)
      (begun config moment old.keygroup old.places.items old.places.items old.sender mid.sender changed is come refl
      (λ g low d. subst (λ (b : Bool). Begins config g b (get_or old.places.items g d) (get_or old.places.items g d)) (sym not) refl)
      (λ g high d. refl))

  pub begun-refreshed : (new : Lane) → changed ≡ true → AreRefreshed config mid.places.items new.places.items → new ≡ record mid { places = new.places }
      → HaveBegun config moment old.keygroup old.places.items new.places.items old.sender new.sender
  begun-refreshed new so refreshed kept =
      subst (λ (s : Option SenderState). HaveBegun config moment old.keygroup old.places.items new.places.items old.sender s) (sym (ap (λ (l : Lane). l.sender) kept))
      (begun config moment old.keygroup old.places.items new.places.items old.sender mid.sender changed is come are.count
      (λ g low d. subst (λ (b : Bool). Begins config g b (get_or old.places.items g d) (get_or new.places.items g d)) (sym so) (are.each g low d))
      are.left)
    where
      are : AreRefreshed config old.places.items new.places.items
      are = subst (λ (l : List (Option Place)). AreRefreshed config l new.places.items) same-places refreshed

-- ---- a sender comes to the moment

never : false ≡ true → ⊥
never e = cc

changed-is : (r : Bool) (a b : ℕ) → IsTrue r ↔ (a ≢ b) → r ≡ not (a == b)
changed-is true a b both = sym (ap not (ne_eqb a b (both.0 refl)))
changed-is false a b both = by_case (eqb_tells a b)
  where
    by_case : ((a == b) ≡ true) × (a ≡ b) ⊎ ((a == b) ≡ false) × (a ≢ b) → false ≡ not (a == b)
    by_case (inl same) = sym (ap not same.0)
    by_case (inr other) = absurd (never (both.1 other.1))

stays-sender : (s : SenderState) (set : Option KeySet) → IsSender s → IsSender (turned_by s set)
stays-sender s None is = is
stays-sender s (Some set) is = by_case (nat_lt s.keys.token set.token)
  where
    by_case : (b : Bool) → IsSender (if b then record s { keys = keys_in set; used = 0; fronted = None } else s)
    by_case true = record { random = is.random; used = omega arith }
    by_case false = is

pub come-some : (moment : ℕ) (s new : SenderState) (changed : Bool) → new ≡ turned s moment → IsTrue changed ↔ (new.keys.token ≢ s.keys.token) → IsSender s → HasCome moment (Some s) changed (Some new)
come-some moment s new changed state both is = record {
  sent = ap Some state;
  changed_is = changed-is changed new.keys.token s.keys.token both ∙ ap (λ (t : SenderState). not (t.keys.token == s.keys.token)) state;
  sender_is = subst IsSender (sym state) (stays-sender s (current s.sets moment) is);
}
