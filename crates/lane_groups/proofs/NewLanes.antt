-- A new lane.
use Rattle.std.proofs.Common.{◌≡◌, refl, sym, ap, ◌∙◌, subst, arith, ℕ, ◌+◌, ◌<◌, ◌≢◌, ◌⊎◌, inl, inr, Bool, true, false, List, [], ◌∷◌, ◌++◌, length, length-append, get_or}
use Rattle.std.specs.Prelude.{◌==◌, Option, Some, None, IfSome, is_some, option_map, Vec}
use Rattle.std.specs.declared.alloc.Global.{Global}
use Rattle.std.specs.Option.{option_map_or}
use Rattle.std.proofs.lemmas.Bool.{eq-eqb, ne_eqb}
use Rattle.std.proofs.lemmas.Bool.Decides.{eqb_tells}
use Rattle.std.proofs.lemmas.List.{get_or_append_left}
use Rattle.std.proofs.lemmas.List.Elements.{All-get_or}
use Rattle.std.proofs.Math.Seq.{get_or-append_seam}
use Rattle.message_guard.specs.Senders.{SenderState, IsSender}
use Rattle.ps_config.specs.declared.parts.Config.{Config}
use Rattle.writer_group.specs.Parts.{group_at, no_group}
use Rattle.writer_group.specs.Standing.{IsGood}
use Rattle.ps_config.specs.Sound.{IsGroup as IsSoundGroup}
use Rattle.session_model.specs.Deeds.{opening_sender, sender_after}
use Rattle.reader_group.specs.Settings.{keygroup_at}
use Rattle.lane_groups.specs.declared.making.Members.{Members}
use Rattle.lane_groups.specs.declared.making.Members.TheVariants as members
use Rattle.lane_groups.specs.declared.place.Place.{Place}
use Rattle.lane_groups.specs.Places.{HasPast, IsApart, IsPlaced, MayGo}
use Rattle.lane_groups.specs.Lanes.{has_group, AreOfLane, IsSenderOf, MayAllGo, StandAt, is_in}
use Rattle.lane_groups.specs.declared.lane.Lane.{Lane}
use Rattle.lane_groups.specs.Running.{AreLanes, IsNewLane, StandsIn}
use Rattle.lane_groups.specs.Making.{AreKeyedLanes, IsKeyedLane, LanesTo, AreNewPlaces, IsOpenLane, IsNewPlaceIf, is_member}

-- what the members of a lane have to be: of its key group, and no others are of it
pub record AreMembers (config : Config) (who : Members) (keygroup : Option ℕ) : Type 0 where
  pub own : (g : ℕ) → g < length config.group → is_member config who g ≡ true → (group_at config g).keygroup ≡ keygroup
  pub apart : (g : ℕ) → g < length config.group → is_member config who g ≡ false → IsApart config keygroup g

module _ (config : Config) (turns : ℕ) (who : Members) (keygroup : Option ℕ) (places : List (Option Place)) (sender : Option SenderState) (are : AreMembers config who keygroup)
    (new : AreNewPlaces config turns who places) where
  placed : (g : ℕ) → g < length config.group → (b : Bool) (place : Option Place) → is_member config who g ≡ b → IsNewPlaceIf config g turns b place → IsPlaced config keygroup g place
  placed g low true None e is = absurd is
  placed g low true (Some place) e is = (are.own g low e, is.place_is)
  placed g low false None e is = are.apart g low e
  placed g low false (Some place) e is = absurd is

  past : (g : ℕ) (b : Bool) (place : Option Place) → IsNewPlaceIf config g turns b place → IfSome place (HasPast config [] g)
  past g true None is = absurd is
  past g true (Some place) is = is.past
  past g false None is = tt
  past g false (Some place) is = absurd is

  go : (g : ℕ) (b : Bool) (place : Option Place) → IsNewPlaceIf config g turns b place → IfSome place (MayGo config turns g)
  go g true None is = absurd is
  go g true (Some place) is = is.goes_on
  go g false None is = tt
  go g false (Some place) is = absurd is

  there : (g : ℕ) (b : Bool) (place : Option Place) → IsNewPlaceIf config g turns b place → is_some place ≡ b
  there g true None is = absurd is
  there g true (Some place) is = refl
  there g false None is = refl
  there g false (Some place) is = absurd is

  pub new-are : IsSenderOf keygroup sender → AreOfLane config keygroup places sender
  new-are sent = record {
    count = new.count;
    places_are = λ g low d. placed g low (is_member config who g) (get_or places g d) refl (new.each g low d);
    sender_is = sent;
  }

  pub new-stand : sender ≡ option_map (λ k. opening_sender (keygroup_at config k)) keygroup → StandAt config [] keygroup places sender
  new-stand sent = record { past = λ g low d. past g (is_member config who g) (get_or places g d) (new.each g low d); sent = sent ∙ same keygroup }
    where
      same : (o : Option ℕ) → option_map (λ k. opening_sender (keygroup_at config k)) o ≡ option_map (λ k. sender_after config k []) o
      same None = refl
      same (Some k) = refl

  pub new-go : MayAllGo config turns places
  new-go g low d = go g (is_member config who g) (get_or places g d) (new.each g low d)

  pub new-has : (g : ℕ) → g < length config.group → is_in places g ≡ is_member config who g
  new-has g low = there g (is_member config who g) (get_or places g None) (new.each g low None)

-- ---- which groups stand in a lane

same-of : (a b : ℕ) → (a == b) ≡ true → a ≡ b
same-of a b e = by_case (eqb_tells a b)
  where
    apart : true ≡ false → ⊥
    apart e = cc

    by_case : ((a == b) ≡ true) × (a ≡ b) ⊎ ((a == b) ≡ false) × (a ≢ b) → a ≡ b
    by_case (inl same) = same.1
    by_case (inr other) = absurd (apart (sym e ∙ other.0))

pub keyed-members : (config : Config) (k : ℕ) → AreMembers config (members.KeyGroup k) (Some k)
keyed-members config k = record { own = λ g low is. of (group_at config g).keygroup is; apart = λ g low not. not }
  where
    of : (o : Option ℕ) → option_map_or (λ other. other == k) o false ≡ true → o ≡ Some k
    of None e = absurd (never e)
      where
        never : false ≡ true → ⊥
        never e = cc
    of (Some other) e = ap Some (same-of other k e)

pub open-members : (config : Config) (index : ℕ) → (group_at config index).keygroup ≡ None → AreMembers config (members.Group index) None
open-members config index unsecured = record {
  own = λ g low is. ap (λ (h : ℕ). (group_at config h).keygroup) (same-of g index is) ∙ unsecured;
  apart = λ g low not. refl;
}

-- ---- all lanes

never : false ≡ true → ⊥
never e = cc

none-some : (o : Option ℕ) → o ≡ None → is_some o ≡ true → ⊥
none-some None e some = never some
none-some (Some k) e some = cc

pub lanes-none : (config : Config) (turns : ℕ) (lanes : List Lane) → IsGood config → AreKeyedLanes config turns lanes → LanesTo config turns 0 lanes
lanes-none config turns lanes good are = record {
  count = omega (arith, are.count);
  each = λ lane none low. (are.each lane (omega (arith, low, are.count)) none).new;
  keyed = λ g low some. of g low (group_at config g).keygroup refl (there g low) some;
  open_ones = λ g low unsecured below. absurd (omega (arith, below));
  none_yet = λ g low unsecured above lane none within.
      (are.each lane (omega (arith, within, are.count)) none).has g low ∙ ap (λ (o : Option ℕ). option_map_or (λ other. other == lane) o false) unsecured;
  alone = λ lane g h none within g_low h_low unsecured g_in h_in.
      let out = (are.each lane (omega (arith, within, are.count)) none).has g g_low ∙ ap (λ (o : Option ℕ). option_map_or (λ other. other == lane) o false) unsecured in
      absurd (never (sym out ∙ g_in));
}
  where
    there : (g : ℕ) → g < length config.group → IfSome (group_at config g).keygroup (λ k. k < length config.keygroup)
    there g low = (All-get_or (IsSoundGroup config) config.group g no_group low good.sound.groups).keys.there

    of : (g : ℕ) → g < length config.group → (o : Option ℕ) → (group_at config g).keygroup ≡ o → IfSome (group_at config g).keygroup (λ k. k < length config.keygroup) → is_some (group_at config g).keygroup ≡ true
        → (lane : ℕ) × StandsIn lanes g lane
    of g low None e in_keys some = absurd (none-some (group_at config g).keygroup e some)
    of g low (Some k) e in_keys some =
        let small : k < length config.keygroup = subst (λ (o : Option ℕ). IfSome o (λ k. k < length config.keygroup)) e in_keys in (
          k,
          record {
            within = omega (arith, small, are.count);
            there = λ none. (are.each k small none).has g low ∙ ap (λ (o : Option ℕ). option_map_or (λ other. other == k) o false) e ∙ eq-eqb k k refl;
            alone = λ other none within apart.
                (are.each other (omega (arith, within, are.count)) none).has g low ∙ ap (λ (o : Option ℕ). option_map_or (λ key. key == other) o false) e ∙ ne_eqb k other (λ same. apart (sym same));
          },
        )

module _ (config : Config) (turns n : ℕ) (lanes : List Lane) (is : LanesTo config turns n lanes) (low : n < length config.group) where
  -- a group with a key group stands in its lane already
  pub lanes-keyed : is_some (group_at config n).keygroup ≡ true → LanesTo config turns (n + 1) lanes
  lanes-keyed some = record {
    count = let c = is.count in omega (arith, c);
    each = is.each;
    keyed = is.keyed;
    open_ones = λ g within unsecured below. is.open_ones g within unsecured (before g unsecured below);
    none_yet = λ g within unsecured above. is.none_yet g within unsecured (omega (arith, above));
    alone = is.alone;
  }
    where
      before : (g : ℕ) → (group_at config g).keygroup ≡ None → g < n + 1 → g < n
      before g unsecured below = by_case (eqb_tells g n)
        where
          by_case : ((g == n) ≡ true) × (g ≡ n) ⊎ ((g == n) ≡ false) × (g ≢ n) → g < n
          by_case (inl same) = absurd (none-some (group_at config n).keygroup (sym (ap (λ (h : ℕ). (group_at config h).keygroup) same.1) ∙ unsecured) some)
          by_case (inr other) = omega (arith, below, other.1)

  module _ (new : Lane) (made : IsOpenLane config turns n new) (this_open : (group_at config n).keygroup ≡ None) where
    abbrev more : List Lane
    more = lanes ++ new ∷ []

    long : length more ≡ length lanes + 1
    long = length-append lanes (new ∷ [])

    -- of each lane: it is an earlier one, or the new one
    each-lane : (P : ℕ → Lane → Type 0) → ((lane : ℕ) (none : Lane) → lane < length lanes → P lane (get_or lanes lane none)) → P (length lanes) new → (lane : ℕ) (none : Lane) → lane < length more → P lane (get_or more lane none)
    each-lane P earlier here lane none within = by_case (eqb_tells lane (length lanes))
      where
        by_case : ((lane == length lanes) ≡ true) × (lane ≡ length lanes) ⊎ ((lane == length lanes) ≡ false) × (lane ≢ length lanes) → P lane (get_or more lane none)
        by_case (inl same) =
            subst (λ (j : ℕ). P j (get_or more j none)) (sym same.1) (subst (P (length lanes)) (sym (get_or-append_seam lanes new [] none)) here)
        by_case (inr other) =
            let before : lane < length lanes = omega (arith, within, other.1, long) in
            subst (P lane) (sym (get_or_append_left lanes (new ∷ []) none lane before)) (earlier lane none before)

    -- a group that stands in an earlier lane stands in no other
    still : (g : ℕ) → g < length config.group → g ≢ n → (lane : ℕ) → StandsIn lanes g lane → StandsIn more g lane
    still g within apart lane stands = record {
      within = let w = stands.within in omega (arith, w, long);
      there = λ none. ap (λ (l : Lane). has_group l g) (get_or_append_left lanes (new ∷ []) none lane stands.within) ∙ stands.there none;
      alone = λ other none inside differs.
          each-lane (λ j l. j ≢ lane → has_group l g ≡ false) (λ j none inside differs. stands.alone j none inside differs) (λ differs. made.has g within ∙ ne_eqb g n apart) other none inside differs;
    }

    pub lanes-open : LanesTo config turns (n + 1) more
    lanes-open = record {
      count = let c = is.count in omega (arith, c, long);
      each = each-lane (λ lane l. IsNewLane config turns l) is.each made.new;
      keyed = λ g within some.
          let at = is.keyed g within some in
          (at.0, still g within (λ same. none-some (group_at config n).keygroup this_open (ap (λ (h : ℕ). is_some (group_at config h).keygroup) (sym same) ∙ some)) at.0 at.1);
      open_ones = λ g within unsecured below. by_case g within unsecured below (eqb_tells g n);
      none_yet = λ g within unsecured above.
          each-lane (λ lane l. has_group l g ≡ false) (is.none_yet g within unsecured (omega (arith, above))) (made.has g within ∙ ne_eqb g n (λ same. omega (arith, same, above)));
      alone = λ lane g h none within g_low h_low unsecured.
          each-lane (λ j l. has_group l g ≡ true → has_group l h ≡ true → g ≡ h) (λ j none low. is.alone j g h none low g_low h_low unsecured)
          (λ g_in h_in. same-of g n (sym (made.has g g_low) ∙ g_in) ∙ sym (same-of h n (sym (made.has h h_low) ∙ h_in))) lane none within;
    }
      where
        by_case : (g : ℕ) → g < length config.group → (group_at config g).keygroup ≡ None → g < n + 1 → ((g == n) ≡ true) × (g ≡ n) ⊎ ((g == n) ≡ false) × (g ≢ n) → (lane : ℕ) × StandsIn more g lane
        by_case g within unsecured below (inl same) = (
          length lanes,
          record {
            within = omega (arith, long);
            there = λ none. ap (λ (l : Lane). has_group l g) (get_or-append_seam lanes new [] none) ∙ made.has g within ∙ same.0;
            alone = λ other none inside differs.
                each-lane (λ j l. j ≢ length lanes → has_group l g ≡ false) (λ j none inside differs. is.none_yet g within unsecured (omega (arith, same.1)) j none inside) (λ differs. absurd (differs refl)) other none inside differs;
          },
        )
        by_case g within unsecured below (inr other) = let at = is.open_ones g within unsecured (omega (arith, below, other.1)) in (at.0, still g within other.1 at.0 at.1)

pub all-lanes : (config : Config) (turns : ℕ) (lanes : List Lane) → IsGood config → LanesTo config turns (length config.group) lanes → AreLanes config turns lanes
all-lanes config turns lanes good is = record {
  few = let c = is.count in let k = good.sound.few.keygroups in let g = good.sound.few.groups in omega (arith, c, k, g);
  each = is.each;
  one = λ g low. of g low (group_at config g).keygroup refl;
  alone = is.alone;
}
  where
    of : (g : ℕ) → g < length config.group → (o : Option ℕ) → (group_at config g).keygroup ≡ o → (lane : ℕ) × StandsIn lanes g lane
    of g low None e = is.open_ones g low e low
    of g low (Some k) e = is.keyed g low (ap is_some e)

-- ---- one lane

pub keyed-lane : (config : Config) (turns k : ℕ) (places : Vec (Option Place) Global) (sender : SenderState) → AreNewPlaces config turns (members.KeyGroup k) places.items
    → sender ≡ opening_sender (keygroup_at config k) → IsSender sender → IsKeyedLane config turns k (record { keygroup = Some k; sender = Some sender; places = places })
keyed-lane config turns k places sender new opening is = record {
  new = record {
    lane_is = new-are config turns (members.KeyGroup k) (Some k) places.items (Some sender) (keyed-members config k) new (record { there = refl; sender_is = is });
    stands = new-stand config turns (members.KeyGroup k) (Some k) places.items (Some sender) (keyed-members config k) new (ap Some opening);
    goes_on = new-go config turns (members.KeyGroup k) (Some k) places.items (Some sender) (keyed-members config k) new;
  };
  has = new-has config turns (members.KeyGroup k) (Some k) places.items (Some sender) (keyed-members config k) new;
}

pub open-lane : (config : Config) (turns index : ℕ) (places : Vec (Option Place) Global) → AreNewPlaces config turns (members.Group index) places.items
    → (group_at config index).keygroup ≡ None → IsOpenLane config turns index (record { keygroup = None; sender = None; places = places })
open-lane config turns index places new unsecured = record {
  new = record {
    lane_is = new-are config turns (members.Group index) None places.items None (open-members config index unsecured) new (record { there = refl; sender_is = tt });
    stands = new-stand config turns (members.Group index) None places.items None (open-members config index unsecured) new refl;
    goes_on = new-go config turns (members.Group index) None places.items None (open-members config index unsecured) new;
  };
  has = new-has config turns (members.Group index) None places.items None (open-members config index unsecured) new;
}
