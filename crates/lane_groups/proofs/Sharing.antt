-- What all lanes made, group by group.
use Rattle.std.proofs.Common.{◌≡◌, refl, sym, ap, ◌∙◌, subst, arith, ℕ, zero, suc, ◌+◌, ◌-◌, ◌<◌, ◌≤◌, ◌≢◌, Bool, true, false, List, [], ◌∷◌, ◌++◌, length, map, take, drop, get_or, append_assoc}
use Rattle.std.specs.Prelude.{Option, None, is_some, fold, nat_lt}
use Rattle.std.proofs.lemmas.Bool.Decides.{nat_tests}
use Rattle.std.proofs.lemmas.List.{map-append, take_all, take-append-drop}
use Rattle.std.proofs.lemmas.List.Sums.{fold-append}
use Rattle.ua_base.specs.Journal.{LinkState, Tells}
use Rattle.group_threads.specs.Sending.{Conveyed}
use Rattle.ps_config.specs.declared.parts.Config.{Config}
use Rattle.session_model.specs.Deeds.{Deed}
use Rattle.group_threads.specs.declared.parcel.Parcel.{Parcel}
use Rattle.group_threads.specs.declared.running.Ran.{Ran as RanMakers}
use Rattle.group_threads.specs.Closing.{HasRunAll, HasRunPart, HasSentPart}
use Rattle.group_threads.specs.Groups.{of_group, pair_of}
use Rattle.group_threads.specs.Pairs.{Pair, Makes}
use Rattle.group_threads.specs.Parcels.{of_lane}
use Rattle.group_threads.proofs.Grouping.{group_of_its_lane, numbered-pairs}
use Rattle.lane_groups.specs.declared.lane.Lane.{Lane}
use Rattle.lane_groups.specs.declared.place.Place.{Place}
use Rattle.lane_groups.specs.declared.running.Ran.{Ran}
use Rattle.lane_groups.specs.declared.turn.Work.{Work}
use Rattle.lane_groups.specs.Deeds.{datagrams_by, deeds_behind, ticked, turns_deeds}
use Rattle.lane_groups.specs.Lanes.{HasTurn, IsLane, IsWork, MayAllGo, MayTurn, Stands, has_group, made_by}
use Rattle.lane_groups.specs.Running.{AreBehind, AreLanes, HasRunLanes, HasStopped, StandsIn, datagrams_in_group}
use Rattle.lane_groups.proofs.Made.{of_group-append}
use Rattle.lane_groups.proofs.Past.{Begins, turns-begin}

abbrev datagrams : List Pair → List (List ℕ)
datagrams pairs = map (λ (pair : Pair). pair.datagram) pairs

-- what one lane made in its first turns
record LaneMade (work : Work) (n : ℕ) (old new : Lane) (pairs : List Pair) : Type 0 where
  lane_is : IsLane work.config.now new
  stands : Stands work.config.now (deeds_behind work.config.now work.turns.now n) new
  groups : (g : ℕ) → has_group new g ≡ has_group old g
  made : (g : ℕ) → has_group old g ≡ true → datagrams_by work.config.now g (deeds_behind work.config.now work.turns.now n) ≡ datagrams (of_group g pairs)
  others : (g : ℕ) → has_group old g ≡ false → of_group g pairs ≡ []

module _ (work : Work) where
  lane-made : (n : ℕ) (old new : Lane) (pairs : List Pair) → IsLane work.config.now old → Stands work.config.now [] old → Makes made_by HasTurn work n old pairs new → LaneMade work n old new pairs
  lane-made zero old new pairs is stands makes = record {
    lane_is = subst (IsLane work.config.now) (sym makes.0) is;
    stands = subst (Stands work.config.now []) (sym makes.0) stands;
    groups = λ g. ap (λ (l : Lane). has_group l g) makes.0;
    made = λ g has. sym (ap (λ (l : List Pair). datagrams (of_group g l)) makes.1);
    others = λ g not. ap (of_group g) makes.1;
  }
  lane-made (suc n) old new pairs is stands makes =
      let mid = makes.0 in
      let before = makes.1 in
      let so_far = lane-made n old mid before is stands makes.2 in
      let turn = makes.3 in
      let e : suc n ≡ n + 1 = omega arith in
      record {
        lane_is = turn.lane_is;
        stands = subst (λ (k : ℕ). Stands work.config.now (deeds_behind work.config.now work.turns.now k) new) (sym e) turn.stands;
        groups = λ g. turn.groups g ∙ so_far.groups g;
        made = λ g has.
            ap (λ (k : ℕ). datagrams_by work.config.now g (deeds_behind work.config.now work.turns.now k)) e
            ∙ turn.made g (so_far.groups g ∙ has)
            ∙ ap (λ (l : List (List ℕ)). l ++ datagrams (of_group g (made_by new))) (so_far.made g has)
            ∙ sym (map-append (λ (pair : Pair). pair.datagram) (of_group g before) (of_group g (made_by new)))
            ∙ ap datagrams (sym (of_group-append g before (made_by new)) ∙ ap (of_group g) (sym makes.4));
        others = λ g not.
            ap (of_group g) makes.4
            ∙ of_group-append g before (made_by new)
            ∙ ap (λ (l : List Pair). l ++ of_group g (made_by new)) (so_far.others g not)
            ∙ turn.others g (so_far.groups g ∙ not);
      }

-- a list that isn't empty has an element
some-of : {A : Type 0} (xs : List A) (k : ℕ) → k < length xs → A
some-of [] k low = absurd (omega (arith, low))
some-of (x ∷ xs) k low = x

-- a group behind the last isn't in a lane
past-end : (xs : List (Option Place)) (g : ℕ) → length xs ≤ g → is_some (get_or xs g None) ≡ false
past-end [] g high = refl
past-end (x ∷ xs) zero high = absurd (omega (arith, high))
past-end (x ∷ xs) (suc g) high = past-end xs g (omega (arith, high))

module _ (work : Work) (lanes : List Lane) (are : AreLanes work.config.now (length work.turns.now) lanes) (parcels : List Parcel)
    (quiet : (lane : ℕ) → length lanes ≤ lane → of_lane lane parcels ≡ [])
    (silent : (lane : ℕ) (none : Lane) → lane < length lanes → (g : ℕ) → has_group (get_or lanes lane none) g ≡ false → of_group g (map pair_of (of_lane lane parcels)) ≡ []) where
  abbrev config : Config
  config = work.config.now

  -- of a group that stands in one lane, all is of that lane
  its-own : (g lane : ℕ) → StandsIn lanes g lane → of_group g (map pair_of parcels) ≡ of_group g (map pair_of (of_lane lane parcels))
  its-own g lane stands = group_of_its_lane parcels g lane (λ other apart. by_case other apart (nat_lt other (length lanes)) refl)
    where
      by_case : (other : ℕ) → other ≢ lane → (b : Bool) → nat_lt other (length lanes) ≡ b → of_group g (map pair_of (of_lane other parcels)) ≡ []
      by_case other apart true e =
          let low : other < length lanes = grind (arith, nat_tests) in
          let none = some-of lanes other low in silent other none low g (stands.alone other none low apart)
      by_case other apart false e = ap (λ (l : List Parcel). of_group g (map pair_of l)) (quiet other (grind (arith, nat_tests)))

  -- of a group that the configuration hasn't there is nothing
  no-others : (g : ℕ) → length config.group ≤ g → of_group g (map pair_of parcels) ≡ []
  no-others g high =
      group_of_its_lane parcels g (length lanes) (λ other apart. by_case other (nat_lt other (length lanes)) refl) ∙ ap (λ (l : List Parcel). of_group g (map pair_of l)) (quiet (length lanes) (omega arith))
    where
      by_case : (other : ℕ) (b : Bool) → nat_lt other (length lanes) ≡ b → of_group g (map pair_of (of_lane other parcels)) ≡ []
      by_case other true e =
          let low : other < length lanes = grind (arith, nat_tests) in
          let none = some-of lanes other low in
          let count = (are.each other none low).lane_is.count in
          silent other none low g (past-end (get_or lanes other none).places.items g (omega (arith, high, count)))
      by_case other false e = ap (λ (l : List Parcel). of_group g (map pair_of l)) (quiet other (grind (arith, nat_tests)))

module _ (work : Work) (lanes : List Lane) (are : AreLanes work.config.now (length work.turns.now) lanes) (first last : Option LinkState) where
  abbrev here : List Deed
  here = turns_deeds work.config.now work.turns.now

  all-turns : deeds_behind work.config.now work.turns.now (length work.turns.now) ≡ here
  all-turns = ap (turns_deeds work.config.now) (take_all (length work.turns.now) work.turns.now (omega arith))

  module _ (ran : RanMakers Lane) (all : HasRunAll made_by HasTurn work (length work.turns.now) first last lanes ran) where
    of-one : (lane : ℕ) (none : Lane) (low : lane < length lanes) → LaneMade work (length work.turns.now) (get_or lanes lane none) (get_or ran.makers.items lane none) (all.lanes lane none low).0
    of-one lane none low = lane-made work (length work.turns.now) (get_or lanes lane none) (get_or ran.makers.items lane none) (all.lanes lane none low).0 (are.each lane none low).lane_is (are.each lane none low).stands (all.lanes lane none low).2

    pairs-are : (lane : ℕ) (none : Lane) (low : lane < length lanes) (g : ℕ) → of_group g (map pair_of (of_lane lane all.parcels)) ≡ of_group g (all.lanes lane none low).0
    pairs-are lane none low g = ap (λ (l : List Parcel). of_group g (map pair_of l)) (all.lanes lane none low).1 ∙ ap (of_group g) (numbered-pairs lane 0 (all.lanes lane none low).0)

    silent : (lane : ℕ) (none : Lane) → lane < length lanes → (g : ℕ) → has_group (get_or lanes lane none) g ≡ false → of_group g (map pair_of (of_lane lane all.parcels)) ≡ []
    silent lane none low g not = pairs-are lane none low g ∙ (of-one lane none low).others g not

    pub has-run : (end : Ran) → end.sent ≡ ran.sent → end.failed ≡ ran.failed → HasRunLanes work.config.now work.turns.now first last end
    has-run end sent failed = record {
      parcels = all.parcels;
      tells = subst (λ (n : ℕ). Tells first last (Conveyed all.parcels (record { sent = end.sent; failed = n; lacks = false }))) (sym failed)
          (subst (λ (l : List ℕ). Tells first last (Conveyed all.parcels (record { sent = l; failed = ran.failed; lacks = false }))) (sym sent) all.tells);
      groups = λ g low.
          let at = are.one g low in
          let none = some-of lanes at.0 at.1.within in
          ap datagrams (its-own work lanes are all.parcels all.others silent g at.0 at.1 ∙ pairs-are at.0 none at.1.within g)
          ∙ sym ((of-one at.0 none at.1.within).made g (at.1.there none))
          ∙ ap (datagrams_by work.config.now g) all-turns;
      others = no-others work lanes are all.parcels all.others silent;
    }

    pub are-behind : AreBehind work.config.now work.turns.now lanes ran.makers.items
    are-behind = record {
      count = all.count;
      lanes = λ lane none low. (of-one lane none low).lane_is;
      stand = λ lane none low. subst (λ (d : List Deed). Stands work.config.now d (get_or ran.makers.items lane none)) all-turns (of-one lane none low).stands;
      groups = λ lane none low g. (of-one lane none low).groups g;
    }

  module _ (part : HasRunPart made_by HasTurn work (length work.turns.now) first last lanes) where
    sent-part : (lane : ℕ) (none : Lane) → lane < length lanes → HasSentPart made_by HasTurn work (length work.turns.now) part.parcels lane (get_or lanes lane none)
    sent-part lane none low = part.lanes lane none low

    of-part : (lane : ℕ) (none : Lane) (low : lane < length lanes) → LaneMade work (sent-part lane none low).count (get_or lanes lane none) (sent-part lane none low).after (sent-part lane none low).all
    of-part lane none low = let p = sent-part lane none low in lane-made work p.count (get_or lanes lane none) p.after p.all (are.each lane none low).lane_is (are.each lane none low).stands p.makes

    split : (lane : ℕ) (none : Lane) (low : lane < length lanes) (g : ℕ)
        → of_group g (sent-part lane none low).all ≡ of_group g (map pair_of (of_lane lane part.parcels)) ++ of_group g (map pair_of (sent-part lane none low).rest)
    split lane none low g =
        let p = sent-part lane none low in
        ap (of_group g) (sym (numbered-pairs lane 0 p.all) ∙ ap (map pair_of) p.is ∙ map-append pair_of (of_lane lane part.parcels) p.rest)
        ∙ of_group-append g (map pair_of (of_lane lane part.parcels)) (map pair_of p.rest)

    quiet-part : (lane : ℕ) (none : Lane) → lane < length lanes → (g : ℕ) → has_group (get_or lanes lane none) g ≡ false → of_group g (map pair_of (of_lane lane part.parcels)) ≡ []
    quiet-part lane none low g not = front-none (of_group g (map pair_of (of_lane lane part.parcels))) (of_group g (map pair_of (sent-part lane none low).rest)) (sym (split lane none low g) ∙ (of-part lane none low).others g not)
      where
        front-none : (xs ys : List Pair) → xs ++ ys ≡ [] → xs ≡ []
        front-none [] ys e = refl
        front-none (x ∷ xs) ys e = cc

    -- the datagrams of the first turns are the first of all
    of-first : (g n : ℕ) → g < length work.config.now.group → Begins (datagrams_by work.config.now g (deeds_behind work.config.now work.turns.now n)) (datagrams_by work.config.now g here)
    of-first g n low =
        subst (λ (d : List Deed). Begins (datagrams_by work.config.now g (deeds_behind work.config.now work.turns.now n)) (datagrams_by work.config.now g d))
        (sym (fold-append (ticked work.config.now) [] (take n work.turns.now) (drop n work.turns.now)) ∙ ap (fold (ticked work.config.now) []) (take-append-drop n work.turns.now))
        (turns-begin work.config.now g (deeds_behind work.config.now work.turns.now n) (drop n work.turns.now) low)

    pub has-stopped : HasStopped work.config.now work.turns.now first last
    has-stopped = record {
      parcels = part.parcels;
      tells = part.tells;
      groups = λ g low. prefix g low;
      others = no-others work lanes are part.parcels part.others quiet-part;
    }
      where
        prefix : (g : ℕ) → g < length work.config.now.group → (rest : List (List ℕ)) × (datagrams_in_group g part.parcels ++ rest ≡ datagrams_by work.config.now g here)
        prefix g low =
            let at = are.one g low in
            let none = some-of lanes at.0 at.1.within in
            let p = sent-part at.0 none at.1.within in
            let more = of-first g p.count low in
            let left = datagrams (of_group g (map pair_of p.rest)) in (
              left ++ more.0,
              sym (append_assoc (datagrams_in_group g part.parcels) left more.0)
                  ∙ ap (λ (l : List (List ℕ)). l ++ more.0)
                  (ap (λ (l : List Pair). datagrams l ++ left) (its-own work lanes are part.parcels part.others quiet-part g at.0 at.1)
                  ∙ sym (map-append (λ (pair : Pair). pair.datagram) (of_group g (map pair_of (of_lane at.0 part.parcels))) (of_group g (map pair_of p.rest)))
                  ∙ ap datagrams (sym (split at.0 none at.1.within g))
                  ∙ sym ((of-part at.0 none at.1.within).made g (at.1.there none)))
                  ∙ sym more.1,
            )

-- each lane may have its turns
pub may-run : (work : Work) (lanes : List Lane) → IsWork work.config.now work.turns.now → AreLanes work.config.now (length work.turns.now) lanes → (lane : ℕ) (none : Lane) → lane < length lanes
    → MayTurn work 0 (get_or lanes lane none)
may-run work lanes is are lane none low =
    let new = are.each lane none low in
    record { work_is = is; lane_is = new.lane_is; stands = new.stands; goes_on = subst (λ (n : ℕ). MayAllGo work.config.now n (get_or lanes lane none).places.items) (let e : length work.turns.now ≡ length work.turns.now - 0 = omega arith in e) new.goes_on }
