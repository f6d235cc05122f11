-- A turn of a lane, behind the turns before it.
use Rattle.std.proofs.Common.{◌≡◌, refl, sym, ap, ◌∙◌, subst, arith, ℕ, zero, suc, ◌+◌, ◌-◌, ◌<◌, ◌≤◌, Bool, true, false, List, [], ◌∷◌, ◌++◌, length, map, take, get_or}
use Rattle.std.specs.Prelude.{All, Option, Some, None, IfSome, is_some, fold}
use Rattle.std.specs.List.{range_with_len}
use Rattle.std.proofs.lemmas.List.{take_more}
use Rattle.std.proofs.lemmas.List.Elements.{All-from_get_or, All-get_or}
use Rattle.std.proofs.lemmas.List.Sums.{fold_push}
use Rattle.message_guard.specs.Senders.{SenderState}
use Rattle.ps_config.specs.declared.parts.Config.{Config}
use Rattle.writer_group.specs.declared.sampled.Sampled.{Sampled}
use Rattle.writer_group.specs.Standing.{IsGood, datagrams_in}
use Rattle.session_model.specs.Sets.{AreRowsOf}
use Rattle.session_model.specs.Deeds.{Deed, group_past, rekeyed, turned_on}
use Rattle.session_parts.specs.declared.publisher.Told.{Told}
use Rattle.group_threads.specs.Groups.{of_group}
use Rattle.group_threads.specs.Pairs.{Pair, AreDatagrams}
use Rattle.lane_groups.specs.declared.lane.Lane.{Lane}
use Rattle.lane_groups.specs.declared.place.Place.{Place}
use Rattle.lane_groups.specs.declared.turn.TurnIn.{TurnIn}
use Rattle.lane_groups.specs.declared.turn.Work.{Work}
use Rattle.lane_groups.specs.Deeds.{datagrams_by, datagrams_of, deeds_behind, plan_of, ticked, turns_deeds}
use Rattle.lane_groups.specs.Places.{IsShown, MayGo, pairs_from, pairs_in}
use Rattle.lane_groups.specs.Lanes.{AreOfLane, HasMade, HasTurn, MayAllGo, MayTurn, StandAt, is_in}
use Rattle.lane_groups.specs.Passing.{HasAdded, HaveBegun, HavePassed, IsToldBy, IsWhole, MayPassAll, passed_to}
use Rattle.lane_groups.proofs.Made.{datagrams-are, from-few, from-whole, group-found}
use Rattle.lane_groups.proofs.Past.{past-rekeyed, rekeyed-adds-none}
use Rattle.session_model.specs.Deeds.{is_rekeyed}

pub deeds-more : (config : Config) (turns : List TurnIn) (n : ℕ) (turn : TurnIn) → n < length turns → turn ≡ get_or turns n turn
    → deeds_behind config turns (n + 1) ≡ ticked config (deeds_behind config turns n) turn
deeds-more config turns n turn low at =
    ap (turns_deeds config) (take_more turns n turn low)
    ∙ fold_push (ticked config) [] (take n turns) (get_or turns n turn)
    ∙ ap (ticked config (deeds_behind config turns n)) (sym at)

module _ (told : Told) (turn : TurnIn) (deeds : List Deed) (rows : told.rows.now ≡ turn.rows.items) (moment : told.moment ≡ turn.now) (closing : told.closing ≡ turn.closing) where
  abbrev all : ℕ → Bool → List Sampled → List Deed
  all n c r = fold (turned_on (plan_of told.config.now) [] n c r) (rekeyed told.config.now n deeds) (range_with_len 0 (length told.config.now.group))

  pub ticked-is : passed_to told (length told.config.now.group) (rekeyed told.config.now told.moment deeds) ≡ ticked told.config.now deeds turn
  ticked-is =
      ap (λ (n : ℕ). all n told.closing told.rows.now) moment ∙ ap (λ (c : Bool). all turn.now c told.rows.now) closing ∙ ap (λ (r : List Sampled). all turn.now turn.closing r) rows

-- the whole turn, from where the deeds before it leave the lane
module _ (told : Told) (keygroup : Option ℕ) (olds mids news : List (Option Place)) (before middle after : Option SenderState) (deeds : List Deed) (are : AreOfLane told.config.now keygroup olds before)
    (begun : HaveBegun told.config.now told.moment keygroup olds mids before middle) (passed : HavePassed told (length told.config.now.group) keygroup mids news middle after)
    (stand : StandAt told.config.now deeds keygroup olds before) where
  abbrev config : Config
  config = told.config.now

  abbrev last : List Deed
  last = passed_to told (length config.group) (rekeyed config told.moment deeds)

  pub stand-behind : StandAt config last keygroup news after
  stand-behind = passed.stand (rekeyed config told.moment deeds) (begun.stand deeds stand)

  pub same-groups : (g : ℕ) → is_in news g ≡ is_in olds g
  same-groups g = passed.same g ∙ begun.same g

  pub go-behind : (turns : ℕ) → MayAllGo config (turns + 1) olds → MayAllGo config turns news
  go-behind turns may g low = passed.goes_on g low turns (begun.goes_on (turns + 1) may g low)

  pub all-shown : All (λ place. IfSome place IsShown) news
  all-shown = All-from_get_or (λ (place : Option Place). IfSome place IsShown) news None (λ g low. passed.shown g (omega (arith, low, passed.are.count)) None)

  added : (g : ℕ) → g < length config.group → IfSome (get_or news g None) (HasAdded config g (rekeyed config told.moment deeds) last)
  added g low = passed.made (rekeyed config told.moment deeds) (begun.stand deeds stand) g low None

  all-whole : All (λ place. IfSome place (λ p. All IsWhole (datagrams_in p.out))) news
  all-whole = All-from_get_or (λ (place : Option Place). IfSome place (λ p. All IsWhole (datagrams_in p.out))) news None
      (λ g low. whole g (get_or news g None) (added g (omega (arith, low, passed.are.count))))
    where
      whole : (g : ℕ) (place : Option Place) → IfSome place (HasAdded config g (rekeyed config told.moment deeds) last) → IfSome place (λ p. All IsWhole (datagrams_in p.out))
      whole g None is = tt
      whole g (Some p) is = is.whole

  pub are-datagrams : IsGood config → AreDatagrams (pairs_from 0 news)
  are-datagrams good = record {
    few = let few = from-few 0 news all-shown in let count = passed.are.count in let most = good.sound.few.groups in omega (arith, few, count, most);
    each = from-whole 0 news all-whole;
  }

  -- what a group of the lane made
  pub made-in : (g : ℕ) → g < length config.group → is_in olds g ≡ true → datagrams_by config g last ≡ datagrams_by config g deeds ++ map (λ (pair : Pair). pair.datagram) (of_group g (pairs_from 0 news))
  made-in g low has = by_case (get_or news g None) refl (added g low)
    where
      not-true : false ≡ true → ⊥
      not-true e = cc

      by_case : (place : Option Place) → get_or news g None ≡ place → IfSome place (HasAdded config g (rekeyed config told.moment deeds) last)
          → datagrams_by config g last ≡ datagrams_by config g deeds ++ map (λ (pair : Pair). pair.datagram) (of_group g (pairs_from 0 news))
      by_case None e is = absurd (not-true (sym (ap is_some e) ∙ same-groups g ∙ has))
      by_case (Some place) e is =
          is.made
          ∙ ap (λ (l : List (List ℕ)). l ++ datagrams_in place.out)
          (ap datagrams_of (past-rekeyed config told.moment deeds g (length config.group) low) ∙ rekeyed-adds-none config g (is_rekeyed config told.moment deeds g) (group_past config g deeds))
          ∙ ap (λ (l : List (List ℕ)). datagrams_by config g deeds ++ l)
          (sym (ap (map (λ (pair : Pair). pair.datagram)) (group-found g news ∙ ap (pairs_in g) e) ∙ datagrams-are g (datagrams_in place.out)))

  pub made-elsewhere : (g : ℕ) → is_in olds g ≡ false → of_group g (pairs_from 0 news) ≡ []
  made-elsewhere g not = group-found g news ∙ by_case (get_or news g None) (same-groups g ∙ not)
    where
      by_case : (place : Option Place) → is_some place ≡ false → pairs_in g place ≡ []
      by_case None e = refl
      by_case (Some place) e = absurd (not-false e)
        where
          not-false : true ≡ false → ⊥
          not-false e = cc

-- ---- a lane's turn

-- what a turn leaves
pub record IsDone (config : Config) (turns : List TurnIn) (number : ℕ) (old new : Lane) : Type 0 where
  pub lane_is : AreOfLane config new.keygroup new.places.items new.sender
  pub stands : StandAt config (deeds_behind config turns (number + 1)) new.keygroup new.places.items new.sender
  pub goes_on : (left : ℕ) → MayAllGo config (left + 1) old.places.items → MayAllGo config left new.places.items
  pub groups : (g : ℕ) → is_in new.places.items g ≡ is_in old.places.items g
  pub shown : All (λ place. IfSome place IsShown) new.places.items
  pub fit : AreDatagrams (pairs_from 0 new.places.items)
  pub made : (g : ℕ) → is_in old.places.items g ≡ true → datagrams_by config g (deeds_behind config turns (number + 1))
      ≡ datagrams_by config g (deeds_behind config turns number) ++ map (λ (pair : Pair). pair.datagram) (of_group g (pairs_from 0 new.places.items))
  pub others : (g : ℕ) → is_in old.places.items g ≡ false → of_group g (pairs_from 0 new.places.items) ≡ []

-- what there was before it, with what begins it
pub record IsBegun (config : Config) (turns : List TurnIn) (number : ℕ) (turn : TurnIn) (old mid : Lane) : Type 0 where
  pub good : IsGood config
  pub rows : AreRowsOf config.dataset turn.rows.items
  pub lane_is : AreOfLane config old.keygroup old.places.items old.sender
  pub stands : StandAt config (deeds_behind config turns number) old.keygroup old.places.items old.sender
  pub goes_on : MayAllGo config 1 old.places.items
  pub keygroup : mid.keygroup ≡ old.keygroup
  pub begun : HaveBegun config turn.now old.keygroup old.places.items mid.places.items old.sender mid.sender

past-end : (xs : List (Option Place)) (g : ℕ) → is_in xs g ≡ true → g < length xs
past-end [] g has = absurd (never has)
  where
    never : false ≡ true → ⊥
    never e = cc
past-end (x ∷ xs) zero has = omega arith
past-end (x ∷ xs) (suc g) has = let l = past-end xs g has in omega (arith, l)

module _ (turns : List TurnIn) (number : ℕ) (turn : TurnIn) (told : Told) (old mid : Lane) (low : number < length turns) (at : turn ≡ get_or turns number turn) where
  pub may-all : (config : Config) → IsToldBy told config turn → IsBegun config turns number turn old mid → MayPassAll told mid.keygroup mid.places.items mid.sender
  may-all _ is begun = subst (λ (c : Config). IsBegun c turns number turn old mid → told.metas.now ≡ c.dataset → MayPassAll told mid.keygroup mid.places.items mid.sender) is.config_is there begun is.metas_are
    where
      there : IsBegun told.config.now turns number turn old mid → told.metas.now ≡ told.config.now.dataset → MayPassAll told mid.keygroup mid.places.items mid.sender
      there b metas = record {
        told_is = record { good = b.good; metas_are = metas; rows = subst (AreRowsOf told.config.now.dataset) (sym is.rows_are) b.rows };
        are = subst (λ (k : Option ℕ). AreOfLane told.config.now k mid.places.items mid.sender) (sym b.keygroup) b.begun.are;
        goes_on = b.begun.goes_on 1 b.goes_on;
      }

  module _ (new : Lane) (keygroup : new.keygroup ≡ mid.keygroup) (passed : HavePassed told (length told.config.now.group) mid.keygroup mid.places.items new.places.items mid.sender new.sender) where
    module _ (rows : told.rows.now ≡ turn.rows.items) (moment : told.moment ≡ turn.now) (closing : told.closing ≡ turn.closing) (b : IsBegun told.config.now turns number turn old mid) where
      abbrev before : List Deed
      before = deeds_behind told.config.now turns number

      abbrev behind : List Deed
      behind = passed_to told (length told.config.now.group) (rekeyed told.config.now told.moment before)

      begins : HaveBegun told.config.now told.moment old.keygroup old.places.items mid.places.items old.sender mid.sender
      begins = subst (λ (t : ℕ). HaveBegun told.config.now t old.keygroup old.places.items mid.places.items old.sender mid.sender) (sym moment) b.begun

      passes : HavePassed told (length told.config.now.group) old.keygroup mid.places.items new.places.items mid.sender new.sender
      passes = subst (λ (k : Option ℕ). HavePassed told (length told.config.now.group) k mid.places.items new.places.items mid.sender new.sender) b.keygroup passed

      last-is : deeds_behind told.config.now turns (number + 1) ≡ behind
      last-is = deeds-more told.config.now turns number turn low at ∙ sym (ticked-is told turn before rows moment closing)

      done-here : IsDone told.config.now turns number old new
      done-here =
          let olds = old.places.items in
          let mids = mid.places.items in
          let news = new.places.items in
          record {
            lane_is = subst (λ (k : Option ℕ). AreOfLane told.config.now k new.places.items new.sender) (sym keygroup) passed.are;
            stands = subst (λ (d : List Deed). StandAt told.config.now d new.keygroup new.places.items new.sender) (sym last-is)
                (subst (λ (k : Option ℕ). StandAt told.config.now behind k new.places.items new.sender) (sym (keygroup ∙ b.keygroup))
                (stand-behind told old.keygroup olds mids news old.sender mid.sender new.sender before b.lane_is begins passes b.stands));
            goes_on = λ left. go-behind told old.keygroup olds mids news old.sender mid.sender new.sender before b.lane_is begins passes b.stands left;
            groups = same-groups told old.keygroup olds mids news old.sender mid.sender new.sender before b.lane_is begins passes b.stands;
            shown = all-shown told old.keygroup olds mids news old.sender mid.sender new.sender before b.lane_is begins passes b.stands;
            fit = are-datagrams told old.keygroup olds mids news old.sender mid.sender new.sender before b.lane_is begins passes b.stands b.good;
            made = λ g has.
                ap (datagrams_by told.config.now g) last-is
                ∙ made-in told old.keygroup olds mids news old.sender mid.sender new.sender before b.lane_is begins passes b.stands g
                (let l = past-end olds g has in let count = b.lane_is.count in omega (arith, l, count)) has;
            others = made-elsewhere told old.keygroup olds mids news old.sender mid.sender new.sender before b.lane_is begins passes b.stands;
          }

    pub is-done : (config : Config) → IsToldBy told config turn → IsBegun config turns number turn old mid → IsDone config turns number old new
    is-done _ is begun =
        subst (λ (c : Config). IsBegun c turns number turn old mid → IsDone c turns number old new) is.config_is (λ b. done-here is.rows_are is.moment_is is.closing_is b) begun

-- ---- of the turns that are left

fewer : (config : Config) (g n m : ℕ) → m ≤ n → (place : Option Place) → IfSome place (MayGo config n g) → IfSome place (MayGo config m g)
fewer config g n m low None may = tt
fewer config g n m low (Some place) may = record {
  left = λ k d within. let l : n ≤ (get_or place.group.writers.items k d).left = may.left k d within in omega (arith, l, low);
  holds = may.holds;
  lived = may.lived;
}

pub fewer-all : (config : Config) (n m : ℕ) (places : List (Option Place)) → m ≤ n → MayAllGo config n places → MayAllGo config m places
fewer-all config n m places low may g within d = fewer config g n m low (get_or places g d) (may g within d)

-- what there is before a turn
pub is-begun : (work : Work) (number : ℕ) (turn : TurnIn) (old mid : Lane) → number < length work.turns.now → turn ≡ get_or work.turns.now number turn → MayTurn work number old
    → mid.keygroup ≡ old.keygroup → HaveBegun work.config.now turn.now old.keygroup old.places.items mid.places.items old.sender mid.sender
    → IsBegun work.config.now work.turns.now number turn old mid
is-begun work number turn old mid low at may keygroup begun = record {
  good = may.work_is.good;
  rows = subst (λ (t : TurnIn). AreRowsOf work.config.now.dataset t.rows.items) (sym at)
      (All-get_or (λ (t : TurnIn). AreRowsOf work.config.now.dataset t.rows.items) work.turns.now number turn low may.work_is.rows);
  lane_is = may.lane_is;
  stands = may.stands;
  goes_on = fewer-all work.config.now (length work.turns.now - number) 1 old.places.items (omega (arith, low)) may.goes_on;
  keygroup = keygroup;
  begun = begun;
}

module _ (work : Work) (number : ℕ) (old new : Lane) (low : number < length work.turns.now) (may : MayTurn work number old) (done : IsDone work.config.now work.turns.now number old new) where
  pub done-turn : HasTurn work number old new
  done-turn = record { lane_is = done.lane_is; stands = done.stands; groups = done.groups; made = done.made; others = done.others }

  pub done-next : MayTurn work (number + 1) new
  done-next = record {
    work_is = may.work_is;
    lane_is = done.lane_is;
    stands = done.stands;
    goes_on = done.goes_on (length work.turns.now - (number + 1))
        (fewer-all work.config.now (length work.turns.now - number) (length work.turns.now - (number + 1) + 1) old.places.items (omega (arith, low)) may.goes_on);
  }

  pub done-made : HasMade new
  done-made = record {
    few = let count = done.lane_is.count in let most = may.work_is.good.sound.few.groups in omega (arith, count, most);
    each = done.shown;
  }
