-- The part of one group in a turn of its lane, against Session run.
use Rattle.std.proofs.Common.{◌≡◌, refl, sym, ap, ◌∙◌, subst, arith, ℕ, ◌+◌, ◌<◌, ◌≤◌, Bool, true, false, List, [], ◌∷◌, ◌++◌, length, get_or}
use Rattle.std.specs.Prelude.{not, ◌&&◌, ◌||◌, All, Option, Some, None, IfSome, is_some, option_map, nat_lt, ◌==◌}
use Rattle.std.specs.Option.{option_map_or}
use Rattle.std.proofs.lemmas.Bool.Decides.{nat_tests}
use Rattle.std.proofs.lemmas.List.{append-nil}
use Rattle.std.proofs.lemmas.List.Folds.{length-flat_map-take}
use Rattle.std.proofs.lemmas.List.Elements.{All-from_get_or, All-get_or, All-nil}
use Rattle.dataset_meta.specs.Metas.{MetaData}
use Rattle.dataset_meta.specs.Rows.{cons_if}
use Rattle.message_guard.specs.Senders.{SenderState, numbers_left}
use Rattle.ps_config.specs.declared.parts.Config.{Config}
use Rattle.ps_config.specs.declared.parts.GroupPart.{GroupPart}
use Rattle.ps_config.specs.Rooms.{lacks_room}
use Rattle.ps_config.specs.Sound.{IsGroup as IsSoundGroup}
use Rattle.ps_config.specs.Headers.{mode_of}
use Rattle.writer_group.specs.declared.datagrams.Datagrams.{Datagrams}
use Rattle.writer_group.specs.declared.group.Group.{Group}
use Rattle.writer_group.specs.declared.sampled.Sampled.{Sampled}
use Rattle.writer_group.specs.Parts.{group_at, no_group}
use Rattle.writer_group.specs.Sealing.{advanced_by}
use Rattle.writer_group.specs.Standing.{HasTicked, IsGroup, IsMadeFor, KeepsLogs, MayGoOn, TellsDue, datagrams_in, index_of, input_of, metas_for}
use Rattle.writer_group.specs.Limits.{most_datagrams}
use Rattle.writer_group.specs.Payloads.{meta_at}
use Rattle.writer_group.specs.Turning.{MakesBytes, OfEachTurn}
use Rattle.writer_group.specs.Turns.{GroupDeed, GroupTurn, TurnInput, is_due}
use Rattle.session_model.specs.Sets.{AreRowsOf, rows_cut}
use Rattle.session_model.specs.Deeds.{Deed, TookTurn, advanced_if, group_past, has_turn, is_spent, sender_after, sender_of, turn_input, turn_of, writers_on}
use Rattle.session_parts.specs.declared.publisher.Told.{Told}
use Rattle.session_parts.specs.Ticking.{MayTurn, TakesTurn}
use Rattle.lane_groups.specs.declared.place.Place.{Place}
use Rattle.lane_groups.specs.Deeds.{datagrams_by, datagrams_of, plan_of}
use Rattle.lane_groups.specs.Places.{HasPast, IsForgotten, IsPlaceOf, MayGo}
use Rattle.lane_groups.specs.Passing.{HasAdvanced, IsTold, IsWhole, MayPass, Passes, PassesFrom, Turns, all_on, spent_in, turned_by}
use Rattle.lane_groups.proofs.Past.{past-own}
use Rattle.lane_groups.proofs.Rows.{rows-whole}
use Rattle.lane_groups.proofs.Works.{all-work, group-works}
use Rattle.std.proofs.lemmas.Bool.{eq-eqb}

-- ---- whether there is a turn

spent-is : (config : Config) (g : ℕ) (deeds : List Deed) (sender : Option SenderState) → sender ≡ sender_of config g deeds → spent_in sender ≡ is_spent config g deeds
spent-is config g deeds sender is = ap spent_in is

pub has-spent : (config : Config) (g now : ℕ) (closing : Bool) (deeds : List Deed) (sender : Option SenderState) → sender ≡ sender_of config g deeds → spent_in sender ≡ true
    → has_turn (plan_of config) [] now closing deeds g ≡ false
has-spent config g now closing deeds sender is spent =
    ap (λ (b : Bool). b && (closing || is_due (group_at config g) (group_past config g deeds) now))
    (group-works config deeds g ∙ ap not (sym (spent-is config g deeds sender is) ∙ spent))

pub has-unspent : (config : Config) (g now : ℕ) (closing : Bool) (deeds : List Deed) (sender : Option SenderState) → sender ≡ sender_of config g deeds → spent_in sender ≡ false
    → has_turn (plan_of config) [] now closing deeds g ≡ (closing || is_due (group_at config g) (group_past config g deeds) now)
has-unspent config g now closing deeds sender is unspent =
    ap (λ (b : Bool). b && (closing || is_due (group_at config g) (group_past config g deeds) now))
    (group-works config deeds g ∙ ap not (sym (spent-is config g deeds sender is) ∙ unspent))

true-false : true ≡ false → ⊥
true-false e = cc

-- where there is a turn, its sender isn't spent
pub turn-unspent : (config : Config) (g now : ℕ) (closing : Bool) (deeds : List Deed) → has_turn (plan_of config) [] now closing deeds g ≡ true → is_spent config g deeds ≡ false
turn-unspent config g now closing deeds has = by_case (is_spent config g deeds) refl
  where
    by_case : (b : Bool) → is_spent config g deeds ≡ b → is_spent config g deeds ≡ false
    by_case true e = absurd (true-false (sym has ∙ has-spent config g now closing deeds (sender_of config g deeds) refl e))
    by_case false e = e

-- ---- without a turn

pub passes-without : (told : Told) (g : ℕ) (deeds : List Deed) (old new : Place) (sender : Option SenderState)
    → has_turn (plan_of told.config.now) [] told.moment told.closing deeds g ≡ false → HasPast told.config.now deeds g old → IsForgotten old new
    → sender ≡ sender_of told.config.now g deeds → PassesFrom told g deeds new sender
passes-without told g deeds old new sender has past is sent = record {
  past = subst (λ (d : List Deed). HasPast told.config.now d g new) (sym same)
      (subst (λ (w : _). IsGroup (metas_for (group_at told.config.now g) told.config.now.dataset) (group_at told.config.now g) (group_past told.config.now g deeds) w) (sym is.group) past);
  sender_is = sent ∙ ap (sender_of told.config.now g) (sym same);
  made = ap (datagrams_by told.config.now g) same
      ∙ sym (append-nil (datagrams_by told.config.now g deeds))
      ∙ ap (λ (l : List (List ℕ)). datagrams_by told.config.now g deeds ++ l) (sym is.none);
  whole = subst (All IsWhole) (sym is.none) (All-nil IsWhole);
}
  where
    same : turned_by told deeds g ≡ deeds
    same = ap (λ (b : Bool). cons_if b (TookTurn g (turn_of (plan_of told.config.now) [] told.moment told.closing told.rows.now deeds g)) deeds) has

-- ---- with a turn

module _ (told : Told) (told_is : IsTold told) (g : ℕ) (low : g < length told.config.now.group) (deeds : List Deed) (old new : Place) (before after : Option SenderState)
    (has : has_turn (plan_of told.config.now) [] told.moment told.closing deeds g ≡ true) (past : HasPast told.config.now deeds g old) (sent : before ≡ sender_of told.config.now g deeds)
    (turns : Turns told g old new before after) where
  abbrev config : Config
  config = told.config.now

  abbrev input : TurnInput
  input = turn_input (plan_of config) [] told.moment told.closing told.rows.now deeds g

  abbrev turn : GroupTurn
  turn = turn_of (plan_of config) [] told.moment told.closing told.rows.now deeds g

  input-is : input_of told.moment told.closing config.dataset told.rows.now (all_on (group_at config g)) before ≡ input
  input-is =
      ap (λ (l : List Sampled). input_of told.moment told.closing config.dataset l (all_on (group_at config g)) before) (rows-whole config.dataset told.rows.now told_is.rows)
      ∙ ap (λ (l : List Bool). input_of told.moment told.closing config.dataset (rows_cut config.dataset config.dataset told.rows.now) l before)
      (all-work config deeds g (turn-unspent config g told.moment told.closing deeds has))
      ∙ ap (λ (o : Option SenderState). input_of told.moment told.closing config.dataset (rows_cut config.dataset config.dataset told.rows.now) (writers_on config [] deeds g) o) sent

  ticked : HasTicked config (group_at config g) (group_past config g deeds) input new.group new.out
  ticked = subst (λ (i : TurnInput). HasTicked config (group_at config g) (group_past config g deeds) i new.group new.out) input-is (turns.ticked (group_past config g deeds) past)

  same : turned_by told deeds g ≡ TookTurn g turn ∷ deeds
  same = ap (λ (b : Bool). cons_if b (TookTurn g turn) deeds) has

  made-is : datagrams_in new.out ≡ turn.made
  made-is = ticked.datagrams

  -- its own sender gave a front for each datagram
  used : (keygroup : Option ℕ) → (group_at config g).keygroup ≡ keygroup
      → option_map (λ s. advanced_by (mode_of (group_at config g).security) s (length turn.made)) (option_map (λ k. sender_after config k deeds) keygroup)
      ≡ option_map (λ k. sender_after config k (TookTurn g turn ∷ deeds)) keygroup
  used None is = refl
  used (Some k) is =
      ap Some (ap (λ (b : Bool). advanced_if b (mode_of (group_at config g).security) (length turn.made) (sender_after config k deeds))
      (sym (ap (λ (o : Option ℕ). option_map_or (λ other. other == k) o false) is ∙ eq-eqb k k refl)))

  sound : IsSoundGroup config (group_at config g)
  sound = All-get_or (IsSoundGroup config) config.group g no_group low told_is.good.sound.groups

  whole : MakesBytes config (group_at config g) (group_past config g deeds) input → All IsWhole turn.made
  whole bytes =
      All-from_get_or IsWhole turn.made [] (λ i within.
      let some : 0 < length (get_or turn.made i []) = All-get_or (λ (datagram : List ℕ). 0 < length datagram) turn.made i [] within bytes in
      let short : length (get_or turn.made i []) ≤ (group_at config g).max_size = All-get_or (λ (datagram : List ℕ). length datagram ≤ (group_at config g).max_size) turn.made i [] within ticked.short in
      let most = sound.max_size.1 in record { some = some; short = omega (arith, short, most) })

  pub passes-with : MakesBytes config (group_at config g) (group_past config g deeds) input → PassesFrom told g deeds new after
  passes-with bytes = record {
    past = subst (λ (l : List GroupDeed). IsGroup (metas_for (group_at config g) config.dataset) (group_at config g) l new.group)
        (sym (ap (group_past config g) same ∙ past-own config g turn deeds)) ticked.stands;
    sender_is =
        turns.advanced
        ∙ ap (λ (o : Option SenderState). option_map (λ s. advanced_by (mode_of (group_at config g).security) s new.count) o) sent
        ∙ ap (λ (n : ℕ). option_map (λ s. advanced_by (mode_of (group_at config g).security) s n) (sender_of config g deeds)) (turns.shown.count ∙ ap length made-is)
        ∙ used (group_at config g).keygroup refl
        ∙ ap (sender_of config g) (sym same);
    made = ap (λ (d : List Deed). datagrams_of (group_past config g d)) same
        ∙ ap datagrams_of (past-own config g turn deeds)
        ∙ ap (λ (l : List (List ℕ)). datagrams_by config g deeds ++ l) (sym made-is);
    whole = subst (All IsWhole) (sym made-is) (whole bytes);
  }

-- ---- the part of a group

unspent-of : (s : SenderState) → nat_lt (numbers_left s) 1024 ≡ false → 1024 ≤ numbers_left s
unspent-of s e = grind (arith, nat_tests)

pub unspent-some : (sender : Option SenderState) → spent_in sender ≡ false → IfSome sender (λ s. 1024 ≤ numbers_left s)
unspent-some None e = tt
unspent-some (Some s) e = unspent-of s e

pub has-closing : (told : Told) (g : ℕ) (deeds : List Deed) (sender : Option SenderState) → sender ≡ sender_of told.config.now g deeds → spent_in sender ≡ false → told.closing ≡ true
    → told.closing ≡ has_turn (plan_of told.config.now) [] told.moment told.closing deeds g
has-closing told g deeds sender sent unspent closing =
    closing
    ∙ sym (has-unspent told.config.now g told.moment told.closing deeds sender sent unspent
    ∙ ap (λ (b : Bool). b || is_due (group_at told.config.now g) (group_past told.config.now g deeds) told.moment) closing)

pub has-due : (told : Told) (g : ℕ) (deeds : List Deed) (place : Place) (sender : Option SenderState) (due : Bool) → IsPlaceOf told.config.now g place → HasPast told.config.now deeds g place
    → TellsDue place.group told.moment due → sender ≡ sender_of told.config.now g deeds → spent_in sender ≡ false → told.closing ≡ false
    → due ≡ has_turn (plan_of told.config.now) [] told.moment told.closing deeds g
has-due told g deeds place sender due is past tells sent unspent closing =
    tells told.config.now (group_at told.config.now g) (metas_for (group_at told.config.now g) told.config.now.dataset) (group_past told.config.now g deeds) is.made past
    ∙ sym (has-unspent told.config.now g told.moment told.closing deeds sender sent unspent
    ∙ ap (λ (b : Bool). b || is_due (group_at told.config.now g) (group_past told.config.now g deeds) told.moment) closing)

fewer : (metas : ℕ → MetaData) (part : GroupPart) (turns : ℕ) (group : Group) → MayGoOn metas part (turns + 1) group → MayGoOn metas part turns group
fewer metas part turns group may = record {
  left = λ k d low. let l : turns + 1 ≤ (get_or group.writers.items k d).left = may.left k d low in omega (arith, l);
  holds = may.holds;
  lived = may.lived;
}

module _ (told : Told) (g : ℕ) (old mid : Place) (before : Option SenderState) (may : MayPass told g old before) (is : IsForgotten old mid) where
  mid-place : IsPlaceOf told.config.now g mid
  mid-place = record {
    index = ap index_of is.group ∙ may.place_is.index;
    made = subst (λ (w : Group). IsMadeFor told.config.now (group_at told.config.now g) w) (sym is.group) may.place_is.made;
    logs = subst KeepsLogs (sym is.group) may.place_is.logs;
    reserved = is.shown.reserved;
  }

  mid-go : (turns : ℕ) → MayGo told.config.now turns g old → MayGo told.config.now turns g mid
  mid-go turns go = subst (λ (w : Group). MayGoOn (metas_for (group_at told.config.now g) told.config.now.dataset) (group_at told.config.now g) turns w) (sym is.group) go

  mid-past : (deeds : List Deed) → HasPast told.config.now deeds g old → HasPast told.config.now deeds g mid
  mid-past deeds past = subst (λ (w : Group). IsGroup (metas_for (group_at told.config.now g) told.config.now.dataset) (group_at told.config.now g) (group_past told.config.now g deeds) w) (sym is.group) past

  pub still-may : MayPass told g mid before
  still-may = record { told_is = may.told_is; within = may.within; place_is = mid-place; goes_on = mid-go 1 may.goes_on; sender_is = may.sender_is }

  -- what `has_turn` tells
  abbrev pub TellsTurn : Bool → Type 0
  TellsTurn has = (g : ℕ) (deeds : List Deed) → IsPlaceOf told.config.now g mid → HasPast told.config.now deeds g mid → before ≡ sender_of told.config.now g deeds
      → has ≡ has_turn (plan_of told.config.now) [] told.moment told.closing deeds g

  pub passes-by : (has : Bool) → has ≡ false → TellsTurn has → Passes told g old mid before before
  passes-by has not tells = record {
    place_is = mid-place;
    shown = is.shown;
    sender_is = may.sender_is;
    goes_on = λ turns go. fewer (metas_for (group_at told.config.now g) told.config.now.dataset) (group_at told.config.now g) turns mid.group (mid-go (turns + 1) go);
    from = λ deeds past sent. passes-without told g deeds old mid before (sym (tells g deeds mid-place (mid-past deeds past) sent) ∙ not) past is sent;
  }

  pub passes-turn : (has : Bool) (new : Place) (after : Option SenderState) → has ≡ true → TellsTurn has → Turns told g mid new before after → OfEachTurn MakesBytes → Passes told g old new before after
  passes-turn has new after so tells turns bytes = record {
    place_is = turns.place_is;
    shown = turns.shown;
    sender_is = turns.sender_is;
    goes_on = λ n go. turns.goes_on n (mid-go (n + 1) go);
    from = λ deeds past sent.
        passes-with told may.told_is g may.within deeds mid new before after (sym (tells g deeds mid-place (mid-past deeds past) sent) ∙ so) (mid-past deeds past) sent turns
        (bytes told.config.now (group_at told.config.now g) (group_past told.config.now g deeds) (turn_input (plan_of told.config.now) [] told.moment told.closing told.rows.now deeds g));
  }

-- ---- a turn, by what it asks for and what it is

module _ (told : Told) (g : ℕ) (place : Place) (sender : Option SenderState) (may : MayPass told g place sender) where
  sound-group : IsSoundGroup told.config.now (group_at told.config.now g)
  sound-group = All-get_or (IsSoundGroup told.config.now) told.config.now.group g no_group may.within may.told_is.good.sound.groups

  pub few-writers : length (group_at told.config.now g).writer ≤ 16
  few-writers =
      let f = length-flat_map-take (λ (group : GroupPart). group.writer) told.config.now.group g no_group may.within in
      let most = may.told_is.good.sound.few.writers in omega (arith, f, most)

  pub may-turn : (on : List Bool) → length on ≡ length (group_at told.config.now g).writer → IfSome sender (λ s. 1024 ≤ numbers_left s) → MayTurn told g on sender place.group
  may-turn on on_are unspent = record {
    good = may.told_is.good;
    within = may.within;
    index = may.place_is.index;
    may = record {
      made = may.place_is.made;
      metas_are = record {
        count = ap length may.told_is.metas_are;
        fixed = λ fixed writer low. ap (λ (l : List MetaData). meta_at (group_at told.config.now g) l writer) may.told_is.metas_are;
        room = ap (λ (l : List MetaData). lacks_room told.config.now.publisher.id l (group_at told.config.now g)) may.told_is.metas_are ∙ sound-group.room;
      };
      sampled = record {
        rows_are = subst (λ (l : List MetaData). AreRowsOf l told.rows.now) (sym may.told_is.metas_are) may.told_is.rows;
        on_are = on_are;
      };
      goes_on = subst (λ (l : List MetaData). MayGoOn (metas_for (group_at told.config.now g) l) (group_at told.config.now g) 1 place.group) (sym may.told_is.metas_are) may.goes_on;
      sender_is = record {
        there = may.sender_is.there ∙ sym sound-group.keys.keyed;
        sender_is = may.sender_is.sender_is;
        unspent = unspent;
      };
    };
  }

  same-there : (count : ℕ) (o : Option SenderState) → is_some (option_map (λ s. advanced_by (mode_of (group_at told.config.now g).security) s count) o) ≡ is_some o
  same-there count None = refl
  same-there count (Some s) = refl

  pub turns-are : (on : List Bool) (count : ℕ) (group : Group) (out : Datagrams) (after : Option SenderState) → on ≡ all_on (group_at told.config.now g)
      → TakesTurn told g on sender count place.group group out → count ≤ most_datagrams → HasAdvanced told g count sender after
      → Turns told g place (record { group = group; out = out; count = count }) sender after
  turns-are on count group out after on_is takes few advanced = record {
    place_is = record { index = takes.index ∙ may.place_is.index; made = takes.made; logs = takes.logs.all may.place_is.logs; reserved = takes.reserved };
    shown = record { reserved = takes.reserved; count = takes.count_is; few = few };
    sender_is = record { there = ap is_some advanced.advanced ∙ same-there count sender ∙ may.sender_is.there; sender_is = advanced.sender_is };
    goes_on = subst (λ (l : List MetaData). (turns : ℕ) → MayGoOn (metas_for (group_at told.config.now g) l) (group_at told.config.now g) (turns + 1) place.group
        → MayGoOn (metas_for (group_at told.config.now g) l) (group_at told.config.now g) turns group) may.told_is.metas_are takes.goes_on;
    ticked = λ past stands.
        subst (λ (o : List Bool). HasTicked told.config.now (group_at told.config.now g) past (input_of told.moment told.closing told.config.now.dataset told.rows.now o sender) group out) on_is
        (subst (λ (l : List MetaData). (past : List GroupDeed) → IsGroup (metas_for (group_at told.config.now g) l) (group_at told.config.now g) past place.group
        → HasTicked told.config.now (group_at told.config.now g) past (input_of told.moment told.closing l told.rows.now on sender) group out) may.told_is.metas_are takes.stands past stands);
    advanced = advanced.advanced;
  }
