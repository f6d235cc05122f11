-- A session that ends with a closing tick and its pumps: where a secured read group took the closing frame's datagrams, or they came to one that names the group, the frame stands in the reader's list.
use Rattle.std.proofs.Common.{◌≡◌, ◌≢◌, refl, sym, ap, ◌∙◌, subst, arith, ℕ, suc, ◌+◌, ◌<◌, ◌≤◌, ◌⊎◌, inl, inr, Bool, true, false, not, List, [], ◌∷◌, ◌++◌, map, length, get_or, Option, Some, Contains, Result, Ok, Err}
use Rattle.std.specs.Prelude.{◌||◌, fold, option_map, slice_get, slice_index_or, if◌then◌else◌}
use Rattle.std.specs.List.{cons_option}
use Rattle.std.proofs.lemmas.List.{get_or_default}
use Rattle.std.proofs.lemmas.Option.{slice_get-get_or}
use Rattle.ua_base.specs.Journal as entries_of
use Rattle.ua_base.specs.Journal.{Entry}
use Rattle.pubsub_model.specs.declared.reading.Why.TheVariants.{NewToken}
use Rattle.pubsub_model.specs.Cadence.{WriterDeed, WriterTurn, HadTurn, next_place}
use Rattle.pubsub_model.specs.Frames.{PlacedFrame, Whole, placed_cut}
use Rattle.pubsub_model.specs.Records.{Item, place_in, since_cut}
use Rattle.message_guard.specs.Acceptance.{Accepted, is_acceptable, raises}
use Rattle.message_guard.specs.Modes.{is_secured}
use Rattle.message_guard.specs.Protection.{keys_with}
use Rattle.message_guard.specs.Senders.{SenderState}
use Rattle.config_tables.specs.declared.words.Security.{Security}
use Rattle.ps_config.specs.declared.parts.Config.{Config}
use Rattle.ps_config.specs.declared.parts.GroupPart.{GroupPart}
use Rattle.ps_config.specs.declared.parts.ReadGroupPart.{ReadGroupPart}
use Rattle.ps_config.specs.Headers.{is_secured as is_secured_group, mode_of}
use Rattle.reader_group.specs.Arrivals.{Mark, Way, accepted, accepted_with, chunks_in, cut_on, item_on, marks, piece_on, placed, taken_in}
use Rattle.reader_group.specs.declared.refusal.Refusal.{Refusal}
use Rattle.reader_group.specs.Members.{seat_at}
use Rattle.reader_group.specs.Opening.{Opened, verdict}
use Rattle.reader_group.specs.Payloads.{Piece, pieces}
use Rattle.reader_group.specs.Plain.{Event, Got, Setting}
use Rattle.reader_group.specs.Settings.{group_at as read_group_at, keygroup_at, setting_of}
use Rattle.writer_group.specs.declared.sampled.Sampled.{Sampled}
use Rattle.writer_group.specs.Parts.{group_at}
use Rattle.writer_group.specs.Turns.{GroupDeed, GroupTurn, HadGroupTurn, TurnInput, writer_past, frames_in, took_by}
use Rattle.group_laws.specs.Matching.{IsSenderOf}
use Rattle.group_laws.specs.TurnOpened.{is_accepted, turn_opened}
use Rattle.session_model.specs.Deeds.{Deed, deeds, group_past, has_turn, sender_after}
use Rattle.session_model.specs.Steps.{Plan, Step, Pump, Tick, moment_of, is_on}
use Rattle.session_laws.specs.Bare.{AllTook, ClosingCameLast, ClosingGotSinceLast, ClosingTookLast, IsBare, NoOtherOnceAll, QuietOnce}
use Rattle.session_laws.specs.Headline.{InSession, meta_of}
use Rattle.session_laws.specs.Pasts.{AreTurns, CameAsMade, WasMade, settings_at}
use Rattle.session_laws.specs.Plays.{IsPlay, Play, its_answers, its_way}
use Rattle.writer_group.specs.Payloads.{writer_at, payloads_of}
use Rattle.session_laws.proofs.Versions.Distinct.{IsAt, at-sound}
use Rattle.session_laws.proofs.HeldRows.Pieces.{opened-at}
use Rattle.dataset_meta.specs.DataValues.{DataValue}
use Rattle.dataset_meta.specs.Rows.{row_cut}
use Rattle.seq_number.specs.Numbers.{place_from}
use Rattle.pubsub_states.specs.declared.component.Component.TheVariants.{Reader}
use Rattle.config_tables.specs.declared.words.Layout.TheVariants as layouts
use Rattle.config_tables.specs.declared.words.NumberingWord.TheVariants as words
use Rattle.session_model.specs.Events.{events, readers_on, receives}
use Rattle.session_laws.specs.Newest.{CameIn, ClosesInTick, ClosingCame, ClosingGotSecured, ClosingTook, EachPart, HasPartFor, HoldsClosing, HoldsClosingRow, NoHigherToken, TookIn, closing_deeds, closing_turn, made_in, ticked as ticked_in}
use Rattle.session_laws.specs.Reading.{arrivals_at, first_number_of}
use Rattle.session_laws.specs.Sessions.{AreVersions, pasts_at}
use Rattle.session_laws.proofs.Closing.ClosingGot as ClosingGot
use Rattle.session_laws.proofs.Closing.BareEnd.{LastHeldLaw, unsecured-last-held}
use Rattle.session_laws.proofs.Closing.BareGot.{TakenAt}
use Rattle.session_laws.proofs.Closing.InPumps.{came-at, got_at, kept-from, pumped, so_far}
use Rattle.session_laws.proofs.Closing.BareTrace.{came-between, trace-pumps}
use Rattle.session_laws.proofs.Closing.ClosingGot.{HeldLaw, InChunks, LastTurn, OnePart, gives, in-flat, is-last, not-empty, part-case}
use Rattle.session_laws.proofs.Closing.ClosingParts.{all, all-covered, below-made, found-own, found_c, has-part, has-part-c, its_cuts, its_datagram, its_total, lays, le, made-one, none-either, older-same, one-at, opens, own-or-other, read-is, sent-list, some-bytes}
use Rattle.session_laws.proofs.Closing.ClosingTick.{holds-start, holds-tick, in-start, its_last, new-first}
use Rattle.session_laws.proofs.Closing.AllTaken.{QuietOnceTaken, TakesAll, chunks-last, part-last, quiet-all}
use Rattle.session_laws.proofs.Closing.Coming.{Lies, covered-parts, lies-parts}
use Rattle.session_laws.proofs.HeldRows.Marks.{all-on, parts-sent, source}
use Rattle.session_laws.proofs.Closing.SignedChunks.{IsClosing, IsOlder, IsStep, TakesSteps, covered-all}
use Rattle.session_laws.proofs.HeldRows.Sources.{IsChunkOf, IsOfAnswer, sent-kept}
use Rattle.reader_group.proofs.KeptParts.{IsPieceOf}
use Rattle.chunker.specs.Chunks.{Chunk, cover}
use Rattle.frame_codec.specs.Frames.{Frame}
use Rattle.session_laws.proofs.Closing.GotParts.{brought-by-pumps, enabled-behind}
use Rattle.session_laws.proofs.HeldRows.Passing.{AreUnder, IsPassOf, IsUnder, own-pass, turn-pass, under-before, use-under}
use Rattle.session_laws.proofs.HeldRows.Published.{Laws, is-play, play_of}
use Rattle.session_laws.proofs.Closing.SignedGot.{Comes, had-brought, taken-signed}
use Rattle.session_laws.proofs.Closing.SignedParts.{HasItemFrom, HasPair, StandsFrom, TakesUpTo, acceptable-least, acceptable-or-had, from-among, from-kept, from-new, from-parts, late-none, none-above, not-raised, pair-added, upto-all}
use Rattle.session_laws.proofs.Closing.ClosingSigned.{known-by, made-acceptable, mode-by, mode-group, named-made, sender-by, some-of}

-- ---- the frame's item

item-from : (low place : ℕ) (items : List Item) → HasItemFrom low place items → (item : Item) × Contains items item × (place_in item ≡ place)
item-from low place [] none = absurd none
item-from low place (item ∷ items) (inl here) = (item, (0, omega arith, refl), here.0)
item-from low place (item ∷ items) (inr more) = let rest = item-from low place items more in let at = rest.1 in (rest.0, (suc at.0, let lt = at.1 in omega (arith, lt), at.2), rest.2)

-- ---- a session that ends with a closing tick and its pumps

module _ (laws : Laws) (p : Plan) (r i g w ms : ℕ) (samples : List Sampled) (done : List Bool) (start : List Step) (pumps : List (List Entry)) (own : WriterTurn)
    (is : InSession p r i g w (map Pump pumps ++ Tick ms true samples done ∷ start)) (had : has_turn p start (moment_of start + ms) true (closing_deeds p start ms samples g) g ≡ true)
    (took : took_by w (closing_turn p start ms samples g) ≡ Some own) (closing : own.closing ≡ true) (secured : is_secured (setting_of p.config r).setup.mode ≡ true) where
  abbrev config : Config
  config = p.config

  abbrev group : GroupPart
  group = group_at config g

  abbrev readers : ReadGroupPart
  readers = read_group_at config r

  abbrev setting : Setting
  setting = setting_of config r

  abbrev at_tick : ℕ
  at_tick = moment_of start + ms

  abbrev ticked : List Step
  ticked = Tick ms true samples done ∷ start

  abbrev steps : List Step
  steps = map Pump pumps ++ ticked

  abbrev earlier : List Deed
  earlier = closing_deeds p start ms samples g

  abbrev before : List GroupDeed
  before = group_past config g earlier

  abbrev turn : GroupTurn
  turn = closing_turn p start ms samples g

  abbrev its_in_start : InSession p r i g w start
  its_in_start = in-start laws p r i g w ms samples done start pumps own is had took closing

  abbrev play : Play
  play = play_of p r i g w steps

  abbrev is_play : IsPlay 16385 play
  is_play = is-play laws p r i g w steps is

  abbrev last : LastTurn config group (pasts_at p steps g)
  last = its_last laws p r i g w ms samples done start pumps own is had took closing

  abbrev input : TurnInput
  input = last.of.input

  -- ---- its keys

  group-secured : is_secured_group group.security ≡ true
  group-secured =
      sym (mode-group group.security) ∙ ap (λ (s : Security). is_secured (mode_of s)) (sym is.matched.groups.security)
      ∙ ap is_secured (sym (mode-by config readers readers.keygroup)) ∙ secured

  named-group : setting.group.group ≢ 0 → readers.group ≡ group.id
  named-group named = on is.matched.groups.group_id
    where
      on : (readers.group ≡ group.id) ⊎ ((readers.group ≡ 0) × (readers.layout ≡ layouts.Dynamic)) → readers.group ≡ group.id
      on (inl same) = same
      on (inr any) = absurd (named any.0)

  module _ (k : ℕ) (keyed : group.keygroup ≡ Some k) where
    abbrev s : SenderState
    s = sender_after config k earlier

    abbrev token : ℕ
    token = s.keys.token

    abbrev used : ℕ
    used = s.used

    sender-is : IsSenderOf (keygroup_at config k) s
    sender-is = sender-by config group (length (payloads_of config group (frames_in group before input))) k input.sender s last.of.may.sender (ap (option_map (λ (n : ℕ). sender_after config n earlier)) keyed) keyed

    keys-known : keys_with setting.setup.keys token ≡ Some s.keys
    keys-known = known-by config readers k s (is.matched.groups.keygroup ∙ keyed) sender-is

    older : List GroupDeed
    older = group_past config g (deeds p start)

    all-under : AreUnder laws.turns p k g readers i w is.matched keyed (group_past config g (deeds p start)) earlier
    all-under =
        under-before laws.turns p k g readers i w is.matched keyed laws.words laws.ring start at_tick true samples is.there is.plan its_in_start.steps_are
        (holds-start laws p r i g w ms samples done start pumps own is had took closing) (holds-tick laws p r i g w ms samples done start pumps own is had took closing)

    -- what came was made by the group
    made-of : setting.group.group ≢ 0 → (pasts : ℕ → List GroupDeed) → ((h : ℕ) (part : GroupPart) → IsAt config h part → AreTurns config part (pasts h)) → (now : ℕ) (on : List Bool) (other : List ℕ) (befell : List Event) (opened : Opened)
        → CameAsMade setting config pasts (Got now on other ∷ befell) → verdict setting.group setting.setup (accepted setting befell) other ≡ Ok opened → WasMade (pasts g) other
    made-of named pasts are now on other befell opened came e =
        named-made laws.turns config readers g group pasts is.plan.good.sound is_play.there are named (named-group named) (accepted setting befell) other opened
        (came.0 opened e) e

    under-of : (pairs : Accepted) (other : List ℕ) (opened : Opened) → WasMade before other ⊎ WasMade (group_past config g (deeds p start)) other → verdict setting.group setting.setup pairs other ≡ Ok opened → IsUnder s opened.pass
    under-of pairs other opened was e = use-under laws.turns p k g readers i w is.matched keyed (group_past config g (deeds p start)) earlier other pairs opened all-under was e

    -- before the tick none of it had come
    start-upto : setting.group.group ≢ 0 → TakesUpTo setting config (pasts_at p start) secured token used
    start-upto named now on other befell opened came e =
        under-of (accepted setting befell) other opened
        (inr (made-of named (pasts_at p start) (λ h part at. ((is-play laws p r i g w start its_in_start).pasts h part at).turns) now on other befell opened came e)) e

    none-before : setting.group.group ≢ 0 → (number : ℕ) → used < number → HasPair token number (accepted setting (events config r ticked)) → ⊥
    none-before named number above has =
        none-above token used number (accepted setting (events config r start))
        (upto-all setting config (pasts_at p start) secured token used (start-upto named) (events config r start) (is-play laws p r i g w start its_in_start).came) above has

    -- in the pumps
    abbrev are_turns : (h : ℕ) (part : GroupPart) → IsAt config h part → AreTurns config part (pasts_at p steps h)
    are_turns = λ h part at. (is_play.pasts h part at).turns

    made-now : setting.group.group ≢ 0 → (now : ℕ) (on : List Bool) (other : List ℕ) (befell : List Event) (opened : Opened) → CameAsMade setting config (pasts_at p steps) (Got now on other ∷ befell)
        → verdict setting.group setting.setup (accepted setting befell) other ≡ Ok opened → WasMade (HadGroupTurn turn ∷ before) other
    made-now named now on other befell opened came e = subst (λ (past : List GroupDeed). WasMade past other) last.past_is (made-of named (pasts_at p steps) are_turns now on other befell opened came e)

    pass-of : (pairs : Accepted) (other : List ℕ) (opened : Opened) → (has : Contains turn.made other) → verdict setting.group setting.setup pairs other ≡ Ok opened
        → IsPassOf s has.0 opened.pass × (slice_get (turn_opened config group before input) has.0 ≡ Some opened)
    pass-of pairs other opened has e =
        let at : slice_get turn.made has.0 ≡ Some other = slice_get-get_or turn.made has.0 other has.1 ∙ ap (λ (d : List ℕ). Some d) has.2 in (
          turn-pass laws.turns p k g readers i w is.matched keyed start at_tick true samples earlier has.0 other pairs opened last.of.may at e,
          (opened-at laws.turns config group readers i w is.matched before input pairs has.0 other opened last.of.may at e).0,
        )

    few-made : length turn.made ≤ 1024
    few-made = (holds-tick laws p r i g w ms samples done start pumps own is had took closing g is.there had).few

    now-upto : setting.group.group ≢ 0 → TakesUpTo setting config (pasts_at p steps) secured token (used + 1024)
    now-upto named now on other befell opened came e = by (made-now named now on other befell opened came e)
      where
        by : WasMade (HadGroupTurn turn ∷ before) other → (opened.pass.token < token) ⊎ ((opened.pass.token ≡ token) × (opened.pass.number ≤ used + 1024))
        by (inl has) = let pass = (pass-of (accepted setting befell) other opened has e).0 in let number = pass.number in let below = has.1 in let few = few-made in inr (pass.token, omega (arith, number, below, few))
        by (inr was) = up (under-of (accepted setting befell) other opened (inl was) e)
          where
            up : IsUnder s opened.pass → (opened.pass.token < token) ⊎ ((opened.pass.token ≡ token) × (opened.pass.number ≤ used + 1024))
            up (inl lower) = inl lower
            up (inr same) = let le = same.1 in inr (same.0, omega (arith, le))

    own-acceptable : (pairs : Accepted) (other : List ℕ) (opened : Opened) → WasMade (HadGroupTurn turn ∷ before) other → verdict setting.group setting.setup pairs other ≡ Ok opened
        → is_acceptable setting.setup.keys pairs opened.pass.token opened.pass.number ≡ true
    own-acceptable pairs other opened was e =
        let made : WasMade (pasts_at p steps g) other = subst (λ (past : List GroupDeed). WasMade past other) (sym last.past_is) was in
        sym (ap (λ (b : Bool). not b || is_acceptable setting.setup.keys pairs opened.pass.token opened.pass.number) secured)
        ∙ made-acceptable laws.turns config readers group i w is.matched (pasts_at p steps g) pairs other opened (are_turns g group is_play.there) made e

    -- ---- its parts

    abbrev way : Way
    way = its_way play

    abbrev its_le : 16385 ≤ 65536
    its_le = le laws p r i g w ticked pumps own is closing last took

    abbrev place : ℕ
    place = ClosingGot.place laws.turns play is_play own closing its_le last took

    abbrev first : ℕ
    first = (writer_at group w).first_number

    abbrev its_all : List Opened
    its_all = all laws p r i g w ticked pumps own is closing last took

    abbrev datagram_of : (one : Opened) → Contains its_all one → List ℕ
    datagram_of one has = its_datagram laws p r i g w ticked pumps own is closing last took one has

    module _ (one : Opened) (has : Contains its_all one) where
      abbrev index : ℕ
      index = has.0

      below : index < length turn.made
      below = below-made laws p r i g w ticked pumps own is closing last took one has

      one-pass : IsPassOf s index one.pass
      one-pass = own-pass laws.turns p k g readers i w is.matched keyed start at_tick true samples earlier index one (one-at laws p r i g w ticked pumps own is closing last took one has)

      accepted-by : (pairs : Accepted) → is_acceptable setting.setup.keys pairs token (used + suc index) ≡ true → is_accepted setting.setup pairs one.pass ≡ true
      accepted-by pairs acceptable =
          ap (λ (b : Bool). not b || is_acceptable setting.setup.keys pairs one.pass.token one.pass.number) secured
          ∙ ap (λ (t : ℕ). is_acceptable setting.setup.keys pairs t one.pass.number) one-pass.token
          ∙ ap (λ (n : ℕ). is_acceptable setting.setup.keys pairs token n) one-pass.number ∙ acceptable

      opens-so : (pairs : Accepted) → is_acceptable setting.setup.keys pairs token (used + suc index) ≡ true → verdict setting.group setting.setup pairs (datagram_of one has) ≡ Ok one
      opens-so pairs acceptable = opens laws p r i g w ticked pumps own is closing last took one has pairs (accepted-by pairs acceptable)

      first-accepts : is_accepted setting.setup [] one.pass ≡ true
      first-accepts = on (acceptable-or-had setting.setup.keys [] token 0 (used + suc index) s.keys keys-known tt (omega arith))
        where
          on : (is_acceptable setting.setup.keys [] token (used + suc index) ≡ true) ⊎ HasPair token (used + suc index) [] → is_accepted setting.setup [] one.pass ≡ true
          on (inl acceptable) = accepted-by [] acceptable
          on (inr none) = absurd none

      -- it alone has its number
      own-is : setting.group.group ≢ 0 → (now : ℕ) (on : List Bool) (other : List ℕ) (befell : List Event) (opened : Opened) → CameAsMade setting config (pasts_at p steps) (Got now on other ∷ befell)
          → verdict setting.group setting.setup (accepted setting befell) other ≡ Ok opened → opened.pass.token ≡ token → opened.pass.number ≡ used + suc index → (other ≡ (datagram_of one has)) × (one ≡ opened)
      own-is named now on other befell opened came e its_token its_number = by (made-now named now on other befell opened came e)
        where
          by : WasMade (HadGroupTurn turn ∷ before) other → (other ≡ (datagram_of one has)) × (one ≡ opened)
          by (inl made) =
              let pass = pass-of (accepted setting befell) other opened made e in
              let number = pass.0.number in
              let same : made.0 ≡ index = omega (arith, number, its_number) in
              let here : slice_get its_all index ≡ Some opened = subst (λ (n : ℕ). slice_get its_all n ≡ Some opened) same pass.1 in
              let there : slice_get its_all index ≡ Some one = one-at laws p r i g w ticked pumps own is closing last took one has in
              let opened_is : Path (Option Opened) (Some one) (Some opened) = sym there ∙ here in (
                sym made.2 ∙ ap (λ (n : ℕ). get_or turn.made n other) same ∙ get_or_default turn.made index other [] below,
                cc,
              )
          by (inr was) = up (under-of (accepted setting befell) other opened (inl was) e)
            where
              up : IsUnder s opened.pass → (other ≡ (datagram_of one has)) × (one ≡ opened)
              up (inl lower) = absurd (omega (arith, lower, its_token))
              up (inr upto) = let most = upto.1 in absurd (omega (arith, most, its_number))

      comes : setting.group.group ≢ 0 → Comes setting config (pasts_at p steps) token used index (datagram_of one has)
      comes named = record {
        few = let lt = below in let few = few-made in omega (arith, lt, few);
        upto = now-upto named;
        opened = λ pairs acceptable. (one, opens-so pairs acceptable, one-pass.token, one-pass.number);
        key = s.keys;
        known = keys-known;
      }

    near-own : (n : ℕ) (pairs : Accepted) (other : List ℕ) (opened : Opened) → HasPair token n pairs → WasMade (HadGroupTurn turn ∷ before) other → verdict setting.group setting.setup pairs other ≡ Ok opened
        → (raises pairs opened.pass.token ≡ false) × (opened.pass.number < used + 1 + 16384)
    near-own n pairs other opened had (inl has) e =
        let pass = (pass-of pairs other opened has e).0 in
        let same = pass.token in
        let number = pass.number in
        let below = has.1 in
        let few = few-made in (not-raised pairs token n opened.pass.token had (omega (arith, same)), omega (arith, number, below, few))
    near-own n pairs other opened had (inr was) e = at (own-acceptable pairs other opened (inr was) e) (under-of pairs other opened (inl was) e)
      where
        at : is_acceptable setting.setup.keys pairs opened.pass.token opened.pass.number ≡ true → IsUnder s opened.pass → (raises pairs opened.pass.token ≡ false) × (opened.pass.number < used + 1 + 16384)
        at acceptable (inl lower) = absurd (let least = acceptable-least setting.setup.keys pairs opened.pass.token opened.pass.number token n acceptable had in omega (arith, lower, least))
        at acceptable (inr upto) = let same = upto.0 in let most = upto.1 in (not-raised pairs token n opened.pass.token had (omega (arith, same)), omega (arith, most))

    -- ---- where the read group took its datagrams, and none of a higher token

    abbrev TookAt : List ℕ → Type 0
    TookAt datagram = TookIn p r pumps ticked datagram

    abbrev EachTook : Type 0
    EachTook = EachPart p r i turn.made TookAt

    abbrev LowTokens : Type 0
    LowTokens = (datagram : List ℕ) (t : TookIn p r pumps ticked datagram) (one : Opened) → Contains its_all one → t.opened.pass.token ≤ one.pass.token

    module _ (operational : receives config start r ≡ true) where
      abbrev came-so : (later older : List (List Entry)) (sooner behind : List Entry) (other : List ℕ) → pumps ≡ later ++ (sooner ++ entries_of.Got other ∷ behind) ∷ older
          → CameAsMade setting config (pasts_at p steps) (got_at config r ticked operational older other (so_far config r ticked older sooner))
      came-so = λ later older sooner behind other split.
          came-at config r ticked operational setting (pasts_at p steps) later older sooner behind other (subst (λ (l : List (List Entry)). CameAsMade setting config (pasts_at p steps) (events config r (map Pump l ++ ticked))) split is_play.came)

      opens-there : (older : List (List Entry)) (sooner : List Entry) (other : List ℕ) (opened : Opened) → verdict setting.group setting.setup (accepted setting (so_far config r ticked older sooner)) other ≡ Ok opened
          → verdict setting.group setting.setup (accepted setting (events config r (Pump sooner ∷ map Pump older ++ ticked))) other ≡ Ok opened
      opens-there older sooner other opened e = subst (λ (befell : List Event). verdict setting.group setting.setup (accepted setting befell) other ≡ Ok opened) (sym (pumped config r ticked operational sooner older)) e

      opens-here : (older : List (List Entry)) (sooner : List Entry) (other : List ℕ) (opened : Opened) → verdict setting.group setting.setup (accepted setting (events config r (Pump sooner ∷ map Pump older ++ ticked))) other ≡ Ok opened
          → verdict setting.group setting.setup (accepted setting (so_far config r ticked older sooner)) other ≡ Ok opened
      opens-here older sooner other opened e = subst (λ (befell : List Event). verdict setting.group setting.setup (accepted setting befell) other ≡ Ok opened) (pumped config r ticked operational sooner older) e

      low-token : LowTokens → (one : Opened) → Contains its_all one → (later older : List (List Entry)) (sooner behind : List Entry) (other : List ℕ) (opened : Opened) → pumps ≡ later ++ (sooner ++ entries_of.Got other ∷ behind) ∷ older
          → verdict setting.group setting.setup (accepted setting (so_far config r ticked older sooner)) other ≡ Ok opened → opened.pass.token ≤ token
      low-token tokens one has later older sooner behind other opened split e =
          let low = tokens other (record { later = later; before = older; earlier = sooner; behind = behind; is = split; opened = opened; opens = opens-there older sooner other opened e }) one has in
          let own_token = (one-pass one has).token in
          omega (arith, low, own_token)

      same-opened : (one : Opened) (has : Contains its_all one) (pairs : Accepted) (opened : Opened) → verdict setting.group setting.setup pairs (datagram_of one has) ≡ Ok opened → opened ≡ one
      same-opened one has pairs opened e =
          let here = (pass-of pairs (datagram_of one has) opened (has.0, below one has, get_or_default turn.made has.0 (datagram_of one has) [] (below one has)) e).1 in
          let both : Path (Option Opened) (Some opened) (Some one) = sym here ∙ one-at laws p r i g w ticked pumps own is closing last took one has in
          cc

      taken-at : (one : Opened) (has : Contains its_all one) → TookIn p r pumps ticked (datagram_of one has) → TakenAt config r ticked (datagram_of one has) one pumps
      taken-at one has t =
          let opens = opens-here t.before t.earlier (datagram_of one has) t.opened t.opens in
          record {
            later = t.later;
            before = t.before;
            earlier = t.earlier;
            behind = t.behind;
            is = t.is;
            opens = opens ∙ ap (λ (o : Opened). Ok o) (same-opened one has (accepted setting (so_far config r ticked t.before t.earlier)) t.opened opens);
          }

    -- what a datagram of the turn brings, where it is taken, is so at the end
    module _ (operational : receives config start r ≡ true) (enabled : is_on config start (Reader r i) ≡ true) (tokens : LowTokens) (one : Opened) (has : Contains its_all one) (Q : List Mark → Type 0)
        (begins : (now : ℕ) (on : List Bool) (befell : List Event) → CameAsMade setting config (pasts_at p steps) (Got now on (datagram_of one has) ∷ befell) → verdict setting.group setting.setup (accepted setting befell) (datagram_of one has) ≡ Ok one
        → (raised : Bool) → Q (fold (piece_on way (place_from first) now (Some one.pass.number)) (cut_on raised NewToken (marks setting way befell)) (pieces way.seat.part one.payload)))
        (stays : (now n : ℕ) → n < used + 1 + 16384 → (parts : List Piece) (list : List Mark) → Q list → Q (fold (piece_on way (place_from first) now (Some n)) list parts)) where
      abbrev its_number : ℕ
      its_number = one.pass.number

      abbrev Stays : List Event → Type 0
      Stays befell = HasPair token its_number (accepted setting befell) × Q (marks setting way befell)

      abbrev gets : List (List Entry) → List Bool
      gets earlier_pumps = readers_on config (map Pump earlier_pumps ++ ticked) r

      taken-here : (now : ℕ) (on : List Bool) (befell : List Event) → slice_index_or on i false ≡ true → CameAsMade setting config (pasts_at p steps) (Got now on (datagram_of one has) ∷ befell)
          → verdict setting.group setting.setup (accepted setting befell) (datagram_of one has) ≡ Ok one → Stays (Got now on (datagram_of one has) ∷ befell)
      taken-here now on befell gets_it came e =
          let pairs = accepted setting befell in
          let raised = raises pairs one.pass.token in
          let list = cut_on raised NewToken (marks setting way befell) in (
            subst (λ (a : Result Opened Refusal). HasPair token its_number (accepted_with setting pairs a)) (sym e)
                (subst (HasPair token its_number) (sym (pair-added setting config (pasts_at p steps) secured pairs one)) (inl ((one-pass one has).token, refl))),
            subst (λ (a : Result Opened Refusal). Q (taken_in setting way now (slice_index_or on i false) pairs (marks setting way befell) a)) (sym e)
                (subst Q
                (sym (taken-signed setting way first now (slice_index_or on i false) pairs (marks setting way befell) one secured (λ t n. refl)
                ∙ ap (λ (b : Bool). fold (piece_on way (place_from first) now (Some its_number)) list (if b then pieces way.seat.part one.payload else [])) gets_it))
                (begins now on befell came e raised)),
          )

      stays-taken : (now : ℕ) (on : List Bool) (other : List ℕ) (befell : List Event) (opened : Opened) → CameAsMade setting config (pasts_at p steps) (Got now on other ∷ befell) → verdict setting.group setting.setup (accepted setting befell) other ≡ Ok opened
          → opened.pass.token ≤ token → Stays befell
          → Q (fold (piece_on way (place_from first) now (Some opened.pass.number)) (cut_on (raises (accepted setting befell) opened.pass.token) NewToken (marks setting way befell)) (if slice_index_or on i false then pieces way.seat.part opened.payload else []))
      stays-taken now on other befell opened came e low h = at (own-or-other laws p r i g w ticked pumps own is closing last took now on other befell opened came e)
        where
          pairs : Accepted
          pairs = accepted setting befell

          on_parts : Bool → List Piece → List Mark
          on_parts raised parts = fold (piece_on way (place_from first) now (Some opened.pass.number)) (cut_on raised NewToken (marks setting way befell)) (if slice_index_or on i false then parts else [])

          none-both : (b : Bool) → Path (List Piece) (if b then [] else []) []
          none-both true = refl
          none-both false = refl

          at : WasMade (HadGroupTurn turn ∷ before) other ⊎ (pieces way.seat.part opened.payload ≡ []) → Q (on_parts (raises pairs opened.pass.token) (pieces way.seat.part opened.payload))
          at (inl was) =
              let near = near-own its_number pairs other opened h.0 was e in
              subst (λ (b : Bool). Q (on_parts b (pieces way.seat.part opened.payload))) (sym near.0)
              (stays now opened.pass.number near.1 (if slice_index_or on i false then pieces way.seat.part opened.payload else []) (marks setting way befell) h.1)
          at (inr none) =
              let raised : raises pairs opened.pass.token ≡ false = not-raised pairs token its_number opened.pass.token h.0 low in
              subst (λ (parts : List Piece). Q (on_parts (raises pairs opened.pass.token) parts)) (sym none)
              (subst (λ (b : Bool). Q (on_parts b [])) (sym raised)
              (subst (λ (parts : List Piece). Q (fold (piece_on way (place_from first) now (Some opened.pass.number)) (marks setting way befell) parts)) (sym (none-both (slice_index_or on i false))) h.1))

      stays-answer : (now : ℕ) (on : List Bool) (other : List ℕ) (befell : List Event) (answer : Result Opened Refusal) → CameAsMade setting config (pasts_at p steps) (Got now on other ∷ befell)
          → verdict setting.group setting.setup (accepted setting befell) other ≡ answer → ((opened : Opened) → answer ≡ Ok opened → opened.pass.token ≤ token) → Stays befell
          → HasPair token its_number (accepted_with setting (accepted setting befell) answer) × Q (taken_in setting way now (slice_index_or on i false) (accepted setting befell) (marks setting way befell) answer)
      stays-answer now on other befell (Err refusal) came e low h = h
      stays-answer now on other befell (Ok opened) came e low h = (
        subst (HasPair token its_number) (sym (pair-added setting config (pasts_at p steps) secured (accepted setting befell) opened)) (inr h.0),
        subst Q (sym (taken-signed setting way first now (slice_index_or on i false) (accepted setting befell) (marks setting way befell) opened secured (λ t n. refl)))
            (stays-taken now on other befell opened came e (low opened refl) h),
      )

      kept-to-end : TookIn p r pumps ticked (datagram_of one has) → Q (marks setting way (events config r steps))
      kept-to-end it =
          let t = taken-at operational one has it in
          (kept-from config r ticked operational pumps Stays
          (λ later older sooner behind other split h.
          let befell = so_far config r ticked older sooner in
          stays-answer (moment_of (map Pump older ++ ticked)) (gets older) other befell (verdict setting.group setting.setup (accepted setting befell) other) (came-so operational later older sooner behind other split) refl
          (λ opened judged. low-token operational tokens one has later older sooner behind other opened split judged) h)
          t.later t.before t.earlier t.behind (datagram_of one has) t.is
          (taken-here (moment_of (map Pump t.before ++ ticked)) (gets t.before) (so_far config r ticked t.before t.earlier) (enabled-behind config r i t.before ticked is.matched.within enabled)
          (came-so operational t.later t.before t.earlier t.behind (datagram_of one has) t.is) t.opens)).1

    -- where it stands in the list
    stood-came : way.seat.part.numbering ≡ words.Message → StandsFrom (used + 1) place (marks setting way (events config r steps)) → ClosingCame p r i g w steps (writer_past w before) own
    stood-came numbered stands =
        let item = item-from (used + 1) place (since_cut (arrivals_at config r i (first_number_of config g w) steps)) stands in
        record {
          numbered = numbered;
          last = ap (writer_past w) last.past_is ∙ ap (λ (o : Option WriterTurn). cons_option (option_map HadTurn o) (writer_past w before)) took;
          closing = closing;
          came = record { item = item.0; came = item.1; stands = item.2 };
        }

    -- ---- to a reader that goes by numbers, in chunks

    module _ (chunks : InChunks laws.turns play is_play own closing its_le last took) where
      abbrev frame : Frame
      frame = ClosingGot.frame laws.turns play is_play own closing its_le last took

      abbrev bytes : ℕ → List ℕ
      bytes = ClosingGot.bytes laws.turns play is_play own closing its_le last took

      abbrev given : PlacedFrame
      given = placed_cut way.seat.meta (Whole place own.row)

      abbrev next : ℕ
      next = next_place (settings_at group w) (its_answers play)

      abbrev the_cuts : List Chunk
      the_cuts = its_cuts laws p r i g w ticked pumps own is closing last took first-accepts chunks

      abbrev total : ℕ
      total = its_total laws p r i g w ticked pumps own is closing last took first-accepts chunks

      abbrev its_some : 0 < total
      its_some = some-bytes laws p r i g w ticked pumps own is closing last took first-accepts chunks

      abbrev parts_of : Opened → List Piece
      parts_of o = pieces way.seat.part o.payload

      abbrev Steps : ℕ → List Bool → List Event → Opened → Type 0
      Steps now on befell opened = IsStep setting config (pasts_at p steps) way first place total token used secured its_some (λ t n. refl) now on befell opened

      abbrev EachStep : Type 0
      EachStep = TakesSteps setting config (pasts_at p steps) way first place total token used secured its_some (λ t n. refl)

      is-closing : (befell : List Event) (other : List ℕ) (opened : Opened) → verdict setting.group setting.setup (accepted setting befell) other ≡ Ok opened → Contains turn.made other
          → IsClosing setting config (pasts_at p steps) way first place total token used secured its_some (λ t n. refl) opened
      is-closing befell other opened e has = let pass = (pass-of (accepted setting befell) other opened has e).0 in let number = pass.number in record { token_is = pass.token; above = omega (arith, number) }

      -- by numbers the frame stands where its last chunk makes it whole
      closing-covers : way.seat.part.numbering ≡ words.Message → (now : ℕ) (on : List Bool) (other : List ℕ) (befell : List Event) (opened : Opened) → CameAsMade setting config (pasts_at p steps) (Got now on other ∷ befell)
          → (raised : Bool) → used + 1 ≤ opened.pass.number → opened.pass.number < used + 1 + 16384
          → (cover (chunks_in (cut_on raised NewToken (marks setting way befell))) place total ≡ true → StandsFrom (used + 1) place (cut_on raised NewToken (marks setting way befell))) → verdict setting.group setting.setup (accepted setting befell) other ≡ Ok opened
          → (let list = fold (piece_on way (place_from first) now (Some opened.pass.number)) (cut_on raised NewToken (marks setting way befell)) (if slice_index_or on i false then parts_of opened else []) in
          cover (chunks_in list) place total ≡ true → StandsFrom (used + 1) place list)
      closing-covers numbered now on other befell opened came raised above near h e =
          let enabled = slice_index_or on i false in
          let of_piece = IsPieceOf (IsOfAnswer way.seat.meta (its_answers play)) (IsChunkOf way.seat.meta (its_answers play) bytes) way.seat.meta in
          covered-parts way.seat.part.numbering way (its_answers play) bytes first next place (source laws.turns 16385 play its_le is_play) (is-last laws.turns play is_play own closing its_le last took) frame given (gives laws.turns play is_play own closing its_le last took numbered) now (Some opened.pass.number) (StandsFrom (used + 1) place)
          (λ list f stands. (from-kept (used + 1) place way now opened.pass.number near).item list f stands) (λ list c stands. stands) (λ list. from-new (used + 1) place way now opened.pass.number list given refl above)
          (read-is laws p r i g w ticked pumps own is closing last took first-accepts chunks)
          (sent-kept way.seat.part.numbering way (its_answers play) bytes first next now (Some opened.pass.number) refl (source laws.turns 16385 play its_le is_play)) (if enabled then parts_of opened else []) (cut_on raised NewToken (marks setting way befell))
          (all-on of_piece enabled (parts_of opened) (parts-sent laws.turns 16385 play its_le is_play now on other befell opened came e)) (sent-list laws p r i g w ticked pumps own is closing last took first-accepts chunks raised befell came.1) h

      older-step : (now : ℕ) (on : List Bool) (other : List ℕ) (befell : List Event) (opened : Opened) → CameAsMade setting config (pasts_at p steps) (Got now on other ∷ befell) → verdict setting.group setting.setup (accepted setting befell) other ≡ Ok opened
          → WasMade before other → IsOlder setting config (pasts_at p steps) way first place total token used secured its_some (λ t n. refl) now on befell opened
      older-step now on other befell opened came e was =
          record {
            near = λ any. near-own any.0 (accepted setting befell) other opened any.2 (inr was) e;
            same = older-same laws p r i g w ticked pumps own is closing last took first-accepts chunks now on (Some opened.pass.number) other befell opened e was;
          }

      own-step : (now : ℕ) (on : List Bool) (other : List ℕ) (befell : List Event) (opened : Opened) → CameAsMade setting config (pasts_at p steps) (Got now on other ∷ befell) → verdict setting.group setting.setup (accepted setting befell) other ≡ Ok opened
          → WasMade (HadGroupTurn turn ∷ before) other → Steps now on befell opened
      own-step now on other befell opened came e (inl has) = inl (is-closing befell other opened e has)
      own-step now on other befell opened came e (inr was) = inr (inl (older-step now on other befell opened came e was))

      each-step-any : EachStep
      each-step-any now on other befell opened came e = by (own-or-other laws p r i g w ticked pumps own is closing last took now on other befell opened came e)
        where
          by : WasMade (HadGroupTurn turn ∷ before) other ⊎ (pieces way.seat.part opened.payload ≡ []) → Steps now on befell opened
          by (inl own) = own-step now on other befell opened came e own
          by (inr none) = inr (inr (none-either (slice_index_or on i false) (pieces way.seat.part opened.payload) none))

      covered-came : way.seat.part.numbering ≡ words.Message → ((c : Chunk) → Contains the_cuts c → Lies (placed (place_from first) c) (marks setting way (events config r steps))) → ClosingCame p r i g w steps (writer_past w before) own
      covered-came numbered lies =
          stood-came numbered
          (covered-all setting config (pasts_at p steps) way first place total token used secured its_some (λ t n. refl) each-step-any (StandsFrom (used + 1) place)
          (λ now n near parts list h. from-parts (used + 1) place way (place_from first) now n near parts list h)
          (λ now on other befell opened came e its raised h. covers-by now on other befell opened came e its raised h (own-or-other laws p r i g w ticked pumps own is closing last took now on other befell opened came e)) (events config r steps) is_play.restarts is_play.came (all-covered laws p r i g w ticked pumps own is closing last took first-accepts chunks lies))
        where
          covers-by : (now : ℕ) (on : List Bool) (other : List ℕ) (befell : List Event) (opened : Opened) → CameAsMade setting config (pasts_at p steps) (Got now on other ∷ befell) → verdict setting.group setting.setup (accepted setting befell) other ≡ Ok opened
              → IsClosing setting config (pasts_at p steps) way first place total token used secured its_some (λ t n. refl) opened → (raised : Bool)
              → (cover (chunks_in (cut_on raised NewToken (marks setting way befell))) place total ≡ true → StandsFrom (used + 1) place (cut_on raised NewToken (marks setting way befell)))
              → WasMade (HadGroupTurn turn ∷ before) other ⊎ (parts_of opened ≡ [])
              → (let list = fold (piece_on way (place_from first) now (Some opened.pass.number)) (cut_on raised NewToken (marks setting way befell)) (if slice_index_or on i false then parts_of opened else []) in
              cover (chunks_in list) place total ≡ true → StandsFrom (used + 1) place list)
          covers-by now on other befell opened came e its raised h (inl (inl has)) =
              let pass = (pass-of (accepted setting befell) other opened has e).0 in
              let number = pass.number in
              let below = has.1 in
              let few = few-made in
              closing-covers numbered now on other befell opened came raised (omega (arith, number)) (omega (arith, number, below, few)) h e
          covers-by now on other befell opened came e its raised h (inl (inr was)) =
              absurd (let above = its.above in let same = its.token_is in late (under-of (accepted setting befell) other opened (inl was) e) above same)
            where
              late : IsUnder s opened.pass → used < opened.pass.number → opened.pass.token ≡ token → ⊥
              late (inl lower) above same = absurd (omega (arith, lower, same))
              late (inr upto) above same = let most = upto.1 in absurd (omega (arith, most, above))
          covers-by now on other befell opened came e its raised h (inr none) =
              subst (λ (parts : List Piece). cover (chunks_in (fold (piece_on way (place_from first) now (Some opened.pass.number)) (cut_on raised NewToken (marks setting way befell)) parts)) place total ≡ true
              → StandsFrom (used + 1) place (fold (piece_on way (place_from first) now (Some opened.pass.number)) (cut_on raised NewToken (marks setting way befell)) parts)) (sym (none-either (slice_index_or on i false) (parts_of opened) none)) h

      module _ (operational : receives config start r ≡ true) (enabled : is_on config start (Reader r i) ≡ true) (tokens : LowTokens) (came : EachTook) where
        lies-took : (c : Chunk) (has : Contains the_cuts c) → Lies (placed (place_from first) c) (marks setting way (events config r steps))
        lies-took c has =
            let found = found_c laws p r i g w ticked pumps own is closing last took first-accepts chunks c has in
            let one = found.0 in
            let at = found.1 in
            kept-to-end operational enabled tokens one at (Lies (placed (place_from first) c))
            (λ now on befell so_far e raised. lays laws p r i g w ticked pumps own is closing last took first-accepts chunks c has now on (Some one.pass.number) raised befell so_far e)
            (λ now n near parts list h. lies-parts (placed (place_from first) c) way (place_from first) now (Some n) parts list h)
            (came (datagram_of one at) (made-one laws p r i g w ticked pumps own is closing last took one at) (has-part-c laws p r i g w ticked pumps own is closing last took first-accepts chunks c has))

        chunks-took : way.seat.part.numbering ≡ words.Message → ClosingCame p r i g w steps (writer_past w before) own
        chunks-took numbered = covered-came numbered lies-took

    -- ---- and in one part

    module _ (part : OnePart laws.turns play is_play own closing its_le last took) (numbered : way.seat.part.numbering ≡ words.Message) (operational : receives config start r ≡ true) (enabled : is_on config start (Reader r i) ≡ true)
        (tokens : LowTokens) (came : EachTook) where
      abbrev found_one : (o : Opened) × Contains its_all o × Contains (pieces way.seat.part o.payload) part.piece
      found_one = in-flat (λ (o : Opened). pieces way.seat.part o.payload) its_all part.piece (subst (λ (l : List Piece). Contains l part.piece) (sym part.same) (0, omega arith, refl))

      one-took : ClosingCame p r i g w steps (writer_past w before) own
      one-took =
          let one = found_one.0 in
          let at = found_one.1 in
          let pass = one-pass one at in
          let number = pass.number in
          let below = below one at in
          let few = few-made in
          stood-came numbered
          (kept-to-end operational enabled tokens one at (StandsFrom (used + 1) place)
          (λ now on befell so_far e raised.
          from-among (used + 1) place way (place_from first) now one.pass.number (omega (arith, number, below, few)) part.piece
          (λ list.
          subst (StandsFrom (used + 1) place)
          (sym (part.reads_as now (Some one.pass.number) list ∙ ap (item_on way now (Some one.pass.number) list) (gives laws.turns play is_play own closing its_le last took numbered)))
          (from-new (used + 1) place way now one.pass.number list (placed_cut way.seat.meta (Whole place own.row)) refl (omega (arith, number))))
          (pieces way.seat.part one.payload) (cut_on raised NewToken (marks setting way befell)) found_one.2)
          (λ now n near parts list h. from-parts (used + 1) place way (place_from first) now n near parts list h)
          (came (datagram_of one at) (made-one laws p r i g w ticked pumps own is closing last took one at)
          (has-part laws p r i g w ticked pumps own is closing last took one at (first-accepts one at) (not-empty (pieces way.seat.part one.payload) part.piece found_one.2))))

    abbrev its_case : OnePart laws.turns play is_play own closing its_le last took ⊎ InChunks laws.turns play is_play own closing its_le last took
    its_case = part-case laws.turns play is_play own closing its_le last took group.layout refl

    pub closing-took : way.seat.part.numbering ≡ words.Message → receives config start r ≡ true → is_on config start (Reader r i) ≡ true → LowTokens → EachTook → ClosingCame p r i g w steps (writer_past w before) own
    closing-took numbered operational enabled tokens came = by its_case
      where
        by : OnePart laws.turns play is_play own closing its_le last took ⊎ InChunks laws.turns play is_play own closing its_le last took → ClosingCame p r i g w steps (writer_past w before) own
        by (inl part) = one-took part numbered operational enabled tokens came
        by (inr chunks) = chunks-took chunks operational enabled tokens came numbered

    -- ---- to a reader with no numbering

    -- a datagram of the turn was accepted
    abbrev HasOne : List Event → Type 0
    HasOne befell = (one : Opened) × Contains its_all one × HasPair token one.pass.number (accepted setting befell)

    abbrev QuietOnceTook : Type 0
    QuietOnceTook = NoOtherOnceAll p r i g w pumps ticked (λ list. EachPart p r i turn.made (TookIn p r list ticked)) (row_cut (meta_of p r i) own.row)

    pairs-stay : (n : ℕ) (pairs : Accepted) (answer : Result Opened Refusal) → HasPair token n pairs → HasPair token n (accepted_with setting pairs answer)
    pairs-stay n pairs (Err refusal) had = had
    pairs-stay n pairs (Ok opened) had = subst (HasPair token n) (sym (pair-added setting config (pasts_at p steps) secured pairs opened)) (inr had)

    takes-all : IsBare p r i → (operational : receives config start r ≡ true) → is_on config start (Reader r i) ≡ true → LowTokens → EachTook → TakesAll laws p r i g w ticked pumps own is closing last took HasOne
    takes-all bare operational enabled tokens came = record {
      bare = bare;
      operational = operational;
      enabled = enabled;
      stays = record {
        keeps = λ now on other befell had. (had.0, had.1, pairs-stay had.0.pass.number (accepted setting befell) (verdict setting.group setting.setup (accepted setting befell) other) had.2);
        quiet = λ later older sooner behind other opened split had e.
            let pairs = accepted setting (so_far config r ticked older sooner) in
            late-none (is_secured setting.setup.mode) (raises pairs opened.pass.token)
            (not-raised pairs token had.0.pass.number opened.pass.token had.2 (low-token operational tokens had.0 had.1 later older sooner behind other opened split e));
      };
      first_accepts = first-accepts;
      taken = λ one has part. taken-at operational one has (came (datagram_of one has) (made-one laws p r i g w ticked pumps own is closing last took one has) part);
      begins = λ one has now on befell e.
          let pairs = accepted setting befell in (
            one,
            has,
            subst (λ (a : Result Opened Refusal). HasPair token one.pass.number (accepted_with setting pairs a)) (sym e)
                (subst (HasPair token one.pass.number) (sym (pair-added setting config (pasts_at p steps) secured pairs one)) (inl ((one-pass one has).token, refl))),
          );
    }

    quiet-taken : (operational : receives config start r ≡ true) → QuietOnceTook → QuietOnceTaken laws p r i g w ticked pumps own is closing last took
    quiet-taken operational quiet later older sooner behind split taken =
        quiet later older sooner behind split
        (λ datagram made part.
        let found = found-own laws p r i g w ticked pumps own is closing last took [] datagram part.opened made part.opens in
        let at = taken part.opened found.0 part.part in
        subst (TookIn p r (sooner ∷ older) ticked) found.1
        (record {
          later = at.later;
          before = at.before;
          earlier = at.earlier;
          behind = at.behind;
          is = at.is;
          opened = part.opened;
          opens = opens-there operational at.before at.earlier (datagram_of part.opened found.0) part.opened at.opens;
        }))

    pub closing-took-last : IsBare p r i → receives config start r ≡ true → is_on config start (Reader r i) ≡ true → LowTokens → EachTook → QuietOnceTook → ClosingCameLast p r i g w steps (writer_past w before) own
    closing-took-last bare operational enabled tokens came quiet = by its_case
      where
        takes : TakesAll laws p r i g w ticked pumps own is closing last took HasOne
        takes = takes-all bare operational enabled tokens came

        once : QuietOnceTaken laws p r i g w ticked pumps own is closing last took
        once = quiet-taken operational quiet

        by : OnePart laws.turns play is_play own closing its_le last took ⊎ InChunks laws.turns play is_play own closing its_le last took → ClosingCameLast p r i g w steps (writer_past w before) own
        by (inl part) =
            part-last laws p r i g w ticked pumps own is closing last took HasOne takes part
            (λ one has some its. quiet-all laws p r i g w ticked pumps own is closing last took once part one has some (takes.taken one has its))
        by (inr chunks) =
            chunks-last laws p r i g w ticked pumps own is closing last took HasOne takes chunks (new-first laws p r i g w ms samples done start pumps own is had took closing first-accepts chunks) once

    -- ---- a read group that names the group takes what comes, and none of a higher token

    module _ (named : setting.group.group ≢ 0) (operational : receives config start r ≡ true) where
      pub named-tokens : LowTokens
      named-tokens other t one has =
          let e = opens-here operational t.before t.earlier other t.opened t.opens in
          let steps_before = map Pump t.before ++ ticked in
          let own_token = (one-pass one has).token in
          by own_token (now-upto named (moment_of steps_before) (readers_on config steps_before r) other (so_far config r ticked t.before t.earlier) t.opened (came-so operational t.later t.before t.earlier t.behind other t.is) e)
        where
          by : one.pass.token ≡ token → (t.opened.pass.token < token) ⊎ ((t.opened.pass.token ≡ token) × (t.opened.pass.number ≤ used + 1024)) → t.opened.pass.token ≤ one.pass.token
          by same (inl lower) = omega (arith, lower, same)
          by same (inr upto) = let equal = upto.0 in omega (arith, equal, same)

      module _ (enabled : is_on config start (Reader r i) ≡ true) where
        took-one : (one : Opened) (has : Contains its_all one) → CameIn pumps (datagram_of one has) → TookAt (datagram_of one has)
        took-one one has came =
            let number = used + suc has.0 in
            let its_comes = comes one has named in
            let had = brought-by-pumps setting config (pasts_at p steps) i (datagram_of one has) (λ befell. HasPair token number (accepted setting befell))
            (had-brought setting config (pasts_at p steps) token used has.0 (datagram_of one has) its_comes secured i) r pumps ticked came operational is.matched.within enabled is_play.came in
            by (trace-pumps config r ticked (datagram_of one has) one (pasts_at p steps) token number secured (own-is one has named) pumps is_play.came had)
          where
            by : HasPair token (used + suc has.0) (accepted setting (events config r ticked)) ⊎ TakenAt config r ticked (datagram_of one has) one pumps → TookAt (datagram_of one has)
            by (inl old) = absurd (none-before named (used + suc has.0) (omega arith) old)
            by (inr t) = record { later = t.later; before = t.before; earlier = t.earlier; behind = t.behind; is = t.is; opened = one; opens = opens-there operational t.before t.earlier (datagram_of one has) one t.opens }

        pub named-took : (datagram : List ℕ) → Contains turn.made datagram → HasPartFor setting i datagram → CameIn pumps datagram → TookAt datagram
        named-took datagram made part came =
            let found = found-own laws p r i g w ticked pumps own is closing last took [] datagram part.opened made part.opens in
            subst TookAt found.1 (took-one part.opened found.0 (subst (λ (d : List ℕ). CameIn pumps d) (sym found.1) came))

  pub keyed-is : (k : ℕ) × (group.keygroup ≡ Some k)
  keyed-is = some-of group.keygroup (sym (at-sound config g group is.plan.good.sound is_play.there).keys.keyed ∙ group-secured)

-- ---- so it is held

module _ (laws : Laws) (p : Plan) (r i g w : ℕ) (list : List Step) (own : WriterTurn) (is : InSession p r i g w list) (t : ClosesInTick p r i g w list own) (secured : is_secured (setting_of p.config r).setup.mode ≡ true) where
  abbrev ended : List Step
  ended = map Pump t.ends.pumps ++ ticked_in t

  abbrev here : InSession p r i g w ended
  here = subst (InSession p r i g w) t.ends.split is

  abbrev keyed : (k : ℕ) × ((group_at p.config g).keygroup ≡ Some k)
  keyed = keyed-is laws p r i g w t.ms t.samples t.done t.start t.ends.pumps own here t.had t.ends.took t.ends.closing secured

  abbrev past : List WriterDeed
  past = writer_past w (group_past p.config g (closing_deeds p t.start t.ms t.samples g))

  abbrev Took : List ℕ → Type 0
  Took datagram = TookIn p r t.ends.pumps (ticked_in t) datagram

  came-taken : (seat_at (setting_of p.config r).seats i).part.numbering ≡ words.Message → NoHigherToken t → EachPart p r i (made_in t) Took → ClosingCame p r i g w ended past own
  came-taken numbered tokens came =
      closing-took laws p r i g w t.ms t.samples t.done t.start t.ends.pumps own here t.had t.ends.took t.ends.closing secured keyed.0 keyed.1 numbered t.ends.operational t.ends.enabled tokens came

  last-taken : IsBare p r i → NoHigherToken t → AllTook t t.ends.pumps → QuietOnce t (AllTook t) → ClosingCameLast p r i g w ended past own
  last-taken bare tokens came quiet =
      closing-took-last laws p r i g w t.ms t.samples t.done t.start t.ends.pumps own here t.had t.ends.took t.ends.closing secured keyed.0 keyed.1 bare t.ends.operational t.ends.enabled tokens came quiet

  module _ (named : (setting_of p.config r).group.group ≢ 0) where
    low-tokens : NoHigherToken t
    low-tokens = named-tokens laws p r i g w t.ms t.samples t.done t.start t.ends.pumps own here t.had t.ends.took t.ends.closing secured keyed.0 keyed.1 named t.ends.operational

    took-come : (datagram : List ℕ) → Contains (made_in t) datagram → HasPartFor (setting_of p.config r) i datagram → CameIn t.ends.pumps datagram → Took datagram
    took-come = named-took laws p r i g w t.ms t.samples t.done t.start t.ends.pumps own here t.had t.ends.took t.ends.closing secured keyed.0 keyed.1 named t.ends.operational t.ends.enabled

pub took-held : Laws → HeldLaw → (p : Plan) (r i g w : ℕ) (list : List Step) (rows : ℕ → ℕ → List DataValue) (own : WriterTurn) → InSession p r i g w list → AreVersions p list rows → ClosingTook p r i g w list own
    → HoldsClosing p r i g w list rows own.version
took-held laws held p r i g w list rows own is versions c =
    let t = c.tick in
    let its_past = past laws p r i g w list own is t c.secured in
    held p r i g w list rows its_past own is versions
    (subst (λ (l : List Step). ClosingCame p r i g w l its_past own) (sym t.ends.split) (came-taken laws p r i g w list own is t c.secured c.numbered c.tokens c.came))

pub secured-held : Laws → HeldLaw → (p : Plan) (r i g w : ℕ) (list : List Step) (rows : ℕ → ℕ → List DataValue) (own : WriterTurn) → InSession p r i g w list → AreVersions p list rows → ClosingGotSecured p r i g w list own
    → HoldsClosing p r i g w list rows own.version
secured-held laws held p r i g w list rows own is versions c =
    took-held laws held p r i g w list rows own is versions
    (record {
      numbered = c.numbered;
      secured = c.secured;
      tick = c.tick;
      came = λ datagram made part. took-come laws p r i g w list own is c.tick c.secured c.named datagram made part (c.came datagram made part);
      tokens = low-tokens laws p r i g w list own is c.tick c.secured c.named;
    })

pub took-last-held : Laws → LastHeldLaw → (p : Plan) (r i g w : ℕ) (list : List Step) (rows : ℕ → ℕ → List DataValue) (own : WriterTurn) → InSession p r i g w list → AreVersions p list rows → ClosingTookLast p r i g w list own
    → HoldsClosingRow p r i g w list rows own.version
took-last-held laws held p r i g w list rows own is versions c =
    let t = c.tick in
    let its_past = past laws p r i g w list own is t c.secured in
    held p r i g w list rows its_past own is versions
    (subst (λ (l : List Step). ClosingCameLast p r i g w l its_past own) (sym t.ends.split) (last-taken laws p r i g w list own is t c.secured c.bare c.tokens c.took c.quiet))

-- what it took came
took-came : (p : Plan) (r : ℕ) (pumps : List (List Entry)) (start : List Step) (datagram : List ℕ) → TookIn p r pumps start datagram → CameIn pumps datagram
took-came p r pumps start datagram t = subst (λ (l : List (List Entry)). CameIn l datagram) (sym t.is) (came-between t.later t.before t.earlier t.behind datagram)

-- not secured, or naming the group
pub since-last-held : Laws → LastHeldLaw → (p : Plan) (r i g w : ℕ) (list : List Step) (rows : ℕ → ℕ → List DataValue) (own : WriterTurn) → InSession p r i g w list → AreVersions p list rows → ClosingGotSinceLast p r i g w list own
    → HoldsClosingRow p r i g w list rows own.version
since-last-held laws held p r i g w list rows own is versions c = on (is_secured (setting_of p.config r).setup.mode) refl c.unsecured_or_named
  where
    on : (b : Bool) → is_secured (setting_of p.config r).setup.mode ≡ b → (is_secured (setting_of p.config r).setup.mode ≡ false) ⊎ ((setting_of p.config r).group.group ≢ 0) → HoldsClosingRow p r i g w list rows own.version
    on false unsecured either = unsecured-last-held laws held p r i g w list rows own is versions c unsecured
    on true secured (inl unsecured) = absurd (let wrong : false ≡ true = sym unsecured ∙ secured in cc)
    on true secured (inr named) =
        took-last-held laws held p r i g w list rows own is versions
        (record {
          bare = c.bare;
          secured = secured;
          tick = c.tick;
          took = λ datagram made part. took-come laws p r i g w list own is c.tick secured named datagram made part (c.came datagram made part);
          tokens = low-tokens laws p r i g w list own is c.tick secured named;
          quiet = λ later before first behind split took. c.quiet later before first behind split (λ datagram made part. took-came p r (first ∷ before) (ticked_in c.tick) datagram (took datagram made part));
        })
