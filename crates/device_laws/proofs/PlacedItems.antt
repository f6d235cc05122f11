-- What comes to a matched reader is what its writer answered, however many turns it had: the numbers of each datagram stand for places from its answer's on.
use Rattle.std.proofs.Common.{◌≡◌, refl, sym, ap, ◌∙◌, subst, arith, ℕ, zero, suc, Bool, List, [], ◌∷◌, inl, inr, Option, Some, None, All, Contains, eq-eqb}
use Rattle.std.specs.Prelude.{⊤, true, false, ◌⊎◌, ◌++◌, ◌==◌, slice_get, slice_index_or, Result, Ok, Err, if◌then◌else◌}
use Rattle.std.proofs.lemmas.List.Elements.{All-nil, All-weaker}
use Rattle.std.proofs.lemmas.Option.{get_or_from_slice_get, slice_get-get_or, slice_get_within}
use Rattle.seq_number.specs.Numbers.{number_of_place, place_from}
use Rattle.seq_number.proofs.NumberLaws.{place_from-number}
use Rattle.dataset_meta.specs.Metas.{MetaData}
use Rattle.pubsub_model.specs.declared.reading.Why.{Why}
use Rattle.pubsub_model.specs.declared.reading.Why.TheVariants.{NewToken, Restarted, Timeout}
use Rattle.pubsub_model.specs.Answers.{InSpan, IsAnswer}
use Rattle.pubsub_model.specs.Cadence.{Answered}
use Rattle.pubsub_model.specs.Frames.{Alive, Change, IsPlacedFrame, PlacedFrame, Whole, place_of}
use Rattle.pubsub_model.proofs.AnswerPlaces.{answers-span}
use Rattle.pubsub_model.specs.Records.{Cut}
use Rattle.message_guard.specs.Acceptance.{Accepted}
use Rattle.config_tables.specs.declared.words.Layout.{Layout}
use Rattle.config_tables.specs.declared.words.Layout.TheVariants as layouts
use Rattle.ps_config.specs.declared.parts.Config.{Config}
use Rattle.ps_config.specs.declared.parts.GroupPart.{GroupPart}
use Rattle.ps_config.specs.declared.parts.ReadGroupPart.{ReadGroupPart}
use Rattle.ps_config.specs.Sound.{IsSound}
use Rattle.reader_group.specs.Arrivals.{Arrived, Mark, Way, accepted, arrivals_in, cut_on, runs_out, taken_in}
use Rattle.reader_group.specs.Members.{Seat, seat_at}
use Rattle.reader_group.specs.Opening.{Opened, verdict}
use Rattle.reader_group.specs.Payloads.{pieces}
use Rattle.reader_group.specs.Plain.{Event, Expired, Got, Setting, Stopped, is_raised, stamp_by}
use Rattle.reader_group.specs.Settings.{setting_by}
use Rattle.reader_group.specs.declared.refusal.Refusal.{Refusal}
use Rattle.reader_group.proofs.KeptParts.{Keep, keep-parts}
use Rattle.writer_group.specs.Payloads.{meta_at}
use Rattle.writer_group.specs.Turns.{GroupDeed, GroupTurn, HadGroupTurn, RefreshedWriter, answer_by, turn_datagrams, writer_past}
use Rattle.group_laws.specs.Matching.{IsMatchedTo, ReadsFrames}
use Rattle.group_laws.specs.TurnOpened.{turn_opened}
use Rattle.group_laws.specs.TurnReading.{IsPartBy}
use Rattle.session_laws.specs.Below.{TurnLaws}
use Rattle.session_laws.specs.Pasts.{AreTurns, CameAsMade, IsMade, IsPast, IsTurn, WasMade, answered_by, settings_at}
use Rattle.session_laws.proofs.HeldRows.Marks.{all-on, sent-cut}
use Rattle.session_laws.proofs.HeldRows.Pieces.{opened-at, own-or-none}
use Rattle.session_laws.proofs.Versions.Answering.{answer-now, answer-stays, refresh-same, spelled-now, spelled-stays, spelled_at}
use Rattle.turn_laws.proofs.Contents.{AreSentMarks, AreSentPieces, IsSentChunk, IsSentFrame, IsSentPiece, Sending, marks-kept, piece-sent, pieces-stay}
use Rattle.device_laws.specs.Placed.{ComesPlaced, placed_from}
use Rattle.device_laws.proofs.SentSince.{AreSentSince, cut-since, none-since, since-kept}

-- each datagram of these events that the read group took was made by a group; of those before them nothing is asked
abbrev pub CameSince : Setting → Config → (ℕ → List GroupDeed) → List Event → List Event → Type 0
CameSince setting config pasts [] before = ⊤
CameSince setting config pasts (Got now on datagram ∷ more) before =
    ((opened : Opened) → verdict setting.group setting.setup (accepted setting (more ++ before)) datagram ≡ Ok opened → IsMade config pasts datagram) × CameSince setting config pasts more before
CameSince setting config pasts (Expired now ∷ more) before = CameSince setting config pasts more before
CameSince setting config pasts (Stopped reader why ∷ more) before = CameSince setting config pasts more before

-- a keep-alive tells of a place above some
good-span : (first next : ℕ) (frame : PlacedFrame) → InSpan first next frame → IsPlacedFrame frame
good-span first next (Whole place row) span = tt
good-span first next (Change place patch) span = tt
good-span first next (Alive n) span = let low = span.0 in omega (arith, low)

pair-place : (a n p q : ℕ) → Path (ℕ × ℕ) (a, p) (n, q) → q ≡ p
pair-place a n p q e = sym (ap (λ (x : ℕ × ℕ). x.1) e)

pair-number : (a n p q : ℕ) → Path (ℕ × ℕ) (a, p) (n, q) → n ≡ a
pair-number a n p q e = sym (ap (λ (x : ℕ × ℕ). x.0) e)

abbrev none : List (ℕ × ℕ)
none = []

has-none : (pair : ℕ × ℕ) → Contains none pair → ⊥
has-none pair has = let below = has.1 in omega (arith, below)

alone-is : (only pair : ℕ × ℕ) → Contains (only ∷ []) pair → only ≡ pair
alone-is only pair (zero, below, same) = same
alone-is only pair (suc k, below, same) = absurd (omega (arith, below))

module _ (laws : TurnLaws) (config : Config) (group : GroupPart) (readers : ReadGroupPart) (reader writer : ℕ) (matched : IsMatchedTo config readers reader group writer) where
  abbrev setting : Setting
  setting = setting_by config readers

  abbrev seat : Seat
  seat = seat_at setting.seats reader

  abbrev its_verdict : Accepted → List ℕ → Result Opened Refusal
  its_verdict pairs datagram = verdict readers setting.setup pairs datagram

  meta-is : seat.meta ≡ meta_at group config.dataset writer
  meta-is = laws.meta config readers reader group writer matched

  -- the parts of a datagram of a turn
  turn-parts : (layout : Layout) (past : List GroupDeed) (turn : GroupTurn) (opened : Opened) (is : IsTurn config group past turn) → group.layout ≡ layout → Contains (turn_opened config group past is.input) opened
      → All (IsPartBy group past is.input writer seat) (pieces seat.part opened.payload)
  turn-parts layouts.Dynamic past turn opened is layout has =
      laws.dynamic config group past is.input writer seat layout is.may (laws.reads config readers reader group writer matched)
      (subst (ReadsFrames group is.input.told.metas writer) (sym meta-is) (is.metas writer matched.reads.within)) (is.sampled writer matched.reads.within) opened has
  turn-parts layouts.Fixed past turn opened is layout has =
      laws.fixed config group past is.input writer seat layout is.may (is.fixed layout) (laws.reads config readers reader group writer matched) meta-is opened has

  made-parts : (past : List GroupDeed) (turn : GroupTurn) (pairs : Accepted) (datagram : List ℕ) (opened : Opened) (is : IsTurn config group past turn) → Contains turn.made datagram → its_verdict pairs datagram ≡ Ok opened
      → All (IsPartBy group past is.input writer seat) (pieces seat.part opened.payload)
  made-parts past turn pairs datagram opened is (k, below, same) e =
      let at : slice_get turn.made k ≡ Some datagram = slice_get-get_or turn.made k datagram below ∙ ap (λ (d : List ℕ). Some d) same in
      let sent : slice_get (turn_datagrams config group past is.input) k ≡ Some datagram = subst (λ (t : GroupTurn). slice_get t.made k ≡ Some datagram) is.is at in
      let all = turn_opened config group past is.input in
      let there = (opened-at laws config group readers reader writer matched past is.input pairs k datagram opened is.may sent e).0 in
      turn-parts group.layout past turn opened is refl (k, slice_get_within all k opened there, get_or_from_slice_get all k opened opened there)

  -- ---- what its writer sent, as one datagram has it

  abbrev pub sending : (past : List GroupDeed) → AreTurns config group past → List (ℕ × ℕ) → Sending
  sending past are sent = record { answered = answered_by group writer past; sent = λ token. sent; bytes = spelled_at config group writer past are }

  -- the datagram has parts of what was answered at the place of its number, and its numbers stand for places from one on
  record HasPlaces (past : List GroupDeed) (are : AreTurns config group past) (opened : Opened) : Type 0 where
    sent : List (ℕ × ℕ)
    from : ℕ
    each : (number own : ℕ) → Contains sent (number, own) → (frame : PlacedFrame) × (IsAnswer (answered_by group writer past) frame × (place_of frame ≡ own))
    named : (number own : ℕ) → Contains sent (number, own) → place_from from (number_of_place own) ≡ own
    parts : AreSentPieces (sending past are sent) seat opened

  turn-places : (past : List GroupDeed) (turn : GroupTurn) (are : AreTurns config group (HadGroupTurn turn ∷ past)) (pairs : Accepted) (datagram : List ℕ) (opened : Opened) → Contains turn.made datagram → its_verdict pairs datagram ≡ Ok opened
      → HasPlaces (HadGroupTurn turn ∷ past) are opened
  turn-places past turn are pairs datagram opened made e = on (answer_by group past is.input writer) refl
    where
      is : IsTurn config group past turn
      is = are.0

      now : List GroupDeed
      now = HadGroupTurn turn ∷ past

      parts-by : (sent : List (ℕ × ℕ)) → ((answer : PlacedFrame) → answer_by group past is.input writer ≡ Some answer → Contains sent (opened.pass.number, place_of answer)) → AreSentPieces (sending now are sent) seat opened
      parts-by sent at =
          All-weaker (IsPartBy group past is.input writer seat) (IsSentPiece (sending now are sent) seat.meta opened.pass.token opened.pass.number)
          (λ piece of.
          piece-sent (sending now are sent) group writer past is.input seat opened.pass.token opened.pass.number
          (record {
            major = ap (λ (m : MetaData). m.major) meta-is ∙ is.majors writer matched.reads.within;
            was = λ answer a. record {
              one_of = answer-now config group past turn writer answer is a;
              at = at answer a;
              good = good-span _ _ answer (answers-span (settings_at group writer) (writer_past writer now) answer (answer-now config group past turn writer answer is a));
            };
            bytes = λ answer a loud. spelled-now config group writer turn past are answer a loud;
          })
          piece of)
          (pieces seat.part opened.payload) (made-parts past turn pairs datagram opened is made e)

      on : (o : Option PlacedFrame) → answer_by group past is.input writer ≡ o → HasPlaces now are opened
      on None a = record {
        sent = [];
        from = 0;
        each = λ number own has. absurd (has-none (number, own) has);
        named = λ number own has. absurd (has-none (number, own) has);
        parts = parts-by [] (λ answer b. absurd (let both : Path (Option PlacedFrame) None (Some answer) = sym a ∙ b in cc));
      }
      on (Some frame) a = record {
        sent = (opened.pass.number, place_of frame) ∷ [];
        from = place_of frame;
        each = λ number own has. (
          frame,
          (answer-now config group past turn writer frame is a, sym (pair-place opened.pass.number number (place_of frame) own (alone-is (opened.pass.number, place_of frame) (number, own) has))),
        );
        named = λ number own has.
            subst (λ (p : ℕ). place_from (place_of frame) (number_of_place p) ≡ p)
            (sym (pair-place opened.pass.number number (place_of frame) own (alone-is (opened.pass.number, place_of frame) (number, own) has)))
            (place_from-number (place_of frame) (place_of frame) (omega arith) (omega arith));
        parts = parts-by ((opened.pass.number, place_of frame) ∷ [])
            (λ answer b. (let both : Some frame ≡ Some answer = sym a ∙ b in (0, omega arith, ap (λ (f : PlacedFrame). (opened.pass.number, place_of f)) (some-frame frame answer both))));
      }
        where
          some-frame : (x y : PlacedFrame) → Some x ≡ Some y → x ≡ y
          some-frame x y s = cc

  made-places : (past : List GroupDeed) (are : AreTurns config group past) (pairs : Accepted) (datagram : List ℕ) (opened : Opened) → WasMade past datagram → its_verdict pairs datagram ≡ Ok opened → HasPlaces past are opened
  made-places [] are pairs datagram opened made e = absurd made
  made-places (RefreshedWriter other ∷ before) are pairs datagram opened made e =
      let h = made-places before are pairs datagram opened made e in
      let same = sym (refresh-same group writer other before) in
      record {
        sent = h.sent;
        from = h.from;
        each = subst (λ (answered : List Answered). (number own : ℕ) → Contains h.sent (number, own) → (frame : PlacedFrame) × (IsAnswer answered frame × (place_of frame ≡ own))) same h.each;
        named = h.named;
        parts = subst (λ (answered : List Answered). AreSentPieces (record { answered = answered; sent = λ token. h.sent; bytes = spelled_at config group writer before are }) seat opened) same h.parts;
      }
  made-places (HadGroupTurn turn ∷ before) are pairs datagram opened (inl made) e = turn-places before turn are pairs datagram opened made e
  made-places (HadGroupTurn turn ∷ before) are pairs datagram opened (inr made) e =
      let h = made-places before are.1 pairs datagram opened made e in
      record {
        sent = h.sent;
        from = h.from;
        each = λ number own has. let f = h.each number own has in (f.0, (answer-stays group writer turn before f.0 f.1.0, f.1.1));
        named = h.named;
        parts = pieces-stay (sending before are.1 h.sent) (sending (HadGroupTurn turn ∷ before) are h.sent) seat opened
            (record {
              answers = λ frame has. answer-stays group writer turn before frame has;
              sends = λ number own has. has;
              bytes = λ number own has.
                  let f = h.each number own has in
                  subst (λ (p : ℕ). spelled_at config group writer (HadGroupTurn turn ∷ before) are p ≡ spelled_at config group writer before are.1 p) f.1.1 (spelled-stays config group writer turn before are f.0 f.1.0);
            })
            h.parts;
      }

  -- ---- over what befell the read group

  module _ (index : ℕ) (pasts : ℕ → List GroupDeed) (sound : IsSound config) (there : slice_get config.group index ≡ Some group)
      (are_pasts : (h : ℕ) (part : GroupPart) → slice_get config.group h ≡ Some part → IsPast config part (pasts h)) (way : Way) (own_seat : way.seat ≡ seat) where
    pub turns : AreTurns config group (pasts index)
    turns = (are_pasts index group there).turns

    abbrev pub its_sending : List (ℕ × ℕ) → Sending
    its_sending sent = sending (pasts index) turns sent

    datagram-places : (pairs : Accepted) (datagram : List ℕ) (opened : Opened) → IsMade config pasts datagram → its_verdict pairs datagram ≡ Ok opened → HasPlaces (pasts index) turns opened
    datagram-places pairs datagram opened made e = on (own-or-none laws config group readers reader writer matched index pasts sound there are_pasts pairs datagram opened made e)
      where
        on : WasMade (pasts index) datagram ⊎ (pieces seat.part opened.payload ≡ []) → HasPlaces (pasts index) turns opened
        on (inl own) = made-places (pasts index) turns pairs datagram opened own e
        on (inr empty) = record {
          sent = [];
          from = 0;
          each = λ number own has. absurd (has-none (number, own) has);
          named = λ number own has. absurd (has-none (number, own) has);
          parts = let s = its_sending [] in
              subst (All (IsSentPiece s seat.meta opened.pass.token opened.pass.number)) (sym empty) (All-nil (IsSentPiece s seat.meta opened.pass.token opened.pass.number));
        }

    -- what such parts and cuts keep of a list
    pub record Keeping (Sent : List Mark → Type 0) : Type 0 where
      pub parts : (sent : List (ℕ × ℕ)) (from token number : ℕ) → ((own : ℕ) → Contains sent (number, own) → place_from from (number_of_place own) ≡ own) → (now : ℕ) (stamp : Option ℕ)
          → Keep Sent (IsSentFrame (its_sending sent) way.seat.meta token number) (IsSentChunk (its_sending sent) way.seat.meta token number) (placed_from way from) (place_from from) now stamp
      pub cuts : (b : Bool) (why : Why) (list : List Mark) → Sent list → Sent (cut_on b why list)

    pub all-kept : Keeping (AreSentMarks (its_sending []) way)
    all-kept = record {
      parts = λ sent from token number named now stamp. marks-kept (its_sending sent) (placed_from way from) token number named now stamp;
      cuts = λ b why list h. let s = its_sending [] in sent-cut way.seat.part.numbering way.seat.meta s.answered s.bytes b why list h;
    }

    module _ (Sent : List Mark → Type 0) (keeps : Keeping Sent) where
      -- a list that goes on with a datagram
      record GoesOn (now : ℕ) (enabled : Bool) (pairs : Accepted) (before : List Mark) (answer : Result Opened Refusal) : Type 0 where
        from : ℕ
        sent : Sent (taken_in setting (placed_from way from) now enabled pairs before answer)

      goes-on : (now : ℕ) (enabled : Bool) (pairs : Accepted) (before : List Mark) (answer : Result Opened Refusal) → ((opened : Opened) → answer ≡ Ok opened → HasPlaces (pasts index) turns opened) → Sent before
          → GoesOn now enabled pairs before answer
      goes-on now enabled pairs before (Err refusal) has h = record { from = 0; sent = h }
      goes-on now enabled pairs before (Ok opened) has h =
          let places = has opened refl in
          let s = its_sending places.sent in
          let token = opened.pass.token in
          let number = opened.pass.number in
          let stamp = stamp_by setting.setup.mode number in
          let parts : AreSentPieces s way.seat opened = subst (λ (x : Seat). AreSentPieces s x opened) (sym own_seat) places.parts in
          record {
            from = places.from;
            sent = keep-parts Sent (IsSentFrame s way.seat.meta token number) (IsSentChunk s way.seat.meta token number) (placed_from way places.from) (place_from places.from) now stamp
                (keeps.parts places.sent places.from token number (λ own in_sent. places.named number own in_sent) now stamp)
                (if enabled then pieces way.seat.part opened.payload else []) (cut_on (is_raised setting pairs opened) NewToken before)
                (all-on (IsSentPiece s way.seat.meta token number) enabled (pieces way.seat.part opened.payload) parts)
                (keeps.cuts (is_raised setting pairs opened) NewToken before h);
          }

      pub record IsPlacedList (events : List Event) : Type 0 where
        pub list : List Mark
        pub placed : ComesPlaced setting way events list
        pub sent : Sent list

      pub got-list : (now : ℕ) (on : List Bool) (datagram : List ℕ) (before : List Event)
          → ((opened : Opened) → verdict setting.group setting.setup (accepted setting before) datagram ≡ Ok opened → IsMade config pasts datagram) → IsPlacedList before → IsPlacedList (Got now on datagram ∷ before)
      got-list now on datagram before made h =
          let pairs = accepted setting before in
          let enabled = slice_index_or on way.index false in
          let answer = verdict setting.group setting.setup pairs datagram in
          let more = goes-on now enabled pairs h.list answer (λ opened e. datagram-places pairs datagram opened (made opened e) e) h.sent in
          record { list = taken_in setting (placed_from way more.from) now enabled pairs h.list answer; placed = (h.list, more.from, h.placed, refl); sent = more.sent }

      pub expired-list : (now : ℕ) (before : List Event) → IsPlacedList before → IsPlacedList (Expired now ∷ before)
      expired-list now before h =
          let runs = runs_out way now (arrivals_in h.list) in record { list = cut_on runs Timeout h.list; placed = (h.list, h.placed, refl); sent = keeps.cuts runs Timeout h.list h.sent }

      pub stopped-list : (other : ℕ) (why : Why) (before : List Event) → IsPlacedList before → IsPlacedList (Stopped other why ∷ before)
      stopped-list other why before h = record { list = cut_on (other == way.index) why h.list; placed = (h.list, h.placed, refl); sent = keeps.cuts (other == way.index) why h.list h.sent }

    pub placed-list : (events : List Event) → CameAsMade setting config pasts events → IsPlacedList (AreSentMarks (its_sending []) way) all-kept events
    placed-list [] came = record { list = []; placed = refl; sent = record { items = tt; chunks = tt } }
    placed-list (Got now on datagram ∷ before) came = got-list (AreSentMarks (its_sending []) way) all-kept now on datagram before came.0 (placed-list before came.1)
    placed-list (Expired now ∷ before) came = expired-list (AreSentMarks (its_sending []) way) all-kept now before (placed-list before came)
    placed-list (Stopped other why ∷ before) came = stopped-list (AreSentMarks (its_sending []) way) all-kept other why before (placed-list before came)

    -- ---- since a cut

    abbrev pub SentSince : List Mark → Type 0
    SentSince list = AreSentSince way.seat.part.numbering way.seat.meta (answered_by group writer (pasts index)) (spelled_at config group writer (pasts index) turns) list

    pub all-since : Keeping SentSince
    all-since = record {
      parts = λ sent from token number named now stamp. since-kept (its_sending sent) (placed_from way from) token number named now stamp;
      cuts = cut-since way.seat.part.numbering way.seat.meta (answered_by group writer (pasts index)) (spelled_at config group writer (pasts index) turns);
    }

    pub since-list : (more before : List Event) → CameSince setting config pasts more before → IsPlacedList SentSince all-since before → IsPlacedList SentSince all-since (more ++ before)
    since-list [] before came h = h
    since-list (Got now on datagram ∷ more) before came h = got-list SentSince all-since now on datagram (more ++ before) came.0 (since-list more before came.1 h)
    since-list (Expired now ∷ more) before came h = expired-list SentSince all-since now (more ++ before) (since-list more before came h)
    since-list (Stopped other why ∷ more) before came h = stopped-list SentSince all-since other why (more ++ before) (since-list more before came h)

    -- the reader is reset
    pub reset-list : (before : List Event) (earlier : List Mark) → ComesPlaced setting way before earlier → IsPlacedList SentSince all-since (Stopped way.index Restarted ∷ before)
    reset-list before earlier placed =
        let same : (way.index == way.index) ≡ true = eq-eqb way.index way.index refl in
        record {
          list = Arrived (Cut Restarted) ∷ earlier;
          placed = (earlier, placed, ap (λ (b : Bool). cut_on b Restarted earlier) (sym same));
          sent = none-since way.seat.part.numbering way.seat.meta (answered_by group writer (pasts index)) (spelled_at config group writer (pasts index) turns) earlier;
        }
