-- Over all turns of a publisher: each datagram of a writer's group has for its reader what was sent with its token and number.
use Rattle.std.proofs.Common.{◌≡◌, refl, sym, ap, ◌∙◌, subst, arith, ℕ, zero, suc, ◌+◌, ◌<◌, Bool, true, false, not, List, [], ◌∷◌, length, get_or, Option, Some, None, Result, Ok, inl, inr, All, Contains, eq-eqb, ne_eqb, eqb-true}
use Rattle.std.specs.Prelude.{◌==◌, ◌&&◌, ◌≢◌, if◌then◌else◌, slice_get}
use Rattle.std.proofs.lemmas.List.Elements.{All-weaker}
use Rattle.std.proofs.lemmas.Option.{get_or_from_slice_get, slice_get-get_or, slice_get_within}
use Rattle.dataset_meta.specs.Metas.{MetaData}
use Rattle.dataset_meta.specs.Rows.{cons_if}
use Rattle.message_guard.specs.declared.keys.TokenKeys.{TokenKeys}
use Rattle.message_guard.specs.Acceptance.{Accepted}
use Rattle.message_guard.specs.Guards.{Setup}
use Rattle.message_guard.specs.Protection.{keys_with}
use Rattle.message_guard.specs.Senders.{SenderState}
use Rattle.pubsub_model.specs.Cadence.{Answered}
use Rattle.pubsub_model.specs.Frames.{PlacedFrame, is_silent, place_of}
use Rattle.config_tables.specs.declared.words.Layout.{Layout}
use Rattle.config_tables.specs.declared.words.Layout.TheVariants as layouts
use Rattle.ps_config.specs.declared.parts.Config.{Config}
use Rattle.ps_config.specs.declared.parts.GroupPart.{GroupPart}
use Rattle.ps_config.specs.declared.parts.KeyGroupPart.{KeyGroupPart}
use Rattle.ps_config.specs.declared.parts.ReadGroupPart.{ReadGroupPart}
use Rattle.ps_config.specs.Headers.{mode_of}
use Rattle.pubsub_states.specs.declared.component.Component.{Component}
use Rattle.reader_group.specs.declared.refusal.Refusal.{Refusal}
use Rattle.reader_group.specs.Arrivals.{Way, is_numbered}
use Rattle.reader_group.specs.Members.{Seat, seat_at}
use Rattle.reader_group.specs.Opening.{Opened, verdict}
use Rattle.reader_group.specs.Payloads.{pieces}
use Rattle.reader_group.specs.Settings.{keygroup_at, setting_by, setup_by}
use Rattle.writer_group.specs.Parts.{group_at}
use Rattle.writer_group.specs.Payloads.{meta_at, payloads_of, spelled_by}
use Rattle.writer_group.specs.Sealing.{Envelope, Payload}
use Rattle.writer_group.specs.Turns.{GroupDeed, GroupTurn, HadGroupTurn, RefreshedWriter, TurnInput, answer_by, answer_to, envelope_of, frames_in, took_by, turn_datagrams}
use Rattle.group_laws.specs.Matching.{IsMatched, IsMatchedTo, IsSenderOf, ReadsFrames}
use Rattle.group_laws.specs.TurnOpened.{opened_at, opened_from, turn_opened}
use Rattle.group_laws.specs.TurnReading.{IsPartBy}
use Rattle.group_laws.proofs.TurnTaken.{advanced-keys, advanced-used}
use Rattle.session_model.specs.Deeds.{Deed, RefreshedBelow, RefreshedSet, CameTo, TookTurn, RenewedKeys, group_past, is_writer_below, is_writer_of, refreshed_where, sender_after, writer_indexes}
use Rattle.session_laws.specs.Below.{TurnLaws}
use Rattle.session_model.proofs.Deeds.{refreshed-keeps}
use Rattle.session_laws.specs.Pasts.{IsTurn, WasMade, answered_by, settings_at}
use Rattle.session_laws.specs.Readers.{IsPartFor, Making}
use Rattle.session_laws.proofs.HeldRows.Passing.{IsPassOf, opened-pass}
use Rattle.session_laws.proofs.Versions.Answering.{answer-now, answer-stays, bytes_if, refresh-same}
use Rattle.turn_laws.specs.Sent.{NamesPlaces, given_on, sent_in}
use Rattle.turn_laws.proofs.Contents.{AreSentPieces, IsSentBy, IsSentPiece, Sending, piece-sent, pieces-stay}
use Rattle.turn_laws.proofs.Keyed.{first-accepted, other-ring, same-opening}
use Rattle.turn_laws.proofs.Parts.{IsSentNow, part-sent, part-stays}
use Rattle.turn_laws.proofs.Places.{good-to, loud-to, next_of}
use Rattle.turn_laws.proofs.Rings.{AreRingTurns, IsRingTurn, KnowsSender, KnowsSenders, sender-of, sender-there, setup-mode, with_rings}
use Rattle.turn_laws.proofs.Rising.{given-has, given-keeps, spanned-at}
use Rattle.turn_laws.proofs.Sharing.{RisenAt, own-risen}

-- ---- the bytes of a place

bytes-here : (place : ℕ) (spelled : PlacedFrame → List ℕ) (frame : PlacedFrame) (rest : List ℕ) → is_silent frame ≡ false → place_of frame ≡ place → bytes_if place spelled (Some frame) rest ≡ spelled frame
bytes-here place spelled frame rest loud at =
    let test : (not (is_silent frame) && (place_of frame == place)) ≡ true = ap (λ (b : Bool). not b && (place_of frame == place)) loud ∙ eq-eqb (place_of frame) place at in
    ap (λ (b : Bool). if b then spelled frame else rest) test

bytes-below : (place : ℕ) (spelled : PlacedFrame → List ℕ) (o : Option PlacedFrame) (rest : List ℕ) → ((frame : PlacedFrame) → o ≡ Some frame → is_silent frame ≡ false → place < place_of frame) → bytes_if place spelled o rest ≡ rest
bytes-below place spelled None rest below = refl
bytes-below place spelled (Some frame) rest below = on (is_silent frame) refl
  where
    on : (b : Bool) → is_silent frame ≡ b → bytes_if place spelled (Some frame) rest ≡ rest
    on true e = ap (λ (b : Bool). if not b && (place_of frame == place) then spelled frame else rest) e
    on false e =
        let lt = below frame refl e in
        let differ : place_of frame ≢ place = λ same. omega (arith, same, lt) in
        let test : (not (is_silent frame) && (place_of frame == place)) ≡ false = ap (λ (b : Bool). not b && (place_of frame == place)) e ∙ ne_eqb (place_of frame) place differ in
        ap (λ (b : Bool). if b then spelled frame else rest) test

-- ---- a refresh makes nothing

was-where : (test : ℕ → Bool) (past : List GroupDeed) (writers : List ℕ) (datagram : List ℕ) → WasMade (refreshed_where test past writers) datagram → WasMade past datagram
was-where test past [] datagram h = h
was-where test past (w ∷ writers) datagram h = on (test w) (was-where test (cons_if (test w) (RefreshedWriter w) past) writers datagram h)
  where
    on : (b : Bool) → WasMade (cons_if b (RefreshedWriter w) past) datagram → WasMade past datagram
    on true h = h
    on false h = h

abbrev pub made_with : (ℕ → List (ℕ × ℕ)) → (ℕ → List ℕ) → Making
made_with sent bytes = record { sent = sent; bytes = bytes }

-- ---- a writer of a group, and a reader that is matched to it

module _ (laws : TurnLaws) (config : Config) (k g w : ℕ) (readers : ReadGroupPart) (reader : ℕ) (place : ℕ → ℕ → ℕ → ℕ) (keys : List TokenKeys) (matched : IsMatchedTo config readers reader (group_at config g) w)
    (keyed : (group_at config g).keygroup ≡ Some k) where
  abbrev group : GroupPart
  group = group_at config g

  abbrev seat : Seat
  seat = seat_at (setting_by config readers).seats reader

  abbrev way : Way
  way = record { index = reader; seat = seat; place = place }

  -- its guard, with these keys
  abbrev setup : Setup
  setup = record (setup_by config readers readers.keygroup) { keys = keys }

  abbrev its_verdict : Accepted → List ℕ → Result Opened Refusal
  its_verdict accepted datagram = verdict readers setup accepted datagram

  abbrev pub sending : List GroupDeed → (ℕ → List (ℕ × ℕ)) → (ℕ → List ℕ) → Sending
  sending past sent bytes = record { answered = answered_by group w past; sent = sent; bytes = bytes }

  -- with its content: frames that the writer answered, and chunks of them
  abbrev pub HaveContents : (ℕ → List (ℕ × ℕ)) → (ℕ → List ℕ) → List GroupDeed → Type 0
  HaveContents sent bytes past =
      (datagram : List ℕ) (accepted : Accepted) (opened : Opened) → WasMade past datagram → its_verdict accepted datagram ≡ Ok opened → AreSentPieces (sending past sent bytes) seat opened

  -- what a datagram of this past has for the reader was sent with its token and number
  pub record Held (past : List GroupDeed) (sent : ℕ → List (ℕ × ℕ)) : Type 0 where
    pub bytes : ℕ → List ℕ
    pub parts : is_numbered seat.part.numbering ≡ true → NamesPlaces place sent → (datagram : List ℕ) (accepted : Accepted) (opened : Opened) → WasMade past datagram → its_verdict accepted datagram ≡ Ok opened
        → All (IsPartFor (made_with sent bytes) way opened.pass.token opened.pass.number) (pieces seat.part opened.payload)
    pub contents : HaveContents sent bytes past

  abbrev pub HeldAt : List Deed → Type 0
  HeldAt list = Held (group_past config g list) (λ token. sent_in config k g w token list)

  held-none : HeldAt []
  held-none = record { bytes = λ own. []; parts = λ numbered named datagram accepted opened was e. absurd was; contents = λ datagram accepted opened was e. absurd was }

  -- a refresh answers nothing
  refreshed-contents : (sent : ℕ → List (ℕ × ℕ)) (bytes : ℕ → List ℕ) (test : ℕ → Bool) (past : List GroupDeed) (writers : List ℕ) → HaveContents sent bytes past → HaveContents sent bytes (refreshed_where test past writers)
  refreshed-contents sent bytes = refreshed-keeps (HaveContents sent bytes)
      (λ writer past h datagram accepted opened was e.
      subst (λ (answered : List Answered). AreSentPieces (record { answered = answered; sent = sent; bytes = bytes }) seat opened) (sym (refresh-same group w writer past)) (h datagram accepted opened was e))

  held-below : (component : Component) (earlier : List Deed) → HeldAt earlier → HeldAt (RefreshedBelow component ∷ earlier)
  held-below component earlier h = record {
    bytes = h.bytes;
    parts = λ numbered named datagram accepted opened was e.
        h.parts numbered named datagram accepted opened (was-where (is_writer_below component g) (group_past config g earlier) (writer_indexes group) datagram was) e;
    contents = refreshed-contents (λ token. sent_in config k g w token earlier) h.bytes (is_writer_below component g) (group_past config g earlier) (writer_indexes group) h.contents;
  }

  held-set : (set : ℕ) (earlier : List Deed) → HeldAt earlier → HeldAt (RefreshedSet set ∷ earlier)
  held-set set earlier h = record {
    bytes = h.bytes;
    parts = λ numbered named datagram accepted opened was e.
        h.parts numbered named datagram accepted opened (was-where (is_writer_of group set) (group_past config g earlier) (writer_indexes group) datagram was) e;
    contents = refreshed-contents (λ token. sent_in config k g w token earlier) h.bytes (is_writer_of group set) (group_past config g earlier) (writer_indexes group) h.contents;
  }

  -- ---- the parts of a datagram of a turn

  meta-is : seat.meta ≡ meta_at group config.dataset w
  meta-is = laws.meta config readers reader group w matched

  turn-parts : (rings : List KeyGroupPart) (layout : Layout) (past : List GroupDeed) (turn : GroupTurn) (opened : Opened) (is : IsTurn (with_rings config rings) group past turn) → group.layout ≡ layout
      → Contains (turn_opened (with_rings config rings) group past is.input) opened → All (IsPartBy group past is.input w seat) (pieces seat.part opened.payload)
  turn-parts rings layouts.Dynamic past turn opened is layout has =
      laws.dynamic (with_rings config rings) group past is.input w seat layout is.may (laws.reads config readers reader group w matched)
      (subst (ReadsFrames group is.input.told.metas w) (sym meta-is) (is.metas w matched.reads.within)) (is.sampled w matched.reads.within) opened has
  turn-parts rings layouts.Fixed past turn opened is layout has =
      laws.fixed (with_rings config rings) group past is.input w seat layout is.may (is.fixed layout) (laws.reads config readers reader group w matched) meta-is opened has

  -- ---- a turn of the writer's group

  module _ (before : List Deed) (turn : GroupTurn) (own : IsRingTurn config g before turn) (knows : KnowsSender setup (sender_after config k before)) (risen : RisenAt config k g w before) (h : HeldAt before) where
    -- the configuration of the turn
    abbrev ringed : Config
    ringed = with_rings config own.rings

    abbrev past : List GroupDeed
    past = group_past config g before

    abbrev input : TurnInput
    input = own.is.input

    abbrev s : SenderState
    s = sender_after config k before

    abbrev answered : Option PlacedFrame
    answered = answer_to group past w (took_by w turn)

    abbrev old : ℕ → List (ℕ × ℕ)
    old token = sent_in config k g w token before

    abbrev now : ℕ → List (ℕ × ℕ)
    now token = given_on (s.keys.token == token) answered s.used (length turn.made) (old token)

    abbrev message : PlacedFrame → List ℕ
    message frame = (spelled_by group input.told.metas w frame).bytes

    abbrev bytes_now : ℕ → List ℕ
    bytes_now at = bytes_if at message (answer_by group past input w) (h.bytes at)

    -- what the turn's input answers, the turn does
    is-answer : (frame : PlacedFrame) → answer_by group past input w ≡ Some frame → answered ≡ Some frame
    is-answer frame e = ap (λ (t : GroupTurn). answer_to group past w (took_by w t)) own.is.is ∙ e

    keeps : (token number at : ℕ) → Contains (old token) (number, at) → Contains (now token) (number, at)
    keeps token number at has = given-keeps (s.keys.token == token) answered s.used (length turn.made) (old token) (number, at) has

    named-old : NamesPlaces place now → NamesPlaces place old
    named-old named = λ token number at has. named token number at (keeps token number at has)

    bytes-stay : (token number at : ℕ) → Contains (old token) (number, at) → bytes_now at ≡ h.bytes at
    bytes-stay token number at has =
        let span = spanned-at (settings_at group w).first_number (next_of group w past) (old token) (number, at) (risen.spans token) has in
        let lt : at < next_of group w past = span.1 in
        bytes-below at message (answer_by group past input w) (h.bytes at)
        (λ frame e loud. let there : place_of frame ≡ next_of group w past = loud-to group w (took_by w turn) past frame (is-answer frame e) loud in omega (arith, lt, there))

    old-parts : is_numbered seat.part.numbering ≡ true → NamesPlaces place now → (datagram : List ℕ) (accepted : Accepted) (opened : Opened) → WasMade past datagram → its_verdict accepted datagram ≡ Ok opened
        → All (IsPartFor (made_with now bytes_now) way opened.pass.token opened.pass.number) (pieces seat.part opened.payload)
    old-parts numbered named datagram accepted opened was e =
        let token = opened.pass.token in
        let number = opened.pass.number in
        All-weaker (IsPartFor (made_with old h.bytes) way token number) (IsPartFor (made_with now bytes_now) way token number)
        (λ piece of. part-stays (made_with old h.bytes) (made_with now bytes_now) way token number (λ at has. keeps token number at has) (λ at has. bytes-stay token number at has) piece of)
        (pieces seat.part opened.payload) (h.parts numbered (named-old named) datagram accepted opened was e)

    sender-is : input.sender ≡ Some s
    sender-is = sender-of config g k before input.sender keyed own.sender

    pass-is : (index : ℕ) (opened : Opened) → slice_get (turn_opened ringed group past input) index ≡ Some opened → IsPassOf s index opened.pass
    pass-is index opened there =
        let e = envelope_of ringed group past in
        let payloads = payloads_of ringed group (frames_in group past input) in
        let so : slice_get (opened_from group.layout e (Some s) 0 payloads) index ≡ Some opened =
        subst (λ (o : Option SenderState). slice_get (opened_from group.layout e o 0 payloads) index ≡ Some opened) sender-is there in
        let zero_is : 0 + index ≡ index = omega arith in
        subst (λ (n : ℕ). IsPassOf s n opened.pass) zero_is (opened-pass group.layout e s 0 payloads index opened so)

    -- the sender is one of the turn's configuration
    of-ring : IsSenderOf (keygroup_at ringed k) s
    of-ring = sender-there ringed group k (length (payloads_of ringed group (frames_in group past input))) input.sender s sender-is keyed own.is.may.sender

    ring-matched : IsMatched ringed group readers
    ring-matched = record {
      publisher = matched.groups.publisher;
      group_id = matched.groups.group_id;
      version = matched.groups.version;
      class_id = matched.groups.class_id;
      layout = matched.groups.layout;
      security = matched.groups.security;
      keygroup = matched.groups.keygroup;
    }

    abbrev ring_setup : Setup
    ring_setup = setup_by ringed readers readers.keygroup

    -- a guard of that configuration has the sender's keys too, and the same block counter
    ring-known : KnowsSender ring_setup s
    ring-known = subst (λ (o : Option ℕ). KnowsSender (setup_by ringed readers o) s) (sym (matched.groups.keygroup ∙ keyed)) (record { keys = of-ring.keys; first_block = sym of-ring.first_block })

    -- what is taken is opened to what the group had for it
    opened-there : (index : ℕ) (datagram : List ℕ) (accepted : Accepted) (opened : Opened) → slice_get (turn_datagrams ringed group past input) index ≡ Some datagram → its_verdict accepted datagram ≡ Ok opened
        → slice_get (turn_opened ringed group past input) index ≡ Some opened
    opened-there index datagram accepted opened at e =
        let sent = turn_datagrams ringed group past input in
        let all = turn_opened ringed group past input in
        let below : index < length all = subst (λ (n : ℕ). index < n) (sym (laws.many ringed group past input)) (slice_get_within sent index datagram at) in
        let one = get_or all index opened in
        let there : slice_get all index ≡ Some one = slice_get-get_or all index opened below in
        let token : one.pass.token ≡ s.keys.token = (pass-is index one there).token in
        let theirs : keys_with ring_setup.keys one.pass.token ≡ Some s.keys = ap (keys_with ring_setup.keys) token ∙ ring-known.keys in
        let known : keys_with keys one.pass.token ≡ Some s.keys = ap (keys_with keys) token ∙ knows.keys in
        let is = laws.taken ringed group readers past input [] index datagram one own.is.may ring-matched at there in
        let taken : verdict readers ring_setup [] datagram ≡ Ok one = is.taken (first-accepted ring_setup one.pass s.keys theirs) in
        let mode : ring_setup.mode ≡ setup.mode = setup-mode ringed readers readers.keygroup ∙ sym (setup-mode config readers readers.keygroup) in
        let mine : its_verdict [] datagram ≡ Ok one = other-ring readers ring_setup setup datagram one s.keys mode (ring-known.first_block ∙ sym knows.first_block) theirs known taken in
        there ∙ ap (λ (o : Opened). Some o) (same-opening readers setup [] accepted datagram one opened mine e)

    sent-now : is_numbered seat.part.numbering ≡ true → NamesPlaces place now → (index : ℕ) (opened : Opened) → index < length turn.made → IsPassOf s index opened.pass
        → IsSentNow (made_with now bytes_now) group w past input way opened.pass.token opened.pass.number
    sent-now numbered named index opened below pass = record {
      by = numbered;
      major = ap (λ (m : MetaData). m.major) meta-is ∙ own.is.majors w matched.reads.within;
      named = λ at has. named opened.pass.token opened.pass.number at has;
      sent = λ frame e.
          given-has (s.keys.token == opened.pass.token) answered frame s.used (length turn.made) index opened.pass.number (old opened.pass.token) (eq-eqb s.keys.token opened.pass.token (sym pass.token)) (is-answer frame e) pass.number below;
      good = λ frame e. good-to group w (took_by w turn) past frame (is-answer frame e);
      bytes = λ frame e loud. ap (λ (o : Option PlacedFrame). bytes_if (place_of frame) message o (h.bytes (place_of frame))) e ∙ bytes-here (place_of frame) message frame (h.bytes (place_of frame)) loud refl;
    }

    -- a datagram of the turn that is taken
    pub record IsOpenedOf (opened : Opened) : Type 0 where
      pub index : ℕ
      pub below : index < length turn.made
      pub there : slice_get (turn_opened ringed group past input) index ≡ Some opened

    turn-opens : (datagram : List ℕ) (accepted : Accepted) (opened : Opened) → Contains turn.made datagram → its_verdict accepted datagram ≡ Ok opened → IsOpenedOf opened
    turn-opens datagram accepted opened (index, below, same) e =
        let at : slice_get turn.made index ≡ Some datagram = slice_get-get_or turn.made index datagram below ∙ ap (λ (d : List ℕ). Some d) same in
        let sent : slice_get (turn_datagrams ringed group past input) index ≡ Some datagram = subst (λ (t : GroupTurn). slice_get t.made index ≡ Some datagram) own.is.is at in
        record { index = index; below = below; there = opened-there index datagram accepted opened sent e }

    opened-parts : (opened : Opened) → IsOpenedOf opened → All (IsPartBy group past input w seat) (pieces seat.part opened.payload)
    opened-parts opened is =
        let all = turn_opened ringed group past input in
        let has : Contains all opened = (is.index, slice_get_within all is.index opened is.there, get_or_from_slice_get all is.index opened opened is.there) in
        turn-parts own.rings group.layout past turn opened own.is refl has

    new-parts : is_numbered seat.part.numbering ≡ true → NamesPlaces place now → (opened : Opened) → IsOpenedOf opened → All (IsPartFor (made_with now bytes_now) way opened.pass.token opened.pass.number) (pieces seat.part opened.payload)
    new-parts numbered named opened is =
        let token = opened.pass.token in
        let number = opened.pass.number in
        All-weaker (IsPartBy group past input w seat) (IsPartFor (made_with now bytes_now) way token number)
        (λ piece of. part-sent (made_with now bytes_now) group w past input way token number (sent-now numbered named is.index opened is.below (pass-is is.index opened is.there)) piece of)
        (pieces seat.part opened.payload) (opened-parts opened is)

    -- with its content

    abbrev sending_now : Sending
    sending_now = sending (HadGroupTurn turn ∷ past) now bytes_now

    sent-by : (opened : Opened) → IsOpenedOf opened → IsSentBy sending_now group w past input seat.meta opened.pass.token opened.pass.number
    sent-by opened is =
        let pass = pass-is is.index opened is.there in
        record {
          major = ap (λ (m : MetaData). m.major) meta-is ∙ own.is.majors w matched.reads.within;
          was = λ answer e. record {
            one_of = answer-now ringed group past turn w answer own.is e;
            at = given-has (s.keys.token == opened.pass.token) answered answer s.used (length turn.made) is.index opened.pass.number (old opened.pass.token) (eq-eqb s.keys.token opened.pass.token (sym pass.token)) (is-answer answer e) pass.number is.below;
            good = good-to group w (took_by w turn) past answer (is-answer answer e);
          };
          bytes = λ answer e loud. ap (λ (o : Option PlacedFrame). bytes_if (place_of answer) message o (h.bytes (place_of answer))) e ∙ bytes-here (place_of answer) message answer (h.bytes (place_of answer)) loud refl;
        }

    new-contents : (opened : Opened) → IsOpenedOf opened → AreSentPieces sending_now seat opened
    new-contents opened is =
        let token = opened.pass.token in
        let number = opened.pass.number in
        All-weaker (IsPartBy group past input w seat) (IsSentPiece sending_now seat.meta token number)
        (λ piece of. piece-sent sending_now group w past input seat token number (sent-by opened is) piece of) (pieces seat.part opened.payload) (opened-parts opened is)

    old-contents : (datagram : List ℕ) (accepted : Accepted) (opened : Opened) → WasMade past datagram → its_verdict accepted datagram ≡ Ok opened → AreSentPieces sending_now seat opened
    old-contents datagram accepted opened was e =
        let token = opened.pass.token in
        pieces-stay (sending past old h.bytes) sending_now seat opened
        (record { answers = λ answer is. answer-stays group w turn past answer is; sends = λ number at has. keeps token number at has; bytes = λ number at has. bytes-stay token number at has })
        (h.contents datagram accepted opened was e)

    own-held : Held (HadGroupTurn turn ∷ past) now
    own-held = record {
      bytes = bytes_now;
      parts = λ numbered named datagram accepted opened was e. on numbered named datagram accepted opened e was;
      contents = λ datagram accepted opened was e. contents-on datagram accepted opened e was;
    }
      where
        on : is_numbered seat.part.numbering ≡ true → NamesPlaces place now → (datagram : List ℕ) (accepted : Accepted) (opened : Opened) → its_verdict accepted datagram ≡ Ok opened → WasMade (HadGroupTurn turn ∷ past) datagram
            → All (IsPartFor (made_with now bytes_now) way opened.pass.token opened.pass.number) (pieces seat.part opened.payload)
        on numbered named datagram accepted opened e (inl made) = new-parts numbered named opened (turn-opens datagram accepted opened made e)
        on numbered named datagram accepted opened e (inr was) = old-parts numbered named datagram accepted opened was e

        contents-on : (datagram : List ℕ) (accepted : Accepted) (opened : Opened) → its_verdict accepted datagram ≡ Ok opened → WasMade (HadGroupTurn turn ∷ past) datagram → AreSentPieces sending_now seat opened
        contents-on datagram accepted opened e (inl made) = new-contents opened (turn-opens datagram accepted opened made e)
        contents-on datagram accepted opened e (inr was) = old-contents datagram accepted opened was e

  -- a turn of whichever group
  took-held : (other : ℕ) (turn : GroupTurn) (before : List Deed) → ((group_at config other).keygroup ≡ Some k → IsRingTurn config other before turn) → (other ≡ g → KnowsSender setup (sender_after config k before)) → RisenAt config k g w before → HeldAt before
      → HeldAt (TookTurn other turn ∷ before)
  took-held other turn before own knows risen h = by (other == g) refl
    where
      by : (b : Bool) → (other == g) ≡ b
          → Held (cons_if b (HadGroupTurn turn) (group_past config g before))
          (λ token. given_on (b && ((sender_after config k before).keys.token == token)) (answer_to group (group_past config g before) w (took_by w turn)) (sender_after config k before).used (length turn.made) (sent_in config k g w token before))
      by false e = h
      by true e =
          let same : other ≡ g = eqb-true other g e in
          let mine = own (subst (λ (n : ℕ). (group_at config n).keygroup ≡ Some k) (sym same) keyed) in
          own-held before turn (subst (λ (n : ℕ). IsRingTurn config n before turn) same mine) (knows same) risen h

  -- all of these deeds
  pub all-held : (list : List Deed) → AreRingTurns config k list → KnowsSenders config setup k g list → HeldAt list
  all-held [] are known = held-none
  all-held (RefreshedBelow component ∷ before) are known = held-below component before (all-held before are known)
  all-held (RefreshedSet set ∷ before) are known = held-set set before (all-held before are known)
  all-held (CameTo moment ∷ before) are known = all-held before are known
  all-held (RenewedKeys keygroup sets ∷ before) are known = all-held before are known
  all-held (TookTurn other turn ∷ before) are known =
      took-held other turn before are.1 known.0 (own-risen config k g w keyed matched.reads.within before are.2) (all-held before are.2 known.1)
