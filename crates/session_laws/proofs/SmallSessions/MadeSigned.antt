-- In the session of the three groups each datagram that came with a signature was made by the session's sender: the premise of signed readers is met.
use Rattle.std.proofs.Common.{◌≡◌, refl, sym, ap, ◌∙◌, subst, arith, ℕ, zero, suc, ◌+◌, ◌≤◌, ◌⊎◌, inl, inr, Bool, true, List, [], ◌∷◌, ◌++◌, map, length, Some, Result, Ok, Err, All, Contains}
use Rattle.std.specs.Prelude.{fold, slice_get}
use Rattle.std.proofs.lemmas.List.Elements.{All-cons, All-head, All-nil, All-tail, Contains-append_left, Contains-append_right}
use Rattle.std.proofs.lemmas.Option.{slice_get-get_or}
use Rattle.seq_number.specs.Numbers.{place_from}
use Rattle.chunker.specs.Chunks.{Chunk}
use Rattle.chunker.specs.Spelling.{chunk_at, without_rest}
use Rattle.chunker.specs.declared.payload.ChunkFault.{ChunkFault}
use Rattle.config_tables.specs.declared.words.NumberingWord.TheVariants as words
use Rattle.dataset_meta.specs.Metas.{MetaData}
use Rattle.frame_codec.specs.declared.fault.FrameFault.{FrameFault}
use Rattle.frame_codec.specs.Frames.{Frame}
use Rattle.frame_codec.specs.Reading.{frame_at}
use Rattle.group_laws.specs.Witness.{cut_group, cut_readers, ones, signed_group, signed_readers, slotted_group, slotted_readers, three_config, three_key, three_keys}
use Rattle.message_guard.specs.Acceptance.{Accepted}
use Rattle.ps_config.specs.declared.parts.ReadGroupPart.{ReadGroupPart}
use Rattle.pubsub_model.specs.Answers.{InSpan}
use Rattle.pubsub_model.specs.Cadence.{next_place}
use Rattle.pubsub_model.specs.Frames.{Alive, Change, PlacedFrame, Whole, place_of, placed_cut}
use Rattle.reader_group.specs.Agreeing.{SendsRise}
use Rattle.reader_group.specs.Arrivals.{Way, placed}
use Rattle.reader_group.specs.Opening.{Opened, verdict}
use Rattle.reader_group.specs.Payloads.{Piece, Message, Chunked, Slotted, Missing, pieces}
use Rattle.reader_group.specs.Plain.{Event, Setting}
use Rattle.reader_group.specs.Settings.{setting_of}
use Rattle.reader_group.specs.SlotFrames.{slot_frame_at}
use Rattle.reader_group.proofs.KeptParts.{IsPieceOf, OfRead}
use Rattle.ua_base.specs.Journal.{Entry, Sent, SendFailed, Got, Empty, Long, ReceiveFailed}
use Rattle.writer_group.specs.Payloads.{writer_at}
use Rattle.writer_group.specs.Turns.{GroupDeed, HadGroupTurn, writer_past}
use Rattle.session_model.specs.Deeds.{sender_after}
use Rattle.session_model.specs.Events.{events, got_on, readers_on}
use Rattle.session_model.specs.Sends.{Send, journal, send_entries, sends_of}
use Rattle.session_model.specs.Steps.{Plan, Step, moment_of}
use Rattle.session_model.specs.Turns.{deeds_before}
use Rattle.session_laws.specs.Below.{Laws}
use Rattle.session_laws.specs.Delivered.{all_done, all_got}
use Rattle.session_laws.specs.Headline.{InSession}
use Rattle.session_laws.specs.Pasts.{IsMade, WasMade, settings_at}
use Rattle.session_laws.specs.Plays.{IsPlay, Play, its_answers, its_meta, its_way}
use Rattle.session_laws.specs.Readers.{ChunkIsCutFor, GivesPlace, IsMadeFor, IsPartFor, IsSentAt, Making, ReadGives, SignedAreMade}
use Rattle.session_laws.specs.Sessions.{pasts_at}
use Rattle.session_laws.proofs.Closing.ClosingTick.{its_last}
use Rattle.session_laws.proofs.HeldRows.Marks.{its_bytes, source, turns}
use Rattle.session_laws.proofs.SmallSessions.OneTick.{config, in-session, made, own_at, past_at, plan, sent, session, signed-had, signed-made, signed-took, turn_at}
use Rattle.session_laws.proofs.HeldRows.Passing.{turn-pass}
use Rattle.session_laws.proofs.HeldRows.Pieces.{made-pieces, own-or-none}
use Rattle.session_laws.proofs.HeldRows.Published.{is-play, play_of}
use Rattle.session_model.proofs.Ticks.{log-few}
use Rattle.session_laws.proofs.HeldRows.Sending.{sent-made}
use Rattle.session_laws.proofs.HeldRows.Sources.{IsChunkOf, IsOfAnswer, chunk-laid, frame-gives}
use Rattle.session_laws.proofs.SmallSessions.ThreeGroups.{ThreeLaws, its-plan, signed-matched}
use Rattle.pubsub_model.proofs.CadenceLaws.{length-log_of}

-- ---- frames of one place

-- in a span of one place each frame has it
only-place : (first next : ℕ) (frame : PlacedFrame) → next ≤ first + 1 → InSpan first next frame → place_of frame ≡ first
only-place first next (Whole place row) le (low, high) = omega (arith, le, low, high)
only-place first next (Change place patch) le (low, high) = omega (arith, le, low, high)
only-place first next (Alive n) le (low, high) = omega (arith, le, low, high)

same-place : (meta : MetaData) (frame : PlacedFrame) → place_of (placed_cut meta frame) ≡ place_of frame
same-place meta (Whole place row) = refl
same-place meta (Change place patch) = refl
same-place meta (Alive next) = refl

some-same : (x y : PlacedFrame) → Path (Rattle.std.specs.Prelude.Option PlacedFrame) (Some x) (Some y) → x ≡ y
some-same x y e = cc

abbrev beside : List ReadGroupPart
beside = signed_readers ∷ slotted_readers ∷ cut_readers ∷ []

abbrev its : Plan
its = plan beside

abbrev all : List Step
all = session beside

numbered-is : (its_way (play_of its 0 0 0 0 all)).seat.part.numbering ≡ words.Message
unfolding three_config signed_readers
numbered-is = refl

keyed-is : (Rattle.writer_group.specs.Parts.group_at its.config 0).keygroup ≡ Some 0
unfolding three_config signed_group
keyed-is = refl

unused-is : (sender_after its.config 0 (deeds_before its [] 0 true (ones ∷ []) 0)).used ≡ 0
unfolding three_config signed_group slotted_group cut_group three_keys three_key
unused-is = refl

none-before : past_at beside 0 ≡ []
unfolding three_config signed_group slotted_group cut_group three_keys three_key
none-before = refl

module _ (laws : Laws) (three : ThreeLaws) where
  abbrev is : InSession its 0 0 0 0 all
  is = in-session beside (its-plan three) 0 0 signed-matched

  abbrev play : Play
  play = play_of its 0 0 0 0 all

  abbrev is_play : IsPlay 16385 play
  is_play = is-play laws its 0 0 0 0 all is

  abbrev way : Way
  way = its_way play

  abbrev setting : Setting
  setting = setting_of its.config 0

  abbrev first : ℕ
  first = (writer_at play.group play.writer).first_number

  abbrev next : ℕ
  next = next_place (settings_at play.group play.writer) (its_answers play)

  pub short : 16385 ≤ 65536
  short = omega arith

  abbrev spelled : ℕ → List ℕ
  spelled = its_bytes laws.turns 16385 play short is_play

  -- what the sender made: the datagram with the number 1, under its token, has the message of the first place
  abbrev making : Making
  making = record { sent = λ token. (1, first) ∷ []; bytes = spelled }

  few : next ≤ first + 1
  few =
      let log = log-few its 0 0 all in
      let count = length-log_of (settings_at play.group play.writer) (writer_past play.writer (play.pasts play.index)) in
      omega (arith, log, count)

  is-sent : (token number place : ℕ) → number ≡ 1 → place ≡ first → IsSentAt making token number place
  is-sent token number place one at = (0, omega arith, (let n : 1 ≡ number = sym one in let p : first ≡ place = sym at in cc))

  module _ (token number : ℕ) (one : number ≡ 1) where
    gives-first : (frame : Frame) → IsOfAnswer (its_meta play) (its_answers play) frame → GivesPlace way token number frame (λ own. own ≡ first)
    gives-first frame of = λ given e.
        let gives = frame-gives way (its_answers play) first next frame numbered-is (source laws.turns 16385 play short is_play) of in
        ap place_of (some-same given (placed_cut (its_meta play) of.placed) (sym e ∙ gives)) ∙ same-place (its_meta play) of.placed
        ∙ only-place first next of.placed few ((source laws.turns 16385 play short is_play).spans of.placed of.answer)

    read-sent : (read : Result Frame FrameFault) → OfRead (IsOfAnswer (its_meta play) (its_answers play)) read → ReadGives way token number read (IsSentAt making token number)
    read-sent (Err fault) of = tt
    read-sent (Ok frame) of = λ given e. is-sent token number (place_of given) one (gives-first frame of given e)

    read-at : (place : ℕ) → place ≡ first → (read : Result Frame FrameFault) → OfRead (IsOfAnswer (its_meta play) (its_answers play)) read → ReadGives way token number read (λ own. own ≡ place)
    read-at place at (Err fault) of = tt
    read-at place at (Ok frame) of = λ given e. gives-first frame of given e ∙ sym at

    cut-sent : (read : Result Chunk ChunkFault) → OfRead (IsChunkOf (its_meta play) (its_answers play) spelled) read → ChunkIsCutFor making way token number read
    cut-sent (Err fault) of = tt
    cut-sent (Ok chunk) of =
        let laid = chunk-laid way (its_answers play) spelled first next chunk (source laws.turns 16385 play short is_play) of in
        let at : (placed (place_from first) chunk).place ≡ first = laid.place ∙ only-place first next laid.placed few ((source laws.turns 16385 play short is_play).spans laid.placed laid.answer) in
        record {
          sent = is-sent token number (placed (place_from first) chunk).place one at;
          cut = laid.cut;
          read = read-at (placed (place_from first) chunk).place at (frame_at way.seat.meta (spelled (placed (place_from first) chunk).place)) laid.read;
        }

    part-sent : (piece : Piece) → IsPieceOf (IsOfAnswer (its_meta play) (its_answers play)) (IsChunkOf (its_meta play) (its_answers play) spelled) (its_meta play) piece → IsPartFor making way token number piece
    part-sent (Message bytes) of = read-sent (frame_at way.seat.meta bytes) of
    part-sent (Chunked bytes) of = cut-sent (without_rest (chunk_at bytes)) of
    part-sent (Slotted bytes) of = read-sent (slot_frame_at way.seat.meta bytes) of
    part-sent Missing of = tt

    parts-sent : (parts : List Piece) → All (IsPieceOf (IsOfAnswer (its_meta play) (its_answers play)) (IsChunkOf (its_meta play) (its_answers play) spelled) (its_meta play)) parts → All (IsPartFor making way token number) parts
    parts-sent [] of = All-nil (IsPartFor making way token number)
    parts-sent (piece ∷ parts) of =
        let P = IsPieceOf (IsOfAnswer (its_meta play) (its_answers play)) (IsChunkOf (its_meta play) (its_answers play) spelled) (its_meta play) in
        All-cons (IsPartFor making way token number) piece parts (part-sent piece (All-head P piece parts of)) (parts-sent parts (All-tail P piece parts of))

  -- ---- a datagram of the session

  number-one : (pairs : Accepted) (datagram : List ℕ) (opened : Opened) → Contains (made beside 0) datagram → verdict setting.group setting.setup pairs datagram ≡ Ok opened → opened.pass.number ≡ 1
  number-one pairs datagram opened has e =
      let at : slice_get (made beside 0) has.0 ≡ Some datagram = slice_get-get_or (made beside 0) has.0 datagram has.1 ∙ ap (λ (d : List ℕ). Some d) has.2 in
      let last = its_last laws its 0 0 0 0 0 (ones ∷ []) (all_done its 0 true (ones ∷ []) []) [] (all_got its (sent beside) ∷ []) (own_at beside 0) is (signed-had beside) (signed-took beside) refl in
      let pass = turn-pass laws.turns its 0 0 play.readers 0 0 is.matched keyed-is [] 0 true (ones ∷ []) (deeds_before its [] 0 true (ones ∷ []) 0) has.0 datagram pairs opened last.of.may at e in
      let number = pass.number in
      let unused = unused-is in
      let below = has.1 in
      let one = ap (λ (l : List (List ℕ)). length l) (signed-made beside) in
      omega (arith, number, unused, below, one)

  made-for : (datagram : List ℕ) → IsMade its.config (pasts_at its all) datagram → IsMadeFor making setting way datagram
  made-for datagram was = λ pairs opened e. on pairs opened e (own-or-none laws.turns its.config play.group play.readers 0 0 is.matched 0 (pasts_at its all) is.plan.good.sound is_play.there is_play.pasts pairs datagram opened was e)
    where
      on : (pairs : Accepted) (opened : Opened) → verdict setting.group setting.setup pairs datagram ≡ Ok opened → WasMade (pasts_at its all 0) datagram ⊎ (pieces way.seat.part opened.payload ≡ [])
          → All (IsPartFor making way opened.pass.token opened.pass.number) (pieces way.seat.part opened.payload)
      on pairs opened e (inr none) = subst (All (IsPartFor making way opened.pass.token opened.pass.number)) (sym none) (All-nil (IsPartFor making way opened.pass.token opened.pass.number))
      on pairs opened e (inl own) =
          parts-sent opened.pass.token opened.pass.number (by (subst (λ (past : List GroupDeed). WasMade past datagram) (Rattle.session_laws.proofs.SmallSessions.OneTick.signed-last beside) own)) (pieces way.seat.part opened.payload)
          (made-pieces laws.turns its.config play.group play.readers 0 0 is.matched 0 (pasts_at its all) is.plan.good.sound is_play.there is_play.pasts (turns laws.turns 16385 play short is_play) pairs datagram opened was e)
        where
          by : WasMade (HadGroupTurn (turn_at beside 0) ∷ past_at beside 0) datagram → opened.pass.number ≡ 1
          by (inl has) = number-one pairs datagram opened has e
          by (inr older) = absurd (subst (λ (past : List GroupDeed). WasMade past datagram) none-before older)

  all-made : (now : ℕ) (on : List Bool) (entries : List Entry) (befell : List Event) → ((datagram : List ℕ) → Contains entries (Got datagram) → IsMade its.config (pasts_at its all) datagram)
      → SignedAreMade making setting way befell → SignedAreMade making setting way (fold (got_on now on) befell entries)
  all-made now on [] befell made h = h
  all-made now on (entry ∷ entries) befell made h =
      all-made now on entries (got_on now on befell entry) (λ datagram has. made datagram (suc has.0, let lt = has.1 in omega (arith, lt), has.2)) (one entry (λ datagram same. made datagram (0, omega arith, same)))
    where
      one : (entry : Entry) → ((datagram : List ℕ) → entry ≡ Got datagram → IsMade its.config (pasts_at its all) datagram) → SignedAreMade making setting way (got_on now on befell entry)
      one (Sent d) made = h
      one SendFailed made = h
      one (Got d) made = ((λ signed. made-for d (made d refl)), h)
      one Empty made = h
      one (Long len) made = h
      one ReceiveFailed made = h

  got-made : (datagram : List ℕ) → Contains (all_got its (sent beside)) (Got datagram) → IsMade its.config (pasts_at its all) datagram
  got-made datagram has =
      let sends = sends_of its (sent beside) in
      sent-made its all datagram is.run
      (Contains-append_left (journal its (sent beside)) (all_got its (sent beside)) (Sent datagram) (Contains-append_right [] (send_entries sends (map (λ send. true) sends)) (Sent datagram) (back sends datagram has)))
    where
      back : (sends : List Send) (datagram : List ℕ) → Contains (map (λ send. Got send.datagram) sends ++ Empty ∷ []) (Got datagram) → Contains (send_entries sends (map (λ send. true) sends)) (Sent datagram)
      back [] datagram (zero, below, same) = absurd (cc)
      back [] datagram (suc k, below, same) = absurd (omega (arith, below))
      back (send ∷ sends) datagram (zero, below, same) = (0, omega arith, (let at : send.datagram ≡ datagram = cc in ap (λ (d : List ℕ). Sent d) at))
      back (send ∷ sends) datagram (suc k, below, same) = let rest = back sends datagram (k, omega (arith, below), same) in (suc rest.0, let lt = rest.1 in omega (arith, lt), rest.2)

  rises : SendsRise making.sent
  rises = λ token. (tt, tt)

  pub signed-were-made : SignedAreMade making setting way (events its.config 0 all)
  signed-were-made = all-made (moment_of (sent beside)) (readers_on its.config (sent beside) 0) (all_got its (sent beside)) (events its.config 0 (sent beside)) got-made tt

  pub signed-premises : (m : Making) × SendsRise m.sent × SignedAreMade m setting way (events its.config 0 all)
  signed-premises = (making, rises, signed-were-made)
