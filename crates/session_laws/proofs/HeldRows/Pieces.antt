-- What a datagram that was made has for a matched reader, where its read group takes it: parts of what the reader's writer answered.
use Rattle.std.proofs.Common.{◌≡◌, ◌≢◌, refl, sym, ap, ◌∙◌, subst, arith, ℕ, ◌<◌, ◌≤◌, Bool, true, false, not, List, [], ◌∷◌, length, get_or, Option, Some, None, Result, Ok, Err, inl, inr, All, Contains}
use Rattle.std.specs.Prelude.{◌⊎◌, ◌==◌, slice_get, IsErr}
use Rattle.std.specs.Option.{option_map_or}
use Rattle.std.proofs.lemmas.Bool.{eq-eqb}
use Rattle.std.proofs.lemmas.Bool.Decides.{nat_tests}
use Rattle.std.proofs.lemmas.List.Elements.{All-nil, All-weaker}
use Rattle.std.proofs.lemmas.Option.{slice_get-get_or, slice_get_within}
use Rattle.dataset_meta.specs.Metas.{MetaData}
use Rattle.pubsub_model.specs.Frames.{PlacedFrame, Whole, Change, Alive, place_of, is_silent}
use Rattle.frame_codec.specs.Frames as frames
use Rattle.frame_codec.specs.Frames.{Frame, frame_cut}
use Rattle.frame_codec.specs.declared.fault.FrameFault.{FrameFault}
use Rattle.frame_codec.specs.Carrying.{version_if}
use Rattle.frame_codec.specs.Reading.{frame_at}
use Rattle.chunker.specs.Chunks.{Chunk}
use Rattle.chunker.specs.Joins.{IsCutOf}
use Rattle.chunker.specs.Spelling.{chunk_at, without_rest}
use Rattle.message_guard.specs.Acceptance.{Accepted}
use Rattle.config_tables.specs.declared.words.Layout.{Layout}
use Rattle.config_tables.specs.declared.words.Layout.TheVariants as layouts
use Rattle.ps_config.specs.declared.parts.Config.{Config}
use Rattle.ps_config.specs.declared.parts.GroupPart.{GroupPart}
use Rattle.ps_config.specs.declared.parts.ReadGroupPart.{ReadGroupPart}
use Rattle.ps_config.specs.declared.parts.WriterPart.{WriterPart}
use Rattle.ps_config.specs.Sound.{IsSound}
use Rattle.writer_group.specs.Payloads.{carried_frame, meta_at, spelled_by, writer_at}
use Rattle.writer_group.specs.Turns.{GroupDeed, GroupTurn, RefreshedWriter, HadGroupTurn, TurnInput, turn_datagrams, answer_by}
use Rattle.reader_group.specs.declared.refusal.Refusal.{Refusal}
use Rattle.reader_group.specs.declared.refusal.Refusal.TheVariants as refusals
use Rattle.reader_group.specs.Members.{Seat, seat_at}
use Rattle.reader_group.specs.Opening.{Opened, verdict}
use Rattle.reader_group.specs.Payloads.{Piece, Message, Chunked, Slotted, Missing, pieces}
use Rattle.reader_group.specs.Settings.{setting_by, setup_by}
use Rattle.reader_group.specs.SlotFrames.{slot_frame_at}
use Rattle.group_laws.specs.Matching.{IsMatchedTo, IsGroupTurn, ReadsFrames, ReadsWriter}
use Rattle.group_laws.specs.TurnOpened.{turn_opened, is_accepted, IsTakenAs}
use Rattle.group_laws.specs.TurnReading.{frame_read, IsPartBy, IsPartIf, IsPartOf, IsReadAsChunk}
use Rattle.pubsub_model.specs.Answers.{IsAnswer}
pub use Rattle.session_laws.specs.Below.{TurnLaws}
use Rattle.session_laws.specs.Pasts.{IsTurn, AreTurns, IsPast, WasMade, IsMade, answered_by}
use Rattle.session_laws.proofs.Versions.Answering.{answer-now, answer-stays, refresh-same, spelled_at, spelled-now, spelled-stays}
use Rattle.session_laws.proofs.Versions.Distinct.{IsAt, at-sound, ids-differ, writers-differ, writer-id}
use Rattle.reader_group.proofs.KeptParts.{OfRead, IsPieceOf, weaker-piece}
use Rattle.session_laws.proofs.HeldRows.Sources.{IsOfAnswer, IsChunkOf}

-- ---- a frame of an answer

pub own-major : (versions : Bool) (meta major : ℕ) → meta ≡ major → option_map_or (λ (m : ℕ). not (m == meta)) (version_if versions major) false ≡ false
own-major true meta major same = ap not (eq-eqb major meta (sym same))
own-major false meta major same = refl

of-answer : (writer : WriterPart) (meta now : MetaData) (answered : List Rattle.pubsub_model.specs.Cadence.Answered) (placed : PlacedFrame) → IsAnswer answered placed → meta.major ≡ now.major
    → IsOfAnswer meta answered (frame_cut meta (carried_frame writer now placed))
of-answer writer meta now answered (Whole place row) is major = record { placed = Whole place row; answer = is; own = own-major writer.versions meta.major now.major major; number = refl; content = refl }
of-answer writer meta now answered (Change place patch) is major = record { placed = Change place patch; answer = is; own = own-major writer.versions meta.major now.major major; number = refl; content = refl }
of-answer writer meta now answered (Alive next) is major = record { placed = Alive next; answer = is; own = own-major writer.versions meta.major now.major major; number = refl; content = refl }

pub loud-of : (writer : WriterPart) (meta now : MetaData) (placed : PlacedFrame) → ¬ ((frame_cut meta (carried_frame writer now placed)).content ≡ frames.Alive) → is_silent placed ≡ false
loud-of writer meta now (Whole place row) not_alive = refl
loud-of writer meta now (Change place patch) not_alive = refl
loud-of writer meta now (Alive next) not_alive = absurd (not_alive refl)

pub of-read : {X F : Type 0} (P : X → Type 0) (read : Result X F) (x : X) → read ≡ Ok x → P x → OfRead P read
of-read P read x e is = subst (OfRead P) (sym e) is

pub of-err : {X F : Type 0} (P : X → Type 0) (read : Result X F) → IsErr read → OfRead P read
of-err P (Ok x) e = absurd (cc)
of-err P (Err fault) e = tt

-- ---- a part of a turn

module _ (config : Config) (group : GroupPart) (writer : ℕ) (seat : Seat) (turn : GroupTurn) (before : List GroupDeed) (are : AreTurns config group (HadGroupTurn turn ∷ before))
    (major : seat.meta.major ≡ (meta_at group are.0.input.told.metas writer).major) where
  abbrev now : List GroupDeed
  now = HadGroupTurn turn ∷ before

  abbrev OfNow : Frame → Type 0
  OfNow frame = IsOfAnswer seat.meta (answered_by group writer now) frame

  abbrev ChunkNow : Chunk → Type 0
  ChunkNow chunk = IsChunkOf seat.meta (answered_by group writer now) (spelled_at config group writer now are) chunk

  answer-frame : (placed : PlacedFrame) → answer_by group before are.0.input writer ≡ Some placed → OfNow (frame_read group are.0.input writer seat placed)
  answer-frame placed e =
      of-answer (writer_at group writer) seat.meta (meta_at group are.0.input.told.metas writer) (answered_by group writer now) placed (answer-now config group before turn writer placed are.0 e) major

  answer-chunk : (placed : PlacedFrame) (bytes : List ℕ) → answer_by group before are.0.input writer ≡ Some placed → frame_at seat.meta (spelled_by group are.0.input.told.metas writer placed).bytes ≡ Ok (frame_read group are.0.input writer seat placed)
      → IsReadAsChunk (spelled_by group are.0.input.told.metas writer placed).bytes (spelled_by group are.0.input.told.metas writer placed).number bytes
      → ¬ ((frame_read group are.0.input writer seat placed).content ≡ frames.Alive) → OfRead ChunkNow (without_rest (chunk_at bytes))
  answer-chunk placed bytes e read is not_alive =
      let loud = loud-of (writer_at group writer) seat.meta (meta_at group are.0.input.told.metas writer) placed not_alive in
      let spelled = spelled-now config group writer turn before are placed e loud in
      of-read ChunkNow (without_rest (chunk_at bytes)) is.chunk is.chunk_read (record {
        placed = placed;
        answer = answer-now config group before turn writer placed are.0 e;
        loud = loud;
        number = is.number_is;
        cut = subst (λ (b : List ℕ). IsCutOf b is.chunk) (sym spelled) is.cut;
        read = subst (λ (b : List ℕ). OfRead OfNow (frame_at seat.meta b)) (sym spelled)
            (of-read OfNow (frame_at seat.meta (spelled_by group are.0.input.told.metas writer placed).bytes) (frame_read group are.0.input writer seat placed) read (answer-frame placed e));
      })

  part-some : (placed : PlacedFrame) (piece : Piece) → answer_by group before are.0.input writer ≡ Some placed
      → IsPartOf seat (spelled_by group are.0.input.told.metas writer placed) (frame_read group are.0.input writer seat placed) piece → IsPieceOf OfNow ChunkNow seat.meta piece
  part-some placed (Message bytes) e of = of-read OfNow (frame_at seat.meta bytes) (frame_read group are.0.input writer seat placed) of (answer-frame placed e)
  part-some placed (Chunked bytes) e of = answer-chunk placed bytes e of.0 of.1 of.2
  part-some placed (Slotted bytes) e of = of-read OfNow (slot_frame_at seat.meta bytes) (frame_read group are.0.input writer seat placed) of (answer-frame placed e)
  part-some placed Missing e of = absurd of

  part-if : (answer : Option PlacedFrame) (piece : Piece) → answer_by group before are.0.input writer ≡ answer
      → IsPartIf seat (spelled_by group are.0.input.told.metas writer) (frame_read group are.0.input writer seat) answer piece → IsPieceOf OfNow ChunkNow seat.meta piece
  part-if None (Message bytes) e of = absurd of
  part-if None (Chunked bytes) e of = absurd of
  part-if None (Slotted bytes) e of = of-err OfNow (slot_frame_at seat.meta bytes) of
  part-if None Missing e of = absurd of
  part-if (Some placed) piece e of = part-some placed piece e of

  pub part-piece : (piece : Piece) → IsPartBy group before are.0.input writer seat piece → IsPieceOf OfNow ChunkNow seat.meta piece
  part-piece piece of = part-if (answer_by group before are.0.input writer) piece refl of

-- ---- a datagram of a turn

taken-case : (b : Bool) (one opened : Opened) (answer : Result Opened Refusal) → IsTakenAs b one answer → answer ≡ Ok opened → one ≡ opened
taken-case true one opened answer is e = let both : Ok one ≡ Ok opened = sym (is.taken refl) ∙ e in ok-same one opened both
  where
    ok-same : (one opened : Opened) → Path (Result Opened Refusal) (Ok one) (Ok opened) → one ≡ opened
    ok-same one opened e = cc
taken-case false one opened answer is e = let no = is.refused refl in absurd (err-ok no.fault (sym no.answer_is ∙ e))
  where
    err-ok : (fault : _) → Path (Result Opened Refusal) (Err (refusals.Guard fault)) (Ok opened) → ⊥
    err-ok fault e = cc

taken-test : (b : Bool) (one opened : Opened) (answer : Result Opened Refusal) → IsTakenAs b one answer → answer ≡ Ok opened → b ≡ true
taken-test true one opened answer is e = refl
taken-test false one opened answer is e = let no = is.refused refl in absurd (err-ok no.fault (sym no.answer_is ∙ e))
  where
    err-ok : (fault : _) → Path (Result Opened Refusal) (Err (refusals.Guard fault)) (Ok opened) → ⊥
    err-ok fault e = cc

module _ (laws : TurnLaws) (config : Config) (group : GroupPart) (readers : ReadGroupPart) (reader writer : ℕ) (matched : IsMatchedTo config readers reader group writer) where
  abbrev seat : Seat
  seat = seat_at (setting_by config readers).seats reader

  abbrev its_verdict : Accepted → List ℕ → Result Opened Refusal
  its_verdict accepted datagram = verdict readers (setup_by config readers readers.keygroup) accepted datagram

  -- what is opened of the datagram with this index, where it is taken
  pub opened-at : (past : List GroupDeed) (input : TurnInput) (accepted : Accepted) (k : ℕ) (datagram : List ℕ) (opened : Opened) → IsGroupTurn config group past input
      → slice_get (turn_datagrams config group past input) k ≡ Some datagram → its_verdict accepted datagram ≡ Ok opened
      → (slice_get (turn_opened config group past input) k ≡ Some opened) × (is_accepted (setup_by config readers readers.keygroup) accepted opened.pass ≡ true)
  opened-at past input accepted k datagram opened may at e =
      let sent = turn_datagrams config group past input in
      let all = turn_opened config group past input in
      let below : k < length all = subst (λ (n : ℕ). k < n) (sym (laws.many config group past input)) (slice_get_within sent k datagram at) in
      let one = get_or all k opened in
      let there : slice_get all k ≡ Some one = slice_get-get_or all k opened below in
      let is = laws.taken config group readers past input accepted k datagram one may matched.groups at there in
      let test = is_accepted (setup_by config readers readers.keygroup) accepted one.pass in
      let same : one ≡ opened = taken-case test one opened (its_verdict accepted datagram) is e in
      (there ∙ ap (λ (o : Opened). Some o) same, ap (λ (o : Opened). is_accepted (setup_by config readers readers.keygroup) accepted o.pass) (sym same) ∙ taken-test test one opened (its_verdict accepted datagram) is e)

  own-opened : (past : List GroupDeed) (input : TurnInput) (accepted : Accepted) (datagram : List ℕ) (opened : Opened) → IsGroupTurn config group past input → Contains (turn_datagrams config group past input) datagram
      → its_verdict accepted datagram ≡ Ok opened → Contains (turn_opened config group past input) opened
  own-opened past input accepted datagram opened may has e =
      let sent = turn_datagrams config group past input in
      let all = turn_opened config group past input in
      let k = has.0 in
      let at : slice_get sent k ≡ Some datagram = slice_get-get_or sent k datagram has.1 ∙ ap (λ (d : List ℕ). Some d) has.2 in
      let below : k < length all = subst (λ (n : ℕ). k < n) (sym (laws.many config group past input)) has.1 in
      let one = get_or all k opened in
      let is = laws.taken config group readers past input accepted k datagram one may matched.groups at (slice_get-get_or all k opened below) in
      (k, below, taken-case (is_accepted (setup_by config readers readers.keygroup) accepted one.pass) one opened (its_verdict accepted datagram) is e)

  meta-is : seat.meta ≡ meta_at group config.dataset writer
  meta-is = laws.meta config readers reader group writer matched

  -- the parts of a datagram of a turn
  turn-parts : (layout : Layout) (past : List GroupDeed) (turn : GroupTurn) (opened : Opened) (is : IsTurn config group past turn) → group.layout ≡ layout → Contains (turn_opened config group past is.input) opened
      → All (IsPartBy group past is.input writer seat) (pieces seat.part opened.payload)
  turn-parts layouts.Dynamic past turn opened is layout has =
      laws.dynamic config group past is.input writer seat layout is.may (laws.reads config readers reader group writer matched)
      (subst (ReadsFrames group is.input.told.metas writer) (sym meta-is) (is.metas writer matched.reads.within)) (is.sampled writer matched.reads.within) opened has
  turn-parts layouts.Fixed past turn opened is layout has =
      laws.fixed config group past is.input writer seat layout is.may (is.fixed layout) (laws.reads config readers reader group writer matched) meta-is opened has

  abbrev pub ArePieces : (past : List GroupDeed) → AreTurns config group past → Opened → Type 0
  ArePieces past are opened =
      All (IsPieceOf (IsOfAnswer seat.meta (answered_by group writer past)) (IsChunkOf seat.meta (answered_by group writer past) (spelled_at config group writer past are)) seat.meta) (pieces seat.part opened.payload)

  now-pieces : (past : List GroupDeed) (turn : GroupTurn) (are : AreTurns config group (HadGroupTurn turn ∷ past)) (accepted : Accepted) (datagram : List ℕ) (opened : Opened) → Contains turn.made datagram
      → its_verdict accepted datagram ≡ Ok opened → ArePieces (HadGroupTurn turn ∷ past) are opened
  now-pieces past turn are accepted datagram opened made e =
      let is = are.0 in
      let has = own-opened past is.input accepted datagram opened is.may (subst (λ (t : GroupTurn). Contains t.made datagram) is.is made) e in
      let major = ap (λ (m : MetaData). m.major) meta-is ∙ is.majors writer matched.reads.within in
      let parts = turn-parts group.layout past turn opened is refl has in
      All-weaker (IsPartBy group past is.input writer seat)
      (IsPieceOf (IsOfAnswer seat.meta (answered_by group writer (HadGroupTurn turn ∷ past)))
      (IsChunkOf seat.meta (answered_by group writer (HadGroupTurn turn ∷ past)) (spelled_at config group writer (HadGroupTurn turn ∷ past) are)) seat.meta)
      (λ piece of. part-piece config group writer seat turn past are major piece of) (pieces seat.part opened.payload) parts

  -- a turn more leaves the pieces of earlier ones
  frame-stays : (turn : GroupTurn) (past : List GroupDeed) (frame : Frame) → IsOfAnswer seat.meta (answered_by group writer past) frame → IsOfAnswer seat.meta (answered_by group writer (HadGroupTurn turn ∷ past)) frame
  frame-stays turn past frame is = record { placed = is.placed; answer = answer-stays group writer turn past is.placed is.answer; own = is.own; number = is.number; content = is.content }

  read-stays : (turn : GroupTurn) (past : List GroupDeed) (read : Result Frame FrameFault) → OfRead (IsOfAnswer seat.meta (answered_by group writer past)) read → OfRead (IsOfAnswer seat.meta (answered_by group writer (HadGroupTurn turn ∷ past))) read
  read-stays turn past (Ok frame) is = frame-stays turn past frame is
  read-stays turn past (Err fault) is = tt

  chunk-stays : (turn : GroupTurn) (past : List GroupDeed) (are : AreTurns config group (HadGroupTurn turn ∷ past)) (chunk : Chunk) → IsChunkOf seat.meta (answered_by group writer past) (spelled_at config group writer past are.1) chunk
      → IsChunkOf seat.meta (answered_by group writer (HadGroupTurn turn ∷ past)) (spelled_at config group writer (HadGroupTurn turn ∷ past) are) chunk
  chunk-stays turn past are chunk is =
      let same = spelled-stays config group writer turn past are is.placed is.answer in
      record {
        placed = is.placed;
        answer = answer-stays group writer turn past is.placed is.answer;
        loud = is.loud;
        number = is.number;
        cut = subst (λ (b : List ℕ). IsCutOf b chunk) (sym same) is.cut;
        read = subst (λ (b : List ℕ). OfRead (IsOfAnswer seat.meta (answered_by group writer (HadGroupTurn turn ∷ past))) (frame_at seat.meta b)) (sym same)
            (read-stays turn past (frame_at seat.meta (spelled_at config group writer past are.1 (place_of is.placed))) is.read);
      }

  pieces-stay : (turn : GroupTurn) (past : List GroupDeed) (are : AreTurns config group (HadGroupTurn turn ∷ past)) (opened : Opened) → ArePieces past are.1 opened → ArePieces (HadGroupTurn turn ∷ past) are opened
  pieces-stay turn past are opened h =
      All-weaker (IsPieceOf (IsOfAnswer seat.meta (answered_by group writer past)) (IsChunkOf seat.meta (answered_by group writer past) (spelled_at config group writer past are.1)) seat.meta)
      (IsPieceOf (IsOfAnswer seat.meta (answered_by group writer (HadGroupTurn turn ∷ past)))
      (IsChunkOf seat.meta (answered_by group writer (HadGroupTurn turn ∷ past)) (spelled_at config group writer (HadGroupTurn turn ∷ past) are)) seat.meta)
      (weaker-piece _ _ _ _ seat.meta (frame-stays turn past) (chunk-stays turn past are)) (pieces seat.part opened.payload) h

  -- the pieces of any turn of the group
  pub own-pieces : (past : List GroupDeed) (are : AreTurns config group past) (accepted : Accepted) (datagram : List ℕ) (opened : Opened) → WasMade past datagram → its_verdict accepted datagram ≡ Ok opened
      → ArePieces past are opened
  own-pieces [] are accepted datagram opened made e = absurd made
  own-pieces (RefreshedWriter other ∷ before) are accepted datagram opened made e =
      subst (λ (answered : List Rattle.pubsub_model.specs.Cadence.Answered). All (IsPieceOf (IsOfAnswer seat.meta answered) (IsChunkOf seat.meta answered (spelled_at config group writer before are)) seat.meta) (pieces seat.part opened.payload))
      (sym (refresh-same group writer other before)) (own-pieces before are accepted datagram opened made e)
  own-pieces (HadGroupTurn turn ∷ before) are accepted datagram opened (inl made) e = now-pieces before turn are accepted datagram opened made e
  own-pieces (HadGroupTurn turn ∷ before) are accepted datagram opened (inr made) e = pieces-stay turn before are opened (own-pieces before are.1 accepted datagram opened made e)

  -- ---- of another group's turn there is nothing

  other-layout : (layout : Layout) (part : GroupPart) (past : List GroupDeed) (input : TurnInput) (accepted : Accepted) (datagram : List ℕ) (opened : Opened) → IsGroupTurn config part past input
      → Contains (turn_datagrams config part past input) datagram → part.layout ≡ layout → readers.layout ≡ layouts.Dynamic → 1 ≤ seat.part.writer → All (λ other. other.id ≢ seat.part.writer) part.writer
      → its_verdict accepted datagram ≡ Ok opened → pieces seat.part opened.payload ≡ []
  other-layout layouts.Fixed part past input accepted datagram opened may has layout dynamic some apart e =
      absurd (err-of (its_verdict accepted datagram) (laws.other_fixed config part past input readers (setup_by config readers readers.keygroup) accepted datagram may has layout dynamic) e)
    where
      err-of : (answer : Result Opened Refusal) → IsErr answer → answer ≡ Ok opened → ⊥
      err-of (Ok x) err e = let wrong : false ≡ true = err in cc
      err-of (Err fault) err e = cc
  other-layout layouts.Dynamic part past input accepted datagram opened may has layout dynamic some apart e =
      laws.other_dynamic config part past input readers (setup_by config readers readers.keygroup) accepted datagram opened seat.part may has layout dynamic some apart e

  other-turn : (part : GroupPart) (past : List GroupDeed) (input : TurnInput) (accepted : Accepted) (datagram : List ℕ) (opened : Opened) → IsGroupTurn config part past input
      → Contains (turn_datagrams config part past input) datagram → 1 ≤ group.id → group.id ≢ part.id → 1 ≤ seat.part.writer → All (λ other. other.id ≢ seat.part.writer) part.writer
      → its_verdict accepted datagram ≡ Ok opened → pieces seat.part opened.payload ≡ []
  other-turn part past input accepted datagram opened may has some_id ids some apart e = on matched.groups.group_id
    where
      refused : verdict readers (setup_by config readers readers.keygroup) accepted datagram ≡ Err refusals.NotOurs → ⊥
      refused is = let wrong : Path (Result Opened Refusal) (Err refusals.NotOurs) (Ok opened) = sym is ∙ e in cc

      on : (readers.group ≡ group.id) ⊎ ((readers.group ≡ 0) × (readers.layout ≡ layouts.Dynamic)) → pieces seat.part opened.payload ≡ []
      on (inl same) = absurd (refused (laws.other_named config part past input readers (setup_by config readers readers.keygroup) accepted datagram may has (λ zero_is. omega (arith, some_id, same, zero_is)) (λ own. ids (sym same ∙ own))))
      on (inr any) = other-layout part.layout part past input accepted datagram opened may has refl any.1 some apart e

  other-made : (part : GroupPart) (past : List GroupDeed) (accepted : Accepted) (datagram : List ℕ) (opened : Opened) → AreTurns config part past → WasMade past datagram → 1 ≤ group.id → group.id ≢ part.id → 1 ≤ seat.part.writer
      → All (λ other. other.id ≢ seat.part.writer) part.writer → its_verdict accepted datagram ≡ Ok opened → pieces seat.part opened.payload ≡ []
  other-made part [] accepted datagram opened are made some_id ids some apart e = absurd made
  other-made part (RefreshedWriter other ∷ before) accepted datagram opened are made some_id ids some apart e = other-made part before accepted datagram opened are made some_id ids some apart e
  other-made part (HadGroupTurn turn ∷ before) accepted datagram opened are (inl made) some_id ids some apart e =
      other-turn part before are.0.input accepted datagram opened are.0.may (subst (λ (t : GroupTurn). Contains t.made datagram) are.0.is made) some_id ids some apart e
  other-made part (HadGroupTurn turn ∷ before) accepted datagram opened are (inr made) some_id ids some apart e = other-made part before accepted datagram opened are.1 made some_id ids some apart e

  -- ---- whichever group made it

  -- the group did, or there is nothing for the reader
  pub own-or-nothing : (index : ℕ) (pasts : ℕ → List GroupDeed) → IsSound config → IsAt config index group → ((h : ℕ) (part : GroupPart) → IsAt config h part → AreTurns config part (pasts h))
      → (accepted : Accepted) (datagram : List ℕ) (opened : Opened) → IsMade config pasts datagram → its_verdict accepted datagram ≡ Ok opened → WasMade (pasts index) datagram ⊎ (pieces seat.part opened.payload ≡ [])
  own-or-nothing index pasts sound at are_turns accepted datagram opened is e = on (is.group == index) refl
    where
      within : writer < length group.writer
      within = matched.reads.within

      reads : ReadsWriter group writer seat.part
      reads = laws.reads config readers reader group writer matched

      some : 1 ≤ seat.part.writer
      some = let id = reads.id in let least = writer-id config index writer group sound at within in omega (arith, id, least)

      on : (b : Bool) → (is.group == index) ≡ b → WasMade (pasts index) datagram ⊎ (pieces seat.part opened.payload ≡ [])
      on true own = let same : is.group ≡ index = grind (arith, nat_tests) in inl (subst (λ (n : ℕ). WasMade (pasts n) datagram) same is.made)
      on false other =
          let differ : is.group ≢ index = grind (arith, nat_tests) in
          let apart = writers-differ config index is.group writer group is.part sound at is.there differ within in
          let not_own = All-weaker (λ (w : WriterPart). w.id ≢ (writer_at group writer).id) (λ (w : WriterPart). w.id ≢ seat.part.writer) (λ w ids same. ids (same ∙ reads.id)) is.part.writer apart in
          inr (other-made is.part (pasts is.group) accepted datagram opened (are_turns is.group is.part is.there) is.made (at-sound config index group sound at).id.0
          (ids-differ config index is.group group is.part sound at is.there differ) some not_own e)

  pub own-or-none : (index : ℕ) (pasts : ℕ → List GroupDeed) → IsSound config → IsAt config index group → ((h : ℕ) (part : GroupPart) → IsAt config h part → IsPast config part (pasts h))
      → (accepted : Accepted) (datagram : List ℕ) (opened : Opened) → IsMade config pasts datagram → its_verdict accepted datagram ≡ Ok opened → WasMade (pasts index) datagram ⊎ (pieces seat.part opened.payload ≡ [])
  own-or-none index pasts sound at are_pasts = own-or-nothing index pasts sound at (λ h part there. (are_pasts h part there).turns)

  pub made-pieces : (index : ℕ) (pasts : ℕ → List GroupDeed) → IsSound config → IsAt config index group → ((h : ℕ) (part : GroupPart) → IsAt config h part → IsPast config part (pasts h))
      → (are : AreTurns config group (pasts index)) (accepted : Accepted) (datagram : List ℕ) (opened : Opened) → IsMade config pasts datagram → its_verdict accepted datagram ≡ Ok opened → ArePieces (pasts index) are opened
  made-pieces index pasts sound at are_pasts are accepted datagram opened is e = on (own-or-none index pasts sound at are_pasts accepted datagram opened is e)
    where
      on : WasMade (pasts index) datagram ⊎ (pieces seat.part opened.payload ≡ []) → ArePieces (pasts index) are opened
      on (inl made) = own-pieces (pasts index) are accepted datagram opened made e
      on (inr none) =
          subst (λ (l : List Piece). All (IsPieceOf (IsOfAnswer seat.meta (answered_by group writer (pasts index))) (IsChunkOf seat.meta (answered_by group writer (pasts index)) (spelled_at config group writer (pasts index) are)) seat.meta) l) (sym none)
          (All-nil (IsPieceOf (IsOfAnswer seat.meta (answered_by group writer (pasts index))) (IsChunkOf seat.meta (answered_by group writer (pasts index)) (spelled_at config group writer (pasts index) are)) seat.meta))
