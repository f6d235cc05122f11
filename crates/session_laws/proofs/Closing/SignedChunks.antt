-- What befalls a secured read group: where the chunks of the closing frame cover it, it stands in a reader's list, with a number above that which was used before.
use Rattle.std.proofs.Common.{◌≡◌, ◌≢◌, refl, sym, ap, ◌∙◌, subst, arith, ℕ, ◌+◌, ◌<◌, ◌⊎◌, inl, inr, Bool, true, false, List, [], ◌∷◌, Option, Some, None, All, Result, Ok, Err}
use Rattle.std.specs.Prelude.{◌==◌, ⊤, filter, fold, map, slice_index_or, if◌then◌else◌}
use Rattle.std.proofs.lemmas.List.Elements.{All-cons, All-head, All-nil, All-tail, All-weaker}
use Rattle.seq_number.specs.Numbers.{place_from}
use Rattle.pubsub_model.specs.declared.reading.Why.{Why}
use Rattle.pubsub_model.specs.declared.reading.Why.TheVariants.{NewToken, Timeout}
use Rattle.pubsub_model.specs.Answers.{InSpan}
use Rattle.pubsub_model.specs.Cadence.{Answered}
use Rattle.pubsub_model.specs.Frames.{PlacedFrame, Whole, Change, Alive, is_silent, place_of}
use Rattle.frame_codec.specs.Frames.{Frame}
use Rattle.frame_codec.specs.declared.fault.FrameFault.{FrameFault}
use Rattle.frame_codec.specs.Reading.{frame_at}
use Rattle.chunker.specs.Chunks.{Chunk, cover, message_of}
use Rattle.chunker.proofs.ChunkLaws.{cover_none}
use Rattle.message_guard.specs.Acceptance.{raises}
use Rattle.message_guard.specs.Modes.{is_secured}
use Rattle.ps_config.specs.declared.parts.Config.{Config}
use Rattle.reader_group.specs.declared.refusal.Refusal.{Refusal}
use Rattle.reader_group.specs.Agreeing.{AreRestarts}
use Rattle.reader_group.specs.Arrivals.{Mark, Way, accepted, accepted_with, arrivals_in, chunks_in, cut_on, frame_of, item_of, item_on, marks, piece_on, placed, runs_out, taken_in}
use Rattle.reader_group.specs.Opening.{Opened, verdict}
use Rattle.ps_config.specs.declared.parts.ReaderPart.{ReaderPart}
use Rattle.fixed_layout.specs.Datagrams.{slot_of}
use Rattle.reader_group.specs.Payloads as payloads
use Rattle.reader_group.specs.Payloads.{Piece, Message, Chunked, Slotted, Missing, Payload, pieces, reader_slot, slot_piece}
use Rattle.reader_group.specs.SlotFrames.{slot_frame_at}
use Rattle.reader_group.specs.Plain.{Event, Got, Expired, Setting, Stopped}
use Rattle.reader_group.proofs.KeptParts.{IsPieceOf, Keep, OfRead, keep-parts, weaker-piece}
use Rattle.writer_group.specs.Turns.{GroupDeed}
use Rattle.session_laws.specs.Pasts.{CameAsMade}
use Rattle.session_laws.proofs.Closing.Coming.{cover-other, read-same, same-chunks}
use Rattle.session_laws.proofs.Closing.SignedGot.{taken-signed}
use Rattle.session_laws.proofs.Closing.SignedParts.{HasPair, pair-added}
use Rattle.session_laws.proofs.HeldRows.Sources.{IsChunkOf, IsLaidOf, IsOfAnswer, Source, chunk-laid}

-- ---- chunks of earlier answers cover nothing of it

pub lower : (first place : ℕ) (frame : PlacedFrame) → is_silent frame ≡ false → InSpan first place frame → place_of frame < place
lower first place (Whole n row) loud is = is.1
lower first place (Change n patch) loud is = is.1
lower first place (Alive n) loud is = absurd (cc)

abbrev pub AnyFrame : Frame → Type 0
AnyFrame frame = ⊤

pub any-read : (read : Result Frame FrameFault) → OfRead AnyFrame read
any-read (Ok frame) = tt
any-read (Err fault) = tt

module _ (way : Way) (older : List Answered) (bytes : ℕ → List ℕ) (first place total : ℕ) (source : Source way older first place) where
  pub not-there : (c : Chunk) → IsLaidOf way.seat.meta older bytes c → c.place ≢ place
  not-there c laid same = let lt = lower first place laid.placed laid.loud (source.spans laid.placed laid.answer) in let own = laid.place in omega (arith, lt, own, same)

  same-item : (now : ℕ) (s : Option ℕ) (before : List Mark) (o : Option PlacedFrame) → cover (chunks_in (item_on way now s before o)) place total ≡ cover (chunks_in before) place total
  same-item now s before None = refl
  same-item now s before (Some frame) = ap (λ (l : List Chunk). cover l place total) (same-chunks way before (item_of now s frame))

  cover-kept : (v : Bool) (now : ℕ) (s : Option ℕ) → Keep (λ list. cover (chunks_in list) place total ≡ v) AnyFrame (IsChunkOf way.seat.meta older bytes) way (place_from first) now s
  cover-kept v now s = record {
    item = λ before frame any h. same-item now s before (frame_of way (place_from first) frame) ∙ h;
    chunk = λ before chunk is h. cover-other (placed (place_from first) chunk) (chunks_in before) place total (not-there (placed (place_from first) chunk) (chunk-laid way older bytes first place chunk source is)) ∙ h;
    whole = λ before chunk is h e.
        any-read (frame_at way.seat.meta (message_of (placed (place_from first) chunk ∷ chunks_in before) (placed (place_from first) chunk).place (placed (place_from first) chunk).total));
  }

  pub older-parts : (now : ℕ) (s : Option ℕ) (parts : List Piece) (before : List Mark) → All (IsPieceOf (IsOfAnswer way.seat.meta older) (IsChunkOf way.seat.meta older bytes) way.seat.meta) parts
      → cover (chunks_in (fold (piece_on way (place_from first) now s) before parts)) place total ≡ cover (chunks_in before) place total
  older-parts now s parts before are =
      let v = cover (chunks_in before) place total in
      keep-parts (λ list. cover (chunks_in list) place total ≡ v) AnyFrame (IsChunkOf way.seat.meta older bytes) way (place_from first) now s (cover-kept v now s) parts before
      (All-weaker (IsPieceOf (IsOfAnswer way.seat.meta older) (IsChunkOf way.seat.meta older bytes) way.seat.meta) (IsPieceOf AnyFrame (IsChunkOf way.seat.meta older bytes) way.seat.meta)
      (λ piece of. weaker-piece (IsOfAnswer way.seat.meta older) AnyFrame (IsChunkOf way.seat.meta older bytes) (IsChunkOf way.seat.meta older bytes) way.seat.meta (λ frame is. tt) (λ chunk is. is) piece of) parts are)
      refl

-- a part that is no chunk leaves the chunks
abbrev pub IsNoChunk : Piece → Type 0
IsNoChunk (Message b) = ⊤
IsNoChunk (Chunked b) = ⊥
IsNoChunk (Slotted b) = ⊤
IsNoChunk Missing = ⊤

slot-no-chunk : (o : Option (List ℕ)) → IsNoChunk (slot_piece o)
slot-no-chunk None = tt
slot-no-chunk (Some b) = tt

all-messages : (parts : List (ℕ × List ℕ)) → All IsNoChunk (map (λ (part : ℕ × List ℕ). Message part.1) parts)
all-messages [] = All-nil IsNoChunk
all-messages (part ∷ parts) = All-cons IsNoChunk (Message part.1) (map (λ (part : ℕ × List ℕ). Message part.1) parts) tt (all-messages parts)

-- a datagram has one chunk for a reader, or none
pub chunk-case : (reader : ReaderPart) (payload : Payload) → ((b : List ℕ) × (pieces reader payload ≡ Chunked b ∷ [])) ⊎ All IsNoChunk (pieces reader payload)
chunk-case reader (payloads.Slots datagram) =
    inr (All-cons IsNoChunk (slot_piece (slot_of datagram (reader_slot reader))) [] (slot-no-chunk (slot_of datagram (reader_slot reader))) (All-nil IsNoChunk))
chunk-case reader (payloads.Chunk writer bytes) = on (writer == reader.writer)
  where
    on : (b : Bool) → ((c : List ℕ) × (Path (List Piece) (if b then Chunked bytes ∷ [] else []) (Chunked c ∷ []))) ⊎ All IsNoChunk (if b then Chunked bytes ∷ [] else [])
    on true = inl (bytes, refl)
    on false = inr (All-nil IsNoChunk)
chunk-case reader (payloads.Messages parts) = inr (all-messages (filter (λ (part : ℕ × List ℕ). part.0 == reader.writer) parts))

module _ (way : Way) (first now : ℕ) (s : Option ℕ) where
  same-piece : (before : List Mark) (piece : Piece) → IsNoChunk piece → chunks_in (piece_on way (place_from first) now s before piece) ≡ chunks_in before
  same-piece before (Message b) none = read-same way (place_from first) now s before (frame_at way.seat.meta b)
  same-piece before (Chunked b) none = absurd none
  same-piece before (Slotted b) none = read-same way (place_from first) now s before (slot_frame_at way.seat.meta b)
  same-piece before Missing none = refl

  pub same-parts : (parts : List Piece) (before : List Mark) → All IsNoChunk parts → chunks_in (fold (piece_on way (place_from first) now s) before parts) ≡ chunks_in before
  same-parts [] before none = refl
  same-parts (piece ∷ parts) before none =
      same-parts parts (piece_on way (place_from first) now s before piece) (All-tail IsNoChunk piece parts none) ∙ same-piece before piece (All-head IsNoChunk piece parts none)

-- ---- over all that befell the group

module _ (setting : Setting) (config : Config) (pasts : ℕ → List GroupDeed) (way : Way) (first place total token used : ℕ) (secured : is_secured setting.setup.mode ≡ true) (some : 0 < total) (places : (t n : ℕ) → way.place t n ≡ place_from first) where
  abbrev pub IsOpen : List Mark → Type 0
  IsOpen list = cover (chunks_in list) place total ≡ false

  -- a datagram of the closing turn was accepted
  abbrev pub HasAny : List Event → Type 0
  HasAny befell = (n : ℕ) × (used < n) × HasPair token n (accepted setting befell)

  abbrev pub brought : ℕ → List Bool → Opened → List Mark → List Mark
  brought now on opened list = fold (piece_on way (place_from first) now (Some opened.pass.number)) list (if slice_index_or on way.index false then pieces way.seat.part opened.payload else [])

  -- a datagram of the closing turn, an older one, and one with nothing for the reader
  pub record IsClosing (opened : Opened) : Type 0 where
    pub token_is : opened.pass.token ≡ token
    pub above : used < opened.pass.number

  pub record IsOlder (now : ℕ) (on : List Bool) (before : List Event) (opened : Opened) : Type 0 where
    pub near : HasAny before → (raises (accepted setting before) opened.pass.token ≡ false) × (opened.pass.number < used + 1 + 16384)
    pub same : (list : List Mark) → cover (chunks_in (brought now on opened list)) place total ≡ cover (chunks_in list) place total

  abbrev pub IsOther : List Bool → Opened → Type 0
  IsOther on opened = (if slice_index_or on way.index false then pieces way.seat.part opened.payload else []) ≡ []

  abbrev pub IsStep : ℕ → List Bool → List Event → Opened → Type 0
  IsStep now on before opened = IsClosing opened ⊎ (IsOlder now on before opened ⊎ IsOther on opened)

  abbrev pub TakesSteps : Type 0
  TakesSteps =
      (now : ℕ) (on : List Bool) (other : List ℕ) (before : List Event) (opened : Opened) → CameAsMade setting config pasts (Got now on other ∷ before) → verdict setting.group setting.setup (accepted setting before) other ≡ Ok opened → IsStep now on before opened

  cleared : (list : List Mark) → chunks_in list ≡ [] → IsOpen list
  cleared list none = ap (λ (l : List Chunk). cover l place total) none ∙ cover_none place total some

  pub open-cut : (cuts : Bool) (why : Why) (list : List Mark) → chunks_in (cut_on true why list) ≡ [] → IsOpen list → IsOpen (cut_on cuts why list)
  open-cut true why list clears h = cleared (cut_on true why list) clears
  open-cut false why list clears h = h

  abbrev after : List Event → Opened → List Mark
  after before opened = cut_on (raises (accepted setting before) opened.pass.token) NewToken (marks setting way before)

  abbrev HasMore : List Event → Opened → Type 0
  HasMore before opened = (n : ℕ) × (used < n) × HasPair token n (accepted_with setting (accepted setting before) (Ok opened))

  more-pairs : (before : List Event) (opened : Opened) → HasAny before → HasMore before opened
  more-pairs before opened any = (any.0, any.1, subst (HasPair token any.0) (sym (pair-added setting config pasts secured (accepted setting before) opened)) (inr any.2))

  -- ---- until one of the turn is accepted, the message isn't covered

  module _ (steps_are : TakesSteps) where
    open-step : (now : ℕ) (on : List Bool) (before : List Event) (opened : Opened) → IsStep now on before opened → HasAny before ⊎ IsOpen (marks setting way before) → HasMore before opened ⊎ IsOpen (brought now on opened (after before opened))
    open-step now on before opened (inl closing) h =
        inl (opened.pass.number, closing.above, subst (HasPair token opened.pass.number) (sym (pair-added setting config pasts secured (accepted setting before) opened)) (inl (closing.token_is, refl)))
    open-step now on before opened (inr step) (inl any) = inl (more-pairs before opened any)
    open-step now on before opened (inr (inl older)) (inr none) = inr (older.same (after before opened) ∙ open-cut (raises (accepted setting before) opened.pass.token) NewToken (marks setting way before) refl none)
    open-step now on before opened (inr (inr other)) (inr none) =
        inr (subst (λ (parts : List Piece). IsOpen (fold (piece_on way (place_from first) now (Some opened.pass.number)) (after before opened) parts)) (sym other)
        (open-cut (raises (accepted setting before) opened.pass.token) NewToken (marks setting way before) refl none))

    open-answer : (now : ℕ) (on : List Bool) (other : List ℕ) (before : List Event) (answer : Result Opened Refusal) → CameAsMade setting config pasts (Got now on other ∷ before) → verdict setting.group setting.setup (accepted setting before) other ≡ answer
        → HasAny before ⊎ IsOpen (marks setting way before)
        → ((n : ℕ) × (used < n) × HasPair token n (accepted_with setting (accepted setting before) answer)) ⊎ IsOpen (taken_in setting way now (slice_index_or on way.index false) (accepted setting before) (marks setting way before) answer)
    open-answer now on other before (Err refusal) came e h = h
    open-answer now on other before (Ok opened) came e h =
        subst (λ (list : List Mark). HasMore before opened ⊎ IsOpen list) (sym (taken-signed setting way first now (slice_index_or on way.index false) (accepted setting before) (marks setting way before) opened secured places))
        (open-step now on before opened (steps_are now on other before opened came e) h)

    either-cut : (before later : List Event) (cuts : Bool) (why : Why) → chunks_in (cut_on true why (marks setting way before)) ≡ [] → accepted setting later ≡ accepted setting before → HasAny before ⊎ IsOpen (marks setting way before)
        → HasAny later ⊎ IsOpen (cut_on cuts why (marks setting way before))
    either-cut before later cuts why clears same (inl any) = inl (any.0, any.1, subst (HasPair token any.0) (sym same) any.2)
    either-cut before later cuts why clears same (inr none) = inr (open-cut cuts why (marks setting way before) clears none)

    pub open-all : (befell : List Event) → AreRestarts befell → CameAsMade setting config pasts befell → HasAny befell ⊎ IsOpen (marks setting way befell)
    open-all [] restarts came = inr (cover_none place total some)
    open-all (Got now on other ∷ before) restarts came =
        open-answer now on other before (verdict setting.group setting.setup (accepted setting before) other) came refl (open-all before restarts came.1)
    open-all (Expired now ∷ before) restarts came = either-cut before (Expired now ∷ before) (runs_out way now (arrivals_in (marks setting way before))) Timeout refl refl (open-all before restarts came)
    open-all (Stopped reader why ∷ before) restarts came =
        either-cut before (Stopped reader why ∷ before) (reader == way.index) why (ap (λ (w : Why). chunks_in (cut_on true w (marks setting way before))) restarts.0) refl (open-all before restarts.1 came)

    -- ---- where it is covered, it stands there

    module _ (Q : List Mark → Type 0) (stays : (now n : ℕ) → n < used + 1 + 16384 → (parts : List Piece) (list : List Mark) → Q list → Q (fold (piece_on way (place_from first) now (Some n)) list parts))
        (covers : (now : ℕ) (on : List Bool) (other : List ℕ) (before : List Event) (opened : Opened) → CameAsMade setting config pasts (Got now on other ∷ before) → verdict setting.group setting.setup (accepted setting before) other ≡ Ok opened → IsClosing opened
        → (raised : Bool) → (let list = cut_on raised NewToken (marks setting way before) in (cover (chunks_in list) place total ≡ true → Q list) → cover (chunks_in (brought now on opened list)) place total ≡ true → Q (brought now on opened list))) where
      abbrev Covered : List Mark → Type 0
      Covered list = cover (chunks_in list) place total ≡ true → Q list

      vacuous : (list : List Mark) → IsOpen list → Covered list
      vacuous list none = λ e. absurd (let wrong : false ≡ true = sym none ∙ e in cc)

      covered-cut : (cuts : Bool) (why : Why) (list : List Mark) → chunks_in (cut_on true why list) ≡ [] → Covered list → Covered (cut_on cuts why list)
      covered-cut true why list clears h = vacuous (cut_on true why list) (cleared (cut_on true why list) clears)
      covered-cut false why list clears h = h

      older-step : (now : ℕ) (on : List Bool) (before : List Event) (opened : Opened) → IsOlder now on before opened → Covered (marks setting way before) → HasAny before ⊎ IsOpen (marks setting way before) → Covered (brought now on opened (after before opened))
      older-step now on before opened older h (inl any) =
          let list = marks setting way before in
          let near = older.near any in
          let parts = if slice_index_or on way.index false then pieces way.seat.part opened.payload else [] in
          subst (λ (b : Bool). Covered (brought now on opened (cut_on b NewToken list))) (sym near.0) (λ e. stays now opened.pass.number near.1 parts list (h (sym (older.same list) ∙ e)))
      older-step now on before opened older h (inr none) =
          vacuous (brought now on opened (after before opened)) (older.same (after before opened) ∙ open-cut (raises (accepted setting before) opened.pass.token) NewToken (marks setting way before) refl none)

      covered-step : (now : ℕ) (on : List Bool) (other : List ℕ) (before : List Event) (opened : Opened) → CameAsMade setting config pasts (Got now on other ∷ before) → verdict setting.group setting.setup (accepted setting before) other ≡ Ok opened
          → IsStep now on before opened → Covered (marks setting way before) → HasAny before ⊎ IsOpen (marks setting way before) → Covered (brought now on opened (after before opened))
      covered-step now on other before opened came e (inl closing) h either =
          let raised = raises (accepted setting before) opened.pass.token in covers now on other before opened came e closing raised (covered-cut raised NewToken (marks setting way before) refl h)
      covered-step now on other before opened came e (inr (inl older)) h either = older-step now on before opened older h either
      covered-step now on other before opened came e (inr (inr none)) h either =
          subst (λ (parts : List Piece). Covered (fold (piece_on way (place_from first) now (Some opened.pass.number)) (after before opened) parts)) (sym none)
          (covered-cut (raises (accepted setting before) opened.pass.token) NewToken (marks setting way before) refl h)

      covered-answer : (now : ℕ) (on : List Bool) (other : List ℕ) (before : List Event) (answer : Result Opened Refusal) → CameAsMade setting config pasts (Got now on other ∷ before) → verdict setting.group setting.setup (accepted setting before) other ≡ answer
          → Covered (marks setting way before) → HasAny before ⊎ IsOpen (marks setting way before) → Covered (taken_in setting way now (slice_index_or on way.index false) (accepted setting before) (marks setting way before) answer)
      covered-answer now on other before (Err refusal) came e h either = h
      covered-answer now on other before (Ok opened) came e h either =
          subst Covered (sym (taken-signed setting way first now (slice_index_or on way.index false) (accepted setting before) (marks setting way before) opened secured places))
          (covered-step now on other before opened came e (steps_are now on other before opened came e) h either)

      pub covered-all : (befell : List Event) → AreRestarts befell → CameAsMade setting config pasts befell → cover (chunks_in (marks setting way befell)) place total ≡ true → Q (marks setting way befell)
      covered-all [] restarts came = vacuous [] (cover_none place total some)
      covered-all (Got now on other ∷ before) restarts came =
          covered-answer now on other before (verdict setting.group setting.setup (accepted setting before) other) came refl (covered-all before restarts came.1) (open-all before restarts came.1)
      covered-all (Expired now ∷ before) restarts came = covered-cut (runs_out way now (arrivals_in (marks setting way before))) Timeout (marks setting way before) refl (covered-all before restarts came)
      covered-all (Stopped reader why ∷ before) restarts came =
          covered-cut (reader == way.index) why (marks setting way before) (ap (λ (w : Why). chunks_in (cut_on true w (marks setting way before))) restarts.0) (covered-all before restarts.1 came)
