-- What came under a signature was made by the sender, so the items of a reader are those that it sent.
use Rattle.std.proofs.Common.{◌≡◌, refl, sym, ap, ◌∙◌, subst, arith, ℕ, ◌≤◌, Bool, true, false, List, [], ◌∷◌, Option, Some, None, Result, Ok, Err, All}
use Rattle.std.specs.Prelude.{⊤, ◌&&◌, not, ◌==◌, if◌then◌else◌, slice_index_or, is_some}
use Rattle.std.proofs.lemmas.Bool.Decides.{nat_tests}
use Rattle.std.proofs.lemmas.List.Elements.{All-cons, All-head, All-nil, All-tail}
use Rattle.chunker.specs.Chunks.{Chunk}
use Rattle.chunker.specs.Joins.{IsCutOf}
use Rattle.chunker.specs.Spelling.{chunk_at, without_rest}
use Rattle.chunker.specs.declared.payload.ChunkFault.{ChunkFault}
use Rattle.dataset_reader.specs.Keeping.{jumps}
use Rattle.frame_codec.specs.declared.fault.FrameFault.{FrameFault}
use Rattle.frame_codec.specs.Frames.{Frame}
use Rattle.frame_codec.specs.Reading.{frame_at}
use Rattle.replay_window.specs.Taken.{is_taken, is_too_old}
use Rattle.message_guard.specs.Acceptance.{Accepted, highest, is_acceptable, numbers_of, raises}
use Rattle.message_guard.specs.Modes.{is_secured}
use Rattle.message_guard.specs.Protection.{keys_with}
use Rattle.message_guard.specs.declared.keys.TokenKeys.{TokenKeys}
use Rattle.pubsub_model.specs.declared.reading.Why.{Why}
use Rattle.pubsub_model.specs.declared.reading.Why.TheVariants.{NewToken, Timeout}
use Rattle.pubsub_model.specs.Frames.{PlacedFrame, place_of}
use Rattle.pubsub_model.specs.Records.{Came, Cut, since_cut}
use Rattle.reader_group.specs.declared.refusal.Refusal.{Refusal}
use Rattle.reader_group.specs.Agreeing.{AllSent, AreSent, ChunksNear, EachSecuredAgrees, IsWayOf, MemberIs, SendsRise}
use Rattle.reader_group.specs.Arrivals.{Arrived, Laid, Mark, Way, accepted, accepted_with, arrivals, arrivals_in, chunks_in, chunks_unless, clears, comes, cut_on, frame_of, goes_by_numbers, item_of, item_on, marks, placed, runs_out, taken_in}
use Rattle.reader_group.specs.Opening.{Opened, verdict}
use Rattle.reader_group.specs.Payloads.{Piece, Message, Chunked, Slotted, Missing, pieces}
use Rattle.reader_group.specs.Plain.{Setting, Event, Got, Expired, Stopped, is_raised, member_at, plain, stamp_by}
use Rattle.reader_group.specs.Signed.{TakesSignedAlone}
use Rattle.reader_group.specs.SlotFrames.{slot_frame_at}
use Rattle.reader_group.proofs.KeptParts.{IsPieceOf, Keep, OfRead, keep-parts}
use Rattle.session_laws.specs.Readers.{ChunkIsCutFor, GivesPlace, IsCutFor, IsPartFor, IsSentAt, Making, ReadGives, SignedAreMade}
use Rattle.session_laws.proofs.Closing.Coming.{same-chunks}
use Rattle.session_laws.proofs.HeldRows.KnownTokens.{taken-acceptable}
use Rattle.session_laws.proofs.HeldRows.Marks.{all-on}
use Rattle.session_laws.proofs.HeldRows.Sources.{unless-are, whole-cut}

module _ (m : Making) (setting : Setting) (way : Way) where
  -- a chunk that is laid is one of the message of its place
  abbrev IsCut : Chunk → Type 0
  IsCut c = IsCutOf (m.bytes c.place) c

  -- the items since the last cut were sent under the token, and the chunks are cut so
  record Given (token : ℕ) (list : List Mark) : Type 0 where
    items : AreSent (m.sent token) (since_cut (arrivals_in list))
    chunks : All IsCut (chunks_in list)

  -- ---- a datagram with this token and number

  module _ (token number now : ℕ) where
    abbrev at : ℕ → ℕ
    at = way.place token number

    abbrev IsFrame : Frame → Type 0
    IsFrame frame = GivesPlace way token number frame (IsSentAt m token number)

    came-if : (jump : Bool) (before : List Mark) (frame : PlacedFrame) → IsSentAt m token number (place_of frame) → AreSent (m.sent token) (since_cut (arrivals_in before))
        → AreSent (m.sent token)
        (since_cut (arrivals_in (if jump then Arrived (Came (item_of now (Some number) frame)) ∷ Arrived (Cut Rattle.pubsub_model.specs.declared.reading.Why.TheVariants.Jump) ∷ before else Arrived (Came (item_of now (Some number) frame)) ∷ before)))
    came-if true before frame sent h = (sent, tt)
    came-if false before frame sent h = (sent, h)

    one-item : (before : List Mark) (o : Option PlacedFrame) → ((given : PlacedFrame) → o ≡ Some given → IsSentAt m token number (place_of given)) → Given token before → Given token (item_on way now (Some number) before o)
    one-item before None sent h = h
    one-item before (Some frame) sent h = record {
      items = came-if (goes_by_numbers way && jumps (since_cut (arrivals_in before)) (Some number)) before frame (sent frame refl) h.items;
      chunks = subst (All IsCut) (sym (same-chunks way before (item_of now (Some number) frame))) h.chunks;
    }

    read-so : (read : Result Frame FrameFault) (place : ℕ) → IsSentAt m token number place → ReadGives way token number read (λ own. own ≡ place) → OfRead IsFrame read
    read-so (Err fault) place sent gives = tt
    read-so (Ok frame) place sent gives = λ given e. subst (IsSentAt m token number) (sym (gives given e)) sent

    keeps : Keep (Given token) IsFrame (IsCutFor m way token number) way at now (Some number)
    keeps = record {
      item = λ before frame sent h. one-item before (frame_of way at frame) sent h;
      chunk = λ before chunk is h. record { items = h.items; chunks = All-cons IsCut (placed at chunk) (chunks_in before) is.cut h.chunks };
      whole = λ before chunk is h e.
          let c = placed at chunk in
          subst (λ (b : List ℕ). OfRead IsFrame (frame_at way.seat.meta b)) (sym (whole-cut m.bytes c (chunks_in before) is.cut h.chunks e))
          (read-so (frame_at way.seat.meta (m.bytes c.place)) c.place is.sent is.read);
    }

    read-for : (read : Result Frame FrameFault) → ReadGives way token number read (IsSentAt m token number) → OfRead IsFrame read
    read-for (Err fault) gives = tt
    read-for (Ok frame) gives = gives

    chunk-for : (read : Result Chunk ChunkFault) → ChunkIsCutFor m way token number read → OfRead (IsCutFor m way token number) read
    chunk-for (Err fault) is = tt
    chunk-for (Ok chunk) is = is

    part-for : (piece : Piece) → IsPartFor m way token number piece → IsPieceOf IsFrame (IsCutFor m way token number) way.seat.meta piece
    part-for (Message bytes) is = read-for (frame_at way.seat.meta bytes) is
    part-for (Chunked bytes) is = chunk-for (without_rest (chunk_at bytes)) is
    part-for (Slotted bytes) is = read-for (slot_frame_at way.seat.meta bytes) is
    part-for Missing is = tt

    parts-for : (parts : List Piece) → All (IsPartFor m way token number) parts → All (IsPieceOf IsFrame (IsCutFor m way token number) way.seat.meta) parts
    parts-for [] all = All-nil (IsPieceOf IsFrame (IsCutFor m way token number) way.seat.meta)
    parts-for (piece ∷ parts) all =
        All-cons (IsPieceOf IsFrame (IsCutFor m way token number) way.seat.meta) piece parts (part-for piece (All-head (IsPartFor m way token number) piece parts all))
        (parts-for parts (All-tail (IsPartFor m way token number) piece parts all))

    all-given : (parts : List Piece) (list : List Mark) → All (IsPartFor m way token number) parts → Given token list
        → Given token (Rattle.std.specs.Prelude.fold (Rattle.reader_group.specs.Arrivals.piece_on way at now (Some number)) list parts)
    all-given parts list all h = keep-parts (Given token) IsFrame (IsCutFor m way token number) way at now (Some number) keeps parts list (parts-for parts all) h

  -- ---- whatever befell the group

  -- so far: of the highest token; where none was accepted, nothing came
  record So (pairs : Accepted) (list : List Mark) : Type 0 where
    given : Given (highest pairs) list
    none : pairs ≡ [] → since_cut (arrivals_in list) ≡ []

  cut-so : (pairs : Accepted) (b : Bool) (why : Why) (list : List Mark) → So pairs list → So pairs (cut_on b why list)
  cut-so pairs true why list h = record { given = record { items = tt; chunks = unless-are IsCut (clears why) (chunks_in list) h.given.chunks }; none = λ e. refl }
  cut-so pairs false why list h = h

  not-low : (keys : List TokenKeys) (pairs : Accepted) (token number : ℕ) → is_acceptable keys pairs token number ≡ true → highest pairs ≤ token
  not-low keys pairs token number is =
      let low =
      on (is_some (keys_with keys token)) (Rattle.std.specs.Prelude.nat_lt token (highest pairs)) (not (is_taken (numbers_of pairs token) number)) (not (is_too_old (numbers_of pairs token) number)) is in
      grind (arith, nat_tests, low)
    where
      on : (a b c d : Bool) → (a && not b && c && d) ≡ true → b ≡ false
      on true false c d e = refl
      on true true c d e = absurd (cc)
      on false b c d e = absurd (cc)

  highest-more : (token number : ℕ) (pairs : Accepted) → highest pairs ≤ token → highest ((token, number) ∷ pairs) ≡ token
  highest-more token number pairs le = omega (arith, le)

  -- a higher token cuts, and else it is the one so far, or nothing came so far
  raised-so : (pairs : Accepted) (list : List Mark) (token : ℕ) (b : Bool) → raises pairs token ≡ b → highest pairs ≤ token → So pairs list → Given token (cut_on b NewToken list)
  raised-so pairs list token true e le h = record { items = tt; chunks = All-nil IsCut }
  raised-so [] list token false e le h = record { items = subst (AreSent (m.sent token)) (sym (h.none refl)) tt; chunks = h.given.chunks }
  raised-so (pair ∷ pairs) list token false e le h =
      let same : highest (pair ∷ pairs) ≡ token = grind (arith, nat_tests, e, le) in subst (λ (t : ℕ). Given t list) same h.given

  module _ (signed : TakesSignedAlone) (secured : is_secured setting.setup.mode ≡ true) where
    got-so : (now : ℕ) (enabled : Bool) (datagram : List ℕ) (before : List Event) (answer : Result Opened Refusal) → SignedAreMade m setting way (Got now (enabled ∷ []) datagram ∷ before)
        → verdict setting.group setting.setup (accepted setting before) datagram ≡ answer → So (accepted setting before) (marks setting way before)
        → So (accepted_with setting (accepted setting before) answer) (taken_in setting way now enabled (accepted setting before) (marks setting way before) answer)
    got-so now enabled datagram before (Err refusal) made e h = h
    got-so now enabled datagram before (Ok opened) made e h =
        let pairs = accepted setting before in
        let token = opened.pass.token in
        let number = opened.pass.number in
        let list = marks setting way before in
        let is = taken-acceptable setting.group setting.setup pairs datagram opened e secured in
        let le = not-low setting.setup.keys pairs token number is in
        let added : accepted_with setting pairs (Ok opened) ≡ (token, number) ∷ pairs = ap (λ (b : Bool). if b then (token, number) ∷ pairs else pairs) secured in
        let parts = made.0 (signed setting.group setting.setup pairs datagram opened e secured) pairs opened e in
        let raised : is_raised setting pairs opened ≡ raises pairs token = ap (λ (b : Bool). b && raises pairs token) secured in
        let stamp : stamp_by setting.setup.mode number ≡ Some number = ap (λ (b : Bool). if b then Some number else None) secured in
        let started : Given token (cut_on (is_raised setting pairs opened) NewToken list) =
        subst (λ (b : Bool). Given token (cut_on b NewToken list)) (sym raised) (raised-so pairs list token (raises pairs token) refl le h) in
        let chosen : List Piece = if enabled then pieces way.seat.part opened.payload else [] in
        let ended = all-given token number now chosen (cut_on (is_raised setting pairs opened) NewToken list) (all-on (IsPartFor m way token number) enabled (pieces way.seat.part opened.payload) parts) started in
        record {
          given = subst (λ (t : ℕ). Given t (taken_in setting way now enabled pairs list (Ok opened))) (sym (ap highest added ∙ highest-more token number pairs le))
              (subst (λ (o : Option ℕ). Given token (Rattle.std.specs.Prelude.fold (Rattle.reader_group.specs.Arrivals.piece_on way (way.place token number) now o) (cut_on (is_raised setting pairs opened) NewToken list) chosen)) (sym stamp) ended);
          none = λ empty. absurd (let wrong : (token, number) ∷ pairs ≡ [] = sym added ∙ empty in cc);
        }

    so-all : (events : List Event) → SignedAreMade m setting way events → So (accepted setting events) (marks setting way events)
    so-all [] made = record { given = record { items = tt; chunks = All-nil IsCut }; none = λ e. refl }
    so-all (Got now on datagram ∷ before) made =
        got-so now (slice_index_or on way.index false) datagram before (verdict setting.group setting.setup (accepted setting before) datagram) made refl (so-all before made.1)
    so-all (Expired now ∷ before) made =
        let list = marks setting way before in cut-so (accepted setting before) (runs_out way now (arrivals_in list)) Timeout list (so-all before made)
    so-all (Stopped reader why ∷ before) made = cut-so (accepted setting before) (reader == way.index) why (marks setting way before) (so-all before made)

    pub all-sent-so : (events : List Event) → SignedAreMade m setting way events → AllSent m.sent setting way events
    all-sent-so [] made = tt
    all-sent-so (Got now on datagram ∷ before) made = ((so-all (Got now on datagram ∷ before) made).given.items, all-sent-so before made.1)
    all-sent-so (Expired now ∷ before) made = ((so-all (Expired now ∷ before) made).given.items, all-sent-so before made)
    all-sent-so (Stopped reader why ∷ before) made = ((so-all (Stopped reader why ∷ before) made).given.items, all-sent-so before made)

pub signed-records : TakesSignedAlone → ((sent : ℕ → List (ℕ × ℕ)) → EachSecuredAgrees sent) → (m : Making) (setting : Setting) (way : Way) (events : List Event)
    → is_secured setting.setup.mode ≡ true → goes_by_numbers way ≡ true → SendsRise m.sent → SignedAreMade m setting way events → IsWayOf setting way events → ChunksNear (marks setting way events)
    → MemberIs way (marks setting way events) (member_at (plain setting events).members way.index)
signed-records signed agrees m setting way events secured numbered rise made way_of near =
    agrees m.sent setting way events secured numbered rise (all-sent-so m setting way signed secured events made) way_of near
