-- What befalls a read group without security: a frame stands in a reader's list once a datagram brought it, and its chunks once theirs did.
use Rattle.std.proofs.Common.{◌≡◌, refl, sym, ap, ◌∙◌, subst, arith, ℕ, zero, suc, ◌<◌, ◌≤◌, ◌⊎◌, inl, inr, Bool, true, false, List, [], ◌∷◌, ◌++◌, map, length, Some, None, All, Contains, Result, Ok, Err}
use Rattle.std.specs.Prelude.{◌&&◌, ◌==◌, fold, slice_index_or, if◌then◌else◌}
use Rattle.std.proofs.lemmas.List.FromFn.{get_or-map-range_with_len}
use Rattle.seq_number.specs.Numbers.{place_from}
use Rattle.ua_base.specs.Journal as entries_of
use Rattle.ua_base.specs.Journal.{Entry}
use Rattle.pubsub_model.specs.declared.reading.Why.{Why}
use Rattle.pubsub_model.specs.declared.reading.Why.TheVariants.{NewToken, Timeout}
use Rattle.pubsub_model.specs.Answers.{IsAnswer}
use Rattle.pubsub_model.specs.Cadence.{next_place}
use Rattle.pubsub_model.specs.Frames.{PlacedFrame, place_of, is_silent}
use Rattle.frame_codec.specs.Frames.{Frame}
use Rattle.frame_codec.specs.Reading.{frame_at}
use Rattle.chunker.specs.Chunks.{Chunk, cover, is_proper}
use Rattle.chunker.specs.Spelling.{chunk_at, without_rest}
use Rattle.chunker.proofs.ChunkLaws.{cover_none}
use Rattle.message_guard.specs.Acceptance.{Accepted, raises}
use Rattle.message_guard.specs.Modes.{is_secured}
use Rattle.ps_config.specs.declared.parts.Config.{Config}
use Rattle.pubsub_states.specs.Changes.{Change, is_enabled}
use Rattle.pubsub_states.specs.Components.{counts_of, id_of}
use Rattle.pubsub_states.specs.States.{is_operational, state_of}
use Rattle.pubsub_states.specs.declared.component.Component.TheVariants.{ReadGroup, Reader}
use Rattle.reader_group.specs.declared.refusal.Refusal.{Refusal}
use Rattle.reader_group.specs.Agreeing.{AreRestarts}
use Rattle.reader_group.specs.Arrivals.{Mark, Way, accepted, arrivals_in, chunks_in, cut_on, frame_of, marks, piece_on, placed, runs_out, taken_in}
use Rattle.reader_group.specs.Opening.{Opened, verdict}
use Rattle.reader_group.specs.Payloads.{Piece, Chunked, pieces}
use Rattle.reader_group.specs.Plain.{Event, Got, Expired, Setting, Stopped}
use Rattle.reader_group.specs.Settings.{group_at as read_group_at}
use Rattle.reader_group.proofs.KeptParts.{IsPieceOf, Keep}
use Rattle.writer_group.specs.Payloads.{writer_at}
use Rattle.writer_group.specs.Turns.{GroupDeed}
use Rattle.session_model.specs.Events.{events, got_on, readers_on, receives}
use Rattle.session_model.specs.Steps.{Step, Pump, is_on, moment_of, switches_in}
use Rattle.session_laws.specs.Newest.{CameIn}
use Rattle.session_laws.specs.Pasts.{CameAsMade, settings_at}
use Rattle.session_laws.specs.Plays.{Play, IsPlay, its_answers, its_meta, its_setting, its_way}
use Rattle.session_laws.proofs.Closing.Coming.{Lies, Stands, covered-parts, lies-among, lies-parts, reads-among, stands-behind, stands-new, stands-parts}
use Rattle.session_laws.proofs.HeldRows.Marks.{all-on, events-sent, its_bytes, parts-sent, source}
use Rattle.session_laws.proofs.HeldRows.Pieces.{TurnLaws}
use Rattle.session_laws.proofs.HeldRows.Sources.{AreSent, IsChunkOf, IsOfAnswer, sent-kept}

module _ (laws : TurnLaws) (most : ℕ) (p : Play) (le : most ≤ 65536) (is : IsPlay most p) (unsecured : is_secured (its_setting p).setup.mode ≡ false) where
  abbrev way : Way
  way = its_way p

  abbrev first : ℕ
  first = (writer_at p.group p.writer).first_number

  abbrev list_after : List Event → List Mark
  list_after befell = marks (its_setting p) way befell

  abbrev bytes : ℕ → List ℕ
  bytes = its_bytes laws most p le is

  abbrev on_parts : ℕ → List Piece → List Mark → List Mark
  on_parts now parts list = fold (piece_on way (place_from first) now None) list parts

  -- a datagram that is taken
  taken-open : (now : ℕ) (enabled : Bool) (pairs : Accepted) (list : List Mark) (opened : Opened)
      → taken_in (its_setting p) way now enabled pairs list (Ok opened) ≡ on_parts now (if enabled then pieces way.seat.part opened.payload else []) list
  taken-open now enabled pairs list opened =
      ap (λ (b : Bool). fold (piece_on way (place_from first) now (if b then Some opened.pass.number else None)) (cut_on (b && raises pairs opened.pass.token) NewToken list)
      (if enabled then pieces way.seat.part opened.payload else [])) unsecured

  keep-taken : (K : List Mark → Type 0) → ((now : ℕ) (parts : List Piece) (list : List Mark) → K list → K (on_parts now parts list)) → (now : ℕ) (enabled : Bool) (pairs : Accepted) (list : List Mark) (answer : Result Opened Refusal) → K list
      → K (taken_in (its_setting p) way now enabled pairs list answer)
  keep-taken K keeps now enabled pairs list (Err refusal) h = h
  keep-taken K keeps now enabled pairs list (Ok opened) h =
      subst K (sym (taken-open now enabled pairs list opened)) (keeps now (if enabled then pieces way.seat.part opened.payload else []) list h)

  -- what stands there stays
  pub stands-got : (place now : ℕ) (on : List Bool) (datagram : List ℕ) (before : List Event) → Stands place (list_after before) → Stands place (list_after (Got now on datagram ∷ before))
  stands-got place now on datagram before h =
      let setting = its_setting p in
      let pairs = accepted setting before in
      keep-taken (Stands place) (λ now parts list h. stands-parts place way (place_from first) now parts list h) now (slice_index_or on way.index false) pairs (list_after before)
      (verdict setting.group setting.setup pairs datagram) h

  pub lies-got : (chunk : Chunk) (now : ℕ) (on : List Bool) (datagram : List ℕ) (before : List Event) → Lies chunk (list_after before) → Lies chunk (list_after (Got now on datagram ∷ before))
  lies-got chunk now on datagram before h =
      let setting = its_setting p in
      let pairs = accepted setting before in
      keep-taken (Lies chunk) (λ now parts list h. lies-parts chunk way (place_from first) now None parts list h) now (slice_index_or on way.index false) pairs (list_after before)
      (verdict setting.group setting.setup pairs datagram) h

  -- ---- a frame whose last place this is

  module _ (place : ℕ) (last : (frame : PlacedFrame) → IsAnswer (its_answers p) frame → is_silent frame ≡ false → place_of frame ≤ place) (frame : Frame)
      (given : PlacedFrame) (gives : frame_of way (place_from first) frame ≡ Some given) (at : place_of given ≡ place) where
    abbrev AreAll : List Mark → Type 0
    AreAll list = AreSent way.seat.part.numbering (its_meta p) (its_answers p) bytes list

    abbrev of_piece : Piece → Type 0
    of_piece piece = IsPieceOf (IsOfAnswer (its_meta p) (its_answers p)) (IsChunkOf (its_meta p) (its_answers p) bytes) (its_meta p) piece

    abbrev Covered : List Mark → Type 0
    Covered list = cover (chunks_in list) place (length (bytes place)) ≡ true → Stands place list

    abbrev next : ℕ
    next = next_place (settings_at p.group p.writer) (its_answers p)

    keep-now : (now : ℕ) → Keep AreAll (IsOfAnswer (its_meta p) (its_answers p)) (IsChunkOf (its_meta p) (its_answers p) bytes) way (place_from first) now None
    keep-now now = sent-kept way.seat.part.numbering way (its_answers p) bytes first next now None refl (source laws most p le is)

    module _ (read : frame_at (its_meta p) (bytes place) ≡ Ok frame) where
      -- ---- where its chunks cover it, it stands there

      covered-taken : (now : ℕ) (enabled : Bool) (pairs : Accepted) (list : List Mark) (answer : Result Opened Refusal) → ((opened : Opened) → answer ≡ Ok opened → All of_piece (pieces way.seat.part opened.payload)) → AreAll list → Covered list
          → Covered (taken_in (its_setting p) way now enabled pairs list answer)
      covered-taken now enabled pairs list (Err refusal) of are h = h
      covered-taken now enabled pairs list (Ok opened) of are h =
          subst Covered (sym (taken-open now enabled pairs list opened))
          (covered-parts way.seat.part.numbering way (its_answers p) bytes first next place (source laws most p le is) last frame given gives now None (Stands place) (λ before f stands. stands-behind place way now before f stands)
          (λ before c stands. stands) (λ before. stands-new place way now None before given at) read (keep-now now) (if enabled then pieces way.seat.part opened.payload else []) list
          (all-on of_piece enabled (pieces way.seat.part opened.payload) (of opened refl)) are h)

      covered-none : (list : List Mark) → 0 < length (bytes place) → chunks_in list ≡ [] → Covered list
      covered-none list some none = λ e.
          absurd (let wrong : false ≡ true = sym (cover_none place (length (bytes place)) some) ∙ ap (λ (l : List Chunk). cover l place (length (bytes place))) (sym none) ∙ e in cc)

      covered-cut : (cuts : Bool) (why : Why) (list : List Mark) → 0 < length (bytes place) → ((list : List Mark) → chunks_in (cut_on true why list) ≡ []) → Covered list → Covered (cut_on cuts why list)
      covered-cut true why list some clears h = covered-none (cut_on true why list) some (clears list)
      covered-cut false why list some clears h = h

      pub covered-events : (befell : List Event) → 0 < length (bytes place) → AreRestarts befell → CameAsMade (its_setting p) p.config p.pasts befell → Covered (list_after befell)
      covered-events [] some restarts came = covered-none [] some refl
      covered-events (Got now on datagram ∷ before) some restarts came =
          let setting = its_setting p in
          let pairs = accepted setting before in
          covered-taken now (slice_index_or on way.index false) pairs (list_after before) (verdict setting.group setting.setup pairs datagram) (λ opened e. parts-sent laws most p le is now on datagram before opened came e)
          (events-sent laws most p le is before came.1) (covered-events before some restarts came.1)
      covered-events (Expired now ∷ before) some restarts came =
          covered-cut (runs_out way now (arrivals_in (list_after before))) Timeout (list_after before) some (λ list. refl) (covered-events before some restarts came)
      covered-events (Stopped reader why ∷ before) some restarts came =
          covered-cut (reader == way.index) why (list_after before) some (λ list. ap (λ (w : Why). chunks_in (cut_on true w list)) restarts.0) (covered-events before some restarts.1 came)

    -- ---- a datagram that has it, or a chunk of it

    -- a datagram that is taken by an enabled reader
    taken-now : (now : ℕ) (on : List Bool) (datagram : List ℕ) (before : List Event) (opened : Opened) → slice_index_or on way.index false ≡ true
        → verdict (its_setting p).group (its_setting p).setup (accepted (its_setting p) before) datagram ≡ Ok opened
        → list_after (Got now on datagram ∷ before) ≡ on_parts now (pieces way.seat.part opened.payload) (list_after before)
    taken-now now on datagram before opened enabled e =
        let setting = its_setting p in
        let pairs = accepted setting before in
        ap (λ (a : Result Opened Refusal). taken_in setting way now (slice_index_or on way.index false) pairs (list_after before) a) e
        ∙ taken-open now (slice_index_or on way.index false) pairs (list_after before) opened
        ∙ ap (λ (b : Bool). on_parts now (if b then pieces way.seat.part opened.payload else []) (list_after before)) enabled

    pub brings-frame : (piece : Piece) → ((now : ℕ) (list : List Mark) → Stands place (piece_on way (place_from first) now None list piece)) → (now : ℕ) (on : List Bool) (datagram : List ℕ) (before : List Event) (opened : Opened)
        → slice_index_or on way.index false ≡ true → verdict (its_setting p).group (its_setting p).setup (accepted (its_setting p) before) datagram ≡ Ok opened → Contains (pieces way.seat.part opened.payload) piece
        → Stands place (list_after (Got now on datagram ∷ before))
    brings-frame piece reads now on datagram before opened enabled e has =
        subst (Stands place) (sym (taken-now now on datagram before opened enabled e))
        (reads-among way.seat.part.numbering way (its_answers p) bytes first next place (source laws most p le is) last now piece (reads now) (pieces way.seat.part opened.payload) (list_after before) has)

    pub brings-chunk : (b : List ℕ) (chunk : Chunk) → without_rest (chunk_at b) ≡ Ok chunk → ((list : List Mark) → AreAll list → is_proper (chunks_in list) (placed (place_from first) chunk) ≡ true)
        → (now : ℕ) (on : List Bool) (datagram : List ℕ) (before : List Event) (opened : Opened) → slice_index_or on way.index false ≡ true
        → verdict (its_setting p).group (its_setting p).setup (accepted (its_setting p) before) datagram ≡ Ok opened → CameAsMade (its_setting p) p.config p.pasts (Got now on datagram ∷ before) → Contains (pieces way.seat.part opened.payload) (Chunked b)
        → Lies (placed (place_from first) chunk) (list_after (Got now on datagram ∷ before))
    brings-chunk b chunk is_read counts now on datagram before opened enabled e came has =
        subst (Lies (placed (place_from first) chunk)) (sym (taken-now now on datagram before opened enabled e))
        (lies-among way.seat.part.numbering way (its_answers p) bytes first next place (source laws most p le is) last now None b chunk (keep-now now) is_read counts
        (pieces way.seat.part opened.payload) (list_after before) (parts-sent laws most p le is now on datagram before opened came e) (events-sent laws most p le is before came.1) has)

-- ---- the pumps that a session ends with

switches-behind : (pumps : List (List Entry)) (earlier : List Step) → switches_in (map Pump pumps ++ earlier) ≡ switches_in earlier
switches-behind [] earlier = refl
switches-behind (entries ∷ pumps) earlier = switches-behind pumps earlier

pub receives-behind : (config : Config) (r : ℕ) (pumps : List (List Entry)) (earlier : List Step) → receives config (map Pump pumps ++ earlier) r ≡ receives config earlier r
receives-behind config r pumps earlier =
    ap (λ (l : List Change). is_operational (state_of (λ component. record { enabled = is_enabled l (id_of (counts_of config) component); fault = false; ready = true }) (ReadGroup r))) (switches-behind pumps earlier)

pub enabled-behind : (config : Config) (r i : ℕ) (pumps : List (List Entry)) (earlier : List Step) → i < length (read_group_at config r).reader → is_on config earlier (Reader r i) ≡ true
    → slice_index_or (readers_on config (map Pump pumps ++ earlier) r) i false ≡ true
enabled-behind config r i pumps earlier within on =
    get_or-map-range_with_len (λ i. is_on config (map Pump pumps ++ earlier) (Reader r i)) 0 (length (read_group_at config r).reader) i i false within (omega arith)
    ∙ ap (λ (l : List Change). is_enabled l (id_of (counts_of config) (Reader r i))) (switches-behind pumps earlier) ∙ on

-- what came so far is of what came with it
module _ (setting : Setting) (config : Config) (pasts : ℕ → List GroupDeed) where
  abbrev CameSo : List Event → Type 0
  CameSo befell = CameAsMade setting config pasts befell

  pub came-one : (now : ℕ) (on : List Bool) (befell : List Event) (entry : Entry) → CameSo (got_on now on befell entry) → CameSo befell
  came-one now on befell (entries_of.Sent d) came = came
  came-one now on befell entries_of.SendFailed came = came
  came-one now on befell (entries_of.Got d) came = came.1
  came-one now on befell entries_of.Empty came = came
  came-one now on befell (entries_of.Long len) came = came
  came-one now on befell entries_of.ReceiveFailed came = came

  pub came-before : (now : ℕ) (on : List Bool) (entries : List Entry) (befell : List Event) → CameSo (fold (got_on now on) befell entries) → CameSo befell
  came-before now on [] befell came = came
  came-before now on (entry ∷ entries) befell came = came-one now on befell entry (came-before now on entries (got_on now on befell entry) came)

-- what each datagram keeps of what befell a read group, the pumps keep
module _ (setting : Setting) (config : Config) (pasts : ℕ → List GroupDeed) (P : List Event → Type 0)
    (keeps : (now : ℕ) (on : List Bool) (other : List ℕ) (before : List Event) → CameAsMade setting config pasts (Got now on other ∷ before) → P before → P (Got now on other ∷ before)) where
  keeps-one : (now : ℕ) (on : List Bool) (befell : List Event) (entry : Entry) → CameAsMade setting config pasts (got_on now on befell entry) → P befell → P (got_on now on befell entry)
  keeps-one now on befell (entries_of.Sent d) came h = h
  keeps-one now on befell entries_of.SendFailed came h = h
  keeps-one now on befell (entries_of.Got d) came h = keeps now on d befell came h
  keeps-one now on befell entries_of.Empty came h = h
  keeps-one now on befell (entries_of.Long len) came h = h
  keeps-one now on befell entries_of.ReceiveFailed came h = h

  pub keeps-entries : (now : ℕ) (on : List Bool) (entries : List Entry) (befell : List Event) → CameAsMade setting config pasts (fold (got_on now on) befell entries) → P befell → P (fold (got_on now on) befell entries)
  keeps-entries now on [] befell came h = h
  keeps-entries now on (entry ∷ entries) befell came h =
      keeps-entries now on entries (got_on now on befell entry) came (keeps-one now on befell entry (came-before setting config pasts now on entries (got_on now on befell entry) came) h)

  keeps-pump : (now : ℕ) (on : List Bool) (entries : List Entry) (befell : List Event) (b : Bool) → (CameAsMade setting config pasts befell → P befell) → CameAsMade setting config pasts (if b then fold (got_on now on) befell entries else befell)
      → P (if b then fold (got_on now on) befell entries else befell)
  keeps-pump now on entries befell true rest came = keeps-entries now on entries befell came (rest (came-before setting config pasts now on entries befell came))
  keeps-pump now on entries befell false rest came = rest came

  pub keeps-pumps : (r : ℕ) (pumps : List (List Entry)) (earlier : List Step) → CameAsMade setting config pasts (events config r (map Pump pumps ++ earlier)) → P (events config r earlier) → P (events config r (map Pump pumps ++ earlier))
  keeps-pumps r [] earlier came h = h
  keeps-pumps r (entries ∷ pumps) earlier came h =
      let before = map Pump pumps ++ earlier in
      keeps-pump (moment_of before) (readers_on config before r) entries (events config r before) (receives config before r) (λ so_far. keeps-pumps r pumps earlier so_far h) came

-- what a datagram brings, and each one more keeps
pub record Brought (setting : Setting) (config : Config) (pasts : ℕ → List GroupDeed) (i : ℕ) (datagram : List ℕ) (K : List Event → Type 0) : Type 0 where
  pub brings : (now : ℕ) (on : List Bool) (before : List Event) → slice_index_or on i false ≡ true → CameAsMade setting config pasts (Got now on datagram ∷ before) → K (Got now on datagram ∷ before)
  pub keeps : (now : ℕ) (on : List Bool) (other : List ℕ) (before : List Event) → K before → K (Got now on other ∷ before)

module _ (setting : Setting) (config : Config) (pasts : ℕ → List GroupDeed) (i : ℕ) (datagram : List ℕ) (K : List Event → Type 0) (b : Brought setting config pasts i datagram K) where
  abbrev Came : List Event → Type 0
  Came befell = CameAsMade setting config pasts befell

  kept-one : (now : ℕ) (on : List Bool) (befell : List Event) (entry : Entry) → K befell → K (got_on now on befell entry)
  kept-one now on befell (entries_of.Sent d) h = h
  kept-one now on befell entries_of.SendFailed h = h
  kept-one now on befell (entries_of.Got d) h = b.keeps now on d befell h
  kept-one now on befell entries_of.Empty h = h
  kept-one now on befell (entries_of.Long len) h = h
  kept-one now on befell entries_of.ReceiveFailed h = h

  kept-all : (now : ℕ) (on : List Bool) (entries : List Entry) (befell : List Event) → K befell → K (fold (got_on now on) befell entries)
  kept-all now on [] befell h = h
  kept-all now on (entry ∷ entries) befell h = kept-all now on entries (got_on now on befell entry) (kept-one now on befell entry h)

  brought-in : (now : ℕ) (on : List Bool) (entries : List Entry) (befell : List Event) → slice_index_or on i false ≡ true → Contains entries (entries_of.Got datagram) → Came (fold (got_on now on) befell entries) → K (fold (got_on now on) befell entries)
  brought-in now on [] befell enabled has came = absurd (let below = has.1 in omega (arith, below))
  brought-in now on (entry ∷ entries) befell enabled (zero, below, same) came =
      let one : Came (got_on now on befell entry) = came-before setting config pasts now on entries (got_on now on befell entry) came in
      kept-all now on entries (got_on now on befell entry)
      (subst (λ (e : Entry). K (got_on now on befell e)) (sym same) (b.brings now on befell enabled (subst (λ (e : Entry). Came (got_on now on befell e)) same one)))
  brought-in now on (entry ∷ entries) befell enabled (suc k, below, same) came = brought-in now on entries (got_on now on befell entry) enabled (k, omega (arith, below), same) came

  one-pump : (pumps : List (List Entry)) (now : ℕ) (on : List Bool) (entries : List Entry) (befell : List Event) → slice_index_or on i false ≡ true → (CameIn pumps datagram → K befell)
      → Contains entries (entries_of.Got datagram) ⊎ CameIn pumps datagram → Came (fold (got_on now on) befell entries) → K (fold (got_on now on) befell entries)
  one-pump pumps now on entries befell enabled rest (inl here) came = brought-in now on entries befell enabled here came
  one-pump pumps now on entries befell enabled rest (inr older) came = kept-all now on entries befell (rest older)

  pub brought-by-pumps : (r : ℕ) (pumps : List (List Entry)) (earlier : List Step) → CameIn pumps datagram → receives config earlier r ≡ true → i < length (read_group_at config r).reader → is_on config earlier (Reader r i) ≡ true
      → Came (events config r (map Pump pumps ++ earlier)) → K (events config r (map Pump pumps ++ earlier))
  brought-by-pumps r [] earlier none operational within enabled came = absurd none
  brought-by-pumps r (entries ∷ pumps) earlier has operational within enabled came =
      let before = map Pump pumps ++ earlier in
      let now = moment_of before in
      let on = readers_on config before r in
      let all : Bool → List Event = λ b. (if b then fold (got_on now on) (events config r before) entries else events config r before) in
      let whole : all (receives config before r) ≡ fold (got_on now on) (events config r before) entries = ap all (receives-behind config r pumps earlier ∙ operational) in
      let came_all : Came (fold (got_on now on) (events config r before) entries) = subst Came whole came in
      subst K (sym whole)
      (one-pump pumps now on entries (events config r before) (enabled-behind config r i pumps earlier within enabled)
      (λ older. brought-by-pumps r pumps earlier older operational within enabled (came-before setting config pasts now on entries (events config r before) came_all)) has came_all)
