-- A row is held exactly where it was confirmed, and that at a moment at which a datagram came.
use Rattle.std.proofs.Common.{◌≡◌, refl, sym, ap, ◌∙◌, subst, arith, ℕ, ◌<◌, Bool, true, false, List, [], ◌∷◌, Option, Some, None}
use Rattle.std.specs.Prelude.{◌==◌, fold, length, is_some, max, unwrap_or, IfSome, Contains, Result, Ok, Err, slice_index_or, if◌then◌else◌}
use Rattle.std.proofs.lemmas.List.{get_or-map}
use Rattle.std.proofs.lemmas.List.Elements.{Contains-append_right, Contains-get_or}
use Rattle.dataset_meta.specs.DataValues.{DataValue}
use Rattle.seq_number.specs.Numbers.{newer}
use Rattle.pubsub_model.specs.declared.reading.Break.{Break}
use Rattle.pubsub_model.specs.declared.reading.Why.{Why}
use Rattle.pubsub_model.specs.declared.reading.Why.TheVariants.{Jump, NewToken, Timeout}
use Rattle.frame_codec.specs.Frames as frames
use Rattle.frame_codec.specs.Frames.{Content, Frame}
use Rattle.frame_codec.specs.Reading.{frame_at}
use Rattle.frame_codec.specs.declared.fault.FrameFault.{FrameFault}
use Rattle.dataset_reader.specs.declared.took.Outcome.{Outcome}
use Rattle.dataset_reader.specs.declared.took.Outcome.TheVariants as outcomes
use Rattle.dataset_reader.specs.declared.took.Took.{Took}
use Rattle.dataset_reader.specs.Kept.{Kept, cut_kept}
use Rattle.dataset_reader.specs.Cases as cases
use Rattle.dataset_reader.specs.Cases.{due, change_case, record_case, following_case, placed_at, placed_case, breaks_run, record_number, is_jump, numbered_case, unnumbered_case, numbering_case, major_case, frame_case}
use Rattle.receive_timer.specs.Told.{is_due}
use Rattle.chunker.specs.Chunks.{Chunk}
use Rattle.chunker.specs.Joining.{Joining, chunk_case, joined_bytes}
use Rattle.chunker.specs.Joins.{numbered}
use Rattle.chunker.specs.Spelling.{chunk_at, without_rest}
use Rattle.chunker.specs.declared.joiner.Joined.{Joined}
use Rattle.chunker.specs.declared.joiner.Joined.TheVariants as joins
use Rattle.chunker.specs.declared.payload.ChunkFault.{ChunkFault}
use Rattle.config_tables.specs.declared.words.NumberingWord.{NumberingWord}
use Rattle.config_tables.specs.declared.words.NumberingWord.TheVariants as words
use Rattle.reader_group.specs.declared.receipt.Receipt.{Receipt}
use Rattle.reader_group.specs.declared.refusal.Refusal.{Refusal}
use Rattle.reader_group.specs.Members.{Seat, seat_at, MemberValue, new_member, expired, noted, names_last, confirmed_on, confirmed_by, numbering_of}
use Rattle.reader_group.specs.SlotFrames.{slot_frame_at}
use Rattle.reader_group.specs.Payloads.{Payload, Piece, Message, Chunked, Slotted, Missing, pieces}
use Rattle.reader_group.specs.Opening.{Opened}
use Rattle.reader_group.specs.Plain.{Setting, PlainGroup, Event, Got, Expired, Stopped, Fed, short, given, read_case, joined_case, chunked_case, piece_case, fed_on, unfed, fed_by, cut_if, stopped_if, member_at, taken_on, is_raised, receipt_of, taken_in, verdict_in, plain}
use Rattle.reader_group.specs.Confirmed.{moments, RowsAreConfirmed}
use Rattle.reader_group.proofs.Each.{each-at, fed_member-at}

-- ---- what a reader keeps

-- by numbers a row stands with its number, and not before the first record
record IsRowOf (kept : Kept) : Type 0 where
  number : is_some kept.number ≡ is_some kept.row
  last : is_some kept.row ≡ true → is_some kept.last ≡ true

abbrev IsSound : NumberingWord → Kept → Type 0
IsSound words.Message kept = IsRowOf kept
IsSound words.None kept = kept.number ≡ None

no-row : (row : Option (List DataValue)) (last : Option ℕ) → last ≡ None → (is_some row ≡ true → is_some last ≡ true) → is_some row ≡ false
no-row None last none has = refl
no-row (Some row) last none has = let wrong : Path Bool true false = sym (has refl) ∙ ap (λ (o : Option ℕ). is_some o) none in absurd (grind arith)

module _ (now : ℕ) (carried confirmed : Option ℕ) where
  -- what is kept, and when the row was confirmed, once a frame was answered so
  record Good (word : NumberingWord) (kept : Kept) (outcome : Outcome) : Type 0 where
    sound : IsSound word kept
    held : is_some (confirmed_on now outcome carried kept.number confirmed) ≡ is_some kept.row

  abbrev GoodTook : NumberingWord → Kept × Took → Type 0
  GoodTook word taken = Good word taken.0 taken.1.outcome

  abbrev GoodAs : Kept × Outcome → Type 0
  GoodAs taken = Good words.Message taken.0 taken.1

  -- a keep-alive confirms a row that is held
  alive-held : (next number : Option ℕ) (held : Bool) → is_some confirmed ≡ held → (is_some number ≡ true → held ≡ true)
      → is_some (if names_last next number then Some now else confirmed) ≡ held
  alive-held None number held h some = h
  alive-held (Some next) None held h some = h
  alive-held (Some next) (Some last) held h some = on (next == due last) refl
    where
      on : (b : Bool) → (next == due last) ≡ b → is_some (if next == due last then Some now else confirmed) ≡ held
      on true e = rw e (sym (some refl))
      on false e = rw e h

  -- ---- numbering by message

  whole-good : (kept : Kept) (row : List DataValue) (number place : ℕ) (broke : Bool) → GoodAs (record_case (placed_at kept place) (frames.Whole row) number broke)
  whole-good kept row number place broke = record { sound = record { number = refl; last = λ _. refl }; held = refl }

  change-on : (kept : Kept) (patch : List (ℕ × DataValue)) (number place : ℕ) (row : Option (List DataValue)) → kept.row ≡ row → IsRowOf kept
      → GoodAs (change_case (placed_at kept place) number patch row)
  change-on kept patch number place None is h = record { sound = record { number = h.number; last = λ _. refl }; held = sym (ap (λ (o : Option (List DataValue)). is_some o) is) }
  change-on kept patch number place (Some row) is h = record { sound = record { number = refl; last = λ _. refl }; held = refl }

  change-good : (kept : Kept) (patch : List (ℕ × DataValue)) (number place : ℕ) (broke : Bool) → IsRowOf kept → GoodAs (record_case (placed_at kept place) (frames.Change patch) number broke)
  change-good kept patch number place true h = record { sound = record { number = refl; last = λ _. refl }; held = refl }
  change-good kept patch number place false h = change-on kept patch number place kept.row refl h

  alive-broke : (kept : Kept) (number place : ℕ) → GoodAs (record_case (placed_at kept place) frames.Alive number true)
  alive-broke kept number place = record { sound = record { number = refl; last = λ _. refl }; held = refl }

  alive-first : (kept : Kept) (number place : ℕ) → IsRowOf kept → is_some kept.row ≡ false → GoodAs (record_case (placed_at kept place) frames.Alive number false)
  alive-first kept number place h none = record { sound = record { number = h.number; last = λ _. refl }; held = sym none }

  noted-row : (kept : Kept) (broke : Break) → IsRowOf kept → IsRowOf (cases.noted kept broke)
  noted-row kept broke h = record { number = h.number; last = h.last }

  -- a record after the last one
  following-good : (kept : Kept) (content : Content) (number place last : ℕ) → IsRowOf kept
      → GoodTook words.Message (following_case kept content number place last (breaks_run content number last))
  following-good kept (frames.Whole row) number place last h = on (breaks_run (frames.Whole row) number last)
    where
      on : (b : Bool) → GoodTook words.Message (following_case kept (frames.Whole row) number place last b)
      on true = whole-good (cases.noted kept (record { expected = due last; got = number })) row number place true
      on false = whole-good kept row number place false
  following-good kept (frames.Change patch) number place last h = on (breaks_run (frames.Change patch) number last)
    where
      on : (b : Bool) → GoodTook words.Message (following_case kept (frames.Change patch) number place last b)
      on true =
          let broke : Break = record { expected = due last; got = number } in
          change-good (cases.noted kept broke) patch number place true (noted-row kept broke h)
      on false = change-good kept patch number place false h
  following-good kept frames.Alive number place last h = alive-broke (cases.noted kept (record { expected = due last; got = number })) number place

  -- the first record
  first-good : (kept : Kept) (content : Content) (number place : ℕ) → IsRowOf kept → is_some kept.row ≡ false → GoodTook words.Message (placed_case kept content number place None)
  first-good kept (frames.Whole row) number place h none = whole-good kept row number place false
  first-good kept (frames.Change patch) number place h none = change-good kept patch number place false h
  first-good kept frames.Alive number place h none = alive-first kept number place h none

  -- what isn't a record
  older-good : (kept : Kept) (content : Content) → IsRowOf kept → is_some confirmed ≡ is_some kept.row → Good words.Message kept (cases.older content)
  older-good kept (frames.Whole row) h is = record { sound = h; held = is }
  older-good kept (frames.Change patch) h is = record { sound = h; held = is }
  older-good kept frames.Alive h is = record { sound = h; held = alive-held carried kept.number (is_some kept.row) is (λ some. sym h.number ∙ some) }

  placed-good : (kept : Kept) (content : Content) (number place : ℕ) (last : Option ℕ) → kept.last ≡ last → IsRowOf kept → is_some confirmed ≡ is_some kept.row
      → GoodTook words.Message (placed_case kept content number place last)
  placed-good kept content number place None first h is = first-good kept content number place h (no-row kept.row kept.last first h.last)
  placed-good kept content number place (Some last) first h is = on (newer place last) refl
    where
      on : (b : Bool) → newer place last ≡ b → GoodTook words.Message (placed_case kept content number place (Some last))
      on true e = rw e (following-good kept content number place last h)
      on false e = rw e (older-good kept content h is)

  numbered-good : (kept : Kept) (content : Content) (stamp number : Option ℕ) → IsRowOf kept → is_some confirmed ≡ is_some kept.row
      → GoodTook words.Message (numbered_case kept content stamp number)
  numbered-good kept content stamp None h is = record { sound = h; held = is }
  numbered-good kept content None (Some number) h is = placed-good kept content number (record_number content number) kept.last refl h is
  numbered-good kept content (Some stamp) (Some number) h is = on (is_jump kept.stamp stamp) refl
    where
      on : (b : Bool) → is_jump kept.stamp stamp ≡ b → GoodTook words.Message (numbered_case kept content (Some stamp) (Some number))
      on true e =
          rw e (first-good (record (cut_kept Jump kept) { stamp = Some stamp }) content number (record_number content number) (record { number = refl; last = λ none. none }) refl)
      on false e =
          rw e (placed-good (record kept { stamp = Some (max stamp (unwrap_or kept.stamp 0)) }) content number (record_number content number) kept.last refl
          (record { number = h.number; last = h.last }) is)

  -- ---- no numbering

  unnumbered-good : (kept : Kept) (content : Content) → kept.number ≡ None → is_some confirmed ≡ is_some kept.row → GoodTook words.None (unnumbered_case kept content)
  unnumbered-good kept (frames.Whole row) none is = record { sound = none; held = refl }
  unnumbered-good kept (frames.Change patch) none is = record { sound = none; held = is }
  unnumbered-good kept frames.Alive none is = record {
    sound = none;
    held = alive-held carried kept.number (is_some kept.row) is
        (λ some. let wrong : Path Bool false true = sym (ap (λ (o : Option ℕ). is_some o) none) ∙ some in absurd (grind arith));
  }

  -- ---- either

  numbering-good : (word : NumberingWord) (kept : Kept) (frame : Frame) (stamp : Option ℕ) → IsSound word kept → is_some confirmed ≡ is_some kept.row
      → GoodTook word (numbering_case (numbering_of word) kept frame stamp)
  numbering-good words.Message kept frame stamp h is = numbered-good kept frame.content stamp frame.number h is
  numbering-good words.None kept frame stamp h is = unnumbered-good kept frame.content h is

  major-good : (word : NumberingWord) (major : ℕ) (kept : Kept) (frame : Frame) (stamp got : Option ℕ) → IsSound word kept → is_some confirmed ≡ is_some kept.row
      → GoodTook word (major_case (numbering_of word) major kept frame stamp got)
  major-good word major kept frame stamp None h is = numbering-good word kept frame stamp h is
  major-good word major kept frame stamp (Some got) h is = on (got == major) refl
    where
      on : (b : Bool) → (got == major) ≡ b → GoodTook word (major_case (numbering_of word) major kept frame stamp (Some got))
      on true e = rw e (numbering-good word kept frame stamp h is)
      on false e = rw e (record { sound = h; held = is })

-- ---- a reader

-- the row that is held was confirmed when one of these came
record Shown (word : NumberingWord) (list : List ℕ) (member : MemberValue) : Type 0 where
  sound : IsSound word member.kept
  held : is_some member.confirmed ≡ is_some member.kept.row
  came : IfSome member.confirmed (Contains list)

came-on : (came : List ℕ) (now : ℕ) (outcome : Outcome) (carried held before : Option ℕ) → Contains came now → IfSome before (Contains came)
    → IfSome (confirmed_on now outcome carried held before) (Contains came)
came-on came now outcomes.Held carried held before has h = has
came-on came now outcomes.Alive carried held before has h = on (names_last carried held) refl
  where
    on : (b : Bool) → names_last carried held ≡ b → IfSome (confirmed_on now outcomes.Alive carried held before) (Contains came)
    on true e = rw e has
    on false e = rw e h
came-on came now (outcomes.Waiting why) carried held before has h = tt
came-on came now outcomes.Older carried held before has h = h
came-on came now (outcomes.WrongMajor got) carried held before has h = h
came-on came now outcomes.Unnumbered carried held before has h = h

module _ (word : NumberingWord) (came : List ℕ) where
  abbrev IsShown : MemberValue → Type 0
  IsShown member = Shown word came member

  noted-shown : (now : ℕ) (outcome : Outcome) (carried : Option ℕ) (member : MemberValue) → IsShown (confirmed_by now outcome carried member)
      → IsShown (confirmed_by now outcome carried (noted now outcome member))
  noted-shown now outcomes.Held carried member h = record { sound = h.sound; held = h.held; came = h.came }
  noted-shown now outcomes.Alive carried member h = record { sound = h.sound; held = h.held; came = h.came }
  noted-shown now (outcomes.Waiting why) carried member h = record { sound = h.sound; held = h.held; came = h.came }
  noted-shown now outcomes.Older carried member h = h
  noted-shown now (outcomes.WrongMajor got) carried member h = h
  noted-shown now outcomes.Unnumbered carried member h = h

  cut-as : (why : Why) (before member : MemberValue) → member.kept ≡ cut_kept why before.kept → member.confirmed ≡ None → IsShown member
  cut-as why before member kept none = record {
    sound = subst (IsSound word) (sym kept) (on word);
    held = ap (λ (o : Option ℕ). is_some o) none ∙ sym (ap (λ (k : Kept). is_some k.row) kept);
    came = subst (λ (o : Option ℕ). IfSome o (Contains came)) (sym none) tt;
  }
    where
      on : (w : NumberingWord) → IsSound w (cut_kept why before.kept)
      on words.Message = record { number = refl; last = λ none. none }
      on words.None = refl

module _ (seat : Seat) (came : List ℕ) where
  abbrev IsIn : MemberValue → Type 0
  IsIn member = Shown seat.part.numbering came member

  given-in : (receipt : Receipt) (member : MemberValue) (frame : Frame) → Contains came receipt.moment → IsIn member → IsIn (given seat receipt member frame)
  given-in receipt member frame has h =
      let word = seat.part.numbering in
      let now = receipt.moment in
      let carried = (short frame).number in
      let taken = frame_case (numbering_of word) seat.meta.major member.kept (short frame) receipt.stamp in
      let good = major-good now carried member.confirmed word seat.meta.major member.kept (short frame) receipt.stamp frame.major h.sound h.held in
      noted-shown word came now taken.1.outcome carried (taken_in member taken) (record {
        sound = good.sound;
        held = good.held;
        came = came-on came now taken.1.outcome carried taken.0.number member.confirmed has h.came;
      })

  read-in : (receipt : Receipt) (member : MemberValue) (read : Result Frame FrameFault) → Contains came receipt.moment → IsIn member → IsIn (read_case seat receipt member read).0
  read-in receipt member (Err fault) has h = h
  read-in receipt member (Ok frame) has h = given-in receipt member frame has h

  joining-in : (member : MemberValue) (joining : Joining) → IsIn member → IsIn (record member { joining = joining })
  joining-in member joining h = record { sound = h.sound; held = h.held; came = h.came }

  joined-in : (receipt : Receipt) (member : MemberValue) (joining : Joining) (answer : Joined) → Contains came receipt.moment → IsIn member
      → IsIn (joined_case seat receipt member (joining, answer)).0
  joined-in receipt member joining (joins.Whole total) has h =
      read-in receipt (record member { joining = joining }) (frame_at seat.meta (joined_bytes joining)) has (joining-in member joining h)
  joined-in receipt member joining joins.Part has h = joining-in member joining h
  joined-in receipt member joining joins.Older has h = joining-in member joining h
  joined-in receipt member joining (joins.TooLong total) has h = joining-in member joining h
  joined-in receipt member joining (joins.BadRange offset total) has h = joining-in member joining h
  joined-in receipt member joining (joins.Differs first now) has h = joining-in member joining h

  chunked-in : (receipt : Receipt) (member : MemberValue) (read : Result Chunk ChunkFault) → Contains came receipt.moment → IsIn member → IsIn (chunked_case seat receipt member read).0
  chunked-in receipt member (Err fault) has h = h
  chunked-in receipt member (Ok chunk) has h =
      let laid = chunk_case member.joining (numbered chunk) in
      joined-in receipt member laid.0 laid.1 has h

  piece-in : (receipt : Receipt) (member : MemberValue) (piece : Piece) → Contains came receipt.moment → IsIn member → IsIn (piece_case seat receipt member piece).0
  piece-in receipt member (Message bytes) has h = read-in receipt member (frame_at seat.meta bytes) has h
  piece-in receipt member (Chunked bytes) has h = chunked-in receipt member (without_rest (chunk_at bytes)) has h
  piece-in receipt member (Slotted bytes) has h = read-in receipt member (slot_frame_at seat.meta bytes) has h
  piece-in receipt member Missing has h = h

  pieces-in : (receipt : Receipt) (parts : List Piece) (fed : Fed) → Contains came receipt.moment → IsIn fed.member → IsIn (fold (fed_on seat receipt) fed parts).member
  pieces-in receipt [] fed has h = h
  pieces-in receipt (piece ∷ parts) fed has h = pieces-in receipt parts (fed_on seat receipt fed piece) has (piece-in receipt fed.member piece has h)

  raised-in : (raised : Bool) (why : Why) (member : MemberValue) → IsIn member → IsIn (cut_if raised why member)
  raised-in true why member h = cut-as seat.part.numbering came why member (cut_if true why member) refl refl
  raised-in false why member h = h

  fed-in : (receipt : Receipt) (raised enabled : Bool) (payload : Payload) (member : MemberValue) → Contains came receipt.moment → IsIn member
      → IsIn (fed_by seat receipt raised enabled payload member).member
  fed-in receipt raised true payload member has h =
      pieces-in receipt (pieces seat.part payload) (unfed (cut_if raised NewToken member)) has (raised-in raised NewToken member h)
  fed-in receipt raised false payload member has h = raised-in raised NewToken member h

  expired-in : (now : ℕ) (member : MemberValue) → IsIn member → IsIn (expired seat.part.timeout now member)
  expired-in now member h = on (is_due seat.part.timeout member.told now) refl
    where
      on : (b : Bool) → is_due seat.part.timeout member.told now ≡ b → IsIn (expired seat.part.timeout now member)
      on true e = rw e (cut-as seat.part.numbering came Timeout member _ refl refl)
      on false e = rw e h

  stopped-in : (here : Bool) (why : Why) (member : MemberValue) → IsIn member → IsIn (stopped_if here why member)
  stopped-in true why member h = cut-as seat.part.numbering came why member (stopped_if true why member) refl refl
  stopped-in false why member h = h

new-in : (word : NumberingWord) → Shown word [] new_member
new-in words.Message = record { sound = record { number = refl; last = λ none. none }; held = refl; came = tt }
new-in words.None = record { sound = refl; held = refl; came = tt }

-- ---- one moment more

still : (o : Option ℕ) (now : ℕ) (came : List ℕ) → IfSome o (Contains came) → IfSome o (Contains (now ∷ came))
still None now came h = tt
still (Some moment) now came h = Contains-append_right (now ∷ []) came moment h

more-shown : (word : NumberingWord) (came : List ℕ) (now : ℕ) (member : MemberValue) → Shown word came member → Shown word (now ∷ came) member
more-shown word came now member h = record { sound = h.sound; held = h.held; came = still member.confirmed now came h.came }

has-now : (now : ℕ) (came : List ℕ) → Contains (now ∷ came) now
has-now now came = Contains-get_or (now ∷ came) 0 now (omega arith)

-- ---- each reader of a group

module _ (setting : Setting) where
  abbrev at : ℕ → Seat
  at k = seat_at setting.seats k

  taken-in : (group : PlainGroup) (came : List ℕ) (now : ℕ) (on : List Bool) (answer : Result Opened Refusal) (k : ℕ) → k < length setting.seats → IsIn (at k) came (member_at group.members k)
      → IsIn (at k) (now ∷ came) (member_at (taken_on setting group now on answer).members k)
  taken-in group came now on (Err refusal) k within h = more-shown (at k).part.numbering came now (member_at group.members k) h
  taken-in group came now on (Ok opened) k within h =
      let receipt = receipt_of setting now opened in
      let raised = is_raised setting group.accepted opened in
      subst (IsIn (at k) (now ∷ came))
      (sym (fed_member-at setting.seats group.members (λ i seat member. fed_by seat receipt raised (slice_index_or on i false) opened.payload member) k within))
      (fed-in (at k) (now ∷ came) receipt raised (slice_index_or on k false) opened.payload (member_at group.members k) (has-now now came)
      (more-shown (at k).part.numbering came now (member_at group.members k) h))

  shown : (events : List Event) (k : ℕ) → k < length setting.seats → IsIn (at k) (moments events) (member_at (plain setting events).members k)
  shown [] k within = subst (IsIn (at k) []) (sym (get_or-map (λ (seat : Seat). new_member) setting.seats k (at k) new_member within)) (new-in (at k).part.numbering)
  shown (Got now on datagram ∷ before) k within =
      let group = plain setting before in
      taken-in group (moments before) now on (verdict_in setting group datagram) k within (shown before k within)
  shown (Expired now ∷ before) k within =
      let group = plain setting before in
      subst (IsIn (at k) (moments before)) (sym (each-at setting.seats group.members (λ i seat member. expired seat.part.timeout now member) k new_member within))
      (expired-in (at k) (moments before) now (member_at group.members k) (shown before k within))
  shown (Stopped reader why ∷ before) k within =
      let group = plain setting before in
      subst (IsIn (at k) (moments before)) (sym (each-at setting.seats group.members (λ i seat member. stopped_if (i == reader) why member) k new_member within))
      (stopped-in (at k) (moments before) (k == reader) why (member_at group.members k) (shown before k within))

  pub rows-confirmed : (events : List Event) → RowsAreConfirmed setting events
  rows-confirmed events k within = let is = shown events k within in record { held = is.held; came = is.came }
