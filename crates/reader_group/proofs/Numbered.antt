-- Which number stands beside the row that a reader holds.
use Rattle.std.proofs.Common.{◌≡◌, refl, sym, subst, arith, ℕ, ◌<◌, Bool, true, false, List, [], ◌∷◌, Option, Some, None}
use Rattle.std.specs.Prelude.{◌==◌, fold, length, option_map, IfSome, Result, Ok, Err, slice_index_or}
use Rattle.std.proofs.lemmas.List.{get_or-map}
use Rattle.std.proofs.lemmas.Nat.{mod_below}
use Rattle.dataset_meta.specs.DataValues.{DataValue}
use Rattle.seq_number.specs.Numbers.{number_of_place, newer}
use Rattle.pubsub_model.specs.declared.reading.Why.{Why}
use Rattle.pubsub_model.specs.declared.reading.Why.TheVariants.{NewToken, Timeout}
use Rattle.frame_codec.specs.Frames as frames
use Rattle.frame_codec.specs.Frames.{Content, Frame}
use Rattle.frame_codec.specs.Reading.{frame_at}
use Rattle.frame_codec.specs.declared.fault.FrameFault.{FrameFault}
use Rattle.dataset_reader.specs.declared.took.Outcome.{Outcome}
use Rattle.dataset_reader.specs.declared.took.Outcome.TheVariants as outcomes
use Rattle.dataset_reader.specs.Kept.{Kept, fresh, cut_kept}
use Rattle.dataset_reader.specs.Cases.{change_case, record_case, following_case, placed_case, breaks_run, record_number, is_jump, stamped, numbered_case, unnumbered_case, numbering_case, major_case, frame_case}
use Rattle.receive_timer.specs.Told.{is_due}
use Rattle.chunker.specs.Chunks.{Chunk}
use Rattle.chunker.specs.Joining.{Joining, chunk_case, joined_bytes}
use Rattle.chunker.specs.Joins.{numbered}
use Rattle.chunker.specs.Spelling.{chunk_at, without_rest}
use Rattle.chunker.specs.declared.joiner.Joined.{Joined}
use Rattle.chunker.specs.declared.joiner.Joined.TheVariants as joins
use Rattle.chunker.specs.declared.payload.ChunkFault.{ChunkFault}
use Rattle.config_tables.specs.declared.words.NumberingWord.{NumberingWord}
use Rattle.config_tables.specs.declared.words.NumberingWord.TheVariants as words
use Rattle.reader_group.specs.declared.receipt.Receipt.{Receipt}
use Rattle.reader_group.specs.declared.refusal.Refusal.{Refusal}
use Rattle.reader_group.specs.Members.{Seat, seat_at, MemberValue, new_member, expired, noted, numbering_of}
use Rattle.reader_group.specs.SlotFrames.{slot_frame_at}
use Rattle.reader_group.specs.Payloads.{Payload, Piece, Message, Chunked, Slotted, Missing, pieces}
use Rattle.reader_group.specs.Opening.{Opened}
use Rattle.reader_group.specs.Plain.{Setting, PlainGroup, Event, Got, Expired, Stopped, Fed, short, given, read_case, joined_case, chunked_case, piece_case, fed_on, unfed, fed_by, cut_if, stopped_if, member_at, taken_on, is_raised, receipt_of, taken_in, verdict_in, opening, step, plain}
use Rattle.reader_group.specs.Numbered.{HasItsNumber, HaveNumbers, HaveTheirNumbers}
use Rattle.reader_group.specs.Renewing.{GroupCall, Befalls, Renews, reading, setting_after}
use Rattle.reader_group.proofs.Each.{each-at, fed_member-at}

-- ---- numbering by message

abbrev IsNumbered : Kept → Type 0
IsNumbered kept = HasItsNumber words.Message kept

change-numbered : (kept : Kept) (number : ℕ) (patch : List (ℕ × DataValue)) (row : Option (List DataValue)) → number < 65536 → IsNumbered kept → IsNumbered (change_case kept number patch row).0
change-numbered kept number patch None low h = h
change-numbered kept number patch (Some row) low h = low

record-numbered : (kept : Kept) (content : Content) (number : ℕ) (broke : Bool) → number < 65536 → IsNumbered kept → IsNumbered (record_case kept content number broke).0
record-numbered kept (frames.Whole row) number broke low h = low
record-numbered kept (frames.Change patch) number true low h = tt
record-numbered kept (frames.Change patch) number false low h = change-numbered kept number patch kept.row low h
record-numbered kept frames.Alive number true low h = tt
record-numbered kept frames.Alive number false low h = h

following-numbered : (kept : Kept) (content : Content) (number place last : ℕ) (breaks : Bool) → number < 65536 → IsNumbered kept → IsNumbered (following_case kept content number place last breaks).0
following-numbered kept content number place last true low h = record-numbered _ content number true low h
following-numbered kept content number place last false low h = record-numbered _ content number false low h

placed-numbered : (kept : Kept) (content : Content) (number place : ℕ) (last : Option ℕ) → number < 65536 → IsNumbered kept → IsNumbered (placed_case kept content number place last).0
placed-numbered kept content number place None low h = record-numbered _ content number false low h
placed-numbered kept content number place (Some last) low h = on (newer place last) refl
  where
    on : (b : Bool) → newer place last ≡ b → IsNumbered (placed_case kept content number place (Some last)).0
    on true e = rw e (following-numbered kept content number place last (breaks_run content number last) low h)
    on false e = rw e h

stamped-numbered : (kept : Kept) (stamp : Option ℕ) → IsNumbered kept → IsNumbered (stamped kept stamp)
stamped-numbered kept None h = h
stamped-numbered kept (Some stamp) h = on (is_jump kept.stamp stamp) refl
  where
    on : (b : Bool) → is_jump kept.stamp stamp ≡ b → IsNumbered (stamped kept (Some stamp))
    on true e = rw e tt
    on false e = rw e h

-- by the number that is carried
by-number : (kept : Kept) (content : Content) (stamp number : Option ℕ) → IfSome number (λ n. n < 65536) → IsNumbered kept → IsNumbered (numbered_case kept content stamp number).0
by-number kept content stamp None low h = h
by-number kept content stamp (Some number) low h =
    let now = stamped kept stamp in
    placed-numbered now content number (record_number content number) now.last low (stamped-numbered kept stamp h)

-- ---- no numbering

without-number : (kept : Kept) (content : Content) → HasItsNumber words.None kept → HasItsNumber words.None (unnumbered_case kept content).0
without-number kept (frames.Whole row) h = h
without-number kept (frames.Change patch) h = h
without-number kept frames.Alive h = h

-- ---- either

by-numbering : (numbering : NumberingWord) (kept : Kept) (frame : Frame) (stamp : Option ℕ) → IfSome frame.number (λ n. n < 65536) → HasItsNumber numbering kept
    → HasItsNumber numbering (numbering_case (numbering_of numbering) kept frame stamp).0
by-numbering words.Message kept frame stamp low h = by-number kept frame.content stamp frame.number low h
by-numbering words.None kept frame stamp low h = without-number kept frame.content h

by-major : (numbering : NumberingWord) (major : ℕ) (kept : Kept) (frame : Frame) (stamp got : Option ℕ) → IfSome frame.number (λ n. n < 65536) → HasItsNumber numbering kept
    → HasItsNumber numbering (major_case (numbering_of numbering) major kept frame stamp got).0
by-major numbering major kept frame stamp None low h = by-numbering numbering kept frame stamp low h
by-major numbering major kept frame stamp (Some got) low h = on (got == major) refl
  where
    on : (b : Bool) → (got == major) ≡ b → HasItsNumber numbering (major_case (numbering_of numbering) major kept frame stamp (Some got)).0
    on true e = rw e (by-numbering numbering kept frame stamp low h)
    on false e = rw e h

fresh-numbered : (numbering : NumberingWord) → HasItsNumber numbering fresh
fresh-numbered words.Message = tt
fresh-numbered words.None = refl

cut-numbered : (numbering : NumberingWord) (why : Why) (kept : Kept) → HasItsNumber numbering (cut_kept why kept)
cut-numbered words.Message why kept = tt
cut-numbered words.None why kept = refl

-- a carried number has 16 bits
short-low : (number : Option ℕ) → IfSome (option_map number_of_place number) (λ n. n < 65536)
short-low None = tt
short-low (Some n) = mod_below n 65536 (omega arith)

-- ---- a reader of a seat

abbrev IsIn : Seat → MemberValue → Type 0
IsIn seat member = HasItsNumber seat.part.numbering member.kept

noted-in : (seat : Seat) (now : ℕ) (outcome : Outcome) (member : MemberValue) → IsIn seat member → IsIn seat (noted now outcome member)
noted-in seat now outcomes.Held member h = h
noted-in seat now outcomes.Alive member h = h
noted-in seat now (outcomes.Waiting why) member h = h
noted-in seat now outcomes.Older member h = h
noted-in seat now (outcomes.WrongMajor got) member h = h
noted-in seat now outcomes.Unnumbered member h = h

given-in : (seat : Seat) (receipt : Receipt) (member : MemberValue) (frame : Frame) → IsIn seat member → IsIn seat (given seat receipt member frame)
given-in seat receipt member frame h =
    let taken = frame_case (numbering_of seat.part.numbering) seat.meta.major member.kept (short frame) receipt.stamp in
    noted-in seat receipt.moment taken.1.outcome (taken_in member taken)
    (by-major seat.part.numbering seat.meta.major member.kept (short frame) receipt.stamp frame.major (short-low frame.number) h)

read-in : (seat : Seat) (receipt : Receipt) (member : MemberValue) (read : Result Frame FrameFault) → IsIn seat member → IsIn seat (read_case seat receipt member read).0
read-in seat receipt member (Err fault) h = h
read-in seat receipt member (Ok frame) h = given-in seat receipt member frame h

joined-in : (seat : Seat) (receipt : Receipt) (member : MemberValue) (joining : Joining) (answer : Joined) → IsIn seat member → IsIn seat (joined_case seat receipt member (joining, answer)).0
joined-in seat receipt member joining (joins.Whole total) h = read-in seat receipt (record member { joining = joining }) (frame_at seat.meta (joined_bytes joining)) h
joined-in seat receipt member joining joins.Part h = h
joined-in seat receipt member joining joins.Older h = h
joined-in seat receipt member joining (joins.TooLong total) h = h
joined-in seat receipt member joining (joins.BadRange offset total) h = h
joined-in seat receipt member joining (joins.Differs first now) h = h

chunked-in : (seat : Seat) (receipt : Receipt) (member : MemberValue) (read : Result Chunk ChunkFault) → IsIn seat member → IsIn seat (chunked_case seat receipt member read).0
chunked-in seat receipt member (Err fault) h = h
chunked-in seat receipt member (Ok chunk) h =
    let laid = chunk_case member.joining (numbered chunk) in
    joined-in seat receipt member laid.0 laid.1 h

piece-in : (seat : Seat) (receipt : Receipt) (member : MemberValue) (piece : Piece) → IsIn seat member → IsIn seat (piece_case seat receipt member piece).0
piece-in seat receipt member (Message bytes) h = read-in seat receipt member (frame_at seat.meta bytes) h
piece-in seat receipt member (Chunked bytes) h = chunked-in seat receipt member (without_rest (chunk_at bytes)) h
piece-in seat receipt member (Slotted bytes) h = read-in seat receipt member (slot_frame_at seat.meta bytes) h
piece-in seat receipt member Missing h = h

pieces-in : (seat : Seat) (receipt : Receipt) (parts : List Piece) (fed : Fed) → IsIn seat fed.member → IsIn seat (fold (fed_on seat receipt) fed parts).member
pieces-in seat receipt [] fed h = h
pieces-in seat receipt (piece ∷ parts) fed h = pieces-in seat receipt parts (fed_on seat receipt fed piece) (piece-in seat receipt fed.member piece h)

raised-in : (seat : Seat) (raised : Bool) (why : Why) (member : MemberValue) → IsIn seat member → IsIn seat (cut_if raised why member)
raised-in seat true why member h = cut-numbered seat.part.numbering why member.kept
raised-in seat false why member h = h

fed-in : (seat : Seat) (receipt : Receipt) (raised enabled : Bool) (payload : Payload) (member : MemberValue) → IsIn seat member → IsIn seat (fed_by seat receipt raised enabled payload member).member
fed-in seat receipt raised true payload member h =
    pieces-in seat receipt (pieces seat.part payload) (unfed (cut_if raised NewToken member)) (raised-in seat raised NewToken member h)
fed-in seat receipt raised false payload member h = raised-in seat raised NewToken member h

expired-in : (seat : Seat) (now : ℕ) (member : MemberValue) → IsIn seat member → IsIn seat (expired seat.part.timeout now member)
expired-in seat now member h = on (is_due seat.part.timeout member.told now) refl
  where
    on : (b : Bool) → is_due seat.part.timeout member.told now ≡ b → IsIn seat (expired seat.part.timeout now member)
    on true e = rw e (cut-numbered seat.part.numbering Timeout member.kept)
    on false e = rw e h

stopped-in : (seat : Seat) (here : Bool) (why : Why) (member : MemberValue) → IsIn seat member → IsIn seat (stopped_if here why member)
stopped-in seat true why member h = cut-numbered seat.part.numbering why member.kept
stopped-in seat false why member h = h

-- ---- each reader of a group

module _ (setting : Setting) where
  abbrev at : ℕ → Seat
  at k = seat_at setting.seats k

  taken-in : (group : PlainGroup) (now : ℕ) (on : List Bool) (answer : Result Opened Refusal) (k : ℕ) → k < length setting.seats → IsIn (at k) (member_at group.members k)
      → IsIn (at k) (member_at (taken_on setting group now on answer).members k)
  taken-in group now on (Err refusal) k within h = h
  taken-in group now on (Ok opened) k within h =
      let receipt = receipt_of setting now opened in
      let raised = is_raised setting group.accepted opened in
      subst (IsIn (at k))
      (sym (fed_member-at setting.seats group.members (λ i seat member. fed_by seat receipt raised (slice_index_or on i false) opened.payload member) k within))
      (fed-in (at k) receipt raised (slice_index_or on k false) opened.payload (member_at group.members k) h)

  pub opening-numbered : HaveNumbers setting (opening setting)
  opening-numbered k within =
      subst (IsIn (at k)) (sym (get_or-map (λ (seat : Seat). new_member) setting.seats k (at k) new_member within)) (fresh-numbered (at k).part.numbering)

  pub step-numbered : (group : PlainGroup) (event : Event) → HaveNumbers setting group → HaveNumbers setting (step setting group event)
  step-numbered group (Got now on datagram) have k within = taken-in group now on (verdict_in setting group datagram) k within (have k within)
  step-numbered group (Expired now) have k within =
      subst (IsIn (at k)) (sym (each-at setting.seats group.members (λ i seat member. expired seat.part.timeout now member) k new_member within))
      (expired-in (at k) now (member_at group.members k) (have k within))
  step-numbered group (Stopped reader why) have k within =
      subst (IsIn (at k)) (sym (each-at setting.seats group.members (λ i seat member. stopped_if (i == reader) why member) k new_member within))
      (stopped-in (at k) (k == reader) why (member_at group.members k) (have k within))

  pub plain-numbered : (events : List Event) → HaveTheirNumbers setting events
  plain-numbered [] = opening-numbered
  plain-numbered (event ∷ before) = step-numbered (plain setting before) event (plain-numbered before)

-- ---- with rings

same-seats : (setting : Setting) (calls : List GroupCall) → (setting_after setting calls).seats ≡ setting.seats
same-seats setting [] = refl
same-seats setting (Befalls event ∷ before) = same-seats setting before
same-seats setting (Renews keys ∷ before) = refl

-- the numbers that seats ask for
abbrev AreNumbered : List Seat → PlainGroup → Type 0
AreNumbered seats group = (k : ℕ) → k < length seats → HasItsNumber (seat_at seats k).part.numbering (member_at group.members k).kept

pub renewed-numbered : (setting : Setting) (calls : List GroupCall) → HaveNumbers setting (reading setting calls)
renewed-numbered setting [] = opening-numbered setting
renewed-numbered setting (Befalls event ∷ before) =
    let own = setting_after setting before in
    let seats = same-seats setting before in
    let group = reading setting before in
    subst (λ (seats : List Seat). AreNumbered seats (step own group event)) seats
    (step-numbered own group event (subst (λ (seats : List Seat). AreNumbered seats group) (sym seats) (renewed-numbered setting before)))
renewed-numbered setting (Renews keys ∷ before) = renewed-numbered setting before
