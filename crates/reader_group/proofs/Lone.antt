-- A key frame that comes alone is held.
use Rattle.std.proofs.Common.{◌≡◌, ◌⊎◌, inl, inr, refl, sym, ap, ◌∙◌, subst, arith, ℕ, ◌+◌, ◌≤◌, Bool, true, false, List, [], ◌∷◌, Option, Some, None}
use Rattle.std.specs.Prelude.{◌==◌, fold, option_map, Result, slice_index_or, if◌then◌else◌}
use Rattle.std.proofs.lemmas.Bool.{le-leb}
use Rattle.std.proofs.lemmas.Bool.Decides.{nat_tests}
use Rattle.dataset_meta.specs.DataValues.{DataValue}
use Rattle.seq_number.specs.Numbers.{number_of_place, newer}
use Rattle.pubsub_model.specs.declared.reading.Why.TheVariants.{NewToken}
use Rattle.frame_codec.specs.Frames as frames
use Rattle.frame_codec.specs.Frames.{Content, Frame}
use Rattle.dataset_reader.specs.declared.took.Outcome.{Outcome}
use Rattle.dataset_reader.specs.declared.took.Outcome.TheVariants as outcomes
use Rattle.dataset_reader.specs.declared.took.Took.{Took}
use Rattle.dataset_reader.specs.declared.took.Numbering.{Numbering}
use Rattle.dataset_reader.specs.Kept.{Kept, cut_kept}
use Rattle.dataset_reader.specs.Cases.{placed_case, following_case, breaks_run, is_jump, stamped, numbered_case, unnumbered_case, numbering_case, major_case, frame_case}
use Rattle.dataset_reader.specs.Answers.{IsJump}
use Rattle.dataset_reader.specs.Keeping.{IsOfMajor}
use Rattle.chunker.specs.Chunks.{Chunk}
use Rattle.chunker.specs.Joining.{Joining}
use Rattle.chunker.specs.declared.joiner.Joined.{Joined}
use Rattle.chunker.specs.declared.payload.ChunkFault.{ChunkFault}
use Rattle.frame_codec.specs.declared.fault.FrameFault.{FrameFault}
use Rattle.config_tables.specs.declared.words.NumberingWord.{NumberingWord}
use Rattle.config_tables.specs.declared.words.NumberingWord.TheVariants as words
use Rattle.reader_group.specs.declared.receipt.Receipt.{Receipt}
use Rattle.reader_group.specs.declared.refusal.Refusal.{Refusal}
use Rattle.reader_group.specs.Members.{Seat, seat_at, MemberValue, noted, numbering_of}
use Rattle.reader_group.specs.Payloads.{Piece, Message, Chunked, Slotted, Missing, pieces}
use Rattle.reader_group.specs.Opening.{Opened}
use Rattle.reader_group.specs.Plain.{Setting, PlainGroup, Fed, short, given, read_case, joined_case, chunked_case, piece_case, unfed, fed_on, fed_by, cut_if, member_at, taken_on, is_raised, receipt_of, taken_in}
use Rattle.reader_group.specs.Complete.{BringsFrame, IsNewerThanLast, MayFollow, IsTakenBy, HoldsFrame, WholeIsHeld}
use Rattle.reader_group.proofs.Each.{fed_member-at}

-- ---- what the reader makes of it

noted-kept : (now : ℕ) (outcome : Outcome) (member : MemberValue) → (noted now outcome member).kept ≡ member.kept
noted-kept now outcomes.Held member = refl
noted-kept now outcomes.Alive member = refl
noted-kept now (outcomes.Waiting why) member = refl
noted-kept now outcomes.Older member = refl
noted-kept now (outcomes.WrongMajor got) member = refl
noted-kept now outcomes.Unnumbered member = refl

-- the row, with its number
record HoldsRow (row : List DataValue) (n : ℕ) (kept : Kept) : Type 0 where
  row_is : kept.row ≡ Some row
  number_is : kept.number ≡ Some n

following-held : (k : Kept) (row : List DataValue) (n p last : ℕ) (breaks : Bool) → HoldsRow row n (following_case k (frames.Whole row) n p last breaks).0
following-held k row n p last true = record { row_is = refl; number_is = refl }
following-held k row n p last false = record { row_is = refl; number_is = refl }

newer-held : (new : Bool) (k : Kept) (row : List DataValue) (n p last : ℕ) → newer p last ≡ new → new ≡ true → HoldsRow row n (placed_case k (frames.Whole row) n p (Some last)).0
newer-held true k row n p last e is = rw e (following-held k row n p last (breaks_run (frames.Whole row) n last))
newer-held false k row n p last e is = absurd (let wrong : Path Bool false true = is in cc)

-- the number is newer than that of the last record, if there is one
abbrev IsNewerThan : Option ℕ → ℕ → Type 0
IsNewerThan None p = Unit {0}
IsNewerThan (Some last) p = newer p last ≡ true

placed-held : (k : Kept) (row : List DataValue) (n p : ℕ) (last : Option ℕ) → IsNewerThan last p → HoldsRow row n (placed_case k (frames.Whole row) n p last).0
placed-held k row n p None new = record { row_is = refl; number_is = refl }
placed-held k row n p (Some last) new = newer-held (newer p last) k row n p last refl new

-- the stamp keeps the place of the last record, or cuts
stamped-newer : (k : Kept) (stamp : Option ℕ) (p : ℕ) → IsNewerThan k.last p → IsNewerThan (stamped k stamp).last p
stamped-newer k None p new = new
stamped-newer k (Some n) p new = on (is_jump k.stamp n) refl
  where
    on : (b : Bool) → is_jump k.stamp n ≡ b → IsNewerThan (stamped k (Some n)).last p
    on true e = rw e tt
    on false e = rw e new

jump-newer : (k : Kept) (high n p : ℕ) → k.stamp ≡ Some high → high + 16384 ≤ n → IsNewerThan (stamped k (Some n)).last p
jump-newer k high n p is far =
    let jumps : is_jump k.stamp n ≡ true = ap (λ (o : Option ℕ). is_jump o n) is ∙ le-leb (high + 16384) n far in
    rw jumps tt

some_newer : (last : Option ℕ) (l p : ℕ) → last ≡ Some l → newer p l ≡ true → IsNewerThan last p
some_newer last l p is new = subst (λ (o : Option ℕ). IsNewerThan o p) (sym is) new

none_newer : (last : Option ℕ) (p : ℕ) → last ≡ None → IsNewerThan last p
none_newer last p is = subst (λ (o : Option ℕ). IsNewerThan o p) (sym is) tt

-- what may follow stands behind the last record, once a higher token has cut the reader and the stamp was looked at
may-newer : (member : MemberValue) (stamp : Option ℕ) (number : ℕ) → (false ≡ true) ⊎ (member.kept.last ≡ None) ⊎ IsNewerThanLast member.kept number ⊎ IsJump member.kept stamp
    → IsNewerThan (stamped member.kept stamp).last (number_of_place number)
may-newer member stamp number (inl wrong) = absurd (let no : Path Bool false true = wrong in cc)
may-newer member stamp number (inr (inl none)) = stamped-newer member.kept stamp (number_of_place number) (none_newer member.kept.last (number_of_place number) none)
may-newer member stamp number (inr (inr (inl new))) =
    stamped-newer member.kept stamp (number_of_place number) (some_newer member.kept.last new.last (number_of_place number) new.last_is new.is_newer)
may-newer member stamp number (inr (inr (inr jump))) =
    subst (λ (s : Option ℕ). IsNewerThan (stamped member.kept s).last (number_of_place number)) (sym jump.3) (jump-newer member.kept jump.0 jump.1 (number_of_place number) jump.2 jump.4)

follows-newer : (raised : Bool) (member : MemberValue) (stamp : Option ℕ) (number : ℕ) → MayFollow raised member.kept stamp number
    → IsNewerThan (stamped (cut_if raised NewToken member).kept stamp).last (number_of_place number)
follows-newer true member stamp number follows = stamped-newer (cut_kept NewToken member.kept) stamp (number_of_place number) tt
follows-newer false member stamp number follows = may-newer member stamp number follows

major_of : (numbering : Numbering) (major : ℕ) (k : Kept) (message : Frame) (stamp carries : Option ℕ) → IsOfMajor major carries
    → major_case numbering major k message stamp carries ≡ numbering_case numbering k message stamp
major_of numbering major k message stamp None of = refl
major_of numbering major k message stamp (Some got) of = let same : (got == major) ≡ true = grind (arith, nat_tests) in rw same refl

-- by numbers, and with none
numbered-held : (k : Kept) (content : Content) (row : List DataValue) (stamp number : Option ℕ) (n : ℕ) → content ≡ frames.Whole row → number ≡ Some n
    → IsNewerThan (stamped k stamp).last n → HoldsRow row n (numbered_case k content stamp number).0
numbered-held k content row stamp number n is has new =
    subst (λ (c : Content). HoldsRow row n (numbered_case k c stamp number).0) (sym is)
    (subst (λ (o : Option ℕ). HoldsRow row n (numbered_case k (frames.Whole row) stamp o).0) (sym has) (placed-held (stamped k stamp) row n n (stamped k stamp).last new))

taken-held : (word : NumberingWord) (raised : Bool) (member : MemberValue) (frame : Frame) (stamp : Option ℕ) (row : List DataValue) → frame.content ≡ frames.Whole row
    → IsTakenBy word raised member.kept stamp frame → HoldsFrame word frame row (numbering_case (numbering_of word) (cut_if raised NewToken member).kept (short frame) stamp).0
taken-held words.Message raised member frame stamp row is taken =
    let number = ap (λ (o : Option ℕ). option_map number_of_place o) taken.1 in
    let held = numbered-held (cut_if raised NewToken member).kept frame.content row stamp (short frame).number (number_of_place taken.0) is number (follows-newer raised member stamp taken.0 taken.2) in
    record { row_is = held.row_is; number_is = held.number_is ∙ sym number }
taken-held words.None raised member frame stamp row is taken =
    record { row_is = ap (λ (c : Content). (unnumbered_case (cut_if raised NewToken member).kept c).0.row) is; number_is = tt }

given-held : (seat : Seat) (receipt : Receipt) (raised : Bool) (member : MemberValue) (frame : Frame) (row : List DataValue) → frame.content ≡ frames.Whole row
    → IsOfMajor seat.meta.major frame.major → IsTakenBy seat.part.numbering raised member.kept receipt.stamp frame
    → (joining : Joining) → HoldsFrame seat.part.numbering frame row (given seat receipt (record (cut_if raised NewToken member) { joining = joining }) frame).kept
given-held seat receipt raised member frame row is of taken joining =
    let numbering = numbering_of seat.part.numbering in
    let kept = (cut_if raised NewToken member).kept in
    let taken_as = frame_case numbering seat.meta.major kept (short frame) receipt.stamp in
    let holds = HoldsFrame seat.part.numbering frame row in
    subst holds (sym (noted-kept receipt.moment taken_as.1.outcome (taken_in (record (cut_if raised NewToken member) { joining = joining }) taken_as)))
    (subst (λ (t : Kept × Took). holds t.0) (sym (major_of numbering seat.meta.major kept (short frame) receipt.stamp frame.major of))
    (taken-held seat.part.numbering raised member frame receipt.stamp row is taken))

-- ---- the part that brings it

brings-held : (holds : Kept → Type 0) (seat : Seat) (receipt : Receipt) (now : MemberValue) (piece : Piece) (frame : Frame) → BringsFrame seat now piece frame
    → ((joining : Joining) → holds (given seat receipt (record now { joining = joining }) frame).kept) → holds (piece_case seat receipt now piece).0.kept
brings-held holds seat receipt now (Message bytes) frame brings held =
    subst (λ (r : Result Frame FrameFault). holds (read_case seat receipt now r).0.kept) (sym brings) (held now.joining)
brings-held holds seat receipt now (Slotted bytes) frame brings held =
    subst (λ (r : Result Frame FrameFault). holds (read_case seat receipt now r).0.kept) (sym brings) (held now.joining)
brings-held holds seat receipt now (Chunked bytes) frame brings held =
    subst (λ (r : Result Chunk ChunkFault). holds (chunked_case seat receipt now r).0.kept) (sym brings.read)
    (subst (λ (j : Joining × Joined). holds (joined_case seat receipt now j).0.kept) (sym brings.whole)
    (subst (λ (r : Result Frame FrameFault). holds (read_case seat receipt (record now { joining = brings.joining }) r).0.kept) (sym brings.message) (held brings.joining)))
brings-held holds seat receipt now Missing frame brings held = absurd brings

-- ---- the group

fed-alone : (seat : Seat) (receipt : Receipt) (raised : Bool) (enabled : Bool) (member : MemberValue) (parts : List Piece) (piece : Piece) → enabled ≡ true → parts ≡ piece ∷ []
    → (if enabled then fold (fed_on seat receipt) (unfed (cut_if raised NewToken member)) parts else unfed (cut_if raised NewToken member)).member
    ≡ (piece_case seat receipt (cut_if raised NewToken member) piece).0
fed-alone seat receipt raised true member parts piece e alone = ap (λ (l : List Piece). (fold (fed_on seat receipt) (unfed (cut_if raised NewToken member)) l).member) alone
fed-alone seat receipt raised false member parts piece e alone = absurd (let no : Path Bool false true = e in cc)

pub whole-held : (setting : Setting) (group : PlainGroup) (moment : ℕ) (on : List Bool) (datagram : List ℕ) (k : ℕ) (row : List DataValue) → WholeIsHeld setting group moment on datagram k row
whole-held setting group moment on datagram k row h =
    let seat = seat_at setting.seats k in
    let member = member_at group.members k in
    let raised = is_raised setting group.accepted h.opened in
    let receipt = receipt_of setting moment h.opened in
    let fed : ℕ → Seat → MemberValue → Fed = λ k seat member. fed_by seat receipt raised (slice_index_or on k false) h.opened.payload member in
    let now = cut_if raised NewToken member in
    let holds = HoldsFrame seat.part.numbering h.frame row in
    subst (λ (answer : Result Opened Refusal). holds (member_at (taken_on setting group moment on answer).members k).kept) (sym h.taken)
    (subst (λ (m : MemberValue). holds m.kept) (sym (fed_member-at setting.seats group.members fed k h.reader))
    (subst (λ (m : MemberValue). holds m.kept) (sym (fed-alone seat receipt raised (slice_index_or on k false) member (pieces seat.part h.opened.payload) h.piece h.enabled h.alone))
    (brings-held holds seat receipt now h.piece h.frame h.brings (given-held seat receipt raised member h.frame row h.content h.major h.follows))))
