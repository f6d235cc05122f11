-- A reader is given what was read.
use Rattle.std.proofs.Common.{◌≡◌, refl, sym, ap, ◌∙◌, subst, arith, ℕ, ◌<◌, List, Option, Some, None}
use Rattle.std.specs.Prelude.{IfSome, option_map, Result, Ok, Err}
use Rattle.seq_number.specs.Numbers.{number_of_place}
use Rattle.frame_codec.specs.declared.fault.FrameFault.{FrameFault}
use Rattle.frame_codec.specs.declared.frame.Frame.{Frame as FrameWords}
use Rattle.frame_codec.specs.Frames.{Frame}
use Rattle.frame_codec.specs.Words.{frame_in}
use Rattle.dataset_reader.specs.declared.passed.Passed.{Passed}
use Rattle.dataset_reader.specs.Passed.{counted}
use Rattle.dataset_reader.specs.declared.took.Numbering.{Numbering}
use Rattle.dataset_reader.specs.declared.took.Took.{Took}
use Rattle.dataset_reader.specs.Kept.{Kept}
use Rattle.dataset_reader.specs.Cases.{frame_case}
use Rattle.dataset_reader.specs.declared.reader.Reader.{Reader}
use Rattle.dataset_reader.specs.Reader as readers
use Rattle.dataset_reader.specs.Reader.{kept_by, passed_of, after_frame}
use Rattle.reader_group.specs.declared.member.Member.{Member}
use Rattle.reader_group.specs.declared.receipt.Receipt.{Receipt}
use Rattle.reader_group.specs.Members.{Seat, MemberValue, noted, confirmed_by, numbering_of}
use Rattle.reader_group.specs.declared.notice.PartOutcome.{PartOutcome}
use Rattle.reader_group.specs.declared.notice.PartOutcome.TheVariants as parts
use Rattle.reader_group.specs.MemberWords.{IsMemberOf, Follows, FollowsRead}
use Rattle.reader_group.specs.Notices.{bad_frame, given_outcome}
use Rattle.reader_group.specs.Plain.{short, given, taken_in}

-- a number of 16 bits is the one that is carried
short_on : (o : Option ℕ) → IfSome o (λ n. n < 65536) → option_map number_of_place o ≡ o
short_on None fits = refl
short_on (Some n) fits = let same : number_of_place n ≡ n = omega (arith, fits) in ap (λ (k : ℕ). Some k) same

-- a frame whose number is carried is the one that is given
short_is : (frame : Frame) → option_map number_of_place frame.number ≡ frame.number → short frame ≡ frame
short_is frame carried = ap (λ (number : Option ℕ). record frame { number = number }) carried

-- what the reader makes of a frame is what the plain reading has
pub frame_is : (seat : Seat) (receipt : Receipt) (member : MemberValue) (frame : FrameWords) (old : Member) → option_map number_of_place frame.number ≡ frame.number → IsMemberOf seat member old
    → after_frame seat.meta old.reader frame receipt.stamp
    ≡ frame_case (numbering_of seat.part.numbering) seat.meta.major member.kept (short (frame_in seat.meta.fields frame)) receipt.stamp
frame_is seat receipt member frame old carried h =
    let value = frame_in seat.meta.fields frame in
    ap (λ (numbering : Numbering). frame_case numbering seat.meta.major (kept_by seat.meta.fields old.reader) value receipt.stamp) h.numbering
    ∙ ap (λ (kept : Kept). frame_case (numbering_of seat.part.numbering) seat.meta.major kept value receipt.stamp) h.kept
    ∙ ap (λ (message : Frame). frame_case (numbering_of seat.part.numbering) seat.meta.major member.kept message receipt.stamp) (sym (short_is value carried))

-- after the reader took the frame, and once its answer is noted
pub given_is : (seat : Seat) (receipt : Receipt) (member : MemberValue) (frame : FrameWords) (old : Member) (between : Reader) (new : Member) (took : Took) → option_map number_of_place frame.number ≡ frame.number → IsMemberOf seat member old
    → kept_by seat.meta.fields between ≡ (after_frame seat.meta old.reader frame receipt.stamp).0 → took ≡ (after_frame seat.meta old.reader frame receipt.stamp).1
    → ((value : MemberValue) → IsMemberOf seat value (record old { reader = between }) → IsMemberOf seat (confirmed_by receipt.moment took.outcome frame.number (noted receipt.moment took.outcome value)) new)
    → passed_of between ≡ counted (passed_of old.reader) took.outcome → readers.numbering_of between ≡ readers.numbering_of old.reader → IsMemberOf seat (given seat receipt member (frame_in seat.meta.fields frame)) new
given_is seat receipt member frame old between new took carried h kept took_is note passed numbering =
    let taken = frame_case (numbering_of seat.part.numbering) seat.meta.major member.kept (short (frame_in seat.meta.fields frame)) receipt.stamp in
    let same = frame_is seat receipt member frame old carried h in
    let answer = took_is ∙ ap (λ (t : Kept × Took). t.1) same in
    let here : IsMemberOf seat (taken_in member taken) (record old { reader = between }) = record {
      kept = kept ∙ ap (λ (t : Kept × Took). t.0) same;
      passed = passed ∙ ap (λ (p : Passed). counted p took.outcome) h.passed ∙ ap (λ (t : Took). counted member.passed t.outcome) answer;
      numbering = numbering ∙ h.numbering;
      joining = h.joining;
      timer = h.timer;
      late = h.late;
      ready = h.ready;
      confirmed = h.confirmed;
    } in
    let noted_as : Option ℕ → Took → MemberValue = λ number t. confirmed_by receipt.moment t.outcome number (noted receipt.moment t.outcome (taken_in member taken)) in
    subst (λ (t : Took). IsMemberOf seat (noted_as (option_map number_of_place frame.number) t) new) answer
    (subst (λ (number : Option ℕ). IsMemberOf seat (noted_as number took) new) (sym carried) (note (taken_in member taken) here))

-- what became of the message that the reader answered so
pub outcome_is : (seat : Seat) (receipt : Receipt) (member : MemberValue) (frame : FrameWords) (old : Member) (took : Took) (outcome : PartOutcome) → option_map number_of_place frame.number ≡ frame.number → IsMemberOf seat member old
    → took ≡ (after_frame seat.meta old.reader frame receipt.stamp).1 → outcome ≡ parts.Given took → outcome ≡ given_outcome seat receipt member (frame_in seat.meta.fields frame)
outcome_is seat receipt member frame old took outcome carried h took_is is =
    is ∙ ap (λ (t : Took). parts.Given t) (took_is ∙ ap (λ (t : Kept × Took). t.1) (frame_is seat receipt member frame old carried h))

-- a frame that was read, and was given
pub read_follows : (seat : Seat) (receipt : Receipt) (member : MemberValue) (frame : Frame) (bytes : List ℕ) (read : Result Frame FrameFault) (new : Member) (outcome : PartOutcome) → read ≡ Ok frame
    → Follows seat (given seat receipt member frame) (given_outcome seat receipt member frame) new outcome → FollowsRead seat receipt member bytes read new outcome
read_follows seat receipt member frame bytes read new outcome is h = subst (λ (r : Result Frame FrameFault). FollowsRead seat receipt member bytes r new outcome) (sym is) h

-- a frame that can't be read leaves the reader as it is
pub refused_follows : (seat : Seat) (receipt : Receipt) (member : MemberValue) (fault : FrameFault) (bytes : List ℕ) (read : Result Frame FrameFault) (new : Member) (outcome : PartOutcome) → read ≡ Err fault
    → IsMemberOf seat member new → outcome ≡ bad_frame seat.meta bytes fault → FollowsRead seat receipt member bytes read new outcome
refused_follows seat receipt member fault bytes read new outcome is h bad = subst (λ (r : Result Frame FrameFault). FollowsRead seat receipt member bytes r new outcome) (sym is) (h, bad)
