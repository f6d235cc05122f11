-- One more frame: what is kept for a reader stays what Arrivals and Records have of it.
use Rattle.std.proofs.Common.{◌≡◌, refl, sym, ap, ◌∙◌, arith, ℕ, ◌+◌, Bool, true, false, not, ◌&&◌, List, ◌∷◌, Option, Some, None, subst}
use Rattle.std.specs.Prelude.{◌%◌, ◌==◌, option_map, Result, Ok, Err, if◌then◌else◌}
use Rattle.std.specs.Option.{option_map_or}
use Rattle.std.proofs.lemmas.Bool.Decides.{nat_tests}
use Rattle.dataset_meta.specs.Metas.{MetaData}
use Rattle.seq_number.specs.Numbers.{number_of_place}
use Rattle.pubsub_model.specs.declared.reading.Why.TheVariants.{Jump}
use Rattle.pubsub_model.specs.Frames as model
use Rattle.pubsub_model.specs.Frames.{PlacedFrame, IsPlacedFrame, carried}
use Rattle.pubsub_model.specs.Records.{Item, Arrival, Came, Cut, since_cut}
use Rattle.frame_codec.specs.declared.fault.FrameFault.{FrameFault}
use Rattle.frame_codec.specs.Frames as frames
use Rattle.frame_codec.specs.Frames.{Content, Frame}
use Rattle.frame_codec.specs.Carrying.{content_of}
use Rattle.dataset_reader.specs.declared.passed.Passed.{Passed}
use Rattle.dataset_reader.specs.Passed.{counted}
use Rattle.dataset_reader.specs.declared.took.Outcome.TheVariants as outcomes
use Rattle.dataset_reader.specs.declared.took.Numbering.{Numbering}
use Rattle.dataset_reader.specs.declared.took.Numbering.TheVariants as numberings
use Rattle.dataset_reader.specs.declared.took.Took.{Took}
use Rattle.dataset_reader.specs.Kept.{Kept}
use Rattle.dataset_reader.specs.Cases.{numbered_case, unnumbered_case, numbering_case, major_case, frame_case}
use Rattle.dataset_reader.specs.Keeping.{jumps, came_on, AreNear, IsOfMajor, IsMessageOf, Keeps}
use Rattle.chunker.specs.Joins.{numbered}
use Rattle.config_tables.specs.declared.words.NumberingWord.{NumberingWord}
use Rattle.config_tables.specs.declared.words.NumberingWord.TheVariants as words
use Rattle.reader_group.specs.declared.receipt.Receipt.{Receipt}
use Rattle.reader_group.specs.Members.{MemberValue, numbering_of}
use Rattle.reader_group.specs.Arrivals.{Way, Mark, Arrived, is_numbered, goes_by_numbers, framed, unnumbered, is_foreign, frame_of, arrivals_in, item_of, item_on, read_on}
use Rattle.reader_group.specs.Plain.{short, after_took, read_case, taken_in}
use Rattle.reader_group.proofs.Counting.{Answers, behind_if, answers-count}
use Rattle.reader_group.proofs.Answered.{MemberAt, StepKeeps, noted-is, marked_if, member_answered}
use Rattle.reader_group.proofs.Nearness.{Nears}

-- ---- one more frame

-- each number stands for a place with its 16 bits
abbrev pub Places : (ℕ → ℕ) → Type 0
Places place = (n : ℕ) → number_of_place (place n) ≡ number_of_place n

pub clash : {A : Type 0} (b : Bool) → b ≡ true → b ≡ false → A
clash b e f = let wrong : Path Bool true false = sym e ∙ f in absurd (grind arith)

framed-content : (place : ℕ → ℕ) (c : Content) (n : ℕ) → c ≡ content_of (framed place c n)
framed-content place (frames.Whole row) n = refl
framed-content place (frames.Change patch) n = refl
framed-content place frames.Alive n = refl

framed-carried : (place : ℕ → ℕ) → Places place → (c : Content) (n : ℕ) → number_of_place n ≡ carried (framed place c n)
framed-carried place is (frames.Whole row) n = sym (is n)
framed-carried place is (frames.Change patch) n = sym (is n)
framed-carried place is frames.Alive n =
    let silent : number_of_place (place ((n + 65535) % 65536)) ≡ number_of_place ((n + 65535) % 65536) = is ((n + 65535) % 65536) in omega (arith, silent)

framed-placed : (place : ℕ → ℕ) (c : Content) (n : ℕ) → IsPlacedFrame (framed place c n)
framed-placed place (frames.Whole row) n = tt
framed-placed place (frames.Change patch) n = tt
framed-placed place frames.Alive n = omega arith

-- a frame as it is read is a message of the model's
framed-is : (place : ℕ → ℕ) → Places place → (major : ℕ) (frame : Frame) (n : ℕ) → frame.number ≡ Some n → IsOfMajor major frame.major
    → IsMessageOf major (framed place frame.content n) (short frame)
framed-is place is major frame n number of = record {
  version = of;
  number = ap (option_map number_of_place) number ∙ ap (λ (k : ℕ). Some k) (framed-carried place is frame.content n);
  content = framed-content place frame.content n;
  place = framed-placed place frame.content n;
}

-- the major version of a frame that isn't foreign
own-major : (meta : MetaData) (frame : Frame) (carries : Option ℕ) → option_map_or (λ (major : ℕ). not (major == meta.major)) carries false ≡ false → IsOfMajor meta.major carries
own-major meta frame None e = tt
own-major meta frame (Some got) e = grind (arith, nat_tests)

-- what was passed over stands in no list of marks
passed-at : (word : NumberingWord) (list : List Mark) (m : MemberValue) (passed : Passed) → MemberAt word list m → MemberAt word list (record m { passed = passed })
passed-at word list m passed h = record { keeps = h.keeps; joins = h.joins; seen = h.seen; late = h.late; ready = h.ready }

-- when the row was confirmed stands in none either
confirmed-at : (word : NumberingWord) (list : List Mark) (m : MemberValue) (confirmed : Option ℕ) → MemberAt word list m → MemberAt word list (record m { confirmed = confirmed })
confirmed-at word list m confirmed h = record { keeps = h.keeps; joins = h.joins; seen = h.seen; late = h.late; ready = h.ready }

foreign-case : (numbering : Numbering) (major : ℕ) (message : Frame) (s carries : Option ℕ) (m : MemberValue) (now : ℕ)
    → option_map_or (λ (own : ℕ). not (own == major)) carries false ≡ true → (word : NumberingWord) (list : List Mark) → MemberAt word list m
    → MemberAt word list (after_took now m (major_case numbering major m.kept message s carries))
foreign-case numbering major message s None m now e word list h = absurd (grind arith)
foreign-case numbering major message s (Some got) m now e word list h =
    let other : (got == major) ≡ false = grind (arith, nat_tests) in
    rw other (passed-at word list m (counted m.passed (outcomes.WrongMajor got)) h)

major_of : (numbering : Numbering) (major : ℕ) (k : Kept) (message : Frame) (stamp carries : Option ℕ) → IsOfMajor major carries
    → major_case numbering major k message stamp carries ≡ numbering_case numbering k message stamp
major_of numbering major k message stamp None of = refl
major_of numbering major k message stamp (Some got) of = let same : (got == major) ≡ true = grind (arith, nat_tests) in rw same refl

near_marked : (j : Bool) (before : List Mark) (item : Item) → Nears words.Message (marked_if j before item) → AreNear (arrivals_in (marked_if j before item))
near_marked true before item h = h.items.0
near_marked false before item h = h.items.0

-- an item of a reader of numbers, of which the law says what is kept
member_came : StepKeeps → (j : Bool) (major : ℕ) (before : List Mark) (m : MemberValue) (item : Item) (message : Frame) → jumps (since_cut (arrivals_in before)) item.stamp ≡ j
    → IsMessageOf major item.frame message → Nears words.Message (marked_if j before item) → MemberAt words.Message before m
    → MemberAt words.Message (marked_if j before item) (after_took item.moment m (frame_case numberings.Message major m.kept message item.stamp))
member_came laws j major before m item message e is near h =
    let arrivals = arrivals_in before in
    let taken = frame_case numberings.Message major m.kept message item.stamp in
    let came : came_on arrivals item ≡ arrivals_in (marked_if j before item) = came-is j e in
    let nears : AreNear (came_on arrivals item) = subst AreNear (sym came) (near_marked j before item near) in
    let keeps : Keeps (arrivals_in (marked_if j before item)) taken.0 =
    subst (λ (list : List Arrival). Keeps list taken.0) came (laws.frame major arrivals m.kept item message is nears h.keeps) in
    let answers : Answers (behind_if j arrivals) item taken.1.outcome =
    subst (λ (b : Bool). Answers (behind_if b arrivals) item taken.1.outcome) e (answers-count major arrivals m.kept item message is nears h.keeps) in
    subst (MemberAt words.Message (marked_if j before item)) (sym (noted-is (taken_in m taken) item.moment taken.1.outcome))
    (member_answered j before (record m { passed = counted m.passed taken.1.outcome }) item taken.0 taken.1.outcome keeps answers
    (passed-at words.Message before m (counted m.passed taken.1.outcome) h))
  where
    came-if : (j : Bool) → (if j then Came item ∷ Cut Jump ∷ arrivals_in before else Came item ∷ arrivals_in before) ≡ arrivals_in (marked_if j before item)
    came-if true = refl
    came-if false = refl

    came-is : (j : Bool) → jumps (since_cut (arrivals_in before)) item.stamp ≡ j → came_on (arrivals_in before) item ≡ arrivals_in (marked_if j before item)
    came-is j e = ap (λ (b : Bool). if b then Came item ∷ Cut Jump ∷ arrivals_in before else Came item ∷ arrivals_in before) e ∙ came-if j

member_numbered : StepKeeps → (numbered : Bool) (major : ℕ) (before : List Mark) (m : MemberValue) (item : Item) (message : Frame) → numbered ≡ true
    → IsMessageOf major item.frame message → Nears words.Message (marked_if (numbered && jumps (since_cut (arrivals_in before)) item.stamp) before item) → MemberAt words.Message before m
    → MemberAt words.Message (marked_if (numbered && jumps (since_cut (arrivals_in before)) item.stamp) before item)
    (after_took item.moment m (frame_case numberings.Message major m.kept message item.stamp))
member_numbered laws true major before m item message e is near h = member_came laws (jumps (since_cut (arrivals_in before)) item.stamp) major before m item message refl is near h
member_numbered laws false major before m item message e is near h = clash false e refl

-- the same for a reader with no numbering
bare_marked : (numbered : Bool) (before : List Mark) (m : MemberValue) (item : Item) → numbered ≡ false → MemberAt words.None (Arrived (Came item) ∷ before) m
    → MemberAt words.None (marked_if (numbered && jumps (since_cut (arrivals_in before)) item.stamp) before item) m
bare_marked true before m item e h = clash true refl e
bare_marked false before m item e h = h

bare_framed : (c : Content) (way : Way) (before : List Mark) (m : MemberValue) (now : ℕ) (s : Option ℕ) → goes_by_numbers way ≡ false → MemberAt words.None before m
    → MemberAt words.None (item_on way now s before (unnumbered c)) (after_took now m (unnumbered_case m.kept c))
bare_framed (frames.Whole row) way before m now s num h =
    bare_marked (goes_by_numbers way) before (after_took now m (unnumbered_case m.kept (frames.Whole row))) (item_of now s (model.Whole 0 row)) num (record {
      keeps = record { row = refl; why = h.keeps.why; number = h.keeps.number; breaks = h.keeps.breaks; recent = h.keeps.recent };
      joins = h.joins;
      seen = refl;
      late = refl;
      ready = refl;
    })
bare_framed (frames.Change patch) way before m now s num h = passed-at words.None before m (counted m.passed outcomes.Unnumbered) h
bare_framed frames.Alive way before m now s num h =
    bare_marked (goes_by_numbers way) before (after_took now m (unnumbered_case m.kept frames.Alive)) (item_of now s (model.Alive 1)) num (record {
      keeps = record { row = h.keeps.row; why = h.keeps.why; number = h.keeps.number; breaks = h.keeps.breaks; recent = h.keeps.recent };
      joins = h.joins;
      seen = refl;
      late = refl;
      ready = h.ready;
    })

abbrev framed_if : Bool → Bool → (ℕ → ℕ) → Content → Option ℕ → Option PlacedFrame
framed_if foreign numbered place c number = if foreign then None else if numbered then option_map (framed place c) number else unnumbered c

-- a frame of the reader's data set
member_own : StepKeeps → (word : NumberingWord) (numbered : Bool) (number : Option ℕ) (way : Way) (place : ℕ → ℕ) (f : Frame) (before : List Mark) (m : MemberValue) (now : ℕ) (s : Option ℕ)
    → Places place → numbered ≡ is_numbered word → goes_by_numbers way ≡ is_numbered word → f.number ≡ number → IsOfMajor way.seat.meta.major f.major
    → Nears word (item_on way now s before (framed_if false numbered place f.content number)) → MemberAt word before m
    → MemberAt word (item_on way now s before (framed_if false numbered place f.content number))
    (after_took now m (frame_case (numbering_of word) way.seat.meta.major m.kept (short f) s))
member_own laws words.Message false number way place f before m now s is e num at of near h = clash false e refl
member_own laws words.Message true None way place f before m now s is e num at of near h =
    subst (λ (t : Kept × Took). MemberAt words.Message before (after_took now m t))
    (sym (major_of numberings.Message way.seat.meta.major m.kept (short f) s f.major of ∙ ap (λ (o : Option ℕ). numbered_case m.kept f.content s (option_map number_of_place o)) at))
    (passed-at words.Message before m (counted m.passed outcomes.Unnumbered) h)
member_own laws words.Message true (Some n) way place f before m now s is e num at of near h =
    member_numbered laws (goes_by_numbers way) way.seat.meta.major before m (item_of now s (framed place f.content n)) (short f) num (framed-is place is way.seat.meta.major f n at of) near h
member_own laws words.None true number way place f before m now s is e num at of near h = clash true refl e
member_own laws words.None false number way place f before m now s is e num at of near h =
    subst (λ (t : Kept × Took). MemberAt words.None (item_on way now s before (unnumbered f.content)) (after_took now m t))
    (sym (major_of numberings.Unnumbered way.seat.meta.major m.kept (short f) s f.major of)) (bare_framed f.content way before m now s num h)

member_framed : StepKeeps → (foreign : Bool) (word : NumberingWord) (way : Way) (place : ℕ → ℕ) (f : Frame) (before : List Mark) (m : MemberValue) (now : ℕ) (s : Option ℕ)
    → Places place → is_foreign way.seat.meta f ≡ foreign → goes_by_numbers way ≡ is_numbered word
    → Nears word (item_on way now s before (framed_if foreign (goes_by_numbers way) place f.content f.number)) → MemberAt word before m
    → MemberAt word (item_on way now s before (framed_if foreign (goes_by_numbers way) place f.content f.number))
    (after_took now m (frame_case (numbering_of word) way.seat.meta.major m.kept (short f) s))
member_framed laws true word way place f before m now s is e num near h =
    foreign-case (numbering_of word) way.seat.meta.major (short f) s f.major m now e word before h
member_framed laws false word way place f before m now s is e num near h =
    member_own laws word (goes_by_numbers way) f.number way place f before m now s is num num refl (own-major way.seat.meta f f.major e) near h

abbrev pub receipt_at : ℕ → Option ℕ → Receipt
receipt_at now s = record { moment = now; stamp = s }

-- what was read as a message
pub member_read : StepKeeps → (word : NumberingWord) (way : Way) (place : ℕ → ℕ) (before : List Mark) (m : MemberValue) (now : ℕ) (s : Option ℕ) (read : Result Frame FrameFault)
    → Places place → way.seat.part.numbering ≡ word → Nears word (read_on way place now s before read) → MemberAt word before m
    → MemberAt word (read_on way place now s before read) (read_case way.seat (receipt_at now s) m read).0
member_read laws word way place before m now s (Err fault) is num near h = h
member_read laws word way place before m now s (Ok f) is num near h =
    let list = item_on way now s before (frame_of way place f) in
    let taken = frame_case (numbering_of way.seat.part.numbering) way.seat.meta.major m.kept (short f) s in
    let after : MemberAt word list (after_took now m taken) =
    subst (λ (w : NumberingWord). MemberAt word list (after_took now m (frame_case (numbering_of w) way.seat.meta.major m.kept (short f) s))) (sym num)
    (member_framed laws (is_foreign way.seat.meta f) word way place f before m now s is refl (ap is_numbered num) near h) in
    confirmed-at word list (after_took now m taken) _ after
