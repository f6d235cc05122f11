-- What is answered where a message changes nothing.
use Rattle.std.proofs.Common.{◌≡◌, ◌≢◌, refl, ◌∙◌, ap, arith, ℕ, ◌+◌, Bool, true, false, Option, Some, None}
use Rattle.std.specs.Prelude.{◌==◌}
use Rattle.std.proofs.lemmas.Bool.{eqb-true, leb-true}
use Rattle.std.proofs.lemmas.Bool.Decides.{nat_tests}
use Rattle.seq_number.specs.Numbers.{newer}
use Rattle.frame_codec.specs.Frames as frames
use Rattle.frame_codec.specs.Frames.{Content, Frame}
use Rattle.dataset_reader.specs.declared.took.Outcome.TheVariants as outcomes
use Rattle.dataset_reader.specs.declared.took.Numbering.{Numbering}
use Rattle.dataset_reader.specs.declared.took.Numbering.TheVariants as numberings
use Rattle.dataset_reader.specs.Kept.{Kept}
use Rattle.dataset_reader.specs.Cases.{unbroken, record_number, placed_case, older, is_jump, stamped, numbered_case, major_case, frame_case}
use Rattle.dataset_reader.specs.Answers.{IsOlder, IsJump}
use Rattle.dataset_reader.specs.Keeping.{IsOfMajor}

-- ---- the major version, and a number

apart : (got major : ℕ) (same : Bool) → (got == major) ≡ same → got ≢ major → (got == major) ≡ false
apart got major true e other = absurd (other (eqb-true got major e))
apart got major false e other = e

pub foreign-told : (numbering : Numbering) (major got : ℕ) (kept : Kept) (message : Frame) (stamp : Option ℕ) → message.major ≡ Some got → got ≢ major
    → (frame_case numbering major kept message stamp).1 ≡ record { outcome = outcomes.WrongMajor got; broke = None }
foreign-told numbering major got kept message stamp carries other = rw (carries, apart got major (got == major) refl other) refl

own_major : (major : ℕ) (kept : Kept) (message : Frame) (stamp carries : Option ℕ) → IsOfMajor major carries
    → (major_case numberings.Message major kept message stamp carries).1 ≡ (numbered_case kept message.content stamp message.number).1
own_major major kept message stamp None is = refl
own_major major kept message stamp (Some got) is =
    let own : got ≡ major = is in let same : (got == major) ≡ true = grind (arith, nat_tests, own) in rw same refl

pub numberless-told : (major : ℕ) (kept : Kept) (message : Frame) (stamp : Option ℕ) → IsOfMajor major message.major → message.number ≡ None
    → (frame_case numberings.Message major kept message stamp).1 ≡ record { outcome = outcomes.Unnumbered; broke = None }
numberless-told major kept message stamp own none =
    own_major major kept message stamp message.major own ∙ ap (λ (number : Option ℕ). (numbered_case kept message.content stamp number).1) none

-- ---- a place that isn't newer

-- without a jump the last record stays
stays_by : (jump : Bool) (kept : Kept) (n : ℕ) (high : Option ℕ) → kept.stamp ≡ high → is_jump high n ≡ jump → is_jump kept.stamp n ≡ jump → ¬ IsJump kept (Some n)
    → (stamped kept (Some n)).last ≡ kept.last
stays_by true kept n None is test at uncut = absurd (let wrong : Path Bool false true = test in cc)
stays_by true kept n (Some high) is test at uncut = absurd (uncut (high, n, is, refl, leb-true (high + 16384) n test))
stays_by false kept n high is test at uncut = rw at refl

stays : (kept : Kept) (stamp : Option ℕ) → ¬ IsJump kept stamp → (stamped kept stamp).last ≡ kept.last
stays kept None uncut = refl
stays kept (Some n) uncut = stays_by (is_jump kept.stamp n) kept n kept.stamp refl refl refl uncut

not_newer : (k : Kept) (c : Content) (n p last : ℕ) → newer p last ≡ false → (placed_case k c n p (Some last)).1 ≡ unbroken (older c)
not_newer k c n p last e = rw e refl

passed_told : (major : ℕ) (kept : Kept) (message : Frame) (stamp : Option ℕ) → IsOfMajor major message.major → IsOlder kept message → ¬ IsJump kept stamp
    → (frame_case numberings.Message major kept message stamp).1 ≡ unbroken (older message.content)
passed_told major kept message stamp own is uncut =
    let now = stamped kept stamp in
    let place = record_number message.content is.0 in
    own_major major kept message stamp message.major own
    ∙ ap (λ (number : Option ℕ). (numbered_case kept message.content stamp number).1) is.2
    ∙ ap (λ (last : Option ℕ). (placed_case now message.content is.0 place last).1) (stays kept stamp uncut ∙ is.3)
    ∙ not_newer now message.content is.0 place is.1 is.4

pub silent-told : (major : ℕ) (kept : Kept) (message : Frame) (stamp : Option ℕ) → IsOfMajor major message.major → IsOlder kept message → ¬ IsJump kept stamp
    → message.content ≡ frames.Alive → (frame_case numberings.Message major kept message stamp).1 ≡ record { outcome = outcomes.Alive; broke = None }
silent-told major kept message stamp own is uncut alive = passed_told major kept message stamp own is uncut ∙ ap (λ (c : Content). unbroken (older c)) alive

not_alive : (c : Content) → c ≢ frames.Alive → older c ≡ outcomes.Older
not_alive (frames.Whole row) other = refl
not_alive (frames.Change patch) other = refl
not_alive frames.Alive other = absurd (other refl)

pub older-told : (major : ℕ) (kept : Kept) (message : Frame) (stamp : Option ℕ) → IsOfMajor major message.major → IsOlder kept message → ¬ IsJump kept stamp
    → message.content ≢ frames.Alive → (frame_case numberings.Message major kept message stamp).1 ≡ record { outcome = outcomes.Older; broke = None }
older-told major kept message stamp own is uncut other = passed_told major kept message stamp own is uncut ∙ ap unbroken (not_alive message.content other)
