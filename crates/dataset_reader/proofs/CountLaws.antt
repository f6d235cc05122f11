-- What a reader counts of each message, and what it waits for.
use Rattle.std.proofs.Common.{◌≡◌, refl, sym, ap, ◌∙◌, subst, ◌⊎◌, inl, inr, arith, ℕ, ◌+◌, ◌≤◌, ◌^◌, ◌-◌, min, take, Bool, true, false, List, ◌∷◌, Option, Some, None}
use Rattle.std.specs.Prelude.{◌==◌}
use Rattle.std.proofs.lemmas.Bool.{leb-true, le-leb}
use Rattle.std.proofs.lemmas.Option.{none-some}
use Rattle.dataset_meta.specs.DataValues.{DataValue}
use Rattle.seq_number.specs.Numbers.{newer}
use Rattle.pubsub_model.specs.declared.reading.Break.{Break}
use Rattle.pubsub_model.specs.declared.reading.Why.{Why}
use Rattle.pubsub_model.specs.declared.reading.Why.TheVariants.{Gap, Jump}
use Rattle.frame_codec.specs.Frames as frames
use Rattle.frame_codec.specs.Frames.{Content, Frame}
use Rattle.dataset_reader.specs.declared.took.Took.{Took}
use Rattle.dataset_reader.specs.declared.took.Outcome.{Outcome}
use Rattle.dataset_reader.specs.declared.took.Outcome.TheVariants as outcomes
use Rattle.dataset_reader.specs.declared.took.Numbering.{Numbering}
use Rattle.dataset_reader.specs.declared.took.Numbering.TheVariants as numberings
use Rattle.dataset_reader.specs.Kept.{Kept}
use Rattle.dataset_reader.specs.Cases.{record_number, change_case, record_case, following_case, placed_case, placed_at, noted, breaks_run, older, due, is_jump, stamped, numbered_case, unnumbered_case, numbering_case, major_case, frame_case}
use Rattle.dataset_reader.specs.Answers.{IsJump, WaitsFor, CountsBreak}
use Rattle.dataset_reader.proofs.AnswerLaws.{Stamps, stamps}

-- ---- what is counted

record SameBreaks (old new : Kept) : Type 0 where
  breaks : new.breaks ≡ old.breaks
  recent : new.recent ≡ old.recent

change_same : (k : Kept) (n : ℕ) (patch : List (ℕ × DataValue)) (row : Option (List DataValue)) → SameBreaks k (change_case k n patch row).0
change_same k n patch None = record { breaks = refl; recent = refl }
change_same k n patch (Some row) = record { breaks = refl; recent = refl }

record_same : (k : Kept) (c : Content) (n : ℕ) (broke : Bool) → SameBreaks k (record_case k c n broke).0
record_same k (frames.Whole row) n broke = record { breaks = refl; recent = refl }
record_same k (frames.Change patch) n true = record { breaks = refl; recent = refl }
record_same k (frames.Change patch) n false = change_same k n patch k.row
record_same k frames.Alive n true = record { breaks = refl; recent = refl }
record_same k frames.Alive n false = record { breaks = refl; recent = refl }

abbrev Counts : Frame → Kept → Kept × Took → Type 0
Counts message old taken = CountsBreak message old taken.0 taken.1.broke

unbroken_counts : (k : Kept) (c : Content) (n p : ℕ) (old : Kept) → Stamps old k → SameBreaks old (record_case (placed_at k p) c n false).0
unbroken_counts k c n p old s =
    let same = record_same (placed_at k p) c n false in record { breaks = same.breaks ∙ s.breaks; recent = same.recent ∙ s.recent }

following_counts : (message : Frame) (old k : Kept) (c : Content) (n p last : ℕ) (breaks : Bool) → Stamps old k → old.last ≡ Some last → message.number ≡ Some n
    → Counts message old (following_case k c n p last breaks)
following_counts message old k c n p last true s is number =
    let broke : Break = record { expected = due last; got = n } in
    let same = record_same (noted (placed_at k p) broke) c n true in (
      (last, is, refl, number),
      same.breaks ∙ ap (λ (m : ℕ). min (m + 1) (2 ^ 64 - 1)) s.breaks,
      same.recent ∙ ap (λ (l : List Break). take 8 (broke ∷ l)) s.recent,
    )
following_counts message old k c n p last false s is number = let same = unbroken_counts k c n p old s in (same.breaks, same.recent)

newer_counts : (new : Bool) (message : Frame) (old k : Kept) (c : Content) (n p last : ℕ) → newer p last ≡ new → Stamps old k → old.last ≡ Some last → message.number ≡ Some n
    → Counts message old (placed_case k c n p (Some last))
newer_counts true message old k c n p last e s is number = rw e (following_counts message old k c n p last (breaks_run c n last) s is number)
newer_counts false message old k c n p last e s is number = rw e (s.breaks, s.recent)

placed_counts : (message : Frame) (old k : Kept) (c : Content) (n p : ℕ) (last : Option ℕ) → k.last ≡ last → Stamps old k → message.number ≡ Some n → Counts message old (placed_case k c n p last)
placed_counts message old k c n p None e s number = let same = unbroken_counts k c n p old s in (same.breaks, same.recent)
placed_counts message old k c n p (Some last) e s number = newer_counts (newer p last) message old k c n p last refl s (s.passed last e).0 number

numbered_counts : (message : Frame) (old : Kept) (stamp number : Option ℕ) → message.number ≡ number → Counts message old (numbered_case old message.content stamp number)
numbered_counts message old stamp None e = (refl, refl)
numbered_counts message old stamp (Some n) e =
    placed_counts message old (stamped old stamp) message.content n (record_number message.content n) (stamped old stamp).last refl (stamps old stamp) e

unnumbered_counts : (message : Frame) (old : Kept) (c : Content) → Counts message old (unnumbered_case old c)
unnumbered_counts message old (frames.Whole row) = (refl, refl)
unnumbered_counts message old (frames.Change patch) = (refl, refl)
unnumbered_counts message old frames.Alive = (refl, refl)

numbering_counts : (numbering : Numbering) (message : Frame) (old : Kept) (stamp : Option ℕ) → Counts message old (numbering_case numbering old message stamp)
numbering_counts numberings.Message message old stamp = numbered_counts message old stamp message.number refl
numbering_counts numberings.Unnumbered message old stamp = unnumbered_counts message old message.content

foreign_counts : (same : Bool) (numbering : Numbering) (major got : ℕ) (message : Frame) (old : Kept) (stamp : Option ℕ) → (got == major) ≡ same
    → Counts message old (major_case numbering major old message stamp (Some got))
foreign_counts true numbering major got message old stamp e = rw e (numbering_counts numbering message old stamp)
foreign_counts false numbering major got message old stamp e = rw e (refl, refl)

major_counts : (numbering : Numbering) (major : ℕ) (message : Frame) (old : Kept) (stamp carries : Option ℕ) → Counts message old (major_case numbering major old message stamp carries)
major_counts numbering major message old stamp None = numbering_counts numbering message old stamp
major_counts numbering major message old stamp (Some got) = foreign_counts (got == major) numbering major got message old stamp refl

pub frame-counts : (numbering : Numbering) (major : ℕ) (message : Frame) (old : Kept) (stamp : Option ℕ) → Counts message old (frame_case numbering major old message stamp)
frame-counts numbering major message old stamp = major_counts numbering major message old stamp message.major

-- ---- what is waited for

abbrev WhyAfter : Kept → Option ℕ → Why → Type 0
WhyAfter old stamp why = (IsJump old stamp × (why ≡ Jump)) ⊎ ((¬ IsJump old stamp) × (why ≡ old.why))

some_once : {A : Type 0} {x y : A} → Path (Option A) (Some x) (Some y) → x ≡ y
some_once e = cc

stamped_why_by : (jump : Bool) (old : Kept) (n : ℕ) (high : Option ℕ) → old.stamp ≡ high → is_jump high n ≡ jump → is_jump old.stamp n ≡ jump → WhyAfter old (Some n) (stamped old (Some n)).why
stamped_why_by true old n None is test at = absurd (let no : Path Bool false true = test in cc)
stamped_why_by true old n (Some high) is test at = rw at (inl ((high, n, is, refl, leb-true (high + 16384) n test), refl))
stamped_why_by false old n None is test at = rw at (inr (λ jump. absurd (none-some jump.0 (sym is ∙ jump.2)), refl))
stamped_why_by false old n (Some high) is test at = rw at (inr (λ jump. above jump.0 jump.1 (some_once (sym is ∙ jump.2)) (some_once jump.3) jump.4, refl))
  where
    above : (most number : ℕ) → high ≡ most → n ≡ number → most + 16384 ≤ number → ⊥
    above most number one two far = absurd (let no : Path Bool false true = sym test ∙ le-leb (high + 16384) n (omega (arith, one, two, far)) in cc)

stamped_why : (old : Kept) (stamp : Option ℕ) → WhyAfter old stamp (stamped old stamp).why
stamped_why old None = inr (λ jump. absurd (none-some jump.1 jump.3), refl)
stamped_why old (Some n) = stamped_why_by (is_jump old.stamp n) old n old.stamp refl refl refl

waiting_once : {one other : Why} → Path Outcome (outcomes.Waiting one) (outcomes.Waiting other) → one ≡ other
waiting_once e = cc

held_waits : {B : Type 0} {why : Why} → Path Outcome outcomes.Held (outcomes.Waiting why) → B
held_waits e = absurd (no e)
  where
    no : {why : Why} → Path Outcome outcomes.Held (outcomes.Waiting why) → ⊥
    no e = cc

-- a record without a break waits for what was waited for
change_waits : (k : Kept) (n : ℕ) (patch : List (ℕ × DataValue)) (row : Option (List DataValue)) (why : Why) → (change_case k n patch row).1 ≡ outcomes.Waiting why → why ≡ k.why
change_waits k n patch None why e = sym (waiting_once e)
change_waits k n patch (Some row) why e = held_waits e

record_waits : (k : Kept) (c : Content) (n : ℕ) (why : Why) → (record_case k c n false).1 ≡ outcomes.Waiting why → why ≡ k.why
record_waits k (frames.Whole row) n why e = held_waits e
record_waits k (frames.Change patch) n why e = change_waits k n patch k.row why e
record_waits k frames.Alive n why e = sym (waiting_once e)

break_waits : (k : Kept) (c : Content) (n : ℕ) (why : Why) → (record_case k c n true).1 ≡ outcomes.Waiting why → why ≡ Gap
break_waits k (frames.Whole row) n why e = held_waits e
break_waits k (frames.Change patch) n why e = sym (waiting_once e)
break_waits k frames.Alive n why e = sym (waiting_once e)

abbrev Waits : Kept → Option ℕ → Kept × Took → Type 0
Waits old stamp taken = (why : Why) → taken.1.outcome ≡ outcomes.Waiting why → WaitsFor old stamp taken.1.broke why

older_waits : (c : Content) (why : Why) → older c ≡ outcomes.Waiting why → ⊥
older_waits (frames.Whole row) why e = cc
older_waits (frames.Change patch) why e = cc
older_waits frames.Alive why e = cc

following_waits : (old k : Kept) (stamp : Option ℕ) (c : Content) (n p last : ℕ) (breaks : Bool) → WhyAfter old stamp k.why → Waits old stamp (following_case k c n p last breaks)
following_waits old k stamp c n p last true is why e = break_waits (noted (placed_at k p) (record { expected = due last; got = n })) c n why e
following_waits old k stamp c n p last false is why e = subst (WhyAfter old stamp) (sym (record_waits (placed_at k p) c n why e)) is

newer_waits : (new : Bool) (old k : Kept) (stamp : Option ℕ) (c : Content) (n p last : ℕ) → newer p last ≡ new → WhyAfter old stamp k.why → Waits old stamp (placed_case k c n p (Some last))
newer_waits true old k stamp c n p last e is = rw e (following_waits old k stamp c n p last (breaks_run c n last) is)
newer_waits false old k stamp c n p last e is = rw e (λ why wrong. absurd (older_waits c why wrong))

placed_waits : (old k : Kept) (stamp : Option ℕ) (c : Content) (n p : ℕ) (last : Option ℕ) → WhyAfter old stamp k.why → Waits old stamp (placed_case k c n p last)
placed_waits old k stamp c n p None is = λ why e. subst (WhyAfter old stamp) (sym (record_waits (placed_at k p) c n why e)) is
placed_waits old k stamp c n p (Some last) is = newer_waits (newer p last) old k stamp c n p last refl is

unnumbered_no : (why : Why) → Path Outcome outcomes.Unnumbered (outcomes.Waiting why) → ⊥
unnumbered_no why e = cc

alive_no : (why : Why) → Path Outcome outcomes.Alive (outcomes.Waiting why) → ⊥
alive_no why e = cc

foreign_no : (got : ℕ) (why : Why) → Path Outcome (outcomes.WrongMajor got) (outcomes.Waiting why) → ⊥
foreign_no got why e = cc

numbered_waits : (old : Kept) (c : Content) (stamp number : Option ℕ) → Waits old stamp (numbered_case old c stamp number)
numbered_waits old c stamp None = λ why e. absurd (unnumbered_no why e)
numbered_waits old c stamp (Some n) = placed_waits old (stamped old stamp) stamp c n (record_number c n) (stamped old stamp).last (stamped_why old stamp)

unnumbered_waits : (old : Kept) (c : Content) (stamp : Option ℕ) → Waits old stamp (unnumbered_case old c)
unnumbered_waits old (frames.Whole row) stamp why e = held_waits e
unnumbered_waits old (frames.Change patch) stamp why e = absurd (unnumbered_no why e)
unnumbered_waits old frames.Alive stamp why e = absurd (alive_no why e)

numbering_waits : (numbering : Numbering) (message : Frame) (old : Kept) (stamp : Option ℕ) → Waits old stamp (numbering_case numbering old message stamp)
numbering_waits numberings.Message message old stamp = numbered_waits old message.content stamp message.number
numbering_waits numberings.Unnumbered message old stamp = unnumbered_waits old message.content stamp

foreign_waits : (same : Bool) (numbering : Numbering) (major got : ℕ) (message : Frame) (old : Kept) (stamp : Option ℕ) → (got == major) ≡ same
    → Waits old stamp (major_case numbering major old message stamp (Some got))
foreign_waits true numbering major got message old stamp e = rw e (numbering_waits numbering message old stamp)
foreign_waits false numbering major got message old stamp e = rw e (λ why wrong. absurd (foreign_no got why wrong))

major_waits : (numbering : Numbering) (major : ℕ) (message : Frame) (old : Kept) (stamp carries : Option ℕ) → Waits old stamp (major_case numbering major old message stamp carries)
major_waits numbering major message old stamp None = numbering_waits numbering message old stamp
major_waits numbering major message old stamp (Some got) = foreign_waits (got == major) numbering major got message old stamp refl

pub frame-waits : (numbering : Numbering) (major : ℕ) (message : Frame) (old : Kept) (stamp : Option ℕ) (why : Why) → (frame_case numbering major old message stamp).1.outcome ≡ outcomes.Waiting why
    → WaitsFor old stamp (frame_case numbering major old message stamp).1.broke why
frame-waits numbering major message old stamp = major_waits numbering major message old stamp message.major
