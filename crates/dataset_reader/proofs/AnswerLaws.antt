-- What each answer tells.
use Rattle.std.proofs.Common.{◌≡◌, refl, sym, ap, ◌∙◌, subst, arith, ℕ, Bool, true, false, List, Option, Some, None}
use Rattle.std.specs.Prelude.{◌==◌, ◌≢◌, max, unwrap_or}
use Rattle.std.proofs.lemmas.Bool.Decides.{nat_tests}
use Rattle.dataset_meta.specs.DataValues.{DataValue}
use Rattle.seq_number.specs.Numbers.{newer}
use Rattle.pubsub_model.specs.declared.reading.Why.TheVariants.{Jump}
use Rattle.frame_codec.specs.Frames as frames
use Rattle.frame_codec.specs.Frames.{Content, Frame}
use Rattle.dataset_reader.specs.declared.took.Took.{Took}
use Rattle.dataset_reader.specs.declared.took.Outcome.{Outcome}
use Rattle.dataset_reader.specs.declared.took.Numbering.{Numbering}
use Rattle.dataset_reader.specs.declared.took.Numbering.TheVariants as numberings
use Rattle.dataset_reader.specs.Kept.{Kept, cut_kept}
use Rattle.dataset_reader.specs.Cases.{is_alive, record_number, change_case, record_case, following_case, placed_case, placed_at, noted, breaks_run, older, due, is_jump, stamped, numbered_case, unnumbered_case, numbering_case, major_case, frame_case}
use Rattle.dataset_reader.specs.Answers.{BeginsEmpty, IsOlder, IsPassed, HoldsRow, TellsCause}

-- ---- the stamp

pub record Stamps (old now : Kept) : Type 0 where
  pub begins : BeginsEmpty old → BeginsEmpty now
  pub held : (row : List DataValue) → now.row ≡ Some row → old.row ≡ Some row
  pub breaks : now.breaks ≡ old.breaks
  pub recent : now.recent ≡ old.recent
  pub passed : (last : ℕ) → now.last ≡ Some last → (old.last ≡ Some last) × IsPassed old now

same_but_stamp : (old : Kept) (s : Option ℕ) → Stamps old (record old { stamp = s })
same_but_stamp old s = record { begins = λ empty. empty; held = λ row is. is; breaks = refl; recent = refl; passed = λ last is. (is, record { last = refl; number = refl; row = refl; why = refl; breaks = refl; recent = refl }) }

after_jump : (old : Kept) (s : Option ℕ) → Stamps old (record (cut_kept Jump old) { stamp = s })
after_jump old s = record { begins = λ empty none. refl; held = λ row is. absurd (none_held row is); breaks = refl; recent = refl; passed = λ last is. absurd (wrong last is) }
  where
    wrong : (last : ℕ) → None ≡ Some last → ⊥
    wrong last e = cc

    none_held : (row : List DataValue) → None ≡ Some row → ⊥
    none_held row e = cc

stamped_by : (jump : Bool) (old : Kept) (n : ℕ) → is_jump old.stamp n ≡ jump → Stamps old (stamped old (Some n))
stamped_by true old n e = rw e (after_jump old (Some n))
stamped_by false old n e = rw e (same_but_stamp old (Some (max n (unwrap_or old.stamp 0))))

pub stamps : (old : Kept) (stamp : Option ℕ) → Stamps old (stamped old stamp)
stamps old None = same_but_stamp old old.stamp
stamps old (Some n) = stamped_by (is_jump old.stamp n) old n refl

-- ---- a record

abbrev RecordTells : ℕ → Frame → Kept → Kept × Outcome → Type 0
RecordTells major message old taken = TellsCause numberings.Message major message old taken.0 taken.1

-- a message with this content and number, to a reader that kept `old` and, with the stamp marked and the place kept, keeps `k`
record Comes (message : Frame) (old k : Kept) (c : Content) (n : ℕ) : Type 0 where
  content : message.content ≡ c
  number : message.number ≡ Some n
  held : (row : List DataValue) → k.row ≡ Some row → old.row ≡ Some row

change_tells : (major : ℕ) (message : Frame) (old k : Kept) (n : ℕ) (patch : List (ℕ × DataValue)) (row : Option (List DataValue)) → k.row ≡ row → Comes message old k (frames.Change patch) n
    → RecordTells major message old (change_case k n patch row)
change_tells major message old k n patch None e comes = (refl, refl, λ empty. e)
change_tells major message old k n patch (Some row) e comes =
    (subst (λ (c : Content). HoldsRow old c (change_case k n patch (Some row)).0) (sym comes.content) (row, comes.held row e, refl), sym comes.number)

record_tells : (major : ℕ) (message : Frame) (old k : Kept) (c : Content) (n : ℕ) (broke : Bool) → (broke ≡ false → is_alive c ≡ true → BeginsEmpty old → k.row ≡ None) → Comes message old k c n
    → RecordTells major message old (record_case k c n broke)
record_tells major message old k (frames.Whole row) n broke empty comes =
    (subst (λ (c : Content). HoldsRow old c (record_case k (frames.Whole row) n broke).0) (sym comes.content) refl, sym comes.number)
record_tells major message old k (frames.Change patch) n true empty comes = (refl, refl, λ _. refl)
record_tells major message old k frames.Alive n true empty comes = (refl, refl, λ _. refl)
record_tells major message old k frames.Alive n false empty comes = (refl, refl, empty refl refl)
record_tells major message old k (frames.Change patch) n false empty comes = change_tells major message old k n patch k.row refl comes

abbrev TookTells : Numbering → ℕ → Frame → Kept → Kept × Took → Type 0
TookTells numbering major message old taken = TellsCause numbering major message old taken.0 taken.1.outcome

following_tells : (major : ℕ) (message : Frame) (old k : Kept) (c : Content) (n p last : ℕ) (breaks : Bool) → breaks_run c n last ≡ breaks → Comes message old k c n
    → TookTells numberings.Message major message old (following_case k c n p last breaks)
following_tells major message old k c n p last true e comes =
    record_tells major message old (noted (placed_at k p) (record { expected = due last; got = n })) c n true (λ wrong. absurd (true_is wrong))
    (record { content = comes.content; number = comes.number; held = comes.held })
  where
    true_is : true ≡ false → ⊥
    true_is w = cc
following_tells major message old k c n p last false e comes =
    record_tells major message old (placed_at k p) c n false (λ _ alive. absurd (silent_breaks c n last alive e))
    (record { content = comes.content; number = comes.number; held = comes.held })
  where
    silent_breaks : (c : Content) (n last : ℕ) → is_alive c ≡ true → breaks_run c n last ≡ false → ⊥
    silent_breaks c n last alive e = absurd (grind (arith, alive, e))

-- ---- a frame that isn't a record

older_tells : (major : ℕ) (message : Frame) (old now : Kept) (c : Content) → message.content ≡ c → IsOlder old message → IsPassed old now
    → TellsCause numberings.Message major message old now (older c)
older_tells major message old now (frames.Whole row) e is passed = (refl, ap is_alive e, is, passed)
older_tells major message old now (frames.Change patch) e is passed = (refl, ap is_alive e, is, passed)
older_tells major message old now frames.Alive e is passed = (e, is, passed)

newer_tells : (new : Bool) (major : ℕ) (message : Frame) (old k : Kept) (n last : ℕ) → newer (record_number message.content n) last ≡ new → message.number ≡ Some n
    → (old.last ≡ Some last) × IsPassed old k → Stamps old k → TookTells numberings.Message major message old (placed_case k message.content n (record_number message.content n) (Some last))
newer_tells true major message old k n last e number before s =
    rw e (following_tells major message old k message.content n (record_number message.content n) last (breaks_run message.content n last) refl
    (record { content = refl; number = number; held = s.held }))
newer_tells false major message old k n last e number before s = rw e (older_tells major message old k message.content refl (n, last, number, before.0, e) before.1)

placed_tells : (major : ℕ) (message : Frame) (old k : Kept) (n : ℕ) (last : Option ℕ) → k.last ≡ last → message.number ≡ Some n → Stamps old k
    → TookTells numberings.Message major message old (placed_case k message.content n (record_number message.content n) last)
placed_tells major message old k n None e number s =
    record_tells major message old (placed_at k (record_number message.content n)) message.content n false (λ _ _ empty. s.begins empty e)
    (record { content = refl; number = number; held = s.held })
placed_tells major message old k n (Some last) e number s =
    newer_tells (newer (record_number message.content n) last) major message old k n last refl number (s.passed last e) s

numbered_tells : (major : ℕ) (message : Frame) (old : Kept) (stamp number : Option ℕ) → message.number ≡ number → TookTells numberings.Message major message old (numbered_case old message.content stamp number)
numbered_tells major message old stamp None e = (e, refl)
numbered_tells major message old stamp (Some n) e = placed_tells major message old (stamped old stamp) n (stamped old stamp).last refl e (stamps old stamp)

unnumbered_tells : (major : ℕ) (message : Frame) (old : Kept) (c : Content) → message.content ≡ c → TookTells numberings.Unnumbered major message old (unnumbered_case old c)
unnumbered_tells major message old (frames.Whole row) e = (row, e, refl)
unnumbered_tells major message old (frames.Change patch) e = ((patch, e), refl)
unnumbered_tells major message old frames.Alive e = (e, refl)

numbering_tells : (numbering : Numbering) (major : ℕ) (message : Frame) (old : Kept) (stamp : Option ℕ) → TookTells numbering major message old (numbering_case numbering old message stamp)
numbering_tells numberings.Message major message old stamp = numbered_tells major message old stamp message.number refl
numbering_tells numberings.Unnumbered major message old stamp = unnumbered_tells major message old message.content refl

foreign_tells : (same : Bool) (numbering : Numbering) (major got : ℕ) (message : Frame) (old : Kept) (stamp : Option ℕ) → (got == major) ≡ same → message.major ≡ Some got
    → TookTells numbering major message old (major_case numbering major old message stamp (Some got))
foreign_tells true numbering major got message old stamp e carries = rw e (numbering_tells numbering major message old stamp)
foreign_tells false numbering major got message old stamp e carries =
    let other : got ≢ major = λ is. absurd (grind (arith, nat_tests, e, is)) in rw e (carries, other, refl)

major_tells : (numbering : Numbering) (major : ℕ) (message : Frame) (old : Kept) (stamp carries : Option ℕ) → message.major ≡ carries
    → TookTells numbering major message old (major_case numbering major old message stamp carries)
major_tells numbering major message old stamp None e = numbering_tells numbering major message old stamp
major_tells numbering major message old stamp (Some got) e = foreign_tells (got == major) numbering major got message old stamp refl e

pub frame-tells : (numbering : Numbering) (major : ℕ) (message : Frame) (old : Kept) (stamp : Option ℕ) → TookTells numbering major message old (frame_case numbering major old message stamp)
frame-tells numbering major message old stamp = major_tells numbering major message old stamp message.major refl

-- ---- before any record no row is held

change_last : (k : Kept) (n : ℕ) (patch : List (ℕ × DataValue)) (row : Option (List DataValue)) → (change_case k n patch row).0.last ≡ k.last
change_last k n patch None = refl
change_last k n patch (Some row) = refl

record_last : (k : Kept) (c : Content) (n : ℕ) (broke : Bool) → (record_case k c n broke).0.last ≡ k.last
record_last k (frames.Whole row) n broke = refl
record_last k (frames.Change patch) n true = refl
record_last k (frames.Change patch) n false = change_last k n patch k.row
record_last k frames.Alive n true = refl
record_last k frames.Alive n false = refl

begun : (k : Kept) (p : ℕ) → k.last ≡ Some p → BeginsEmpty k
begun k p is none = absurd (wrong (sym is ∙ none))
  where
    wrong : Some p ≡ None → ⊥
    wrong e = cc

record_begins : (k : Kept) (c : Content) (n : ℕ) (broke : Bool) (p : ℕ) → k.last ≡ Some p → BeginsEmpty (record_case k c n broke).0
record_begins k c n broke p is = begun (record_case k c n broke).0 p (record_last k c n broke ∙ is)

following_begins : (k : Kept) (c : Content) (n p last : ℕ) (breaks : Bool) → BeginsEmpty (following_case k c n p last breaks).0
following_begins k c n p last true = record_begins (noted (placed_at k p) (record { expected = due last; got = n })) c n true p refl
following_begins k c n p last false = record_begins (placed_at k p) c n false p refl

newer_begins : (new : Bool) (k : Kept) (c : Content) (n p last : ℕ) → newer p last ≡ new → BeginsEmpty k → BeginsEmpty (placed_case k c n p (Some last)).0
newer_begins true k c n p last e empty = rw e (following_begins k c n p last (breaks_run c n last))
newer_begins false k c n p last e empty = rw e empty

placed_begins : (k : Kept) (c : Content) (n p : ℕ) (last : Option ℕ) → BeginsEmpty k → BeginsEmpty (placed_case k c n p last).0
placed_begins k c n p None empty = record_begins (placed_at k p) c n false p refl
placed_begins k c n p (Some last) empty = newer_begins (newer p last) k c n p last refl empty

numbered_begins : (k : Kept) (c : Content) (stamp number : Option ℕ) → BeginsEmpty k → BeginsEmpty (numbered_case k c stamp number).0
numbered_begins k c stamp None empty = empty
numbered_begins k c stamp (Some n) empty = placed_begins (stamped k stamp) c n (record_number c n) (stamped k stamp).last ((stamps k stamp).begins empty)

major_begins : (same : Bool) (major got : ℕ) (k : Kept) (message : Frame) (stamp : Option ℕ) → (got == major) ≡ same → BeginsEmpty k
    → BeginsEmpty (major_case numberings.Message major k message stamp (Some got)).0
major_begins true major got k message stamp e empty = rw e (numbered_begins k message.content stamp message.number empty)
major_begins false major got k message stamp e empty = rw e empty

carried_begins : (major : ℕ) (k : Kept) (message : Frame) (stamp carries : Option ℕ) → BeginsEmpty k → BeginsEmpty (major_case numberings.Message major k message stamp carries).0
carried_begins major k message stamp None empty = numbered_begins k message.content stamp message.number empty
carried_begins major k message stamp (Some got) empty = major_begins (got == major) major got k message stamp refl empty

pub begins-frame : (major : ℕ) (k : Kept) (message : Frame) (stamp : Option ℕ) → BeginsEmpty k → BeginsEmpty (frame_case numberings.Message major k message stamp).0
begins-frame major k message stamp empty = carried_begins major k message stamp message.major empty
