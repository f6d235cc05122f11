-- By numbers a number is kept exactly where a row is held.
use Rattle.std.proofs.Common.{◌≡◌, refl, sym, ◌∙◌, ℕ, Bool, true, false, List, [], ◌∷◌, Option, Some, None}
use Rattle.std.specs.Prelude.{◌==◌, max, unwrap_or}
use Rattle.dataset_meta.specs.DataValues.{DataValue}
use Rattle.seq_number.specs.Numbers.{newer}
use Rattle.pubsub_model.specs.declared.reading.Why.{Why}
use Rattle.pubsub_model.specs.declared.reading.Why.TheVariants.{Jump}
use Rattle.frame_codec.specs.Frames as frames
use Rattle.frame_codec.specs.Frames.{Content, Frame}
use Rattle.dataset_reader.specs.declared.took.Numbering.TheVariants as numberings
use Rattle.dataset_reader.specs.Kept.{Kept, fresh, cut_kept}
use Rattle.dataset_reader.specs.Cases.{record_number, change_case, record_case, following_case, placed_case, placed_at, noted, breaks_run, due, is_jump, stamped, numbered_case, major_case, frame_case}
use Rattle.dataset_reader.specs.Keeping.{NumbersItsRow, Event, Framed, CutBy, kept_after}

-- another kept thing with the same number and row
same : (k now : Kept) → now.number ≡ k.number → now.row ≡ k.row → NumbersItsRow k → NumbersItsRow now
same k now n r h = record { no_row = λ e. r ∙ h.no_row (sym n ∙ e); no_number = λ e. n ∙ h.no_number (sym r ∙ e) }

both : (now : Kept) (number : ℕ) (row : List DataValue) → now.number ≡ Some number → now.row ≡ Some row → NumbersItsRow now
both now number row n r = record { no_row = λ e. let wrong : Some number ≡ None = sym n ∙ e in absurd (cc); no_number = λ e. let wrong : Some row ≡ None = sym r ∙ e in absurd (cc) }

neither : (now : Kept) → now.number ≡ None → now.row ≡ None → NumbersItsRow now
neither now n r = record { no_row = λ e. r; no_number = λ e. n }

change_numbers : (k : Kept) (n : ℕ) (patch : List (ℕ × DataValue)) (row : Option (List DataValue)) → NumbersItsRow k → NumbersItsRow (change_case k n patch row).0
change_numbers k n patch None h = h
change_numbers k n patch (Some row) h = both (change_case k n patch (Some row)).0 n _ refl refl

record_numbers : (k : Kept) (c : Content) (n : ℕ) (broke : Bool) → NumbersItsRow k → NumbersItsRow (record_case k c n broke).0
record_numbers k (frames.Whole row) n broke h = both (record_case k (frames.Whole row) n broke).0 n row refl refl
record_numbers k (frames.Change patch) n true h = neither (record_case k (frames.Change patch) n true).0 refl refl
record_numbers k (frames.Change patch) n false h = change_numbers k n patch k.row h
record_numbers k frames.Alive n true h = neither (record_case k frames.Alive n true).0 refl refl
record_numbers k frames.Alive n false h = h

following_numbers : (k : Kept) (c : Content) (n p last : ℕ) (breaks : Bool) → NumbersItsRow k → NumbersItsRow (following_case k c n p last breaks).0
following_numbers k c n p last true h =
    let now = noted (placed_at k p) (record { expected = due last; got = n }) in record_numbers now c n true (same k now refl refl h)
following_numbers k c n p last false h = record_numbers (placed_at k p) c n false (same k (placed_at k p) refl refl h)

newer_numbers : (new : Bool) (k : Kept) (c : Content) (n p last : ℕ) → newer p last ≡ new → NumbersItsRow k → NumbersItsRow (placed_case k c n p (Some last)).0
newer_numbers true k c n p last e h = rw e (following_numbers k c n p last (breaks_run c n last) h)
newer_numbers false k c n p last e h = rw e h

placed_numbers : (k : Kept) (c : Content) (n p : ℕ) (last : Option ℕ) → NumbersItsRow k → NumbersItsRow (placed_case k c n p last).0
placed_numbers k c n p None h = record_numbers (placed_at k p) c n false (same k (placed_at k p) refl refl h)
placed_numbers k c n p (Some last) h = newer_numbers (newer p last) k c n p last refl h

jump_numbers : (jump : Bool) (k : Kept) (n : ℕ) → is_jump k.stamp n ≡ jump → NumbersItsRow k → NumbersItsRow (stamped k (Some n))
jump_numbers true k n e h = rw e (neither (record (cut_kept Jump k) { stamp = Some n }) refl refl)
jump_numbers false k n e h = rw e (same k (record k { stamp = Some (max n (unwrap_or k.stamp 0)) }) refl refl h)

stamped_numbers : (k : Kept) (stamp : Option ℕ) → NumbersItsRow k → NumbersItsRow (stamped k stamp)
stamped_numbers k None h = h
stamped_numbers k (Some n) h = jump_numbers (is_jump k.stamp n) k n refl h

numbered_numbers : (k : Kept) (c : Content) (stamp number : Option ℕ) → NumbersItsRow k → NumbersItsRow (numbered_case k c stamp number).0
numbered_numbers k c stamp None h = h
numbered_numbers k c stamp (Some n) h = placed_numbers (stamped k stamp) c n (record_number c n) (stamped k stamp).last (stamped_numbers k stamp h)

foreign_numbers : (own : Bool) (major got : ℕ) (k : Kept) (message : Frame) (stamp : Option ℕ) → (got == major) ≡ own → NumbersItsRow k
    → NumbersItsRow (major_case numberings.Message major k message stamp (Some got)).0
foreign_numbers true major got k message stamp e h = rw e (numbered_numbers k message.content stamp message.number h)
foreign_numbers false major got k message stamp e h = rw e h

carried_numbers : (major : ℕ) (k : Kept) (message : Frame) (stamp carries : Option ℕ) → NumbersItsRow k → NumbersItsRow (major_case numberings.Message major k message stamp carries).0
carried_numbers major k message stamp None h = numbered_numbers k message.content stamp message.number h
carried_numbers major k message stamp (Some got) h = foreign_numbers (got == major) major got k message stamp refl h

pub numbers-frame : (major : ℕ) (k : Kept) (message : Frame) (stamp : Option ℕ) → NumbersItsRow k → NumbersItsRow (frame_case numberings.Message major k message stamp).0
numbers-frame major k message stamp h = carried_numbers major k message stamp message.major h

pub numbers-cut : (k : Kept) (why : Why) → NumbersItsRow (cut_kept why k)
numbers-cut k why = neither (cut_kept why k) refl refl

pub numbers-list : (major : ℕ) (events : List Event) → NumbersItsRow (kept_after numberings.Message major events)
numbers-list major [] = neither fresh refl refl
numbers-list major (CutBy why ∷ before) = numbers-cut (kept_after numberings.Message major before) why
numbers-list major (Framed message stamp ∷ before) = numbers-frame major (kept_after numberings.Message major before) message stamp (numbers-list major before)
