-- What a reader keeps over a run of messages, with the cuts that jumps make.
use Rattle.std.proofs.Common.{◌≡◌, refl, sym, ap, ◌∙◌, arith, ℕ, ◌+◌, Bool, true, false, not, ◌&&◌, List, [], ◌∷◌, Option, Some, None, subst}
use Rattle.std.specs.Prelude.{nat_le, ◌==◌, max, if◌then◌else◌, unwrap_or}
use Rattle.std.proofs.lemmas.Bool.Decides.{nat_tests}
use Rattle.dataset_meta.specs.DataValues.{DataValue}
use Rattle.seq_number.specs.Numbers.{number_of_place, newer, greatest}
use Rattle.seq_number.proofs.NumberLaws.{number-before}
use Rattle.pubsub_model.specs.declared.reading.Why.{Why}
use Rattle.pubsub_model.specs.declared.reading.Why.TheVariants.{Jump}
use Rattle.pubsub_model.specs.Frames.{PlacedFrame, IsPlacedFrame, Whole, Change, Alive, place_of, carried}
use Rattle.pubsub_model.specs.Records.{Item, Arrival, Came, Cut, at, since_cut, is_nothing, records, cut_reason, breaks}
use Rattle.frame_codec.specs.Frames as frames
use Rattle.frame_codec.specs.Frames.{Content, Frame}
use Rattle.dataset_reader.specs.declared.took.Numbering.{Numbering}
use Rattle.dataset_reader.specs.declared.took.Numbering.TheVariants as numberings
use Rattle.dataset_reader.specs.Kept.{Kept, fresh, cut_kept}
use Rattle.dataset_reader.specs.Cases.{placed_case, record_number, following_case, breaks_run, record_case, change_case, noted, placed_at, due, is_jump, stamped, numbered_case, numbering_case, unnumbered_case, frame_case, major_case}
use Rattle.frame_codec.specs.Carrying.{content_of}
use Rattle.dataset_reader.specs.Keeping.{stamps, jumps, came_on, AreNear, AreNearInEach, with_jumps, IsOfMajor, IsMessageOf, KeepsOver, Keeps, KeepsUnnumbered, greatest_of, IsReading}
use Rattle.dataset_reader.proofs.KeepingLaws.{placed, keeps_over-came}

-- ---- the stamp

change-stamp : (k : Kept) (n : ℕ) (patch : List (ℕ × DataValue)) (row : Option (List DataValue)) → (change_case k n patch row).0.stamp ≡ k.stamp
change-stamp k n patch None = refl
change-stamp k n patch (Some row) = refl

record-stamp : (k : Kept) (c : Content) (n : ℕ) (broke : Bool) → (record_case k c n broke).0.stamp ≡ k.stamp
record-stamp k (frames.Whole row) n broke = refl
record-stamp k (frames.Change patch) n true = refl
record-stamp k (frames.Change patch) n false = change-stamp k n patch k.row
record-stamp k frames.Alive n true = refl
record-stamp k frames.Alive n false = refl

following-stamp : (k : Kept) (c : Content) (n p last : ℕ) (breaks : Bool) → (following_case k c n p last breaks).0.stamp ≡ k.stamp
following-stamp k c n p last true = record-stamp (noted (placed_at k p) (record { expected = due last; got = n })) c n true
following-stamp k c n p last false = record-stamp (placed_at k p) c n false

newer-stamp : (new : Bool) (k : Kept) (c : Content) (n p last : ℕ) → newer p last ≡ new → (placed_case k c n p (Some last)).0.stamp ≡ k.stamp
newer-stamp true k c n p last e = rw e (following-stamp k c n p last (breaks_run c n last))
newer-stamp false k c n p last e = rw e refl

-- only a stamp changes the stamp
pub placed-stamp : (k : Kept) (c : Content) (n p : ℕ) (last : Option ℕ) → (placed_case k c n p last).0.stamp ≡ k.stamp
placed-stamp k c n p None = record-stamp (placed_at k p) c n false
placed-stamp k c n p (Some last) = newer-stamp (newer p last) k c n p last refl

abbrev pub jumps_at : List ℕ → ℕ → Bool
jumps_at [] n = false
jumps_at (s ∷ before) n = nat_le (greatest (s ∷ before) + 16384) n

pub kept_jump : (list : List ℕ) (n : ℕ) → is_jump (greatest_of list) n ≡ jumps_at list n
kept_jump [] n = refl
kept_jump (s ∷ before) n = refl

pub list_jump : (items : List Item) (n : ℕ) → jumps items (Some n) ≡ jumps_at (stamps items) n
list_jump items n = by_list (stamps items)
  where
    by_list : (list : List ℕ) → (not (is_nothing list) && nat_le (greatest list + 16384) n) ≡ jumps_at list n
    by_list [] = refl
    by_list (s ∷ before) = refl

greatest_more : (list : List ℕ) (n : ℕ) → Some (max n (unwrap_or (greatest_of list) 0)) ≡ greatest_of (n ∷ list)
greatest_more [] n = refl
greatest_more (s ∷ before) n = refl

greatest_one : (n : ℕ) → Some n ≡ greatest_of (n ∷ [])
greatest_one n = let e : n ≡ max n 0 = omega arith in ap (λ (x : ℕ). Some x) e

-- the arrivals with an item more, by whether it jumps
abbrev pub came_if : Bool → List Arrival → Item → List Arrival
came_if j before item = if j then Came item ∷ Cut Jump ∷ before else Came item ∷ before

abbrev pub stamped_if : Bool → Kept → ℕ → Kept
stamped_if j k n = if j then record (cut_kept Jump k) { stamp = Some n } else record k { stamp = Some (max n (unwrap_or k.stamp 0)) }

abbrev placed_on : Kept → PlacedFrame → Kept
placed_on k frame = placed k frame k.last

placed_on-stamp : (k : Kept) (frame : PlacedFrame) → (placed_on k frame).stamp ≡ k.stamp
placed_on-stamp k frame = placed-stamp k (content_of frame) (carried frame) (number_of_place (place_of frame)) k.last

abbrev Over : List Arrival → Kept → Type 0
Over arrivals k = KeepsOver (records (since_cut arrivals)) (cut_reason arrivals) (breaks arrivals) k

with_stamp : (arrivals : List Arrival) (k : Kept) (s : Option ℕ) → Over arrivals k → Over arrivals (record k { stamp = s })
with_stamp arrivals k s h = record { last = h.last; number = h.number; row = h.row; why = h.why; count = h.count; recent = h.recent }

-- a reader that keeps what Records says keeps it after a cut
pub keeps-cut : (arrivals : List Arrival) (k : Kept) (why : Why) → Keeps arrivals k → Keeps (Cut why ∷ arrivals) (cut_kept why k)
keeps-cut arrivals k why h =
    record { over = record { last = refl; number = refl; row = refl; why = λ e. refl; count = h.over.count; recent = h.over.recent }; stamp = refl }

stamped_on : (j : Bool) (arrivals : List Arrival) (k : Kept) (m n : ℕ) (frame : PlacedFrame) → AreNear (came_if j arrivals (at m (Some n) frame)) → Keeps arrivals k
    → Keeps (came_if j arrivals (at m (Some n) frame)) (placed_on (stamped_if j k n) frame)
stamped_on true arrivals k m n frame near h = record {
  over = keeps_over-came (Cut Jump ∷ arrivals) (record (cut_kept Jump k) { stamp = Some n }) m (Some n) frame near
      (with_stamp (Cut Jump ∷ arrivals) (cut_kept Jump k) (Some n) (keeps-cut arrivals k Jump h).over);
  stamp = placed_on-stamp (record (cut_kept Jump k) { stamp = Some n }) frame ∙ greatest_one n;
}
stamped_on false arrivals k m n frame near h =
    let s : Option ℕ = Some (max n (unwrap_or k.stamp 0)) in
    record {
      over = keeps_over-came arrivals (record k { stamp = s }) m (Some n) frame near (with_stamp arrivals k s h.over);
      stamp = placed_on-stamp (record k { stamp = s }) frame ∙ ap (λ (o : Option ℕ). Some (max n (unwrap_or o 0))) h.stamp ∙ greatest_more (stamps (since_cut arrivals)) n;
    }

-- and after one more frame, stamped or not
keeps-placed : (arrivals : List Arrival) (k : Kept) (m : ℕ) (s : Option ℕ) (frame : PlacedFrame) → AreNear (came_on arrivals (at m s frame)) → Keeps arrivals k
    → Keeps (came_on arrivals (at m s frame)) (placed_on (stamped k s) frame)
keeps-placed arrivals k m None frame near h = record { over = keeps_over-came arrivals k m None frame near h.over; stamp = placed_on-stamp k frame ∙ h.stamp }
keeps-placed arrivals k m (Some n) frame near h =
    let list = stamps (since_cut arrivals) in
    let same : is_jump k.stamp n ≡ jumps (since_cut arrivals) (Some n) =
    ap (λ (o : Option ℕ). is_jump o n) h.stamp ∙ kept_jump list n ∙ sym (list_jump (since_cut arrivals) n) in
    subst (λ (j : Bool). Keeps (came_on arrivals (at m (Some n) frame)) (placed_on (stamped_if j k n) frame)) (sym same)
    (stamped_on (jumps (since_cut arrivals) (Some n)) arrivals k m n frame near h)

-- ---- a message of a frame

-- where a frame stands by its number
pub record_number-carried : (frame : PlacedFrame) → IsPlacedFrame frame → record_number (content_of frame) (carried frame) ≡ number_of_place (place_of frame)
record_number-carried (Whole place row) has = refl
record_number-carried (Change place patch) has = refl
record_number-carried (Alive next) has = number-before next has

-- a message of this major version or of none
pub major_of : (numbering : Numbering) (major : ℕ) (k : Kept) (message : Frame) (stamp carries : Option ℕ) → IsOfMajor major carries
    → major_case numbering major k message stamp carries ≡ numbering_case numbering k message stamp
major_of numbering major k message stamp None of = refl
major_of numbering major k message stamp (Some got) of = let same : (got == major) ≡ true = grind (arith, nat_tests) in rw same refl

numbered_as : (k : Kept) (frame : PlacedFrame) (message : Frame) (stamp : Option ℕ) → message.number ≡ Some (carried frame) → message.content ≡ content_of frame → IsPlacedFrame frame
    → (numbered_case k message.content stamp message.number).0 ≡ placed_on (stamped k stamp) frame
numbered_as k frame message stamp number content has =
    ap (λ (n : Option ℕ). (numbered_case k message.content stamp n).0) number
    ∙ ap (λ (c : Content). (numbered_case k c stamp (Some (carried frame))).0) content
    ∙ ap (λ (p : ℕ). (placed_case (stamped k stamp) (content_of frame) (carried frame) p (stamped k stamp).last).0) (record_number-carried frame has)

-- reader fold: a reader that keeps what Records says keeps it after one more message
keeps_at : (major : ℕ) (arrivals : List Arrival) (k : Kept) (m : ℕ) (s : Option ℕ) (frame : PlacedFrame) (message : Frame) → IsMessageOf major frame message
    → AreNear (came_on arrivals (at m s frame)) → Keeps arrivals k → Keeps (came_on arrivals (at m s frame)) (frame_case numberings.Message major k message s).0
keeps_at major arrivals k m s frame message is near h =
    let same : (frame_case numberings.Message major k message s).0 ≡ placed_on (stamped k s) frame =
    ap (λ (taken : _). taken.0) (major_of numberings.Message major k message s message.major is.version) ∙ numbered_as k frame message s is.number is.content is.place in
    subst (λ (now : Kept). Keeps (came_on arrivals (at m s frame)) now) (sym same) (keeps-placed arrivals k m s frame near h)

pub keeps-frame : (major : ℕ) (arrivals : List Arrival) (k : Kept) (item : Item) (message : Frame) → IsMessageOf major item.frame message
    → AreNear (came_on arrivals item) → Keeps arrivals k → Keeps (came_on arrivals item) (frame_case numberings.Message major k message item.stamp).0
keeps-frame major arrivals k item message is near h = keeps_at major arrivals k item.moment item.stamp item.frame message is near h

pub keeps-fresh : Keeps [] fresh
keeps-fresh = record { over = record { last = refl; number = refl; row = refl; why = λ e. refl; count = refl; recent = refl }; stamp = refl }

-- ---- a whole run

near_jump : (j : Bool) (arrivals : List Arrival) (item : Item) → AreNearInEach (came_if j arrivals item) → AreNear (came_if j arrivals item) × AreNearInEach arrivals
near_jump true arrivals item near = near
near_jump false arrivals item near = near

pub keeps-run : (major : ℕ) (arrivals : List Arrival) (k : Kept) → IsReading numberings.Message major arrivals k → AreNearInEach (with_jumps arrivals) → Keeps (with_jumps arrivals) k
keeps-run major [] k run near = subst (λ (now : Kept). Keeps [] now) (sym run) keeps-fresh
keeps-run major (Cut why ∷ before) k run near =
    subst (λ (now : Kept). Keeps (Cut why ∷ with_jumps before) now) (sym run.2) (keeps-cut (with_jumps before) run.0 why (keeps-run major before run.0 run.1 near))
keeps-run major (Came item ∷ before) k run near =
    let parts = near_jump (jumps (since_cut (with_jumps before)) item.stamp) (with_jumps before) item near in
    subst (λ (now : Kept). Keeps (came_on (with_jumps before) item) now) (sym run.4)
    (keeps-frame major (with_jumps before) run.0 item run.1 run.3 parts.0 (keeps-run major before run.0 run.2 parts.1))

-- ---- with no numbering

whole_on : (frame : PlacedFrame) (m : ℕ) (s : Option ℕ) (arrivals : List Arrival) (k : Kept) → KeepsUnnumbered arrivals k
    → KeepsUnnumbered (Came (at m s frame) ∷ arrivals) (unnumbered_case k (content_of frame)).0
whole_on (Whole place row) m s arrivals k h = record { row = refl; why = h.why; number = h.number; breaks = h.breaks; recent = h.recent }
whole_on (Change place patch) m s arrivals k h = record { row = h.row; why = h.why; number = h.number; breaks = h.breaks; recent = h.recent }
whole_on (Alive next) m s arrivals k h = record { row = h.row; why = h.why; number = h.number; breaks = h.breaks; recent = h.recent }

pub unnumbered-frame : (major : ℕ) (arrivals : List Arrival) (k : Kept) (item : Item) (message : Frame) → IsOfMajor major message.major → message.content ≡ content_of item.frame
    → KeepsUnnumbered arrivals k → KeepsUnnumbered (Came item ∷ arrivals) (frame_case numberings.Unnumbered major k message item.stamp).0
unnumbered-frame major arrivals k item message of content h =
    let same : (frame_case numberings.Unnumbered major k message item.stamp).0 ≡ (unnumbered_case k (content_of item.frame)).0 =
    ap (λ (taken : _). taken.0) (major_of numberings.Unnumbered major k message item.stamp message.major of) ∙ ap (λ (c : Content). (unnumbered_case k c).0) content in
    subst (λ (now : Kept). KeepsUnnumbered (Came item ∷ arrivals) now) (sym same) (whole_on item.frame item.moment item.stamp arrivals k h)

pub unnumbered-cut : (arrivals : List Arrival) (k : Kept) (why : Why) → KeepsUnnumbered arrivals k → KeepsUnnumbered (Cut why ∷ arrivals) (cut_kept why k)
unnumbered-cut arrivals k why h = record { row = refl; why = refl; number = refl; breaks = h.breaks; recent = h.recent }

pub unnumbered-fresh : KeepsUnnumbered [] fresh
unnumbered-fresh = record { row = refl; why = refl; number = refl; breaks = refl; recent = refl }

pub unnumbered-run : (major : ℕ) (arrivals : List Arrival) (k : Kept) → IsReading numberings.Unnumbered major arrivals k → KeepsUnnumbered arrivals k
unnumbered-run major [] k run = subst (λ (now : Kept). KeepsUnnumbered [] now) (sym run) unnumbered-fresh
unnumbered-run major (Cut why ∷ before) k run =
    subst (λ (now : Kept). KeepsUnnumbered (Cut why ∷ before) now) (sym run.2) (unnumbered-cut before run.0 why (unnumbered-run major before run.0 run.1))
unnumbered-run major (Came item ∷ before) k run =
    subst (λ (now : Kept). KeepsUnnumbered (Came item ∷ before) now) (sym run.4)
    (unnumbered-frame major before run.0 item run.1 run.3.0 run.3.1 (unnumbered-run major before run.0 run.2))
