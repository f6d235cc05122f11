-- The break that an answer tells of is the one that Records finds.
use Rattle.std.proofs.Common.{◌≡◌, refl, sym, ap, ◌∙◌, ℕ, ◌+◌, ◌<◌, ◌≤◌, Bool, true, false, not, List, [], ◌∷◌, ◌++◌, arith, Option, Some, None, subst}
use Rattle.std.specs.Prelude.{nat_lt}
use Rattle.std.proofs.lemmas.Bool.Decides.{nat_tests}
use Rattle.seq_number.specs.Numbers.{number_of_place, newer}
use Rattle.seq_number.proofs.NumberLaws.{newer-near}
use Rattle.pubsub_model.specs.declared.reading.Break.{Break}
use Rattle.pubsub_model.specs.declared.reading.Why.TheVariants.{Jump}
use Rattle.pubsub_model.specs.Frames.{PlacedFrame, IsPlacedFrame, Whole, Change, Alive, place_of, carried}
use Rattle.pubsub_model.specs.Records.{Item, Arrival, Came, Cut, at, since_cut, records, breaks, place_in, breaks_with, break_between}
use Rattle.pubsub_model.proofs.RecordsLaws.{above_last, above_all-last}
use Rattle.frame_codec.specs.Frames.{Content, Frame}
use Rattle.dataset_reader.specs.declared.took.Numbering.TheVariants as numberings
use Rattle.dataset_reader.specs.declared.took.Took.{Took}
use Rattle.dataset_reader.specs.Kept.{Kept}
use Rattle.dataset_reader.specs.Cases.{placed_case, following_case, breaks_run, is_jump, stamped, numbered_case, frame_case}
use Rattle.frame_codec.specs.Carrying.{content_of}
use Rattle.dataset_reader.specs.Keeping.{stamps, jumps, came_on, AreNear, IsMessageOf, Keeps, last_number, and_broken}
use Rattle.dataset_reader.proofs.KeepingLaws.{next-number, same_break, IsNearTo, near_items, new_breaks}
use Rattle.dataset_reader.proofs.RunLaws.{came_if, stamped_if, kept_jump, list_jump, record_number-carried, major_of}

-- what a frame is answered by a reader with this last number
abbrev placed_took : Kept → PlacedFrame → Option ℕ → Took
placed_took k frame last = (placed_case k (content_of frame) (carried frame) (number_of_place (place_of frame)) last).1

-- by numbers and by places a frame breaks alike
same_run : (frame : PlacedFrame) (l : Item) (m : ℕ) (s : Option ℕ) → place_in l < place_of frame → place_of frame ≤ place_in l + 16384
    → breaks_run (content_of frame) (carried frame) (number_of_place (place_in l)) ≡ breaks_with l (at m s frame)
same_run (Whole place row) l m s above near = ap not (next-number place (place_in l) above near)
same_run (Change place patch) l m s above near = ap not (next-number place (place_in l) above near)
same_run (Alive next) l m s above near = refl

following_broke : (t : Bool) (k : Kept) (frame : PlacedFrame) (l : Item) (m : ℕ) (s : Option ℕ) (all : List Break) → breaks_with l (at m s frame) ≡ t
    → and_broken (following_case k (content_of frame) (carried frame) (number_of_place (place_of frame)) (number_of_place (place_in l)) t).1.broke all ≡ break_between l (at m s frame) ++ all
following_broke true k frame l m s all e = rw e (ap (λ (b : Break). b ∷ all) (same_break (place_in l) (carried frame)))
following_broke false k frame l m s all e = rw e refl

by_run : (t : Bool) (k : Kept) (frame : PlacedFrame) (l : Item) (m : ℕ) (s : Option ℕ) (all : List Break) → breaks_run (content_of frame) (carried frame) (number_of_place (place_in l)) ≡ t
    → breaks_run (content_of frame) (carried frame) (number_of_place (place_in l)) ≡ breaks_with l (at m s frame)
    → and_broken (following_case k (content_of frame) (carried frame) (number_of_place (place_of frame)) (number_of_place (place_in l)) (breaks_run (content_of frame) (carried frame) (number_of_place (place_in l)))).1.broke all
    ≡ break_between l (at m s frame) ++ all
by_run t k frame l m s all e same =
    subst (λ (b : Bool). and_broken (following_case k (content_of frame) (carried frame) (number_of_place (place_of frame)) (number_of_place (place_in l)) b).1.broke all ≡ break_between l (at m s frame) ++ all)
    (sym e) (following_broke t k frame l m s all (sym same ∙ e))

newer_broke : (b : Bool) (k : Kept) (frame : PlacedFrame) (l : Item) (rs : List Item) (m : ℕ) (s : Option ℕ) (all : List Break) → newer (number_of_place (place_of frame)) (number_of_place (place_in l)) ≡ b
    → (b ≡ true → breaks_run (content_of frame) (carried frame) (number_of_place (place_in l)) ≡ breaks_with l (at m s frame))
    → and_broken (placed_took k frame (Some (number_of_place (place_in l)))).broke all ≡ new_breaks b (l ∷ rs) (at m s frame) ++ all
newer_broke false k frame l rs m s all e same = rw (e, and_broken) refl
newer_broke true k frame l rs m s all e same = rw (e, and_broken) (by_run (breaks_run (content_of frame) (carried frame) (number_of_place (place_in l))) k frame l m s all refl (same refl))

next_broke : (rs : List Item) (k : Kept) (m : ℕ) (s : Option ℕ) (frame : PlacedFrame) (all : List Break) → IsNearTo rs (place_of frame)
    → and_broken (placed_took k frame (last_number rs)).broke all ≡ new_breaks (above_last rs (place_of frame)) rs (at m s frame) ++ all
next_broke [] k m s frame all near = refl
next_broke (l ∷ rs) k m s frame all near =
    newer_broke (nat_lt (place_in l) (place_of frame)) k frame l rs m s all (newer-near (place_of frame) (place_in l) near.0 near.1)
    (λ e. let above : place_in l < place_of frame = grind (arith, nat_tests, e) in same_run frame l m s above near.0)

came_broke : (arrivals : List Arrival) (k : Kept) (m : ℕ) (s : Option ℕ) (frame : PlacedFrame) → AreNear (Came (at m s frame) ∷ arrivals) → k.last ≡ last_number (records (since_cut arrivals))
    → breaks (Came (at m s frame) ∷ arrivals) ≡ and_broken (placed_took k frame k.last).broke (breaks arrivals)
came_broke arrivals k m s frame near is =
    let rs = records (since_cut arrivals) in
    let b = above_last rs (place_of frame) in
    let next = next_broke rs k m s frame (breaks arrivals) (near_items (since_cut arrivals) (at m s frame) near) in
    rw (above_all-last (since_cut arrivals) (place_of frame))
    (subst (λ (last : Option ℕ). new_breaks b rs (at m s frame) ++ breaks arrivals ≡ and_broken (placed_took k frame last).broke (breaks arrivals)) (sym is) (sym next))

stamped_broke : (j : Bool) (arrivals : List Arrival) (k : Kept) (m n : ℕ) (frame : PlacedFrame) → AreNear (came_if j arrivals (at m (Some n) frame)) → Keeps arrivals k
    → breaks (came_if j arrivals (at m (Some n) frame)) ≡ and_broken (placed_took (stamped_if j k n) frame (stamped_if j k n).last).broke (breaks arrivals)
stamped_broke true arrivals k m n frame near h = came_broke (Cut Jump ∷ arrivals) (stamped_if true k n) m (Some n) frame near refl
stamped_broke false arrivals k m n frame near h = came_broke arrivals (stamped_if false k n) m (Some n) frame near h.over.last

placed_broke : (arrivals : List Arrival) (k : Kept) (m : ℕ) (s : Option ℕ) (frame : PlacedFrame) → AreNear (came_on arrivals (at m s frame)) → Keeps arrivals k
    → breaks (came_on arrivals (at m s frame)) ≡ and_broken (placed_took (stamped k s) frame (stamped k s).last).broke (breaks arrivals)
placed_broke arrivals k m None frame near h = came_broke arrivals k m None frame near h.over.last
placed_broke arrivals k m (Some n) frame near h =
    let list = stamps (since_cut arrivals) in
    let same : is_jump k.stamp n ≡ jumps (since_cut arrivals) (Some n) =
    ap (λ (o : Option ℕ). is_jump o n) h.stamp ∙ kept_jump list n ∙ sym (list_jump (since_cut arrivals) n) in
    subst (λ (j : Bool). breaks (came_on arrivals (at m (Some n) frame)) ≡ and_broken (placed_took (stamped_if j k n) frame (stamped_if j k n).last).broke (breaks arrivals)) (sym same)
    (stamped_broke (jumps (since_cut arrivals) (Some n)) arrivals k m n frame near h)

numbered_took : (k : Kept) (frame : PlacedFrame) (message : Frame) (stamp : Option ℕ) → message.number ≡ Some (carried frame) → message.content ≡ content_of frame → IsPlacedFrame frame
    → (numbered_case k message.content stamp message.number).1 ≡ placed_took (stamped k stamp) frame (stamped k stamp).last
numbered_took k frame message stamp number content has =
    ap (λ (n : Option ℕ). (numbered_case k message.content stamp n).1) number
    ∙ ap (λ (c : Content). (numbered_case k c stamp (Some (carried frame))).1) content
    ∙ ap (λ (p : ℕ). (placed_case (stamped k stamp) (content_of frame) (carried frame) p (stamped k stamp).last).1) (record_number-carried frame has)

tells_at : (major : ℕ) (arrivals : List Arrival) (k : Kept) (m : ℕ) (s : Option ℕ) (frame : PlacedFrame) (message : Frame) → IsMessageOf major frame message
    → AreNear (came_on arrivals (at m s frame)) → Keeps arrivals k
    → breaks (came_on arrivals (at m s frame)) ≡ and_broken (frame_case numberings.Message major k message s).1.broke (breaks arrivals)
tells_at major arrivals k m s frame message is near h =
    let same : (frame_case numberings.Message major k message s).1 ≡ placed_took (stamped k s) frame (stamped k s).last =
    ap (λ (taken : _). taken.1) (major_of numberings.Message major k message s message.major is.version) ∙ numbered_took k frame message s is.number is.content is.place in
    placed_broke arrivals k m s frame near h ∙ ap (λ (took : Took). and_broken took.broke (breaks arrivals)) (sym same)

pub tells-break : (major : ℕ) (arrivals : List Arrival) (k : Kept) (item : Item) (message : Frame) → IsMessageOf major item.frame message
    → AreNear (came_on arrivals item) → Keeps arrivals k
    → breaks (came_on arrivals item) ≡ and_broken (frame_case numberings.Message major k message item.stamp).1.broke (breaks arrivals)
tells-break major arrivals k item message is near h = tells_at major arrivals k item.moment item.stamp item.frame message is near h
