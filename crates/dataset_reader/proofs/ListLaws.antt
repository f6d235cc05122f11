-- What a reader keeps over every list of messages and cuts.
use Rattle.std.proofs.Common.{◌≡◌, ◌≢◌, refl, sym, ap, ◌∙◌, ℕ, Bool, true, false, List, [], ◌∷◌, Option, Some, None, subst, inl, inr, arith}
use Rattle.std.specs.Prelude.{◌==◌}
use Rattle.std.proofs.lemmas.Bool.Decides.{nat_tests}
use Rattle.pubsub_model.specs.Records.{Item, Arrival, Came}
use Rattle.frame_codec.specs.Frames.{Content, Frame}
use Rattle.dataset_reader.specs.declared.took.Numbering.{Numbering}
use Rattle.dataset_reader.specs.declared.took.Numbering.TheVariants as numberings
use Rattle.dataset_reader.specs.Kept.{Kept}
use Rattle.dataset_reader.specs.Cases.{frame_case, major_case, numbering_case, numbered_case, unnumbered_case}
use Rattle.dataset_reader.specs.Answers.{IsChange}
use Rattle.dataset_reader.specs.Keeping.{Brings, IsForeign, IsNoItem, IsReading, Event, Framed, CutBy, kept_after, AreArrivals, AreNearInEach, with_jumps, Keeps, KeepsUnnumbered}
use Rattle.dataset_reader.proofs.RunLaws.{keeps-run, unnumbered-run}

-- ---- what is no item changes nothing

other_major : (same : Bool) (numbering : Numbering) (major got : ℕ) (k : Kept) (message : Frame) (stamp : Option ℕ) → (got == major) ≡ same → got ≢ major
    → (major_case numbering major k message stamp (Some got)).0 ≡ k
other_major true numbering major got k message stamp e other = absurd (other (grind (arith, nat_tests, e)))
other_major false numbering major got k message stamp e other = rw e refl

foreign : (numbering : Numbering) (major : ℕ) (k : Kept) (message : Frame) (stamp : Option ℕ) → IsForeign major message → (frame_case numbering major k message stamp).0 ≡ k
foreign numbering major k message stamp is =
    ap (λ (carries : Option ℕ). (major_case numbering major k message stamp carries).0) is.1 ∙ other_major (is.0 == major) numbering major is.0 k message stamp refl is.2

-- of the right major version or of none, the numbering decides
by_numbering : (same : Bool) (numbering : Numbering) (major got : ℕ) (k : Kept) (message : Frame) (stamp : Option ℕ) → (got == major) ≡ same
    → (numbering_case numbering k message stamp).0 ≡ k → (major_case numbering major k message stamp (Some got)).0 ≡ k
by_numbering true numbering major got k message stamp e stays = rw e stays
by_numbering false numbering major got k message stamp e stays = rw e refl

whatever_major : (carries : Option ℕ) (numbering : Numbering) (major : ℕ) (k : Kept) (message : Frame) (stamp : Option ℕ)
    → (numbering_case numbering k message stamp).0 ≡ k → (major_case numbering major k message stamp carries).0 ≡ k
whatever_major None numbering major k message stamp stays = stays
whatever_major (Some got) numbering major k message stamp stays = by_numbering (got == major) numbering major got k message stamp refl stays

without_number : (k : Kept) (message : Frame) (stamp : Option ℕ) → message.number ≡ None → (numbering_case numberings.Message k message stamp).0 ≡ k
without_number k message stamp none = ap (λ (n : Option ℕ). (numbered_case k message.content stamp n).0) none

a_change : (k : Kept) (message : Frame) (stamp : Option ℕ) → IsChange message.content → (numbering_case numberings.Unnumbered k message stamp).0 ≡ k
a_change k message stamp is = ap (λ (c : Content). (unnumbered_case k c).0) is.1

pub no_item-stays : (numbering : Numbering) (major : ℕ) (k : Kept) (message : Frame) (stamp : Option ℕ) → IsNoItem numbering major message
    → (frame_case numbering major k message stamp).0 ≡ k
no_item-stays numberings.Message major k message stamp none =
    elim none [
      | inl is ↦ foreign numberings.Message major k message stamp is
      | inr is ↦ whatever_major message.major numberings.Message major k message stamp (without_number k message stamp is)
    ]
no_item-stays numberings.Unnumbered major k message stamp none =
    elim none [
      | inl is ↦ foreign numberings.Unnumbered major k message stamp is
      | inr is ↦ whatever_major message.major numberings.Unnumbered major k message stamp (a_change k message stamp is)
    ]

-- ---- over a list

after_item : (numbering : Numbering) (major : ℕ) (item : Item) (earlier : List Arrival) (message : Frame) (stamp : Option ℕ) (old : Kept) → item.stamp ≡ stamp
    → Brings numbering major item.frame message → IsReading numbering major earlier old → IsReading numbering major (Came item ∷ earlier) (frame_case numbering major old message stamp).0
after_item numbering major item earlier message stamp old e brings run =
    (old, message, run, brings, ap (λ (s : Option ℕ). (frame_case numbering major old message s).0) (sym e))

run_of : (numbering : Numbering) (major : ℕ) (events : List Event) (arrivals : List Arrival) → AreArrivals numbering major events arrivals
    → IsReading numbering major arrivals (kept_after numbering major events)
run_of numbering major [] arrivals are = subst (λ (all : List Arrival). IsReading numbering major all (kept_after numbering major [])) (sym are) refl
run_of numbering major (CutBy why ∷ before) arrivals are =
    subst (λ (all : List Arrival). IsReading numbering major all (kept_after numbering major (CutBy why ∷ before))) (sym are.1)
    (kept_after numbering major before, run_of numbering major before are.0 are.2, refl)
run_of numbering major (Framed message stamp ∷ before) arrivals are =
    elim are [
      | inl none ↦ subst (λ (k : Kept). IsReading numbering major arrivals k) (sym (no_item-stays numbering major (kept_after numbering major before) message stamp none.0))
          (run_of numbering major before arrivals none.1)
      | inr came ↦ subst (λ (all : List Arrival). IsReading numbering major all (kept_after numbering major (Framed message stamp ∷ before))) (sym came.2)
          (after_item numbering major came.0 came.1 message stamp (kept_after numbering major before) came.3 came.4 (run_of numbering major before came.1 came.5))
    ]

pub keeps-list : (major : ℕ) (events : List Event) (arrivals : List Arrival) → AreArrivals numberings.Message major events arrivals → AreNearInEach (with_jumps arrivals)
    → Keeps (with_jumps arrivals) (kept_after numberings.Message major events)
keeps-list major events arrivals are near = keeps-run major arrivals (kept_after numberings.Message major events) (run_of numberings.Message major events arrivals are) near

pub unnumbered-list : (major : ℕ) (events : List Event) (arrivals : List Arrival) → AreArrivals numberings.Unnumbered major events arrivals
    → KeepsUnnumbered arrivals (kept_after numberings.Unnumbered major events)
unnumbered-list major events arrivals are = unnumbered-run major arrivals (kept_after numberings.Unnumbered major events) (run_of numberings.Unnumbered major events arrivals are)
