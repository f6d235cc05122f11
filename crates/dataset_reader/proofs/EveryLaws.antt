-- Every list of messages and cuts has its arrivals.
use Rattle.std.proofs.Common.{◌≡◌, ◌≢◌, ◌⊎◌, refl, sym, ap, ◌∙◌, ℕ, ◌+◌, ◌<◌, ◌^◌, Bool, true, false, List, [], ◌∷◌, Option, Some, None, subst, inl, inr, arith}
use Rattle.std.specs.Prelude.{◌==◌, IfSome}
use Rattle.std.proofs.lemmas.Bool.Decides.{nat_tests}
use Rattle.dataset_meta.specs.DataValues.{DataValue}
use Rattle.pubsub_model.specs.Frames.{PlacedFrame, IsPlacedFrame, Whole, Change, Alive, carried}
use Rattle.pubsub_model.specs.Records.{Item, Arrival, Came, Cut, at}
use Rattle.frame_codec.specs.Frames as frames
use Rattle.frame_codec.specs.Frames.{Content, Frame}
use Rattle.dataset_reader.specs.declared.took.Numbering.{Numbering}
use Rattle.dataset_reader.specs.declared.took.Numbering.TheVariants as numberings
use Rattle.frame_codec.specs.Carrying.{content_of}
use Rattle.dataset_reader.specs.Keeping.{IsOfMajor, Brings, IsForeign, IsNoItem, Event, Framed, CutBy, AreArrivals, AreShort}

-- a frame of this content with this number
abbrev frame_at : Content → ℕ → PlacedFrame
frame_at (frames.Whole row) n = Whole n row
frame_at (frames.Change patch) n = Change n patch
frame_at frames.Alive n = Alive (n + 65536)

content_of-frame_at : (c : Content) (n : ℕ) → content_of (frame_at c n) ≡ c
content_of-frame_at (frames.Whole row) n = refl
content_of-frame_at (frames.Change patch) n = refl
content_of-frame_at frames.Alive n = refl

carried-frame_at : (c : Content) (n : ℕ) → n < 2 ^ 16 → carried (frame_at c n) ≡ n
carried-frame_at (frames.Whole row) n short = omega arith
carried-frame_at (frames.Change patch) n short = omega arith
carried-frame_at frames.Alive n short = omega arith

has_place : (c : Content) (n : ℕ) → IsPlacedFrame (frame_at c n)
has_place (frames.Whole row) n = tt
has_place (frames.Change patch) n = tt
has_place frames.Alive n = omega arith

same_major : (same : Bool) (major got : ℕ) (message : Frame) → (got == major) ≡ same → message.major ≡ Some got → IsForeign major message ⊎ IsOfMajor major message.major
same_major true major got message e is =
    let one : got ≡ major = grind (arith, nat_tests, e) in inr (subst (λ (carries : Option ℕ). IsOfMajor major carries) (sym is) one)
same_major false major got message e is =
    let other : got ≢ major = λ one. absurd (grind (arith, nat_tests, e, one)) in inl (got, is, other)

foreign_or_not : (carries : Option ℕ) (major : ℕ) (message : Frame) → message.major ≡ carries → IsForeign major message ⊎ IsOfMajor major message.major
foreign_or_not None major message is = inr (subst (λ (carries : Option ℕ). IsOfMajor major carries) (sym is) tt)
foreign_or_not (Some got) major message is = same_major (got == major) major got message refl is

-- what a message is to a reader
abbrev IsEither : Numbering → ℕ → Frame → Option ℕ → Type 0
IsEither numbering major message stamp = IsNoItem numbering major message ⊎ ((item : Item) × (item.stamp ≡ stamp) × Brings numbering major item.frame message)

by_number : (number : Option ℕ) (major : ℕ) (message : Frame) (stamp : Option ℕ) → message.number ≡ number → IfSome number (λ n. n < 2 ^ 16) → IsOfMajor major message.major
    → IsEither numberings.Message major message stamp
by_number None major message stamp is short own = inl (inr is)
by_number (Some n) major message stamp is short own =
    inr (
      at 0 stamp (frame_at message.content n),
      refl,
      record { version = own; number = is ∙ ap (λ (k : ℕ). Some k) (sym (carried-frame_at message.content n short)); content = sym (content_of-frame_at message.content n); place = has_place message.content n },
    )

-- with no numbering a delta frame is no item
by_content : (content : Content) (major : ℕ) (message : Frame) (stamp : Option ℕ) → message.content ≡ content → IsOfMajor major message.major → IsEither numberings.Unnumbered major message stamp
by_content (frames.Whole row) major message stamp is own = inr (at 0 stamp (frame_at message.content 0), refl, (own, sym (content_of-frame_at message.content 0), λ change. absurd (no_change row change.0 (sym is ∙ change.1))))
  where
    no_change : (row : List DataValue) (patch : List (ℕ × DataValue)) → frames.Whole row ≡ frames.Change patch → ⊥
    no_change row patch e = cc
by_content (frames.Change patch) major message stamp is own = inl (inr (patch, is))
by_content frames.Alive major message stamp is own = inr (at 0 stamp (frame_at message.content 0), refl, (own, sym (content_of-frame_at message.content 0), λ change. absurd (no_change change.0 (sym is ∙ change.1))))
  where
    no_change : (patch : List (ℕ × DataValue)) → frames.Alive ≡ frames.Change patch → ⊥
    no_change patch e = cc

of_major : (numbering : Numbering) (major : ℕ) (message : Frame) (stamp : Option ℕ) → IfSome message.number (λ n. n < 2 ^ 16) → IsOfMajor major message.major
    → IsEither numbering major message stamp
of_major numberings.Message major message stamp short own = by_number message.number major message stamp refl short own
of_major numberings.Unnumbered major message stamp short own = by_content message.content major message stamp refl own

foreign_is_none : (numbering : Numbering) (major : ℕ) (message : Frame) → IsForeign major message → IsNoItem numbering major message
foreign_is_none numberings.Message major message is = inl is
foreign_is_none numberings.Unnumbered major message is = inl is

item_or_none : (numbering : Numbering) (major : ℕ) (message : Frame) (stamp : Option ℕ) → IfSome message.number (λ n. n < 2 ^ 16) → IsEither numbering major message stamp
item_or_none numbering major message stamp short =
    elim (foreign_or_not message.major major message refl) [
      | inl is ↦ inl (foreign_is_none numbering major message is)
      | inr own ↦ of_major numbering major message stamp short own
    ]

pub has-arrivals : (numbering : Numbering) (major : ℕ) (events : List Event) → AreShort events → (arrivals : List Arrival) × AreArrivals numbering major events arrivals
has-arrivals numbering major [] short = ([], refl)
has-arrivals numbering major (CutBy why ∷ before) short =
    let earlier = has-arrivals numbering major before short in (Cut why ∷ earlier.0, (earlier.0, refl, earlier.1))
has-arrivals numbering major (Framed message stamp ∷ before) short =
    let earlier = has-arrivals numbering major before short.1 in
    elim (item_or_none numbering major message stamp short.0) [
      | inl none ↦ (earlier.0, inl (none, earlier.1))
      | inr came ↦ (Came came.0 ∷ earlier.0, inr (came.0, earlier.0, refl, came.1, came.2, earlier.1))
    ]
