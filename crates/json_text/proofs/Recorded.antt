-- What a reader keeps of the parts of lines is what *Records* says of them: no frame has a nonce's number, so none is a jump.
use Rattle.std.proofs.Common.{◌≡◌, inl, inr, ℕ, List, [], ◌∷◌, reverse, Bool, true, false, cond, Option, Some, None, refl, sym, ap, ◌∙◌, subst}
use Rattle.std.specs.List.{filter_map, cons_option}
use Rattle.pubsub_model.specs.declared.reading.Why.TheVariants.{Jump}
use Rattle.frame_codec.specs.Frames.{Frame}
use Rattle.pubsub_model.specs.Records.{Arrival, Item, Came, Cut, since_cut}
use Rattle.dataset_reader.specs.declared.took.Numbering.{Numbering}
use Rattle.dataset_reader.specs.declared.took.Numbering.TheVariants as numberings
use Rattle.dataset_reader.specs.Keeping.{Event, Framed, CutBy, AreArrivals, AreNearInEach, AreShort, Keeps, KeepsUnnumbered, came_on, jumps, kept_after, with_jumps}
use Rattle.ps_config.specs.declared.parts.Config.{Config}
use Rattle.ps_config.specs.declared.parts.ReaderPart.{ReaderPart}
use Rattle.reader_group.specs.Members.{numbering_of}
use Rattle.json_frames.specs.Parts.{Part, meta_at}
use Rattle.json_text.specs.Reading.{ReadsLines}
use Rattle.json_text.specs.Readers.{HasRecords, KeepsRecords, brought, came, is_for}
use Rattle.json_text.proofs.NearPlaces.{near-arrivals}
use Rattle.json_text.proofs.ShortNumbers.{came-short}

-- no event has a nonce's number
abbrev AreBare : List Event → Type 0
AreBare [] = Unit {0}
AreBare (CutBy why ∷ before) = AreBare before
AreBare (Framed message stamp ∷ before) = (stamp ≡ None) × AreBare before

bare_on : (b : Bool) (frame : Frame) (rest : List Event) → AreBare rest → AreBare (cons_option (cond b (Some (Framed frame None)) None) rest)
bare_on true frame rest bare = (refl, bare)
bare_on false frame rest bare = bare

bare : (reader : ReaderPart) (parts : List Part) → AreBare (filter_map (brought reader) parts)
bare reader [] = tt
bare reader (part ∷ parts) = bare_on (is_for reader part.writer part.set) part.frame (filter_map (brought reader) parts) (bare reader parts)

came_bare : (earlier : List Arrival) (item : Item) → item.stamp ≡ None → came_on earlier item ≡ Came item ∷ earlier
came_bare earlier item none = ap (λ (stamp : Option ℕ). cond (jumps (since_cut earlier) stamp) (Came item ∷ Cut Jump ∷ earlier) (Came item ∷ earlier)) none

no_jumps : (numbering : Numbering) (major : ℕ) (events : List Event) (arrivals : List Arrival) → AreBare events → AreArrivals numbering major events arrivals
    → with_jumps arrivals ≡ arrivals
no_jumps numbering major [] arrivals bare is = ap with_jumps is ∙ sym is
no_jumps numbering major (CutBy why ∷ before) arrivals bare is =
    ap with_jumps is.1 ∙ ap (λ (l : List Arrival). Cut why ∷ l) (no_jumps numbering major before is.0 bare is.2) ∙ sym is.1
no_jumps numbering major (Framed message stamp ∷ before) arrivals bare (inl none) = no_jumps numbering major before arrivals bare.1 none.1
no_jumps numbering major (Framed message stamp ∷ before) arrivals bare (inr is) =
    ap with_jumps is.2 ∙ ap (λ (l : List Arrival). came_on l is.0) (no_jumps numbering major before is.1 bare.1 is.5)
    ∙ came_bare is.1 is.0 (is.3 ∙ bare.0) ∙ sym is.2

-- the two laws of readers
abbrev Numbered : Type 0
Numbered = (major : ℕ) (events : List Event) (arrivals : List Arrival) → AreArrivals numberings.Message major events arrivals → AreNearInEach (with_jumps arrivals)
    → Keeps (with_jumps arrivals) (kept_after numberings.Message major events)

abbrev Unnumbered : Type 0
Unnumbered = (major : ℕ) (events : List Event) (arrivals : List Arrival) → AreArrivals numberings.Unnumbered major events arrivals
    → KeepsUnnumbered arrivals (kept_after numberings.Unnumbered major events)

-- each list has arrivals
abbrev Arrives : Type 0
Arrives = (numbering : Numbering) (major : ℕ) (events : List Event) → AreShort events → (arrivals : List Arrival) × AreArrivals numbering major events arrivals

keeps_by : Arrives → Numbered → Unnumbered → (numbering : Numbering) (major : ℕ) (events : List Event) → AreShort events → AreBare events
    → KeepsRecords numbering major events
keeps_by arrives numbered unnumbered numberings.Message major events short bare =
    let some = near-arrivals major events short in
    record {
      arrivals = some.arrivals;
      are = some.are;
      near = some.near;
      keeps = λ others is near.
          let same = no_jumps numberings.Message major events others bare is in
          subst (λ (l : List Arrival). Keeps l (kept_after numberings.Message major events)) same
          (numbered major events others is (subst AreNearInEach (sym same) near));
    }
keeps_by arrives numbered unnumbered numberings.Unnumbered major events short bare =
    let some = arrives numberings.Unnumbered major events short in
    record { arrivals = some.0; are = some.1; near = tt; keeps = λ others is near. unnumbered major events others is }

pub keeps-records : Arrives → Numbered → Unnumbered → (config : Config) (lines : List (List ℕ)) (parts : List Part) (reader : ReaderPart) → ReadsLines config lines parts
    → HasRecords config parts reader
keeps-records arrives numbered unnumbered config lines parts reader read =
    keeps_by arrives numbered unnumbered (numbering_of reader.numbering) (meta_at config.dataset reader.dataset).major (came reader parts)
    (came-short config lines parts reader read) (bare reader (reverse parts))
