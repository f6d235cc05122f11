-- Frames with numbers of 16 bits can be arrivals whose places are near: each stands at the place with its number that is near to the greatest before it.
use Rattle.std.proofs.Common.{◌≡◌, ◌⊎◌, inl, inr, ℕ, ◌+◌, ◌-◌, ◌%◌, ◌<◌, ◌≤◌, List, [], ◌∷◌, map, Option, Some, None, refl, sym, ap, ◌∙◌, subst, arith}
use Rattle.std.specs.Prelude.{◌^◌, IfSome, max, ⊤}
use Rattle.std.proofs.lemmas.Bool.{cases_lt}
use Rattle.seq_number.specs.Numbers.{IsNear, greatest, number_of_place, place_from}
use Rattle.frame_codec.specs.Frames.{Content, Frame}
use Rattle.frame_codec.specs.Frames as frames
use Rattle.frame_codec.specs.Carrying.{content_of}
use Rattle.pubsub_model.specs.Frames.{PlacedFrame, Whole, Change, Alive, IsPlacedFrame, carried, place_of}
use Rattle.pubsub_model.specs.Records.{Arrival, Item, Came, Cut, at, place_in, since_cut}
use Rattle.dataset_reader.specs.declared.took.Numbering.TheVariants as numberings
use Rattle.dataset_reader.specs.Keeping.{AreArrivals, AreNearInEach, AreShort, CutBy, Event, Framed, IsForeign, IsNoItem, IsOfMajor}

-- ---- numbers

-- the place with this number that is near to the greatest one
record NearPlace (n g : ℕ) : Type 0 where
  pub place : ℕ
  pub number : number_of_place place ≡ n
  pub above : place ≤ g + 16384
  pub below : g < place + 49152

ahead : (n g : ℕ) → n < 65536 → number_of_place (place_from g n) ≡ n
ahead n g short = omega arith

ahead_least : (n g : ℕ) → g ≤ place_from g n
ahead_least n g = omega arith

ahead_most : (n g : ℕ) → place_from g n < g + 65536
ahead_most n g = omega arith

back : (x n : ℕ) → number_of_place x ≡ n → 65536 ≤ x → number_of_place (x - 65536) ≡ n
back x n is far = omega arith

near_by : (n g p : ℕ) → 65536 ≤ g → number_of_place p ≡ n → g ≤ p → p < g + 65536 → NearPlace n g
near_by n g p high number least most =
    elim (cases_lt p (g + 16385)) [
      | inl close ↦ record { place = p; number = number; above = omega arith; below = omega arith }
      | inr far ↦ record { place = p - 65536; number = back p n number (omega arith); above = omega arith; below = omega arith }
    ]

near_place : (n g : ℕ) → n < 65536 → 65536 ≤ g → NearPlace n g
near_place n g short high = near_by n g (place_from g n) high (ahead n g short) (ahead_least n g) (ahead_most n g)

-- ---- places behind others

-- where there are places, the greatest isn't below 65,536, so that there is room below it
abbrev pub AreHigh : List ℕ → Type 0
AreHigh [] = ⊤
AreHigh (place ∷ before) = 65536 ≤ greatest (place ∷ before)

-- a place with this number that is near to these
record NextPlace (n : ℕ) (places : List ℕ) : Type 0 where
  pub place : ℕ
  pub number : number_of_place place ≡ n
  pub near : IsNear places → IsNear (place ∷ places)
  pub high : AreHigh (place ∷ places)

still_high : (place g : ℕ) → 65536 ≤ g → 65536 ≤ max place g
still_high place g high = omega arith

first_high : (n : ℕ) → 65536 ≤ max (65536 + n) 0
first_high n = omega arith

first_number : (n : ℕ) → n < 65536 → number_of_place (65536 + n) ≡ n
first_number n short = omega arith

next_place : (n : ℕ) (places : List ℕ) → n < 65536 → AreHigh places → NextPlace n places
next_place n [] short high = record { place = 65536 + n; number = first_number n short; near = λ near. tt; high = first_high n }
next_place n (last ∷ before) short high =
    let g = greatest (last ∷ before) in
    let next = near_place n g short high in
    record { place = next.place; number = next.number; near = λ near. (next.above, next.below, near); high = still_high next.place g high }

-- ---- frames

-- the number of the place at which a frame stands that carries this number
abbrev stands_at : Content → ℕ → ℕ
stands_at (frames.Whole row) n = n
stands_at (frames.Change patch) n = n
stands_at frames.Alive n = (n + 65535) % 65536

stands_short : (content : Content) (n : ℕ) → n < 65536 → stands_at content n < 65536
stands_short (frames.Whole row) n short = short
stands_short (frames.Change patch) n short = short
stands_short frames.Alive n short = omega arith

-- the frame with its place
abbrev placed : Content → ℕ → PlacedFrame
placed (frames.Whole row) place = Whole place row
placed (frames.Change patch) place = Change place patch
placed frames.Alive place = Alive (place + 1)

placed_at : (content : Content) (place : ℕ) → place_of (placed content place) ≡ place
placed_at (frames.Whole row) place = refl
placed_at (frames.Change patch) place = refl
placed_at frames.Alive place = omega arith

placed_content : (content : Content) (place : ℕ) → content ≡ content_of (placed content place)
placed_content (frames.Whole row) place = refl
placed_content (frames.Change patch) place = refl
placed_content frames.Alive place = refl

placed_carries : (content : Content) (n place : ℕ) → n < 65536 → number_of_place place ≡ stands_at content n → carried (placed content place) ≡ n
placed_carries (frames.Whole row) n place short is = is
placed_carries (frames.Change patch) n place short is = is
placed_carries frames.Alive n place short is = omega (arith, is)

placed_is : (content : Content) (place : ℕ) → IsPlacedFrame (placed content place)
placed_is (frames.Whole row) place = tt
placed_is (frames.Change patch) place = tt
placed_is frames.Alive place = omega arith

-- ---- arrivals

-- arrivals that the events can be, with places that are near
pub record NearArrivals (major : ℕ) (events : List Event) : Type 0 where
  pub arrivals : List Arrival
  pub are : AreArrivals numberings.Message major events arrivals
  pub near : AreNearInEach arrivals
  pub since : IsNear (map place_in (since_cut arrivals))
  pub high : AreHigh (map place_in (since_cut arrivals))

passed : (major : ℕ) (message : Frame) (stamp : Option ℕ) (before : List Event) → IsNoItem numberings.Message major message → NearArrivals major before
    → NearArrivals major (Framed message stamp ∷ before)
passed major message stamp before none earlier =
    record { arrivals = earlier.arrivals; are = inl (none, earlier.are); near = earlier.near; since = earlier.since; high = earlier.high }

arrived : (major : ℕ) (message : Frame) (stamp : Option ℕ) (before : List Event) (n : ℕ) → message.number ≡ Some n → n < 65536 → IsOfMajor major message.major
    → NearArrivals major before → NearArrivals major (Framed message stamp ∷ before)
arrived major message stamp before n is short own earlier =
    let content = message.content in
    let places = map place_in (since_cut earlier.arrivals) in
    let next = next_place (stands_at content n) places (stands_short content n short) earlier.high in
    let item : Item = at 0 stamp (placed content next.place) in
    let same = placed_at content next.place in
    let near = subst (λ (p : ℕ). IsNear (p ∷ places)) (sym same) (next.near earlier.since) in
    record {
      arrivals = Came item ∷ earlier.arrivals;
      are = inr (
        item,
        earlier.arrivals,
        refl,
        refl,
        record {
          version = own;
          number = is ∙ ap (λ (k : ℕ). Some k) (sym (placed_carries content n next.place short next.number));
          content = placed_content content next.place;
          place = placed_is content next.place;
        },
        earlier.are,
      );
      near = (near, earlier.near);
      since = near;
      high = subst (λ (p : ℕ). AreHigh (p ∷ places)) (sym same) next.high;
    }

by_number : (number : Option ℕ) (major : ℕ) (message : Frame) (stamp : Option ℕ) (before : List Event) → message.number ≡ number → IfSome number (λ n. n < 2 ^ 16)
    → IsOfMajor major message.major → NearArrivals major before → NearArrivals major (Framed message stamp ∷ before)
by_number None major message stamp before is short own earlier = passed major message stamp before (inr is) earlier
by_number (Some n) major message stamp before is short own earlier = arrived major message stamp before n is short own earlier

foreign_or_not : (carries : Option ℕ) (major : ℕ) (message : Frame) → message.major ≡ carries → IsForeign major message ⊎ IsOfMajor major message.major
foreign_or_not None major message is = inr (subst (IsOfMajor major) (sym is) tt)
foreign_or_not (Some got) major message is =
    elim (cases_lt got major) [
      | inl less ↦ inl (got, is, λ one. omega (arith, one))
      | inr least ↦ elim (cases_lt major got) [
        | inl more ↦ inl (got, is, λ one. omega (arith, one))
        | inr most ↦ inr (subst (IsOfMajor major) (sym is) (omega arith))
      ]
    ]

pub near-arrivals : (major : ℕ) (events : List Event) → AreShort events → NearArrivals major events
near-arrivals major [] short = record { arrivals = []; are = refl; near = tt; since = tt; high = tt }
near-arrivals major (CutBy why ∷ before) short =
    let earlier = near-arrivals major before short in
    record { arrivals = Cut why ∷ earlier.arrivals; are = (earlier.arrivals, refl, earlier.are); near = earlier.near; since = tt; high = tt }
near-arrivals major (Framed message stamp ∷ before) short =
    let earlier = near-arrivals major before short.1 in
    elim (foreign_or_not message.major major message refl) [
      | inl foreign ↦ passed major message stamp before (inl foreign) earlier
      | inr own ↦ by_number message.number major message stamp before refl short.0 own earlier
    ]
