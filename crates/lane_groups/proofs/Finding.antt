-- The datagrams of a lane are counted, and one is found.
use Rattle.std.proofs.Common.{◌≡◌, refl, sym, ap, ◌∙◌, subst, arith, ℕ, ◌+◌, ◌-◌, ◌<◌, ◌≤◌, List, [], ◌∷◌, ◌++◌, length, drop, get_or, length-append}
use Rattle.std.specs.Prelude.{All, Option, Some, None, IfSome}
use Rattle.std.proofs.lemmas.List.{drop_all, drop_more, get_or-append-add, get_or_append_left, get_or-map, length-map}
use Rattle.writer_group.specs.Standing.{datagrams_in}
use Rattle.group_threads.specs.Pairs.{Pair, no_pair}
use Rattle.lane_groups.specs.declared.place.Place.{Place}
use Rattle.lane_groups.specs.Finding.{HasDatagram, IsFound, count_of, datagram_of}
use Rattle.lane_groups.specs.Places.{IsShown, pairs_from, pairs_in}

count-is : (g : ℕ) (place : Option Place) → IfSome place IsShown → count_of place ≡ length (pairs_in g place)
count-is g None shown = refl
count-is g (Some place) shown = shown.count ∙ sym (length-map {B = Pair} (datagrams_in place.out) (λ (d : List ℕ). record { group = g; datagram = d }))

-- those of the places before this one were counted
pub record IsCounted (places : List (Option Place)) (g count : ℕ) : Type 0 where
  pub total : count + length (pairs_from g (drop g places)) ≡ length (pairs_from 0 places)

-- the datagram is this one of those from the place on
pub record IsLeft (places : List (Option Place)) (index g left : ℕ) : Type 0 where
  pub within : left < length (pairs_from g (drop g places))
  pub is : get_or (pairs_from g (drop g places)) left no_pair ≡ get_or (pairs_from 0 places) index no_pair

pub counted-none : (places : List (Option Place)) → IsCounted places 0 0
counted-none places = record { total = omega arith }

pub left-all : (places : List (Option Place)) (index : ℕ) → index < length (pairs_from 0 places) → IsLeft places index 0 index
left-all places index low = record { within = low; is = refl }

module _ (places : List (Option Place)) (shown : All (λ place. IfSome place IsShown) places) (g : ℕ) (low : g < length places) (place : Option Place) (at : (d : Option Place) → place ≡ get_or places g d) where
  is-shown : IfSome place IsShown
  is-shown = subst (λ (p : Option Place). IfSome p IsShown) (sym (at None)) (shown g None low)

  split : pairs_from g (drop g places) ≡ pairs_in g place ++ pairs_from (g + 1) (drop (g + 1) places)
  split = ap (pairs_from g) (drop_more places g None low ∙ ap (λ (p : Option Place). p ∷ drop (g + 1) places) (sym (at None)))

  parts : length (pairs_from g (drop g places)) ≡ count_of place + length (pairs_from (g + 1) (drop (g + 1) places))
  parts =
      let n = count-is g place is-shown in
      let s = ap length split in
      omega (arith, n, s, length-append (pairs_in g place) (pairs_from (g + 1) (drop (g + 1) places)))

  pub counted-more : (count : ℕ) → IsCounted places g count → IsCounted places (g + 1) (count + count_of place)
  counted-more count is = record { total = let t = is.total in let p = parts in omega (arith, t, p) }

  pub left-more : (index left : ℕ) → IsLeft places index g left → count_of place ≤ left → IsLeft places index (g + 1) (left - count_of place)
  left-more index left is high =
      let n = count-is g place is-shown in
      let rest = pairs_from (g + 1) (drop (g + 1) places) in
      let here : left ≡ length (pairs_in g place) + (left - count_of place) = omega (arith, n, high) in
      record {
        within = let w = is.within in let p = parts in omega (arith, w, p, high);
        is =
            sym (get_or-append-add (pairs_in g place) rest (left - count_of place) no_pair)
            ∙ ap (λ (k : ℕ). get_or (pairs_in g place ++ rest) k no_pair) (sym here)
            ∙ ap (λ (l : List Pair). get_or l left no_pair) (sym split)
            ∙ is.is;
      }

  pub left-here : (index left : ℕ) → IsLeft places index g left → left < count_of place → IsFound places index g left
  left-here index left is within = by_case place at is-shown within split
    where
      by_case : (p : Option Place) → ((d : Option Place) → p ≡ get_or places g d) → IfSome p IsShown → left < count_of p
          → pairs_from g (drop g places) ≡ pairs_in g p ++ pairs_from (g + 1) (drop (g + 1) places) → IsFound places index g left
      by_case None at shown within split = absurd (omega (arith, within))
      by_case (Some p) at shown within split =
          let rest = pairs_from (g + 1) (drop (g + 1) places) in
          let count = shown.count in
          let inside : left < length (datagrams_in p.out) = omega (arith, within, count) in
          record {
            low = low;
            has = subst (λ (o : Option Place). HasDatagram o left) (at None) (shown, inside);
            is =
                sym is.is
                ∙ ap (λ (l : List Pair). get_or l left no_pair) split
                ∙ get_or_append_left (pairs_in g (Some p)) rest no_pair left (let n = count-is g (Some p) shown in omega (arith, n, within))
                ∙ get_or-map (λ (d : List ℕ). record { group = g; datagram = d }) (datagrams_in p.out) left [] no_pair inside
                ∙ ap (λ (o : Option Place). record { group = g; datagram = datagram_of o left }) (at None);
          }

  pub counted-low : (count : ℕ) → IsCounted places g count → count + count_of place ≤ length (pairs_from 0 places)
  counted-low count is = let t = is.total in let p = parts in omega (arith, t, p)

-- behind the last place there is none
pub left-none : (places : List (Option Place)) (index g left : ℕ) → length places ≤ g → IsLeft places index g left → ⊥
left-none places index g left high is =
    let none : length (pairs_from g (drop g places)) ≡ 0 = ap (λ (l : List (Option Place)). length (pairs_from g l)) (drop_all g places high) in
    let w = is.within in omega (arith, w, none)

pub counted-all : (places : List (Option Place)) (g count : ℕ) → length places ≤ g → IsCounted places g count → count ≡ length (pairs_from 0 places)
counted-all places g count high is =
    let none : length (pairs_from g (drop g places)) ≡ 0 = ap (λ (l : List (Option Place)). length (pairs_from g l)) (drop_all g places high) in
    let t = is.total in omega (arith, t, none)
