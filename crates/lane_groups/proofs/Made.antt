-- The datagrams of a lane's last turn.
use Rattle.std.proofs.Common.{◌≡◌, refl, sym, ap, ◌∙◌, arith, ℕ, zero, suc, ◌+◌, ◌*◌, ◌<◌, ◌≤◌, ◌≢◌, Bool, true, false, List, [], ◌∷◌, ◌++◌, length, map, get_or, length-append}
use Rattle.std.specs.Prelude.{◌==◌, All, Option, Some, None, IfSome, if◌then◌else◌}
use Rattle.std.proofs.lemmas.Bool.{eq-eqb, ne_eqb}
use Rattle.std.proofs.lemmas.List.{append-nil, length-map}
use Rattle.std.proofs.lemmas.List.Elements.{All-append, All-cons, All-nil, All-tail}
use Rattle.writer_group.specs.Standing.{datagrams_in}
use Rattle.group_threads.specs.Groups.{of_group}
use Rattle.group_threads.specs.Pairs.{Pair, IsDatagram}
use Rattle.lane_groups.specs.declared.place.Place.{Place}
use Rattle.lane_groups.specs.Places.{IsShown, pairs_from, pairs_in, pairs_of}
use Rattle.lane_groups.specs.Passing.{IsWhole}

-- ---- the pairs of one group

all-own : (g : ℕ) (datagrams : List (List ℕ)) → of_group g (pairs_of g datagrams) ≡ pairs_of g datagrams
all-own g [] = refl
all-own g (datagram ∷ datagrams) =
    ap (λ (b : Bool). if b then record { group = g; datagram = datagram } ∷ of_group g (pairs_of g datagrams) else of_group g (pairs_of g datagrams)) (eq-eqb g g refl)
    ∙ ap (λ (l : List Pair). record { group = g; datagram = datagram } ∷ l) (all-own g datagrams)

none-other : (g h : ℕ) (datagrams : List (List ℕ)) → h ≢ g → of_group g (pairs_of h datagrams) ≡ []
none-other g h [] other = refl
none-other g h (datagram ∷ datagrams) other =
    ap (λ (b : Bool). if b then record { group = h; datagram = datagram } ∷ of_group g (pairs_of h datagrams) else of_group g (pairs_of h datagrams)) (ne_eqb h g other)
    ∙ none-other g h datagrams other

pub of_group-append : (g : ℕ) (xs ys : List Pair) → of_group g (xs ++ ys) ≡ of_group g xs ++ of_group g ys
of_group-append g [] ys = refl
of_group-append g (x ∷ xs) ys = ap (λ (l : List Pair). if x.group == g then x ∷ l else l) (of_group-append g xs ys) ∙ sym (other (x.group == g))
  where
    other : (b : Bool) → (if b then x ∷ of_group g xs else of_group g xs) ++ of_group g ys ≡ (if b then x ∷ (of_group g xs ++ of_group g ys) else of_group g xs ++ of_group g ys)
    other true = refl
    other false = refl

pub datagrams-are : (g : ℕ) (datagrams : List (List ℕ)) → map (λ (pair : Pair). pair.datagram) (pairs_of g datagrams) ≡ datagrams
datagrams-are g [] = refl
datagrams-are g (datagram ∷ datagrams) = ap (λ (l : List (List ℕ)). datagram ∷ l) (datagrams-are g datagrams)

-- ---- the pairs of places

in-own : (g : ℕ) (place : Option Place) → of_group g (pairs_in g place) ≡ pairs_in g place
in-own g None = refl
in-own g (Some place) = all-own g (datagrams_in place.out)

in-other : (g h : ℕ) (place : Option Place) → h ≢ g → of_group g (pairs_in h place) ≡ []
in-other g h None other = refl
in-other g h (Some place) other = none-other g h (datagrams_in place.out) other

behind : (g from : ℕ) (places : List (Option Place)) → g < from → of_group g (pairs_from from places) ≡ []
behind g from [] low = refl
behind g from (place ∷ places) low =
    of_group-append g (pairs_in from place) (pairs_from (from + 1) places)
    ∙ ap (λ (l : List Pair). l ++ of_group g (pairs_from (from + 1) places)) (in-other g from place (λ same. omega (arith, same, low)))
    ∙ behind g (from + 1) places (omega (arith, low))

found : (g from k : ℕ) (places : List (Option Place)) → g ≡ from + k → of_group g (pairs_from from places) ≡ pairs_in g (get_or places k None)
found g from k [] at = refl
found g from zero (place ∷ places) at =
    let same : from ≡ g = omega (arith, at) in
    of_group-append g (pairs_in from place) (pairs_from (from + 1) places)
    ∙ ap (λ (l : List Pair). of_group g (pairs_in from place) ++ l) (behind g (from + 1) places (omega (arith, at)))
    ∙ append-nil (of_group g (pairs_in from place))
    ∙ ap (λ (n : ℕ). of_group g (pairs_in n place)) same
    ∙ in-own g place
found g from (suc k) (place ∷ places) at =
    of_group-append g (pairs_in from place) (pairs_from (from + 1) places)
    ∙ ap (λ (l : List Pair). l ++ of_group g (pairs_from (from + 1) places)) (in-other g from place (λ same. omega (arith, same, at)))
    ∙ found g (from + 1) k places (omega (arith, at))

pub group-found : (g : ℕ) (places : List (Option Place)) → of_group g (pairs_from 0 places) ≡ pairs_in g (get_or places g None)
group-found g places = found g 0 g places (omega arith)

-- ---- how many there are, and of which lengths

in-few : (g : ℕ) (place : Option Place) → IfSome place IsShown → length (pairs_in g place) ≤ 1024
in-few g None shown = omega arith
in-few g (Some place) shown =
    let n = length-map {B = Pair} (datagrams_in place.out) (λ (d : List ℕ). record { group = g; datagram = d }) in
    let count = shown.count in let few = shown.few in omega (arith, n, count, few)

pub from-few : (from : ℕ) (places : List (Option Place)) → All (λ place. IfSome place IsShown) places → length (pairs_from from places) ≤ 1024 * length places
from-few from [] shown = omega arith
from-few from (place ∷ places) shown =
    let here = in-few from place (shown 0 place (omega arith)) in
    let rest = from-few (from + 1) places (All-tail (λ (place : Option Place). IfSome place IsShown) place places shown) in
    omega (arith, here, rest, length-append (pairs_in from place) (pairs_from (from + 1) places))

whole-of : (g : ℕ) (datagrams : List (List ℕ)) → All IsWhole datagrams → All IsDatagram (pairs_of g datagrams)
whole-of g [] whole = All-nil IsDatagram
whole-of g (datagram ∷ datagrams) whole =
    let here : IsWhole datagram = whole 0 datagram (omega arith) in
    All-cons IsDatagram (record { group = g; datagram = datagram }) (pairs_of g datagrams) (record { some = here.some; short = here.short })
    (whole-of g datagrams (All-tail IsWhole datagram datagrams whole))

in-whole : (g : ℕ) (place : Option Place) → IfSome place (λ p. All IsWhole (datagrams_in p.out)) → All IsDatagram (pairs_in g place)
in-whole g None whole = All-nil IsDatagram
in-whole g (Some place) whole = whole-of g (datagrams_in place.out) whole

pub from-whole : (from : ℕ) (places : List (Option Place)) → All (λ place. IfSome place (λ p. All IsWhole (datagrams_in p.out))) places → All IsDatagram (pairs_from from places)
from-whole from [] whole = All-nil IsDatagram
from-whole from (place ∷ places) whole =
    All-append IsDatagram (pairs_in from place) (pairs_from (from + 1) places) (in-whole from place (whole 0 place (omega arith)))
    (from-whole (from + 1) places (All-tail (λ (place : Option Place). IfSome place (λ p. All IsWhole (datagrams_in p.out))) place places whole))
