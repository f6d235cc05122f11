-- Where the components of a half stand.
use Rattle.std.proofs.Common.{◌≡◌, ℕ, ◌+◌, ◌<◌, ◌≤◌, List, [], ◌∷◌, ◌++◌, length, map, take, sum, get_or, slice_index, ◌⊎◌, inl, inr, sym, ap, ◌∙◌, refl, arith, zero, suc, add-one, add-zero, zero-add, append_assoc, append-nil, length-append, Some, slice_get}
use Rattle.std.specs.List.{range_with_len}
use Rattle.std.proofs.lemmas.List.Sums.{sum_by-cons}
use Rattle.std.proofs.lemmas.List.FromFn.{length-map-range_with_len, map-range_with_len_more}
use Rattle.pubsub_states.specs.declared.component.Component.{Component}
use Rattle.pubsub_states.specs.Components.{families, before_family}

-- behind the first list
pub slice_get-skip : {X : Type 0} (xs ys : List X) (k : ℕ) → slice_get (xs ++ ys) (length xs + k) ≡ slice_get ys k
slice_get-skip [] ys k = ap (slice_get ys) (zero-add k)
slice_get-skip (x ∷ xs) ys k =
    let e : length (x ∷ xs) + k ≡ suc (length xs + k) = omega arith in
    ap (slice_get (x ∷ (xs ++ ys))) e ∙ slice_get-skip xs ys k

-- within the first list
pub slice_get-front : {X : Type 0} (xs ys : List X) (k : ℕ) → k < length xs → slice_get (xs ++ ys) k ≡ slice_get xs k
slice_get-front [] ys k h = absurd (omega (arith, h))
slice_get-front (x ∷ xs) ys zero h = refl
slice_get-front (x ∷ xs) ys (suc k) h = slice_get-front xs ys k (omega (arith, h))

pub slice_get-range : {X : Type 0} (f : ℕ → X) (a n k : ℕ) → k < n → slice_get (map f (range_with_len a n)) k ≡ Some (f (a + k))
slice_get-range f a zero k h = absurd (omega (arith, h))
slice_get-range f a (suc n) zero h = ap (λ m. Some (f m)) (sym (add-zero a))
slice_get-range f a (suc n) (suc k) h =
    let e : (a + 1) + k ≡ a + suc k = omega arith in
    slice_get-range f (a + 1) n k (omega (arith, h)) ∙ ap (λ m. Some (f m)) e

pub before_family-suc : (n : ℕ) (counts : List ℕ) (g : ℕ) → before_family (n ∷ counts) (suc g) ≡ suc n + before_family counts g
before_family-suc n counts g =
    let e : sum (n ∷ take g counts) ≡ n + sum (take g counts) = sum_by-cons (λ x. x) n (take g counts) in
    omega (arith, e)

-- the families up to one, and its members
pub before-room : (counts : List ℕ) (g : ℕ) → g ≤ length counts → before_family counts g + slice_index counts g ≤ length counts + sum counts
before-room [] zero h = omega arith
before-room [] (suc g) h = absurd (omega (arith, h))
before-room (n ∷ counts) zero h =
    let e : sum (n ∷ counts) ≡ n + sum counts = sum_by-cons (λ x. x) n counts in
    omega (arith, e)
before-room (n ∷ counts) (suc g) h =
    let e : sum (n ∷ counts) ≡ n + sum counts = sum_by-cons (λ x. x) n counts in
    omega (arith, e, before_family-suc n counts g, before-room counts g (omega (arith, h)))

pub length-families : (head : ℕ → Component) (member : ℕ → ℕ → Component) (from : ℕ) (counts : List ℕ)
    → length (families head member from counts) ≡ length counts + sum counts
length-families head member from [] = refl
length-families head member from (n ∷ counts) =
    let e : sum (n ∷ counts) ≡ n + sum counts = sum_by-cons (λ x. x) n counts in
    let mid = length-append (head from ∷ map (member from) (range_with_len 0 n)) (families head member (from + 1) counts) in
    let one = length-map-range_with_len (member from) 0 n in
    let rest = length-families head member (from + 1) counts in
    omega (arith, e, mid, one, rest)

-- one family more
pub families-more : (head : ℕ → Component) (member : ℕ → ℕ → Component) (from : ℕ) (counts : List ℕ) (i d : ℕ) → i < length counts
    → families head member from (take (suc i) counts)
    ≡ families head member from (take i counts) ++ (head (from + i) ∷ map (member (from + i)) (range_with_len 0 (get_or counts i d)))
families-more head member from [] i d h = absurd (omega (arith, h))
families-more head member from (n ∷ counts) zero d h =
    let e : from + 0 ≡ from = omega arith in
    rw e (append-nil (head from ∷ map (member from) (range_with_len 0 n)))
families-more head member from (n ∷ counts) (suc i) d h =
    let e : (from + 1) + i ≡ from + suc i = omega arith in
    let own = head from ∷ map (member from) (range_with_len 0 n) in
    let before = families head member (from + 1) (take i counts) in
    let last : ℕ → List Component = λ m. head m ∷ map (member m) (range_with_len 0 (get_or counts i d)) in
    ap (λ ys. own ++ ys) (families-more head member (from + 1) counts i d (omega (arith, h)))
    ∙ sym (append_assoc own before (last ((from + 1) + i)))
    ∙ ap (λ m. (own ++ before) ++ last m) e

-- a list that has one member more
pub members-more : (member : ℕ → Component) (n : ℕ) (xs ys zs : List Component)
    → ys ≡ xs ++ map member (range_with_len 0 n) → zs ≡ ys ++ member n ∷ [] → zs ≡ xs ++ map member (range_with_len 0 (n + 1))
members-more member n xs ys zs before more =
    let e : 0 + n ≡ n = omega arith in
    more ∙ ap (λ ms. ms ++ member n ∷ []) before ∙ append_assoc xs (map member (range_with_len 0 n)) (member n ∷ [])
    ∙ ap (λ ms. xs ++ ms) (sym (map-range_with_len_more member 0 n n e))

-- a list that has one family more
pub half-more : (head : ℕ → Component) (member : ℕ → ℕ → Component) (counts : List ℕ) (i n : ℕ) (xs ys zs : List Component)
    → i < length counts → get_or counts i 0 ≡ n → ys ≡ xs ++ families head member 0 (take i counts)
    → zs ≡ ys ++ (head i ∷ map (member i) (range_with_len 0 n)) → zs ≡ xs ++ families head member 0 (take (i + 1) counts)
half-more head member counts i n xs ys zs within is before more =
    let e : 0 + i ≡ i = omega arith in
    let last : ℕ → ℕ → List Component = λ k m. head k ∷ map (member k) (range_with_len 0 m) in
    let one = families-more head member 0 counts i 0 within ∙ ap (λ k. families head member 0 (take i counts) ++ last k (get_or counts i 0)) e
    ∙ ap (λ m. families head member 0 (take i counts) ++ last i m) is in
    more ∙ ap (λ ms. ms ++ last i n) before ∙ append_assoc xs (families head member 0 (take i counts)) (last i n)
    ∙ ap (λ ms. xs ++ ms) (sym one) ∙ ap (λ k. xs ++ families head member 0 (take k counts)) (sym (add-one i))

-- a head stands behind the families before it
pub at_head : (head : ℕ → Component) (member : ℕ → ℕ → Component) (from : ℕ) (counts : List ℕ) (rest : List Component) (g : ℕ)
    → g < length counts → slice_get (families head member from counts ++ rest) (before_family counts g) ≡ Some (head (from + g))
at_head head member from [] rest g h = absurd (omega (arith, h))
at_head head member from (n ∷ counts) rest zero h =
    let e : from + 0 ≡ from = omega arith in
    rw e refl
at_head head member from (n ∷ counts) rest (suc g) h =
    let own = head from ∷ map (member from) (range_with_len 0 n) in
    let behind = families head member (from + 1) counts in
    let e : (from + 1) + g ≡ from + suc g = omega arith in
    let long : length own ≡ suc n = ap suc (length-map-range_with_len (member from) 0 n) in
    let at : before_family (n ∷ counts) (suc g) ≡ length own + before_family counts g = omega (arith, before_family-suc n counts g, long) in
    ap (slice_get ((own ++ behind) ++ rest)) at
    ∙ ap (λ xs. slice_get xs (length own + before_family counts g)) (append_assoc own behind rest)
    ∙ slice_get-skip own (behind ++ rest) (before_family counts g)
    ∙ at_head head member (from + 1) counts rest g (omega (arith, h))
    ∙ ap (λ m. Some (head m)) e

-- a member stands behind its head and the members before it
pub at_member : (head : ℕ → Component) (member : ℕ → ℕ → Component) (from : ℕ) (counts : List ℕ) (rest : List Component) (g w : ℕ)
    → w < slice_index counts g
    → slice_get (families head member from counts ++ rest) (before_family counts g + 1 + w) ≡ Some (member (from + g) w)
at_member head member from [] rest g w h = absurd (omega (arith, h))
at_member head member from (n ∷ counts) rest zero w h =
    let members = map (member from) (range_with_len 0 n) in
    let behind = families head member (from + 1) counts in
    let e : from + 0 ≡ from = omega arith in
    let at : before_family (n ∷ counts) 0 + 1 + w ≡ suc w = omega arith in
    let long : length members ≡ n = length-map-range_with_len (member from) 0 n in
    rw e (ap (slice_get (((head from ∷ members) ++ behind) ++ rest)) at
    ∙ ap (λ xs. slice_get xs w) (append_assoc members behind rest)
    ∙ slice_get-front members (behind ++ rest) w (omega (arith, h, long))
    ∙ slice_get-range (member from) 0 n w h
    ∙ ap (λ m. Some (member from m)) (zero-add w))
at_member head member from (n ∷ counts) rest (suc g) w h =
    let own = head from ∷ map (member from) (range_with_len 0 n) in
    let behind = families head member (from + 1) counts in
    let e : (from + 1) + g ≡ from + suc g = omega arith in
    let long : length own ≡ suc n = ap suc (length-map-range_with_len (member from) 0 n) in
    let at : before_family (n ∷ counts) (suc g) + 1 + w ≡ length own + (before_family counts g + 1 + w) = omega (arith, before_family-suc n counts g, long) in
    ap (slice_get ((own ++ behind) ++ rest)) at
    ∙ ap (λ xs. slice_get xs (length own + (before_family counts g + 1 + w))) (append_assoc own behind rest)
    ∙ slice_get-skip own (behind ++ rest) (before_family counts g + 1 + w)
    ∙ at_member head member (from + 1) counts rest g w h
    ∙ ap (λ m. Some (member m w)) e

-- what stands at a place: a head, a member, or what is behind the families
pub data Standing (head : ℕ → Component) (member : ℕ → ℕ → Component) (from : ℕ) (counts : List ℕ) (rest : List Component) (id : ℕ) (c : Component) : Type 0 where
  Head : (g : ℕ) → g < length counts → c ≡ head (from + g) → id ≡ before_family counts g → Standing head member from counts rest id c
  Member : (g w : ℕ) → w < slice_index counts g → c ≡ member (from + g) w → id ≡ before_family counts g + 1 + w → Standing head member from counts rest id c
  Behind : (k : ℕ) → id ≡ length counts + sum counts + k → slice_get rest k ≡ Some c → Standing head member from counts rest id c

-- a place within the first list, or behind it
pub parted : (n id : ℕ) → (id < n) ⊎ ((k : ℕ) × (id ≡ n + k))
parted zero id = inr (id, sym (zero-add id))
parted (suc n) zero = inl (omega arith)
parted (suc n) (suc id) = elim (parted n id) [ inl h ↦ inl (omega arith) | inr w ↦ inr (w.0, omega (arith, w.1)) ]

one_behind : (head : ℕ → Component) (member : ℕ → ℕ → Component) (from n : ℕ) (counts : List ℕ) (rest : List Component) (id k : ℕ) (c : Component)
    → id ≡ suc n + k → Standing head member (from + 1) counts rest k c → Standing head member from (n ∷ counts) rest id c
one_behind head member from n counts rest id k c at (Head g h is place) =
    let e : (from + 1) + g ≡ from + suc g = omega arith in
    Head (suc g) (omega (arith, h)) (is ∙ ap head e) (omega (arith, at, place, before_family-suc n counts g))
one_behind head member from n counts rest id k c at (Member g w h is place) =
    let e : (from + 1) + g ≡ from + suc g = omega arith in
    Member (suc g) w h (is ∙ ap (λ m. member m w) e) (omega (arith, at, place, before_family-suc n counts g))
one_behind head member from n counts rest id k c at (Behind j place is) =
    let e : sum (n ∷ counts) ≡ n + sum counts = sum_by-cons (λ x. x) n counts in
    Behind j (omega (arith, at, place, e)) is

pub some_same : {X : Type 0} (a b : X) → Some a ≡ Some b → a ≡ b
some_same a b e = cc

own_standing : (head : ℕ → Component) (member : ℕ → ℕ → Component) (from n : ℕ) (counts : List ℕ) (rest : List Component) (id : ℕ) (c : Component)
    → id < suc n → slice_get (head from ∷ map (member from) (range_with_len 0 n)) id ≡ Some c → Standing head member from (n ∷ counts) rest id c
own_standing head member from n counts rest zero c h is =
    let e : from + 0 ≡ from = omega arith in
    Head 0 (omega arith) (some_same _ _ (sym is) ∙ ap head (sym e)) refl
own_standing head member from n counts rest (suc w) c h is =
    let e : from + 0 ≡ from = omega arith in
    let at = slice_get-range (member from) 0 n w (omega (arith, h)) in
    let z : 0 + w ≡ w = omega arith in
    Member 0 w (omega (arith, h)) (some_same _ _ (sym is ∙ at) ∙ ap (λ m. member from m) z ∙ ap (λ m. member m w) (sym e)) (omega arith)

pub standing : (head : ℕ → Component) (member : ℕ → ℕ → Component) (from : ℕ) (counts : List ℕ) (rest : List Component) (id : ℕ) (c : Component)
    → slice_get (families head member from counts ++ rest) id ≡ Some c → Standing head member from counts rest id c
standing head member from [] rest id c is = Behind id (omega arith) is
standing head member from (n ∷ counts) rest id c is =
    let own = head from ∷ map (member from) (range_with_len 0 n) in
    let behind = families head member (from + 1) counts in
    let long : length own ≡ suc n = ap suc (length-map-range_with_len (member from) 0 n) in
    let whole : slice_get (own ++ (behind ++ rest)) id ≡ Some c = ap (λ xs. slice_get xs id) (sym (append_assoc own behind rest)) ∙ is in
    elim (parted (suc n) id) [
      | inl h ↦ own_standing head member from n counts rest id c h (sym (slice_get-front own (behind ++ rest) id (omega (arith, h, long))) ∙ whole)
      | inr w ↦
          let at : id ≡ length own + w.0 = omega (arith, w.1, long) in
          let k_is : slice_get (behind ++ rest) w.0 ≡ Some c =
          sym (slice_get-skip own (behind ++ rest) w.0) ∙ ap (slice_get (own ++ (behind ++ rest))) (sym at) ∙ whole in
          one_behind head member from n counts rest id w.0 c w.1 (standing head member (from + 1) counts rest w.0 c k_is)
    ]
