-- Lists whose first elements were changed, one after another.
use Rattle.std.proofs.Common.{◌≡◌, refl, sym, ap, ◌∙◌, subst, arith, ℕ, ◌+◌, ◌<◌, ◌≤◌, List, [], ◌∷◌, length, get_or, map, set, take, drop}
use Rattle.std.specs.List.{AllZip}
use Rattle.std.proofs.lemmas.List.{drop-drop, drop-set-lt, get_or-drop, length-drop, length-take, take_all, take_more_set}
use Rattle.std.proofs.lemmas.List.Elements.{all_zip_more, length_all_zip}

-- the first n became the new ones, each so, and the others stayed
pub record FirstBecome {X : Type 0} (R : X → X → Type 0) (n : ℕ) (old new : List X) : Type 0 where
  pub first : AllZip R (take n old) (take n new)
  pub others : drop n new ≡ drop n old

pub first-none : {X : Type 0} (R : X → X → Type 0) (old : List X) → FirstBecome R 0 old old
first-none R old = record { first = tt; others = refl }

pub first-count : {X : Type 0} (R : X → X → Type 0) (n : ℕ) (old new : List X) → FirstBecome R n old new → length new ≡ length old
first-count {X} R n old new become =
    let zip : length (take n old) ≡ length (take n new) = length_all_zip R (take n old) (take n new) become.first in
    let rest : length (drop n new) ≡ length (drop n old) = ap (λ (l : List X). length l) become.others in
    omega (arith, zip, rest, length-take n old, length-take n new, length-drop n old, length-drop n new)

-- the next one is still as it was
pub first-next : {X : Type 0} (R : X → X → Type 0) (n : ℕ) (old new : List X) (d : X) → FirstBecome R n old new → get_or new n d ≡ get_or old n d
first-next {X} R n old new d become =
    let at_n : n + 0 ≡ n = omega arith in
    subst (λ (k : ℕ). get_or new k d ≡ get_or old k d) at_n
    (sym (get_or-drop n new 0 d) ∙ ap (λ (l : List X). get_or l 0 d) become.others ∙ get_or-drop n old 0 d)

pub first-more : {X : Type 0} (R : X → X → Type 0) (n : ℕ) (old mid : List X) (x y : X) → n < length old → x ≡ get_or mid n x → R x y
    → FirstBecome R n old mid → FirstBecome R (n + 1) old (set mid n y)
first-more {X} R n old mid x y low is does become =
    let low_mid : n < length mid = omega (arith, low, first-count R n old mid become) in
    let above : n < n + 1 = omega arith in
    record {
      first = subst (λ (l : List X). AllZip R (take (n + 1) old) l) (sym (take_more_set mid n y low_mid))
          (all_zip_more R old (take n mid) n x y low (is ∙ first-next R n old mid x become) become.first does);
      others = drop-set-lt (n + 1) mid n y above ∙ sym (drop-drop 1 n mid) ∙ ap (λ (l : List X). drop 1 l) become.others ∙ drop-drop 1 n old;
    }

pub first-all : {X : Type 0} (R : X → X → Type 0) (n : ℕ) (old new : List X) → length old ≤ n → FirstBecome R n old new → AllZip R old new
first-all {X} R n old new all become =
    let all_new : length new ≤ n = omega (arith, all, first-count R n old new become) in
    subst (λ (l : List X). AllZip R old l) (take_all n new all_new)
    (subst (λ (l : List X). AllZip R l (take n new)) (take_all n old all) become.first)

-- what follows of each pair
pub zip-then : {X : Type 0} (R S : X → X → Type 0) → ((x y : X) → R x y → S x y) → (old new : List X) → AllZip R old new → AllZip S old new
zip-then R S step [] [] zip = tt
zip-then R S step [] (y ∷ new) zip = absurd zip
zip-then R S step (x ∷ old) [] zip = absurd zip
zip-then R S step (x ∷ old) (y ∷ new) zip = (step x y zip.0, zip-then R S step old new zip.1)

-- where each became what a function makes of it, the list is the mapped one
pub zip-map : {X : Type 0} (f : X → X) (old new : List X) → AllZip (λ x y. y ≡ f x) old new → new ≡ map f old
zip-map f [] [] zip = refl
zip-map f [] (y ∷ new) zip = absurd zip
zip-map f (x ∷ old) [] zip = absurd zip
zip-map {X} f (x ∷ old) (y ∷ new) zip = ap (λ (z : X). z ∷ new) zip.0 ∙ ap (λ (l : List X). f x ∷ l) (zip-map f old new zip.1)
