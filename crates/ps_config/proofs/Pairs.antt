-- Pairs of what passes a test.
use Rattle.std.proofs.Common.{◌≡◌, Bool, true, false, cond, List, [], ◌∷◌, ◌++◌, map, filter, All, AllPairs, refl, sym, ap, ◌∙◌, subst, arith, append_assoc, append-nil}
use Rattle.std.proofs.lemmas.List.{map-append}
use Rattle.std.proofs.lemmas.List.Elements.{filter-append}
use Rattle.std.proofs.lemmas.List.Quantifiers.{all_pairs_push}
use Rattle.config_tables.specs.Tables.{Located}

abbrev pub Test : Type 0
Test = Located → Bool

module _ {X : Type 0} (R : X → X → Type 0) (p : Test) (f : Located → X) where
  pairs_from : (before rest : List Located) → AllPairs R (map f (filter p before))
      → ((front : List Located) (t : Located) (back : List Located) → rest ≡ front ++ t ∷ back → p t ≡ true → All (λ x. R x (f t)) (map f (filter p (before ++ front))))
      → AllPairs R (map f (filter p (before ++ rest)))
  pairs_from before [] so each = subst (λ (l : List Located). AllPairs R (map f (filter p l))) (sym (append-nil before)) so
  pairs_from before (t ∷ rest) so each =
      let more : AllPairs R (map f (filter p (before ++ t ∷ []))) = go (p t) refl in
      subst (λ (l : List Located). AllPairs R (map f (filter p l))) (append_assoc before (t ∷ []) rest)
      (pairs_from (before ++ t ∷ []) rest more
      (λ front s back is passes. subst (λ (l : List Located). All (λ x. R x (f s)) (map f (filter p l))) (sym (append_assoc before (t ∷ []) front)) (each (t ∷ front) s back (ap (λ l. t ∷ l) is) passes)))
    where
      go : (b : Bool) → p t ≡ b → AllPairs R (map f (filter p (before ++ t ∷ [])))
      go true is =
          let all : All (λ x. R x (f t)) (map f (filter p before)) = subst (λ (l : List Located). All (λ x. R x (f t)) (map f (filter p l))) (append-nil before) (each [] t rest refl is) in
          let parts : map f (filter p (before ++ t ∷ [])) ≡ map f (filter p before) ++ f t ∷ [] =
          ap (map f) (filter-append p before (t ∷ []) ∙ ap (λ b. filter p before ++ cond b (t ∷ []) []) is) ∙ map-append f (filter p before) (t ∷ []) in
          subst (AllPairs R) (sym parts) (all_pairs_push R (map f (filter p before)) (f t) so all)
      go false is =
          let parts : filter p (before ++ t ∷ []) ≡ filter p before = filter-append p before (t ∷ []) ∙ ap (λ b. filter p before ++ cond b (t ∷ []) []) is ∙ append-nil (filter p before) in
          subst (λ (l : List Located). AllPairs R (map f l)) (sym parts) so

  -- where each stands in the relation to all that pass before it, each two do
  pub pairs : (ts : List Located) → ((front : List Located) (t : Located) (back : List Located) → ts ≡ front ++ t ∷ back → p t ≡ true → All (λ x. R x (f t)) (map f (filter p front)))
      → AllPairs R (map f (filter p ts))
  pairs ts each = pairs_from [] ts (λ i j d lt within. absurd (omega arith)) each
