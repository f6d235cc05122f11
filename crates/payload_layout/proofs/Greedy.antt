-- Packs are filled before another begins.
use Rattle.std.proofs.Common.{◌≡◌, ℕ, Bool, true, false, not, ◌&&◌, List, [], ◌∷◌, ◌++◌, refl, sym, ap, subst, ◌∙◌, append_assoc}
use Rattle.std.specs.Prelude.{fold, reverse, if◌then◌else◌}
use Rattle.std.proofs.lemmas.List.{reverse-append, reverse-reverse}
use Rattle.payload_layout.specs.Packing.{Packed, fits, alone, packed_on, packs_of, IsFull}

-- each pack before the one in front of it, the last first
abbrev Chain : (X : Type 0) → (X → ℕ) → ℕ → List (Packed X) → Type 0
Chain X size room [] = Unit {0}
Chain X size room (last ∷ []) = Unit {0}
Chain X size room (next ∷ pack ∷ packs) = IsFull size room pack next × Chain X size room (pack ∷ packs)

chain-tail : (X : Type 0) (size : X → ℕ) (room : ℕ) (pack : Packed X) (packs : List (Packed X)) → Chain X size room (pack ∷ packs) → Chain X size room packs
chain-tail X size room pack [] chain = tt
chain-tail X size room pack (next ∷ packs) chain = chain.1

chain-at : (X : Type 0) (size : X → ℕ) (room : ℕ) (later : List (Packed X)) (next pack : Packed X) (earlier : List (Packed X)) → Chain X size room (later ++ next ∷ pack ∷ earlier) → IsFull size room pack next
chain-at X size room [] next pack earlier chain = chain.0
chain-at X size room (last ∷ later) next pack earlier chain = chain-at X size room later next pack earlier (chain-tail X size room last (later ++ next ∷ pack ∷ earlier) chain)

joined-chain : (X : Type 0) (size : X → ℕ) (room : ℕ) (last : Packed X) (packs : List (Packed X)) (x : X) → Chain X size room (last ∷ packs) → Chain X size room (record { frames = last.frames ++ x ∷ []; cut = false } ∷ packs)
joined-chain X size room last [] x chain = tt
joined-chain X size room last (pack ∷ packs) x chain =
    (record { first = chain.0.first; later = chain.0.later ++ x ∷ []; begins = ap (λ (l : List X). l ++ x ∷ []) chain.0.begins; full = chain.0.full }, chain.1)

on-chain : (X : Type 0) (size : X → ℕ) (room : ℕ) (packs : List (Packed X)) (x : X) → Chain X size room packs → Chain X size room (packed_on size room packs x)
on-chain X size room [] x chain = tt
on-chain X size room (last ∷ packs) x chain = by_test last.cut (fits size room (last.frames ++ x ∷ [])) refl refl
  where
    no_room : (c f : Bool) → (not c && f) ≡ false → c ≡ false → f ≡ false
    no_room true f e is = absurd (let no : Path Bool true false = is in cc)
    no_room false f e is = e

    begun : (c f : Bool) → last.cut ≡ c → fits size room (last.frames ++ x ∷ []) ≡ f → (not c && f) ≡ false → IsFull size room last (alone size room x)
    begun c f cut_is fits_is e = record { first = x; later = []; begins = refl; full = λ is. fits_is ∙ no_room c f e (sym cut_is ∙ is) }

    by_test : (c f : Bool) → last.cut ≡ c → fits size room (last.frames ++ x ∷ []) ≡ f → Chain X size room (if not c && f then record { frames = last.frames ++ x ∷ []; cut = false } ∷ packs else alone size room x ∷ last ∷ packs)
    by_test true f cut_is fits_is = (begun true f cut_is fits_is refl, chain)
    by_test false true cut_is fits_is = joined-chain X size room last packs x chain
    by_test false false cut_is fits_is = (begun false false cut_is fits_is refl, chain)

fold-chain : (X : Type 0) (size : X → ℕ) (room : ℕ) (packs : List (Packed X)) (frames : List X) → Chain X size room packs → Chain X size room (fold (packed_on size room) packs frames)
fold-chain X size room packs [] chain = chain
fold-chain X size room packs (x ∷ frames) chain = fold-chain X size room (packed_on size room packs x) frames (on-chain X size room packs x chain)

turned : (X : Type 0) (before : List X) (pack next : X) (after : List X) → reverse (before ++ pack ∷ next ∷ after) ≡ reverse after ++ next ∷ pack ∷ reverse before
turned X before pack next after =
    reverse-append before (pack ∷ next ∷ after)
    ∙ ap (λ (l : List X). l ++ reverse before) (reverse-append (pack ∷ []) (next ∷ after) ∙ ap (λ (l : List X). l ++ pack ∷ []) (reverse-append (next ∷ []) after))
    ∙ append_assoc (reverse after ++ next ∷ []) (pack ∷ []) (reverse before)
    ∙ append_assoc (reverse after) (next ∷ []) (pack ∷ reverse before)

pub packs-full : {X : Type 0} (size : X → ℕ) (room : ℕ) (frames : List X) (before : List (Packed X)) (pack next : Packed X) (after : List (Packed X)) → packs_of size room frames ≡ before ++ pack ∷ next ∷ after → IsFull size room pack next
packs-full {X} size room frames before pack next after e =
    let last_first = fold (packed_on size room) [] frames in
    let is : last_first ≡ reverse after ++ next ∷ pack ∷ reverse before = sym (reverse-reverse last_first) ∙ ap (λ (l : List (Packed X)). reverse l) e ∙ turned (Packed X) before pack next after in
    chain-at X size room (reverse after) next pack (reverse before) (subst (Chain X size room) is (fold-chain X size room [] frames tt))
