-- The versions of a source's stores: the list grows at its end, and is read from there.
use Rattle.std.proofs.Common.{◌≡◌, refl, sym, ap, ◌∙◌, arith, ℕ, ◌+◌, ◌-◌, ◌<◌, ◌≤◌, min, Bool, true, false, cond, List, [], ◌∷◌, ◌++◌, length, get_or, take, slice_get, Some, None}
use Rattle.std.specs.Prelude.{◌==◌, reverse, option_and_then, find}
use Rattle.std.proofs.lemmas.List.{get_or-reverse, length-reverse, length-take, reverse-append, reverse-reverse, take-append-le, take_all, take_more}
use Rattle.std.proofs.lemmas.Option.{get_or_from_slice_get, slice_get-get_or, slice_get_within}
use Rattle.gateway_core.specs.declared.collected.StoreVersion.{StoreVersion}
use Rattle.gateway_core.specs.declared.collected.Versions.{Versions}
use Rattle.gateway_core.specs.Lived.{first_kept, first_version, kept_on, last_store, version_in}
use Rattle.gateway_core.specs.Standing.{KeepsOn, versions_in}

-- one more at the end
pub reverse-more : {X : Type 0} (xs : List X) (x : X) → reverse (xs ++ x ∷ []) ≡ x ∷ reverse xs
reverse-more xs x = reverse-append xs (x ∷ [])

-- ---- the last one

first-store : (xs : List StoreVersion) → last_store xs ≡ (get_or xs 0 first_version).store
first-store [] = refl
first-store (x ∷ xs) = refl

pub last-some : (xs : List StoreVersion) (x : StoreVersion) → slice_get xs (length xs - 1) ≡ Some x → x.store ≡ last_store (reverse xs)
last-some xs x is =
    let low : length xs - 1 < length xs = slice_get_within xs (length xs - 1) x is in
    let none : length xs - 1 - 0 ≡ length xs - 1 = omega arith in
    sym (first-store (reverse xs)
    ∙ ap (λ (v : StoreVersion). v.store) (get_or-reverse xs 0 first_version (omega (arith, low)) ∙ ap (λ (n : ℕ). get_or xs n first_version) none
    ∙ get_or_from_slice_get xs (length xs - 1) x first_version is))

pub last-none : (xs : List StoreVersion) → slice_get xs (length xs - 1) ≡ None → 0 ≡ last_store (reverse xs)
last-none [] is = refl
last-none (x ∷ xs) is =
    let low : length (x ∷ xs) - 1 < length (x ∷ xs) = omega arith in
    let there = slice_get-get_or (x ∷ xs) (length (x ∷ xs) - 1) x low in
    absurd (let apart : None ≡ Some (get_or (x ∷ xs) (length (x ∷ xs) - 1) x) → ⊥ = λ same. cc in apart (sym is ∙ there))

-- ---- the first ones

-- all, where they are no more
pub first-all : (most : ℕ) (kept : List StoreVersion) → length kept ≤ most + 1 → first_kept most kept ≡ kept
first-all most kept few = ap (λ (l : List StoreVersion). reverse l) (take_all (most + 1) (reverse kept) (omega (arith, few, length-reverse kept))) ∙ reverse-reverse kept

-- one more is left out, where they are as many
first-full : (most : ℕ) (kept : List StoreVersion) (now : StoreVersion) → most < length kept → first_kept most (now ∷ kept) ≡ first_kept most kept
first-full most kept now full =
    ap (λ (l : List StoreVersion). reverse (take (most + 1) l)) (reverse-append (now ∷ []) kept)
    ∙ ap (λ (l : List StoreVersion). reverse l) (take-append-le (most + 1) (reverse kept) (now ∷ []) (omega (arith, full, length-reverse kept)))

-- how many there are
first-count : (most : ℕ) (kept : List StoreVersion) → length (first_kept most kept) ≡ min (most + 1) (length kept)
first-count most kept =
    length-reverse (take (most + 1) (reverse kept)) ∙ length-take (most + 1) (reverse kept) ∙ ap (min (most + 1)) (length-reverse kept)

-- ---- one more is kept

pub kept-same : (kept : List StoreVersion) (now : StoreVersion) → (now.store == last_store kept) ≡ true → kept_on kept now ≡ kept
kept-same kept now is = ap (λ (b : Bool). cond b kept (now ∷ kept)) is

pub kept-more : (kept : List StoreVersion) (now : StoreVersion) → (now.store == last_store kept) ≡ false → kept_on kept now ≡ now ∷ kept
kept-more kept now is = ap (λ (b : Bool). cond b kept (now ∷ kept)) is

pub one-more : (kept : List StoreVersion) (now : StoreVersion) (b : Bool) → (now.store == last_store kept) ≡ b → length (kept_on kept now) ≤ length kept + 1
one-more kept now true is = let same = ap (λ (l : List StoreVersion). length l) (kept-same kept now is) in omega (arith, same)
one-more kept now false is = let more = ap (λ (l : List StoreVersion). length l) (kept-more kept now is) in omega (arith, more)

full-same : (most : ℕ) (kept : List StoreVersion) (now : StoreVersion) (b : Bool) → (now.store == last_store kept) ≡ b → most < length kept → first_kept most (kept_on kept now) ≡ first_kept most kept
full-same most kept now true is full = ap (first_kept most) (kept-same kept now is)
full-same most kept now false is full = ap (first_kept most) (kept-more kept now is) ∙ first-full most kept now full

-- so many are kept, or fewer
module _ (most : ℕ) (now : StoreVersion) (old : Versions) where
  many : (kept : List StoreVersion) → versions_in old ≡ first_kept most kept → length old.kept.items ≡ min (most + 1) (length kept)
  many kept is = sym (length-reverse old.kept.items) ∙ ap (λ (l : List StoreVersion). length l) is ∙ first-count most kept

  pub keeps-full : most < length old.kept.items → KeepsOn most now old old
  keeps-full full kept is = is ∙ sym (full-same most kept now (now.store == last_store kept) refl (let n = many kept is in omega (arith, n, full)))

  whole : (kept : List StoreVersion) → versions_in old ≡ first_kept most kept → length old.kept.items ≤ most → (length kept ≤ most) × (kept ≡ versions_in old)
  whole kept is few =
      let short : length kept ≤ most = let n = many kept is in omega (arith, n, few) in
      (short, sym (is ∙ first-all most kept (omega (arith, short))))

  pub keeps-same : length old.kept.items ≤ most → (now.store == last_store (versions_in old)) ≡ true → KeepsOn most now old old
  keeps-same few same kept is =
      let all = whole kept is few in
      is ∙ sym (ap (first_kept most) (kept-same kept now (ap (λ (l : List StoreVersion). now.store == last_store l) all.1 ∙ same)))

  pub keeps-more : (new : Versions) → length old.kept.items ≤ most → (now.store == last_store (versions_in old)) ≡ false → new.kept.items ≡ old.kept.items ++ now ∷ [] → KeepsOn most now old new
  keeps-more new few other more kept is =
      let all = whole kept is few in
      let on : kept_on kept now ≡ now ∷ kept = kept-more kept now (ap (λ (l : List StoreVersion). now.store == last_store l) all.1 ∙ other) in
      ap (λ (l : List StoreVersion). reverse l) more
      ∙ reverse-more old.kept.items now
      ∙ ap (λ (l : List StoreVersion). now ∷ l) (sym all.1)
      ∙ sym (first-all most (now ∷ kept) (let short = all.0 in omega (arith, short)))
      ∙ sym (ap (first_kept most) on)

-- ---- the version of a store

found : (x : StoreVersion) (rest : List StoreVersion) (store : ℕ) (b : Bool) → (x.store == store) ≡ b → version_in (x ∷ rest) store ≡ cond b x.version (version_in rest store)
found x rest store true is = ap (λ (b : Bool). option_and_then (λ (one : StoreVersion). one.version) (cond b (Some x) (find (λ one. one.store == store) rest))) is
found x rest store false is = ap (λ (b : Bool). option_and_then (λ (one : StoreVersion). one.version) (cond b (Some x) (find (λ one. one.store == store) rest))) is

-- of the first ones and one more
pub version-more : (xs : List StoreVersion) (n store : ℕ) (x : StoreVersion) (b : Bool) → n < length xs → x ≡ get_or xs n x → (x.store == store) ≡ b
    → version_in (reverse (take (n + 1) xs)) store ≡ cond b x.version (version_in (reverse (take n xs)) store)
version-more xs n store x b low is test =
    ap (λ (l : List StoreVersion). version_in l store) (ap (λ (l : List StoreVersion). reverse l) more ∙ reverse-more (take n xs) x)
    ∙ found x (reverse (take n xs)) store b test
  where
    more : take (n + 1) xs ≡ take n xs ++ x ∷ []
    more = take_more xs n x low ∙ ap (λ (y : StoreVersion). take n xs ++ y ∷ []) (sym is)
