-- Beginnings of a history, and the entries of one author in it.
use Rattle.std.proofs.Common.{◌≡◌, ◌≢◌, ◌⊎◌, ℕ, zero, suc, ◌+◌, ◌<◌, ◌≤◌, Bool, true, false, eqb, ltb, cond, List, [], ◌∷◌, ◌++◌, length, refl, sym, ap, ◌∙◌, ⊎_elim, arith, length-append, append_assoc, inl, inr, eq-eqb, ne_eqb}
use Rattle.std.specs.List.{All}
use Rattle.std.proofs.lemmas.List.{append-nil, nil_from_length}
use Rattle.std.proofs.lemmas.List.Elements.{All-tail, All-head}
use mathlib.Core.Option.{some, some-ne-none, some-injective}
use native.Mathlib.Decide.{ℕ_discrete}
use lib.ListN.{get_elem?}
use Rattle.version_cell.specs.declared.rule.Entry.{Entry}
use Rattle.version_cell.specs.Histories.{StartsWith, entry, last_words, longer, own}

pub starts_itself : (xs : List Entry) → StartsWith xs xs
starts_itself xs = ([], sym (append-nil xs))

pub starts_trans : (a b c : List Entry) → StartsWith a b → StartsWith b c → StartsWith a c
starts_trans a b c p q = (q.0 ++ p.0, p.1 ∙ ap (λ l. l ++ p.0) q.1 ∙ append_assoc c q.0 p.0)

pub starts_longer : (log more seen : List Entry) → StartsWith log seen → StartsWith (log ++ more) seen
starts_longer log more seen p = (p.0 ++ more, ap (λ l. l ++ more) p.1 ∙ append_assoc seen p.0 more)

pub starts_length : (log seen : List Entry) → StartsWith log seen → length seen ≤ length log
starts_length log seen p = omega (arith, ap length p.1, length-append seen p.0)

pub whole : (log seen : List Entry) → StartsWith log seen → length log ≤ length seen → log ≡ seen
whole log seen p h =
    let n : length p.0 ≡ 0 = omega (arith, ap length p.1, length-append seen p.0) in
    p.1 ∙ ap (λ l. seen ++ l) (nil_from_length p.0 n) ∙ append-nil seen

-- of two beginnings the shorter is a beginning of the longer
pub nested_at : (a b ra rb : List Entry) → a ++ ra ≡ b ++ rb → length a ≤ length b → StartsWith b a
nested_at [] b ra rb e h = (b, refl)
nested_at (x ∷ a) [] ra rb e h = absurd (omega arith)
nested_at (x ∷ a) (y ∷ b) ra rb e h =
    let heads : x ≡ y = cc in
    let tails : a ++ ra ≡ b ++ rb = cc in
    let t = nested_at a b ra rb tails (omega arith) in
    (t.0, λ i. sym heads i ∷ t.1 i)

pub nested : (log a b : List Entry) → StartsWith log a → StartsWith log b → length a ≤ length b → StartsWith b a
nested log a b p q h = nested_at a b p.0 q.0 (sym p.1 ∙ q.1) h

pub own-append : (t : ℕ) (a b : List Entry) → own t (a ++ b) ≡ own t a ++ own t b
own-append t [] b = refl
own-append t (e ∷ a) b = go (eqb e.author t) (own-append t a b)
  where
    go : (c : Bool) → own t (a ++ b) ≡ own t a ++ own t b → cond c (e ∷ own t (a ++ b)) (own t (a ++ b)) ≡ cond c (e ∷ own t a) (own t a) ++ own t b
    go true h = ap (λ l. e ∷ l) h
    go false h = h

-- one more entry of the author
pub own-push : (t : ℕ) (log : List Entry) (row : List ℕ) → own t (log ++ entry t row ∷ []) ≡ own t log ++ entry t row ∷ []
own-push t log row = own-append t log (entry t row ∷ []) ∙ ap (λ (b : Bool). own t log ++ cond b (entry t row ∷ []) []) (eq-eqb t t refl)

-- an entry of another author
pub own-push_other : (t u : ℕ) (log : List Entry) (row : List ℕ) → u ≢ t → own t (log ++ entry u row ∷ []) ≡ own t log
own-push_other t u log row n = own-append t log (entry u row ∷ []) ∙ ap (λ (b : Bool). own t log ++ cond b (entry u row ∷ []) []) (ne_eqb u t n) ∙ append-nil (own t log)

-- between two beginnings with the same entries of an author there are none of it
pub own_between : (t : ℕ) (log a b : List Entry) → StartsWith log b → StartsWith b a → own t log ≡ own t a → own t b ≡ own t a
own_between t log a b p q e =
    let whole_is = ap (own t) p.1 ∙ own-append t b p.0 in
    let part_is = ap (own t) q.1 ∙ own-append t a q.0 in
    let none : length (own t q.0) ≡ 0 = omega (arith, ap length whole_is, ap length part_is, ap length e, length-append (own t b) (own t p.0), length-append (own t a) (own t q.0)) in
    part_is ∙ ap (λ l. own t a ++ l) (nil_from_length (own t q.0) none) ∙ append-nil (own t a)

pub last_words-push : (row : List ℕ) (log : List Entry) (e : Entry) → last_words row (log ++ e ∷ []) ≡ e.row
last_words-push row [] e = refl
last_words-push row (x ∷ log) e = last_words-push x.row log e

-- no entries of an author that none may have
pub own_none : (t : ℕ) (log : List Entry) → All (λ e. e.author ≢ t) log → own t log ≡ []
own_none t [] h = refl
own_none t (e ∷ log) h =
    let P : Entry → Type 0 = λ x. x.author ≢ t in
    ap (λ (b : Bool). cond b (e ∷ own t log) (own t log)) (ne_eqb e.author t (All-head P e log h)) ∙ own_none t log (All-tail P e log h)

pub longer_is : (log a b : List Entry) → StartsWith log a → StartsWith log b → StartsWith log (longer a b) × StartsWith (longer a b) a × StartsWith (longer a b) b
longer_is log a b p q = go (ltb (length a) (length b)) refl
  where
    go : (c : Bool) → ltb (length a) (length b) ≡ c → StartsWith log (cond c b a) × StartsWith (cond c b a) a × StartsWith (cond c b a) b
    go true e = (q, nested log a b p q (grind (arith, e)), starts_itself b)
    go false e = (p, starts_itself a, nested log b a q p (grind (arith, e)))

-- the place of the last element
pub at_end : {A : Type 0} (l : List A) (a b : A) (j : ℕ) → get_elem? (l ++ a ∷ []) j ≡ some b → (get_elem? l j ≡ some b) ⊎ ((j ≡ length l) × (a ≡ b))
at_end [] a b zero e = inr (refl, some-injective a b e)
at_end [] a b (suc j) e = absurd (some-ne-none b (sym e))
at_end (x ∷ xs) a b zero e = inl e
at_end (x ∷ xs) a b (suc j) e = ⊎_elim (λ (was : get_elem? xs j ≡ some b). inl was) (λ (t : (j ≡ length xs) × (a ≡ b)). inr (ap suc t.0, t.1)) (at_end xs a b j e)

pub below_length : {A : Type 0} (l : List A) (j : ℕ) (a : A) → get_elem? l j ≡ some a → j < length l
below_length [] j a e = absurd (some-ne-none a (sym e))
below_length (x ∷ xs) zero a e = omega arith
below_length (x ∷ xs) (suc j) a e = let t = below_length xs j a e in omega arith

-- the entries of the authors below n, counted by author
unfoldable pub total : ℕ → (ℕ → ℕ) → ℕ
total zero f = 0
total (suc n) f = total n f + f n

total_same : (n : ℕ) (f g : ℕ → ℕ) → ((t : ℕ) → t < n → f t ≡ g t) → total n f ≡ total n g
unfolding total
total_same zero f g h = refl
total_same (suc n) f g h = let a = total_same n f g (λ t k. h t (omega arith)) in let b = h n (omega arith) in omega arith

total_none : (n : ℕ) → total n (λ _. 0) ≡ 0
unfolding total
total_none zero = refl
total_none (suc n) = let a = total_none n in omega arith

own-cons : (t : ℕ) (e : Entry) (log : List Entry) → t ≡ e.author → length (own t (e ∷ log)) ≡ length (own t log) + 1
own-cons t e log h = ap (λ (b : Bool). length (cond b (e ∷ own t log) (own t log))) (eq-eqb e.author t (sym h)) ∙ add-one-back (length (own t log))
  where
    add-one-back : (n : ℕ) → suc n ≡ n + 1
    add-one-back n = omega arith

own-cons_other : (t : ℕ) (e : Entry) (log : List Entry) → e.author ≢ t → length (own t (e ∷ log)) ≡ length (own t log)
own-cons_other t e log n = ap (λ (b : Bool). length (cond b (e ∷ own t log) (own t log))) (ne_eqb e.author t n)

total_cons : (n : ℕ) (e : Entry) (log : List Entry) → e.author < n → total n (λ t. length (own t (e ∷ log))) ≡ total n (λ t. length (own t log)) + 1
unfolding total
total_cons zero e log h = absurd (omega arith)
total_cons (suc n) e log h = go (ℕ_discrete e.author n) (λ k. total_cons n e log k)
  where
    go : Dec (e.author ≡ n) → (e.author < n → total n (λ t. length (own t (e ∷ log))) ≡ total n (λ t. length (own t log)) + 1) → total (suc n) (λ t. length (own t (e ∷ log))) ≡ total (suc n) (λ t. length (own t log)) + 1
    go (yes same) _ =
        let here = own-cons n e log (sym same) in
        let below = total_same n (λ t. length (own t (e ∷ log))) (λ t. length (own t log)) (λ t k. own-cons_other t e log (λ s. omega arith)) in
        omega (arith, here, below)
    go (no other) rec = let r = rec (omega arith) in let o = own-cons_other n e log other in omega (arith, r, o)

pub length_by_author : (n : ℕ) (log : List Entry) → All (λ e. e.author < n) log → length log ≡ total n (λ t. length (own t log))
length_by_author n [] h = sym (total_none n)
length_by_author n (e ∷ log) h =
    let P : Entry → Type 0 = λ x. x.author < n in
    let a = length_by_author n log (All-tail P e log h) in
    let b = total_cons n e log (All-head P e log h) in
    omega (arith, a, b)

pub total_le : (n : ℕ) (f g : ℕ → ℕ) → ((t : ℕ) → t < n → f t ≤ g t) → total n f ≤ total n g
unfolding total
total_le zero f g h = omega arith
total_le (suc n) f g h = let a = total_le n f g (λ t k. h t (omega arith)) in let b = h n (omega arith) in omega arith

pub longer_right : (a b : List Entry) → length a < length b → longer a b ≡ b
longer_right a b h = go (ltb (length a) (length b)) refl
  where
    go : (c : Bool) → ltb (length a) (length b) ≡ c → cond c b a ≡ b
    go true e = refl
    go false e = absurd (grind (arith, e))

pub longer_left : (a b : List Entry) → length b ≤ length a → longer a b ≡ a
longer_left a b h = go (ltb (length a) (length b)) refl
  where
    go : (c : Bool) → ltb (length a) (length b) ≡ c → cond c b a ≡ a
    go true e = absurd (grind (arith, e))
    go false e = refl

pub longer_keeps : (P : List Entry → Type 0) (a b : List Entry) → P a → P b → P (longer a b)
longer_keeps P a b p q = go (ltb (length a) (length b))
  where
    go : (c : Bool) → P (cond c b a)
    go true = q
    go false = p
