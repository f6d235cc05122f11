-- Texts that end at a byte: what stands before it and what stands behind it are determined.
use Rattle.std.proofs.Common.{◌≡◌, ℕ, Bool, true, false, List, [], ◌∷◌, ◌++◌, length, refl, sym, subst, arith}
use Rattle.std.specs.Prelude.{⊤, nat_le}
use Rattle.std.specs.Char.{is_ascii_digit}
use Rattle.std.specs.List.{list_all}
use Rattle.std.proofs.lemmas.Bool.{and_parts}
use Rattle.std.proofs.lemmas.Bool.Decides.{nat_tests}

pub head_same : (x y : ℕ) (s t : List ℕ) → x ∷ s ≡ y ∷ t → x ≡ y
head_same x y s t same = cc

pub tail_same : (x y : ℕ) (s t : List ℕ) → x ∷ s ≡ y ∷ t → s ≡ t
tail_same x y s t same = cc

-- the first byte, if there is one, isn't of these
abbrev pub Stops : (ℕ → Bool) → List ℕ → Type 0
Stops test [] = ⊤
Stops test (byte ∷ rest) = test byte ≡ false

-- true and false
both : (b : Bool) → b ≡ true → b ≡ false → ⊥
both b is isnt = cc

pub cut : (test : ℕ → Bool) (xs ys s t : List ℕ) → list_all test xs ≡ true → list_all test ys ≡ true → Stops test s → Stops test t
    → xs ++ s ≡ ys ++ t → (xs ≡ ys) × (s ≡ t)
cut test [] [] s t in_xs in_ys end_s end_t same = (refl, same)
cut test [] (y ∷ ys) s t in_xs in_ys end_s end_t same =
    absurd (both (test y) (and_parts (test y) (list_all test ys) in_ys).0 (subst (Stops test) same end_s))
cut test (x ∷ xs) [] s t in_xs in_ys end_s end_t same =
    absurd (both (test x) (and_parts (test x) (list_all test xs) in_xs).0 (subst (Stops test) (sym same) end_t))
cut test (x ∷ xs) (y ∷ ys) s t in_xs in_ys end_s end_t same =
    let rest = cut test xs ys s t (and_parts (test x) (list_all test xs) in_xs).1 (and_parts (test y) (list_all test ys) in_ys).1 end_s end_t (tail_same x y (xs ++ s) (ys ++ t) same) in
    let first : x ≡ y = head_same x y (xs ++ s) (ys ++ t) same in
    let others : xs ≡ ys = rest.0 in
    (cc, rest.1)

-- of one length
pub cut_length : (xs ys s t : List ℕ) → length xs ≡ length ys → xs ++ s ≡ ys ++ t → (xs ≡ ys) × (s ≡ t)
cut_length [] [] s t lengths same = (refl, same)
cut_length [] (y ∷ ys) s t lengths same = absurd (omega arith)
cut_length (x ∷ xs) [] s t lengths same = absurd (omega arith)
cut_length (x ∷ xs) (y ∷ ys) s t lengths same =
    let rest = cut_length xs ys s t (omega arith) (tail_same x y (xs ++ s) (ys ++ t) same) in
    let first : x ≡ y = head_same x y (xs ++ s) (ys ++ t) same in
    let others : xs ≡ ys = rest.0 in
    (cc, rest.1)

pub all_join : (test : ℕ → Bool) (xs ys : List ℕ) → list_all test xs ≡ true → list_all test ys ≡ true → list_all test (xs ++ ys) ≡ true
all_join test [] ys in_xs in_ys = in_ys
all_join test (x ∷ xs) ys in_xs in_ys =
    let parts = and_parts (test x) (list_all test xs) in_xs in
    rw parts.0 (all_join test xs ys parts.1 in_ys)

pub all_weaker : (test wider : ℕ → Bool) → ((byte : ℕ) → test byte ≡ true → wider byte ≡ true) → (xs : List ℕ) → list_all test xs ≡ true → list_all wider xs ≡ true
all_weaker test wider more [] in_xs = refl
all_weaker test wider more (x ∷ xs) in_xs =
    let parts = and_parts (test x) (list_all test xs) in_xs in
    rw (more x parts.0) (all_weaker test wider more xs parts.1)

-- neither a space nor a line feed
abbrev pub is_visible : ℕ → Bool
is_visible byte = nat_le 33 byte

pub digit_visible : (byte : ℕ) → is_ascii_digit byte ≡ true → is_visible byte ≡ true
digit_visible byte is = grind (arith, nat_tests)

pub blank_no_digit : (byte : ℕ) → is_visible byte ≡ false → is_ascii_digit byte ≡ false
blank_no_digit byte is = grind (arith, nat_tests)

pub stops_digits : (s : List ℕ) → Stops is_visible s → Stops is_ascii_digit s
stops_digits [] is = tt
stops_digits (byte ∷ s) is = blank_no_digit byte is
