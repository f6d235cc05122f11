-- Cuts at a byte, pieces, and words.
use Rattle.std.proofs.Common.{◌≡◌, ℕ, zero, suc, ◌-◌, ◌+◌, ◌<◌, ◌≤◌, ◌==◌, not, Bool, true, false, cond, List, [], ◌∷◌, length, take, drop, filter, Some, None, position, nat_lt, refl, ap, subst, ◌∙◌, arith}
use Rattle.std.specs.List.{position_or_len}
use Rattle.std.proofs.lemmas.Bool.Decides.{nat_tests}
use Rattle.std.proofs.lemmas.Grind.{common_steps}
use Rattle.ps_script.specs.Texts.{until, behind, longer, pieces, has_bytes, words_of}

abbrev pub place : ℕ → List ℕ → ℕ
place mark bytes = position_or_len (λ byte. byte == mark) bytes

until-step : (v : Bool) (byte n : ℕ) (rest bytes : List ℕ) → rest ≡ take n bytes → cond v [] (byte ∷ rest) ≡ take (cond (not v) (1 + n) 0) (byte ∷ bytes)
until-step true byte n rest bytes e = refl
until-step false byte n rest bytes e =
    let more : suc n ≡ 1 + n = omega arith in
    subst (λ (k : ℕ). byte ∷ rest ≡ take k (byte ∷ bytes)) more (ap (λ xs. byte ∷ xs) e)

pub until_is : (mark : ℕ) (bytes : List ℕ) → until mark bytes ≡ take (place mark bytes) bytes
until_is mark [] = refl
until_is mark (byte ∷ bytes) = until-step (byte == mark) byte (place mark bytes) (until mark bytes) bytes (until_is mark bytes)

behind-step : (v : Bool) (byte n : ℕ) (rest bytes : List ℕ) → rest ≡ drop (n + 1) bytes → cond v bytes rest ≡ drop (cond (not v) (1 + n) 0 + 1) (byte ∷ bytes)
behind-step true byte n rest bytes e = refl
behind-step false byte n rest bytes e =
    let more : suc (n + 1) ≡ (1 + n) + 1 = omega arith in
    subst (λ (k : ℕ). rest ≡ drop k (byte ∷ bytes)) more e

pub behind_is : (mark : ℕ) (bytes : List ℕ) → behind mark bytes ≡ drop (place mark bytes + 1) bytes
behind_is mark [] = refl
behind_is mark (byte ∷ bytes) = behind-step (byte == mark) byte (place mark bytes) (behind mark bytes) bytes (behind_is mark bytes)

cut-step : (v : Bool) (mark byte : ℕ) (bytes : List ℕ) → longer byte (pieces mark bytes) ≡ (byte ∷ until mark bytes) ∷ pieces mark (behind mark bytes) → cond v ([] ∷ pieces mark bytes) (longer byte (pieces mark bytes)) ≡ cond v [] (byte ∷ until mark bytes) ∷ pieces mark (cond v bytes (behind mark bytes))
cut-step true mark byte bytes e = refl
cut-step false mark byte bytes e = e

longer-cut : (mark byte : ℕ) (bytes : List ℕ) → longer byte (pieces mark bytes) ≡ (byte ∷ until mark bytes) ∷ pieces mark (behind mark bytes)
unfolding pieces
longer-cut mark byte [] = refl
longer-cut mark byte (next ∷ bytes) = ap (longer byte) (cut-step (next == mark) mark next bytes (longer-cut mark next bytes))

-- the first piece, and those behind it
pub pieces_cut : (mark : ℕ) (bytes : List ℕ) → 0 < length bytes → pieces mark bytes ≡ until mark bytes ∷ pieces mark (behind mark bytes)
unfolding pieces
pieces_cut mark [] some = absurd (omega arith)
pieces_cut mark (byte ∷ bytes) some = cut-step (byte == mark) mark byte bytes (longer-cut mark byte bytes)

pub pieces_none : (mark : ℕ) (bytes : List ℕ) → length bytes ≡ 0 → pieces mark bytes ≡ []
unfolding pieces
pieces_none mark [] none = refl
pieces_none mark (byte ∷ bytes) none = absurd (omega arith)

has_bytes_is : (bytes : List ℕ) → 0 < length bytes → has_bytes bytes ≡ true
has_bytes_is [] some = absurd (omega arith)
has_bytes_is (byte ∷ bytes) some = refl

has_none_is : (bytes : List ℕ) → length bytes ≡ 0 → has_bytes bytes ≡ false
has_none_is [] none = refl
has_none_is (byte ∷ bytes) none = absurd (omega arith)

words_cut : (line : List ℕ) → 0 < length line → words_of line ≡ cond (has_bytes (until 32 line)) (until 32 line ∷ words_of (behind 32 line)) (words_of (behind 32 line))
unfolding words_of
words_cut line some = ap (filter has_bytes) (pieces_cut 32 line some)

pub word_first : (line : List ℕ) → 0 < length line → 0 < length (until 32 line) → words_of line ≡ until 32 line ∷ words_of (behind 32 line)
word_first line some word =
    words_cut line some ∙ ap (λ (v : Bool). cond v (until 32 line ∷ words_of (behind 32 line)) (words_of (behind 32 line))) (has_bytes_is (until 32 line) word)

pub word_later : (line : List ℕ) → 0 < length line → length (until 32 line) ≡ 0 → words_of line ≡ words_of (behind 32 line)
word_later line some none =
    words_cut line some ∙ ap (λ (v : Bool). cond v (until 32 line ∷ words_of (behind 32 line)) (words_of (behind 32 line))) (has_none_is (until 32 line) none)

pub words_none : (line : List ℕ) → length line ≡ 0 → words_of line ≡ []
unfolding words_of
words_none line none = ap (filter has_bytes) (pieces_none 32 line none)

some_is : (v : Bool) (p i : ℕ) → cond v (Some p) None ≡ Some i → (v ≡ true) × (p ≡ i)
some_is true p i e = (refl, cc)
some_is false p i e = let bad : ⊥ = cc in absurd bad

none_is : (v : Bool) (p : ℕ) → cond v (Some p) None ≡ None → v ≡ false
none_is true p e = let bad : ⊥ = cc in absurd bad
none_is false p e = refl

pub until_some : (mark : ℕ) (bytes : List ℕ) (i : ℕ) → position (λ byte. byte == mark) bytes ≡ Some i → until mark bytes ≡ take i bytes
until_some mark bytes i e = until_is mark bytes ∙ ap (λ (k : ℕ). take k bytes) (some_is (nat_lt (place mark bytes) (length bytes)) (place mark bytes) i e).1

pub behind_some : (mark : ℕ) (bytes : List ℕ) (i : ℕ) → position (λ byte. byte == mark) bytes ≡ Some i → behind mark bytes ≡ drop (i + 1) bytes
behind_some mark bytes i e = behind_is mark bytes ∙ ap (λ (k : ℕ). drop (k + 1) bytes) (some_is (nat_lt (place mark bytes) (length bytes)) (place mark bytes) i e).1

place_in : (mark : ℕ) (bytes : List ℕ) → nat_lt (place mark bytes) (length bytes) ≡ true → place mark bytes < length bytes
place_in mark bytes e = grind (arith, nat_tests)

pub place_some : (mark : ℕ) (bytes : List ℕ) (i : ℕ) → position (λ byte. byte == mark) bytes ≡ Some i → i < length bytes
place_some mark bytes i e =
    let s = some_is (nat_lt (place mark bytes) (length bytes)) (place mark bytes) i e in
    subst (λ (k : ℕ). k < length bytes) s.1 (place_in mark bytes s.0)

none_past : (mark : ℕ) (bytes : List ℕ) → position (λ byte. byte == mark) bytes ≡ None → length bytes ≤ place mark bytes
none_past mark bytes e =
    let s : nat_lt (place mark bytes) (length bytes) ≡ false = none_is (nat_lt (place mark bytes) (length bytes)) (place mark bytes) e in
    grind (arith, nat_tests)

pub until_none : (mark : ℕ) (bytes : List ℕ) → position (λ byte. byte == mark) bytes ≡ None → until mark bytes ≡ bytes
until_none mark bytes e =
    let past : length bytes ≤ place mark bytes = none_past mark bytes e in
    until_is mark bytes ∙ grind (arith, common_steps)

pub behind_none : (mark : ℕ) (bytes : List ℕ) → position (λ byte. byte == mark) bytes ≡ None → behind mark bytes ≡ []
behind_none mark bytes e =
    let past : length bytes ≤ place mark bytes = none_past mark bytes e in
    behind_is mark bytes ∙ grind (arith, common_steps)

pub drop_first : (n : ℕ) (word : List ℕ) (words : List (List ℕ)) → 0 < n → drop n (word ∷ words) ≡ drop (n - 1) words
drop_first zero word words some = absurd (omega arith)
drop_first (suc n) word words some =
    let less : n ≡ suc n - 1 = omega arith in
    ap (λ (k : ℕ). drop k words) less

pub drop_nothing : (n : ℕ) → drop {A = List ℕ} n [] ≡ []
drop_nothing zero = refl
drop_nothing (suc n) = refl
