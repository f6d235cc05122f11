-- Numbers in bytes, and back.
use Rattle.std.proofs.Common.{◌≡◌, refl, sym, ap, ◌∙◌, subst, arith, ℕ, zero, suc, ◌+◌, ◌*◌, ◌<◌, ◌≤◌, ◌^◌, List, [], ◌∷◌, ◌++◌, length, get_or, take, drop, append_assoc, All}
use Rattle.std.proofs.Common.{inl, inr, set}
use Rattle.std.specs.Prelude.{◌⊎◌}
use Rattle.std.proofs.lemmas.Bool.{cases_eq}
use Rattle.std.proofs.lemmas.List.{drop-drop, flat_map_more, get_or-drop, get_or-set_other, get_or-set_same, length-append, length-drop, length-take, same_lists, take_more}
use Rattle.std.proofs.lemmas.Slice.{take-put_mid}
use Rattle.sha2.proofs.Facts256.{length-sha256}
use Rattle.sha2.specs.Sha256.{sha256}
use Rattle.std.proofs.Common.{Bool, true, ◌&&◌}
use Rattle.std.proofs.lemmas.Bool.Decides.{nat_tests}
use lib.Dec.{eqb}
use lib.Pointwise.{pointwise}
use borrow.Rule.Slice.PartMut.{mid_of, post_of, put_mid}
use Rattle.byteorder.specs.Endian.{little_bytes, little_number}
use Rattle.byteorder.specs.Numbers.{length-bytes_low_first, little_from-lt, little_number-reads_back}
use Rattle.stored_state.specs.declared.state.StoredState.{StoredState}
use Rattle.stored_state.specs.States.{IsRead, IsState, body_of, checksum_of, head, words_bytes, words_in, written}

four : (word : ℕ) → length (little_bytes 4 word) ≡ 4
four word = length-bytes_low_first 0 4 word

drop-front : (front rest : List ℕ) (n : ℕ) → length front ≡ n → drop n (front ++ rest) ≡ rest
drop-front [] rest n e = ap (λ (k : ℕ). drop k rest) (sym e)
drop-front (x ∷ front) rest zero e = absurd (omega arith)
drop-front (x ∷ front) rest (suc n) e = drop-front front rest n (omega arith)

take-front : (front rest : List ℕ) (n : ℕ) → length front ≡ n → take n (front ++ rest) ≡ front
take-front [] rest n e = ap (λ (k : ℕ). take k rest) (sym e)
take-front (x ∷ front) rest zero e = absurd (omega arith)
take-front (x ∷ front) rest (suc n) e = ap (λ l. x ∷ l) (take-front front rest n (omega arith))

pub words-length : (words : List ℕ) → length (words_bytes words) ≡ 4 * length words
words-length [] = refl
words-length (word ∷ words) = omega (arith, words-length words, four word, length-append (little_bytes 4 word) (words_bytes words))

pub words-back : (words rest : List ℕ) → All (λ word. word < 2 ^ 32) words → words_in (length words) (words_bytes words ++ rest) ≡ words
words-back [] rest all = refl
words-back (word ∷ words) rest all =
    let fits : word < 256 ^ 4 = all 0 word (omega arith) in
    let whole : (little_bytes 4 word ++ words_bytes words) ++ rest ≡ little_bytes 4 word ++ (words_bytes words ++ rest) = rw append_assoc refl in
    let first : little_number 4 ((little_bytes 4 word ++ words_bytes words) ++ rest) ≡ word =
    ap (λ (l : List ℕ). little_number 4 l) whole ∙ little_number-reads_back 4 word (words_bytes words ++ rest) fits in
    let behind : drop 4 ((little_bytes 4 word ++ words_bytes words) ++ rest) ≡ words_bytes words ++ rest =
    ap (λ (l : List ℕ). drop 4 l) whole ∙ drop-front (little_bytes 4 word) (words_bytes words ++ rest) 4 (four word) in
    ap (λ (n : ℕ). n ∷ words_in (length words) (drop 4 ((little_bytes 4 word ++ words_bytes words) ++ rest))) first
    ∙ ap (λ (l : List ℕ). word ∷ l) (ap (words_in (length words)) behind ∙ words-back words rest (λ k d within. all (suc k) d (omega arith)))

pub words-at : (count : ℕ) (bytes : List ℕ) (k d : ℕ) → k < count → get_or (words_in count bytes) k d ≡ little_number 4 (drop (4 * k) bytes)
words-at zero bytes k d below = absurd (omega arith)
words-at (suc count) bytes zero d below = refl
words-at (suc count) bytes (suc k) d below =
    words-at count (drop 4 bytes) k d (omega arith) ∙ ap (λ (l : List ℕ). little_number 4 l) (drop-drop (4 * k) 4 bytes) ∙ ap (λ (n : ℕ). little_number 4 (drop n bytes)) (omega arith)

pub words-count : (count : ℕ) (bytes : List ℕ) → length (words_in count bytes) ≡ count
words-count zero bytes = refl
words-count (suc count) bytes = ap suc (words-count count (drop 4 bytes))

-- ---- a state

parts-of : (a b c d : List ℕ) → (a ++ b ++ c) ++ d ≡ a ++ (b ++ (c ++ d))
parts-of [] b c d = append-thrice b c d
  where
    append-thrice : (b c d : List ℕ) → (b ++ c) ++ d ≡ b ++ (c ++ d)
    append-thrice [] c d = refl
    append-thrice (x ∷ b) c d = ap (λ (l : List ℕ). x ∷ l) (append-thrice b c d)
parts-of (x ∷ a) b c d = ap (λ (l : List ℕ). x ∷ l) (parts-of a b c d)

pub state-read : (state : StoredState) → IsState state → IsRead state (written state)
state-read state is = record { fingerprint = fingerprint; words = words }
  where
    parts : written state ≡ head ++ (state.fingerprint ++ (words_bytes state.words ++ checksum_of (body_of state)))
    parts = parts-of head state.fingerprint (words_bytes state.words) (checksum_of (body_of state))

    fingerprint : take 32 (drop 8 (written state)) ≡ state.fingerprint
    fingerprint =
        ap (λ (l : List ℕ). take 32 (drop 8 l)) parts
        ∙ take-front state.fingerprint (words_bytes state.words ++ checksum_of (body_of state)) 32 is.fingerprint

    words : words_in 72 (drop 40 (written state)) ≡ state.words
    words =
        ap (λ (l : List ℕ). words_in 72 (drop 40 l)) parts
        ∙ ap (λ (l : List ℕ). words_in 72 l) (drop-front (head ++ state.fingerprint) (words_bytes state.words ++ checksum_of (body_of state)) 40 (omega (arith, is.fingerprint, length-append head state.fingerprint)))
        ∙ subst (λ (n : ℕ). words_in n (words_bytes state.words ++ checksum_of (body_of state)) ≡ state.words) is.count (words-back state.words (checksum_of (body_of state)) is.words)

pub same-state : (one other : StoredState) → one.fingerprint ≡ other.fingerprint → one.words ≡ other.words → one ≡ other
same-state one other fingerprint words =
    ap (λ (l : List ℕ). record { fingerprint = l; words = one.words }) fingerprint ∙ ap (λ (l : List ℕ). record { fingerprint = other.fingerprint; words = l }) words

pub same-states : (one other : StoredState) → IsState one → IsState other → written one ≡ written other → one ≡ other
same-states one other is_one is_other same =
    let first = state-read one is_one in
    let second = state-read other is_other in
    let fingerprint : one.fingerprint ≡ other.fingerprint = sym first.fingerprint ∙ ap (λ (l : List ℕ). take 32 (drop 8 l)) same ∙ second.fingerprint in
    let words : one.words ≡ other.words = sym first.words ∙ ap (λ (l : List ℕ). words_in 72 (drop 40 l)) same ∙ second.words in
    same-state one other fingerprint words

checksum-length : (body : List ℕ) → length (checksum_of body) ≡ 8
checksum-length body = omega (arith, length-take 8 (sha256 body), length-sha256 body)

pub written-length : (state : StoredState) → IsState state → length (written state) ≡ 336
written-length state is =
    omega (
      arith,
      is.fingerprint,
      is.count,
      words-length state.words,
      checksum-length (body_of state),
      length-append (body_of state) (checksum_of (body_of state)),
      length-append head (state.fingerprint ++ words_bytes state.words),
      length-append state.fingerprint (words_bytes state.words),
    )

-- ---- laying

pub words-more : (words bytes buf rest : List ℕ) (i k : ℕ) → i < length words → 4 * i + 4 ≤ length bytes → buf ≡ little_bytes 4 (get_or words i 0) ++ rest
    → take (4 * i) bytes ≡ words_bytes (take i words) → take (4 * (i + 1)) (put_mid (4 * i) k bytes buf) ≡ words_bytes (take (i + 1) words)
words-more words bytes buf rest i k low room is before =
    let word = get_or words i 0 in
    let front = take (4 * i) bytes in
    let bytes4 = little_bytes 4 word in
    let post = post_of (4 * i) k bytes in
    let count : 4 * (i + 1) ≡ length (front ++ bytes4) = omega (arith, length-append front bytes4, four word, length-take (4 * i) bytes, room) in
    let split : put_mid (4 * i) k bytes buf ≡ (front ++ bytes4) ++ (rest ++ post) =
    ap (λ (l : List ℕ). front ++ (l ++ post)) is ∙ split-of front bytes4 rest post in
    ap (λ (l : List ℕ). take (4 * (i + 1)) l) split
    ∙ take-front (front ++ bytes4) (rest ++ post) (4 * (i + 1)) (sym count)
    ∙ ap (λ (l : List ℕ). l ++ bytes4) before
    ∙ flat_map_more (little_bytes 4) [] (take i words) word
    ∙ ap (λ (l : List ℕ). words_bytes l) (sym (take_more words i 0 low))
  where
    split-of : (a b c d : List ℕ) → a ++ ((b ++ c) ++ d) ≡ (a ++ b) ++ (c ++ d)
    split-of [] [] c d = refl
    split-of [] (x ∷ b) c d = ap (λ (l : List ℕ). x ∷ l) (split-of [] b c d)
    split-of (x ∷ a) b c d = ap (λ (l : List ℕ). x ∷ l) (split-of a b c d)

put-length : (a k : ℕ) (xs ys : List ℕ) → a + k ≤ length xs → length ys ≡ k → length (put_mid a k xs ys) ≡ length xs
put-length a k xs ys room same =
    omega (arith, length-append (take a xs) (ys ++ drop k (drop a xs)), length-append ys (drop k (drop a xs)), length-take a xs, length-drop k (drop a xs), length-drop a xs, room, same)

none-left : (xs : List ℕ) → length xs ≡ 0 → xs ≡ []
none-left [] none = refl
none-left (x ∷ xs) none = absurd (omega arith)

no-more : (xs : List ℕ) → xs ++ [] ≡ xs
no-more [] = refl
no-more (x ∷ xs) = ap (λ (l : List ℕ). x ∷ l) (no-more xs)

-- what stands in front of the checksum, once the parts are laid
pub body-laid : (bytes fingerprint words : List ℕ) → length bytes ≡ 336 → length fingerprint ≡ 32 → length words ≡ 288
    → take 328 (put_mid 40 288 (put_mid 8 32 (head ++ drop 8 bytes) fingerprint) words) ≡ head ++ fingerprint ++ words
body-laid bytes fingerprint words size short long =
    let first = head ++ drop 8 bytes in
    let second = put_mid 8 32 first fingerprint in
    let one : length first ≡ 336 = omega (arith, length-append head (drop 8 bytes), length-drop 8 bytes, size) in
    let two : length second ≡ 336 = put-length 8 32 first fingerprint (omega (arith, one)) short ∙ one in
    take-put_mid 40 288 second words 328 (omega (arith, long)) (omega (arith, two))
    ∙ ap (λ (l : List ℕ). l ++ words) (take-put_mid 8 32 first fingerprint 40 (omega (arith, short)) (omega (arith, one)))
    ∙ parts-two head fingerprint words
  where
    parts-two : (a b c : List ℕ) → (a ++ b) ++ c ≡ a ++ (b ++ c)
    parts-two [] b c = refl
    parts-two (x ∷ a) b c = ap (λ (l : List ℕ). x ∷ l) (parts-two a b c)

pub state-laid : (bytes fingerprint words sum : List ℕ) → length bytes ≡ 336 → length fingerprint ≡ 32 → length words ≡ 288 → length sum ≡ 8
    → put_mid 328 8 (put_mid 40 288 (put_mid 8 32 (head ++ drop 8 bytes) fingerprint) words) sum ≡ (head ++ fingerprint ++ words) ++ sum
state-laid bytes fingerprint words sum size short long eight =
    let first = head ++ drop 8 bytes in
    let second = put_mid 8 32 first fingerprint in
    let third = put_mid 40 288 second words in
    let one : length first ≡ 336 = omega (arith, length-append head (drop 8 bytes), length-drop 8 bytes, size) in
    let two : length second ≡ 336 = put-length 8 32 first fingerprint (omega (arith, one)) short ∙ one in
    let three : length third ≡ 336 = put-length 40 288 second words (omega (arith, two)) long ∙ two in
    let none : drop 8 (drop 328 third) ≡ [] = none-left (drop 8 (drop 328 third)) (omega (arith, length-drop 8 (drop 328 third), length-drop 328 third, three)) in
    ap (λ (l : List ℕ). take 328 third ++ (sum ++ l)) none
    ∙ ap (λ (l : List ℕ). take 328 third ++ l) (no-more sum)
    ∙ ap (λ (l : List ℕ). l ++ sum) (body-laid bytes fingerprint words size short long)

-- ---- reading

pub read-more : (words bytes : List ℕ) (i x : ℕ) → i < length words → x ≡ little_number 4 (drop (4 * i) bytes)
    → ((k d : ℕ) → k < i → get_or words k d ≡ little_number 4 (drop (4 * k) bytes)) → (k d : ℕ) → k < i + 1 → get_or (set words i x) k d ≡ little_number 4 (drop (4 * k) bytes)
read-more words bytes i x low is before k d below = by_place (cases_eq k i)
  where
    by_place : (k ≡ i) ⊎ (k ≡ i → ⊥) → get_or (set words i x) k d ≡ little_number 4 (drop (4 * k) bytes)
    by_place (inl here) =
        ap (λ (n : ℕ). get_or (set words i x) n d) here ∙ get_or-set_same words i x d low ∙ is ∙ ap (λ (n : ℕ). little_number 4 (drop (4 * n) bytes)) (sym here)
    by_place (inr differs) = get_or-set_other words i k x d differs ∙ before k d (omega (arith, below, differs))

pub read-all : (words bytes : List ℕ) (i : ℕ) → length words ≡ 72 → 72 ≤ i → ((k d : ℕ) → k < i → get_or words k d ≡ little_number 4 (drop (4 * k) bytes)) → words ≡ words_in 72 bytes
read-all words bytes i count all each =
    same_lists words (words_in 72 bytes) (count ∙ sym (words-count 72 bytes)) (λ k d low. each k d (omega (arith, low, count, all)) ∙ sym (words-at 72 bytes k d (omega (arith, low, count))))

-- each number has 32 bits
pub words-fit : (count : ℕ) (bytes : List ℕ) → ((i : ℕ) → get_or bytes i 0 < 256) → All (λ word. word < 2 ^ 32) (words_in count bytes)
words-fit count bytes fit k d low =
    let below : k < count = omega (arith, low, words-count count bytes) in
    let part : (i : ℕ) → get_or (drop (4 * k) bytes) i 0 < 256 = λ i. subst (λ (n : ℕ). n < 256) (sym (get_or-drop (4 * k) bytes i 0)) (fit (4 * k + i)) in
    subst (λ (n : ℕ). n < 2 ^ 32) (sym (words-at count bytes k d below)) (little_from-lt 0 4 (drop (4 * k) bytes) part)

-- ---- the calls

pub take-whole : (xs : List ℕ) (n : ℕ) → length xs ≤ n → take n xs ≡ xs
take-whole [] zero all = refl
take-whole [] (suc n) all = refl
take-whole (x ∷ xs) zero all = absurd (omega arith)
take-whole (x ∷ xs) (suc n) all = ap (λ (l : List ℕ). x ∷ l) (take-whole xs n (omega arith))

mid-length : (a k : ℕ) (xs : List ℕ) → a + k ≤ length xs → length (mid_of a k xs) ≡ k
mid-length a k xs room = omega (arith, room, length-take k (drop a xs), length-drop a xs)

pub put-state : (bytes one two three four sum fingerprint words : List ℕ) → one ≡ head → two ≡ fingerprint → three ≡ words
    → sum ≡ sha256 (take 328 (put_mid 40 288 (put_mid 8 32 (one ++ drop 8 bytes) two) three)) → four ≡ take 8 sum
    → length bytes ≡ 336 → length two ≡ length (mid_of 8 32 (one ++ drop 8 bytes)) → length three ≡ length (mid_of 40 288 (put_mid 8 32 (one ++ drop 8 bytes) two))
    → put_mid 328 8 (put_mid 40 288 (put_mid 8 32 (one ++ drop 8 bytes) two) three) four ≡ (head ++ fingerprint ++ words) ++ checksum_of (head ++ fingerprint ++ words)
put-state bytes one two three four sum fingerprint words one_is two_is three_is sum_is four_is size short_is long_is =
    let first = one ++ drop 8 bytes in
    let second = put_mid 8 32 first two in
    let begins : length one ≡ 8 = ap (λ (l : List ℕ). length l) one_is in
    let whole : length first ≡ 336 = omega (arith, length-append one (drop 8 bytes), length-drop 8 bytes, size, begins) in
    let short : length two ≡ 32 = short_is ∙ mid-length 8 32 first (omega (arith, whole)) in
    let whole_two : length second ≡ 336 = put-length 8 32 first two (omega (arith, whole)) short ∙ whole in
    let long : length three ≡ 288 = long_is ∙ mid-length 40 288 second (omega (arith, whole_two)) in
    let body = head ++ fingerprint ++ words in
    let last = put_mid 40 288 (put_mid 8 32 (head ++ drop 8 bytes) fingerprint) words in
    let fits : length fingerprint ≡ 32 = sym (ap (λ (l : List ℕ). length l) two_is) ∙ short in
    let many : length words ≡ 288 = sym (ap (λ (l : List ℕ). length l) three_is) ∙ long in
    let same : put_mid 40 288 (put_mid 8 32 (one ++ drop 8 bytes) two) three ≡ last =
    ap (λ (l : List ℕ). put_mid 40 288 (put_mid 8 32 (l ++ drop 8 bytes) two) three) one_is
    ∙ ap (λ (l : List ℕ). put_mid 40 288 (put_mid 8 32 (head ++ drop 8 bytes) l) three) two_is
    ∙ ap (λ (l : List ℕ). put_mid 40 288 (put_mid 8 32 (head ++ drop 8 bytes) fingerprint) l) three_is in
    let signed : four ≡ checksum_of body =
    four_is ∙ ap (λ (l : List ℕ). take 8 l) (sum_is ∙ ap (λ (l : List ℕ). sha256 l) (ap (λ (l : List ℕ). take 328 l) same ∙ body-laid bytes fingerprint words size fits many)) in
    ap (λ (l : List ℕ). put_mid 328 8 l four) same
    ∙ ap (λ (l : List ℕ). put_mid 328 8 last l) signed
    ∙ state-laid bytes fingerprint words (checksum_of body) size fits many (checksum-length body)

pub same-bytes : (xs : List ℕ) → pointwise eqb xs xs ≡ true
same-bytes [] = refl
same-bytes (x ∷ xs) = both (eqb x x) (pointwise eqb xs xs) (same-one x) (same-bytes xs)
  where
    same-one : (n : ℕ) → eqb n n ≡ true
    same-one n = grind (arith, nat_tests)

    both : (a b : Bool) → a ≡ true → b ≡ true → (a && b) ≡ true
    both a b first second = rw (first, second) refl
