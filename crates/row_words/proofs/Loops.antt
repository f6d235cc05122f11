-- Words that are filled one after another, and bytes that are read out of them.
use Rattle.std.proofs.Common.{◌≡◌, ℕ, zero, suc, ◌+◌, ◌-◌, ◌*◌, ◌/◌, ◌%◌, ◌^◌, ◌<◌, ◌≤◌, min, List, [], ◌∷◌, ◌++◌, length, take, drop, get_or, set, map, refl, sym, ap, ◌∙◌, arith, length-append, length-take, length-drop}
use Rattle.std.specs.Prelude.{replicate, slice_index}
use Rattle.std.specs.Int.{w64, to_le_bytes, from_le_bytes, byte_at, bytes_low_first}
use Rattle.std.specs.List.{flat_map}
use Rattle.std.proofs.Math.Nat.{min_comm, div-one, div-div-eq-div-mul, pow-suc}
use Rattle.std.proofs.lemmas.List.{take_min, drop_min, take_more_set, take_more, take_all, drop_all, drop-drop, take-take, append-nil, drop-replicate, take-map, drop-map, length-replicate}
use Rattle.std.proofs.lemmas.Grind.{flat_map-append}
use Rattle.std.proofs.lemmas.Slice.{take-put_mid}
use borrow.Rule.Slice.PartMut.{put_mid}
use Rattle.row_words.specs.Digits.{from_digits, digits_of, grouped}
use Rattle.row_words.specs.Words.{unpacked, bytes_in, HasBytes}
use Rattle.row_words.proofs.DigitLaws.{grouped_more, from_digits-zeros}

take_least : {X : Type 0} (n : ℕ) (xs : List X) → take (min (length xs) n) xs ≡ take n xs
take_least n xs = ap (λ (m : ℕ). take m xs) (min_comm (length xs) n) ∙ take_min n xs

drop_least : {X : Type 0} (n : ℕ) (xs : List X) → drop (min (length xs) n) xs ≡ drop n xs
drop_least n xs = ap (λ (m : ℕ). drop m xs) (min_comm (length xs) n) ∙ drop_min n xs

-- one word more
pub filled_more : (base size : ℕ) (words xs : List ℕ) (i w : ℕ) → i < length words → take i words ≡ grouped base size i xs
    → w ≡ from_digits base (take size (drop (size * i) xs)) → take (i + 1) (set words i w) ≡ grouped base size (i + 1) xs
filled_more base size words xs i w within filled is =
    take_more_set words i w within ∙ ap (λ (front : List ℕ). front ++ w ∷ []) filled
    ∙ ap (λ (n : ℕ). grouped base size i xs ++ n ∷ []) is ∙ sym (grouped_more base size i xs)

-- what is cut off at the front of what is left, and what stays
pub front_is : {X : Type 0} (size i : ℕ) (xs rest front : List X) → rest ≡ drop (size * i) xs → front ≡ take (min (length rest) size) rest → front ≡ take size (drop (size * i) xs)
front_is size i xs rest front left cut = cut ∙ take_least size rest ∙ ap (take size) left

pub back_is : {X : Type 0} (size i : ℕ) (xs rest back : List X) → rest ≡ drop (size * i) xs → back ≡ drop (min (length rest) size) rest → back ≡ drop (size * (i + 1)) xs
back_is size i xs rest back left cut =
    let next : size * i + size ≡ size * (i + 1) = omega arith in
    cut ∙ drop_least size rest ∙ ap (drop size) left ∙ drop-drop size (size * i) xs ∙ ap (λ (n : ℕ). drop n xs) next

-- a function of each element of a part
pub mapped_part : {X : Type 0} (f : X → ℕ) (size at : ℕ) (xs : List X) → map f (take size (drop at xs)) ≡ take size (drop at (map f xs))
mapped_part f size at xs = sym (take-map f size (drop at xs)) ∙ ap (take size) (sym (drop-map f at xs))

-- std's bytes of a number are its digits
low_first : (k i n : ℕ) → digits_of 256 k (n / 256 ^ i) ≡ bytes_low_first i k n
low_first zero i n = refl
low_first (suc k) i n =
    let next : n / 256 ^ i / 256 ≡ n / 256 ^ suc i = div-div-eq-div-mul n (256 ^ i) 256 ∙ ap (λ (m : ℕ). n / m) (sym (pow-suc 256 i)) in
    ap (λ (d : ℕ). d ∷ digits_of 256 k (n / 256 ^ i / 256)) (byte i n)
    ∙ ap (λ (m : ℕ). byte_at i n ∷ digits_of 256 k m) next
    ∙ ap (λ (bytes : List ℕ). byte_at i n ∷ bytes) (low_first k (suc i) n)
  where
    byte : (i n : ℕ) → n / 256 ^ i % 256 ≡ byte_at i n
    byte zero n = ap (λ (m : ℕ). m % 256) (div-one n)
    byte (suc i) n = refl

pub digits_of-le : (n : ℕ) → digits_of 256 8 n ≡ to_le_bytes w64 n
digits_of-le n = ap (digits_of 256 8) (sym (div-one n)) ∙ low_first 8 0 n

-- std's number of eight bytes is theirs
number_of_eight : (bytes : List ℕ) → length bytes ≡ 8 → from_le_bytes w64 bytes ≡ from_digits 256 bytes
number_of_eight (a ∷ b ∷ c ∷ d ∷ e ∷ f ∷ g ∷ h ∷ []) long = omega arith
number_of_eight _ long = absurd (omega arith)

pub number_of_front : (bytes room : List ℕ) → length bytes ≤ 8 → room ≡ replicate 8 0 → from_le_bytes w64 (bytes ++ drop (length bytes) room) ≡ from_digits 256 bytes
number_of_front bytes room few empty =
    let behind : drop (length bytes) room ≡ replicate (8 - length bytes) 0 = ap (drop (length bytes)) empty ∙ drop-replicate (length bytes) 8 0 in
    let long : length (bytes ++ replicate (8 - length bytes) 0) ≡ 8 =
    length-append bytes (replicate (8 - length bytes) 0) ∙ omega (arith, length-replicate {A = ℕ} (8 - length bytes) 0) in
    ap (λ (back : List ℕ). from_le_bytes w64 (bytes ++ back)) behind
    ∙ number_of_eight (bytes ++ replicate (8 - length bytes) 0) long
    ∙ from_digits-zeros 256 bytes (8 - length bytes)

-- the bytes of one word more
pub unpacked_more : (bytes new words : List ℕ) (i : ℕ) → i < length words → 8 * i ≤ length bytes → take (8 * i) bytes ≡ unpacked (take i words)
    → length new ≡ 8 → new ≡ to_le_bytes w64 (get_or words i 0) → take (8 * (i + 1)) (put_mid (8 * i) (8 * i + 8 - 8 * i) bytes new) ≡ unpacked (take (i + 1) words)
unfolding unpacked
unpacked_more bytes new words i within room so_far long is =
    take-put_mid (8 * i) (8 * i + 8 - 8 * i) bytes new (8 * (i + 1)) (omega (arith, long)) room
    ∙ ap (λ (front : List ℕ). front ++ new) so_far
    ∙ ap (λ (back : List ℕ). flat_map (digits_of 256 8) (take i words) ++ back)
    (is ∙ sym (digits_of-le (get_or words i 0)) ∙ sym (append-nil (digits_of 256 8 (get_or words i 0))))
    ∙ sym (flat_map-append (digits_of 256 8) (take i words) (get_or words i 0 ∷ []))
    ∙ ap (flat_map (digits_of 256 8)) (sym (take_more words i 0 within))

-- words written behind a length
pub behind_length : (words new : List ℕ) (size : ℕ) → 1 ≤ length words → length new ≡ length words - 1
    → put_mid 1 (length (set words 0 size) - 1) (set words 0 size) new ≡ size ∷ new
behind_length [] new size some long = absurd (omega arith)
behind_length (word ∷ words) new size some long =
    ap (λ (back : List ℕ). size ∷ (new ++ back)) (drop_all (length (size ∷ words) - 1) words (omega arith)) ∙ ap (λ (back : List ℕ). size ∷ back) (append-nil new)

pub length_behind : (words : List ℕ) (size : ℕ) → length (take (length (set words 0 size) - 1) (drop 1 (set words 0 size))) ≡ length (set words 0 size) - 1
length_behind words size = omega (arith, length-take (length (set words 0 size) - 1) (drop 1 (set words 0 size)), length-drop 1 (set words 0 size))

-- the bytes behind a length
pub bytes_read : (words bytes : List ℕ) → HasBytes words → take (8 * length (take (length words - 1) (drop 1 words))) bytes ≡ unpacked (take (length words - 1) (drop 1 words))
    → take (slice_index words 0) bytes ≡ bytes_in words
bytes_read words bytes has read =
    let all : take (length words - 1) (drop 1 words) ≡ drop 1 words = take_all (length words - 1) (drop 1 words) (omega (arith, length-drop 1 words)) in
    let enough : slice_index words 0 ≤ 8 * length (take (length words - 1) (drop 1 words)) =
    omega (arith, has.within, length-take (length words - 1) (drop 1 words), length-drop 1 words) in
    sym (take-take (slice_index words 0) (8 * length (take (length words - 1) (drop 1 words))) bytes enough)
    ∙ ap (take (slice_index words 0)) (read ∙ ap unpacked all)
