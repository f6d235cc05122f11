-- AES (FIPS 197, 5.1 and 5.2). A block, a state and a round key are lists of 16 bytes, the state's by columns.
-- A word is a list of 4 bytes.
use Rattle.std.specs.Prelude.{ℕ, zero, suc, ◌+◌, ◌-◌, ◌*◌, ◌/◌, ◌%◌, ◌==◌, ◌&&◌, List, [], ◌∷◌, ◌++◌, bit_xor, slice_index, slice_index_or, if◌then◌else◌}
use Rattle.aes_ctr.specs.Field.{field_mul, sub_byte}

-- the byte of a state at a row and a column
abbrev pub at : List ℕ → ℕ → ℕ → ℕ
at s r c = slice_index s (r + 4 * c)

-- the state with these bytes at rows and columns
abbrev pub state_of : (ℕ → ℕ → ℕ) → List ℕ
state_of f =
    f 0 0 ∷ f 1 0 ∷ f 2 0 ∷ f 3 0 ∷ f 0 1 ∷ f 1 1 ∷ f 2 1 ∷ f 3 1
    ∷ f 0 2 ∷ f 1 2 ∷ f 2 2 ∷ f 3 2 ∷ f 0 3 ∷ f 1 3 ∷ f 2 3 ∷ f 3 3 ∷ []

-- the S-box on each byte (5.1.1)
unfoldable pub sub_bytes : List ℕ → List ℕ
sub_bytes s = state_of (λ r c. sub_byte (at s r c))

-- row r moves r places to the left (5.1.2)
unfoldable pub shift_rows : List ℕ → List ℕ
shift_rows s = state_of (λ r c. at s r ((c + r) % 4))

-- 2 a + 3 b + c + d in the field
unfoldable pub mixed : ℕ → ℕ → ℕ → ℕ → ℕ
mixed a b c d = bit_xor (bit_xor (bit_xor (field_mul 2 a) (field_mul 3 b)) c) d

-- each column times the circulant matrix whose first row is 02 03 01 01 (5.1.3)
unfoldable pub mix_columns : List ℕ → List ℕ
mix_columns s = state_of (λ r c. mixed (at s r c) (at s ((r + 1) % 4) c) (at s ((r + 2) % 4) c) (at s ((r + 3) % 4) c))

-- word i of a list of words
abbrev pub word : List (List ℕ) → ℕ → List ℕ
word ws i = slice_index_or ws i []

-- round key r, which is words 4 r to 4 r + 3
unfoldable pub round_key : List (List ℕ) → ℕ → List ℕ
round_key ws r = state_of (λ i c. slice_index (word ws (4 * r + c)) i)

-- the sum of two states, byte by byte
unfoldable pub add_states : List ℕ → List ℕ → List ℕ
add_states s k = state_of (λ r c. bit_xor (at s r c) (at k r c))

-- the state plus round key r (5.1.4)
abbrev pub add_round_key : List (List ℕ) → ℕ → List ℕ → List ℕ
add_round_key ws r s = add_states s (round_key ws r)

-- the state after round r: before the first, the key is added alone
unfoldable pub after_round : List (List ℕ) → List ℕ → ℕ → List ℕ
after_round ws block zero = add_round_key ws 0 block
after_round ws block (suc r) = add_round_key ws (suc r) (mix_columns (shift_rows (sub_bytes (after_round ws block r))))

-- a block after 1 + n rounds, the last of which mixes no columns (5.1)
unfoldable pub cipher : ℕ → List (List ℕ) → List ℕ → List ℕ
cipher n ws block = add_round_key ws (suc n) (shift_rows (sub_bytes (after_round ws block n)))

-- ---- the key expansion (5.2)

abbrev pub word_of : (ℕ → ℕ) → List ℕ
word_of f = f 0 ∷ f 1 ∷ f 2 ∷ f 3 ∷ []

abbrev pub sub_word : List ℕ → List ℕ
sub_word w = word_of (λ i. sub_byte (slice_index w i))

abbrev pub rot_word : List ℕ → List ℕ
rot_word w = word_of (λ i. slice_index w ((i + 1) % 4))

abbrev pub add_words : List ℕ → List ℕ → List ℕ
add_words v w = word_of (λ i. bit_xor (slice_index v i) (slice_index w i))

-- x ^ n in the field
unfoldable pub power_of_x : ℕ → ℕ
power_of_x zero = 1
power_of_x (suc n) = field_mul 2 (power_of_x n)

-- Rcon i
abbrev pub round_constant : ℕ → List ℕ
round_constant i = power_of_x (i - 1) ∷ 0 ∷ 0 ∷ 0 ∷ []

-- what is added to word i - nk, from word i - 1
unfoldable pub schedule_term : ℕ → ℕ → List ℕ → List ℕ
schedule_term nk i w =
    if i % nk == 0 then add_words (sub_word (rot_word w)) (round_constant (i / nk))
    else (if (nk == 8) && (i % nk == 4) then sub_word w else w)

-- word i, from the words before it
unfoldable pub next_word : ℕ → List (List ℕ) → ℕ → List ℕ
next_word nk ws i = add_words (word ws (i - nk)) (schedule_term nk i (word ws (i - 1)))

-- the first n words of the key
unfoldable pub key_words : List ℕ → ℕ → List (List ℕ)
key_words key zero = []
key_words key (suc n) = key_words key n ++ word_of (λ i. slice_index key (4 * n + i)) ∷ []

-- the nk words of the key and n more
unfoldable pub expanded : ℕ → List ℕ → ℕ → List (List ℕ)
expanded nk key zero = key_words key nk
expanded nk key (suc n) = expanded nk key n ++ next_word nk (expanded nk key n) (nk + n) ∷ []

-- AES-128: 10 rounds, 44 words
unfoldable pub aes128 : List ℕ → List ℕ → List ℕ
aes128 key block = cipher 9 (expanded 4 key 40) block

-- AES-256: 14 rounds, 60 words
unfoldable pub aes256 : List ℕ → List ℕ → List ℕ
aes256 key block = cipher 13 (expanded 8 key 52) block
