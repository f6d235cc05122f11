-- Bytes and numbers are read as exactly what spells them.
use Rattle.std.proofs.Common.{◌≡◌, ℕ, zero, suc, ◌/◌, ◌<◌, ◌^◌, Bool, true, false, List, [], ◌∷◌, ◌++◌, length, take, drop, get_or, Result, Ok, Err, refl, sym, ap, subst, ◌∙◌, arith}
use Rattle.std.specs.Prelude.{nat_lt, if◌then◌else◌}
use Rattle.std.specs.Int.{Width, w16, w32, w64, byte_len, from_le_bytes, to_le_bytes, bytes_low_first, byte_at as byte_of}
use Rattle.std.proofs.lemmas.Bool.{ltb-true, ltb-false, lt-ltb, le-ltb}
use Rattle.std.proofs.lemmas.List.{length-append, length-take-le, take-append-drop, append-nil, get_or_past}
use Rattle.std.proofs.lemmas.List.Elements.{All-head, All-cons, All-take}
use Rattle.std.proofs.lemmas.Nat.{mod_below, le_bytes_2, le_bytes_4, le_bytes_8, from_le_bytes-to_le_bytes_2, from_le_bytes-to_le_bytes_4, from_le_bytes-to_le_bytes_8}
use Rattle.std.proofs.Math.Seq.{take-append_seam, drop-append_seam}
use Rattle.ua_binary.specs.Reading.{byte_at, bytes_at, number_at}
use Rattle.ua_binary.specs.Wire.{AreBytes, IsPart}
use Rattle.ua_binary.proofs.Grammar.{Spelled, IsGrammar, Joined, then_grammar, alone, Done, done_grammar, same_grammar}

-- a byte
abbrev pub IsByte : ℕ → List ℕ → Type 0
IsByte byte text = (byte < 256) × (text ≡ byte ∷ [])

pub byte_grammar : (F : Type 0) (short : F) → IsGrammar ℕ F short IsByte (byte_at short)
byte_grammar F short = record { again = again; back = back; fewer = λ byte text n is below. few byte text n is.1 below }
  where
    again : (byte : ℕ) (text rest : List ℕ) → IsByte byte text → byte_at short (text ++ rest) ≡ Ok (byte, rest)
    again byte text rest is = ap (λ (l : List ℕ). byte_at short (l ++ rest)) is.1

    back : (bytes rest : List ℕ) (byte : ℕ) → AreBytes bytes → byte_at short bytes ≡ Ok (byte, rest) → Spelled ℕ IsByte bytes byte rest
    back [] rest byte all e = absurd cc
    back (first ∷ more) rest byte all e =
        let pair : Path (ℕ × List ℕ) (first, more) (byte, rest) = cc in
        let same : first ≡ byte = ap (λ (p : ℕ × List ℕ). p.0) pair in
        let left : more ≡ rest = ap (λ (p : ℕ × List ℕ). p.1) pair in
        record {
          text = byte ∷ [];
          spells = (subst (λ (k : ℕ). k < 256) same (All-head (λ (b : ℕ). b < 256) first more all), refl);
          split = ap (λ (k : ℕ). k ∷ more) same ∙ ap (λ (l : List ℕ). byte ∷ l) left;
        }

    few : (byte : ℕ) (text : List ℕ) (n : ℕ) → text ≡ byte ∷ [] → n < length text → byte_at short (take n text) ≡ Err short
    few byte text zero is below = refl
    few byte text (suc n) is below = absurd (omega (arith, ap length is))

-- this many bytes
abbrev pub IsPartOf : ℕ → List ℕ → List ℕ → Type 0
IsPartOf len part text = IsPart len part × (text ≡ part)

pub bytes_again : (F : Type 0) (short : F) (len : ℕ) (text rest : List ℕ) → length text ≡ len → bytes_at short len (text ++ rest) ≡ Ok (text, rest)
bytes_again F short len text rest e =
    let enough : nat_lt (length (text ++ rest)) (length text) ≡ false = le-ltb (length (text ++ rest)) (length text) (omega (arith, length-append text rest)) in
    let front : take (length text) (text ++ rest) ≡ text = take-append_seam text rest in
    let back : drop (length text) (text ++ rest) ≡ rest = drop-append_seam text rest in
    subst (λ k. bytes_at short k (text ++ rest) ≡ Ok (text, rest)) e (rw (enough, front, back) refl)

pub bytes_few : (F : Type 0) (short : F) (len : ℕ) (bytes : List ℕ) → length bytes < len → bytes_at short len bytes ≡ Err short
bytes_few F short len bytes below = ap (λ (b : Bool). if b then Err short else Ok (take len bytes, drop len bytes)) (lt-ltb (length bytes) len below)

pub bytes_grammar : (F : Type 0) (short : F) (len : ℕ) → IsGrammar (List ℕ) F short (IsPartOf len) (bytes_at short len)
bytes_grammar F short len = record {
  again = λ part text rest is. ap (λ (l : List ℕ). bytes_at short len (l ++ rest)) is.1 ∙ bytes_again F short len part rest is.0.0;
  back = λ bytes rest part all e. by_length bytes rest part all e (nat_lt (length bytes) len) refl;
  fewer = λ part text n is below. bytes_few F short len (take n text) (cut part text n is below);
}
  where
    choice : List ℕ → Bool → Result (List ℕ × List ℕ) F
    choice bytes b = if b then Err short else Ok (take len bytes, drop len bytes)

    cut : (part text : List ℕ) (n : ℕ) → IsPartOf len part text → n < length text → length (take n text) < len
    cut part text n is below = omega (arith, length-take-le n text (omega arith), ap length is.1, is.0.0)

    by_length : (bytes rest part : List ℕ) → AreBytes bytes → bytes_at short len bytes ≡ Ok (part, rest) → (b : Bool) → nat_lt (length bytes) len ≡ b → Spelled (List ℕ) (IsPartOf len) bytes part rest
    by_length bytes rest part all e true is =
        let no : Path (Result (List ℕ × List ℕ) F) (Err short) (Ok (part, rest)) = sym (ap (λ (b : Bool). if b then Err short else Ok (take len bytes, drop len bytes)) is) ∙ e in
        absurd cc
    by_length bytes rest part all e false is =
        let found : Path (Result (List ℕ × List ℕ) F) (Ok (take len bytes, drop len bytes)) (Ok (part, rest)) = sym (ap (λ (b : Bool). if b then Err short else Ok (take len bytes, drop len bytes)) is) ∙ e in
        let pair : Path (List ℕ × List ℕ) (take len bytes, drop len bytes) (part, rest) = cc in
        let front : take len bytes ≡ part = ap (λ (p : List ℕ × List ℕ). p.0) pair in
        let left : drop len bytes ≡ rest = ap (λ (p : List ℕ × List ℕ). p.1) pair in
        let enough : length (take len bytes) ≡ len = length-take-le len bytes (ltb-false (length bytes) len is) in
        record {
          text = part;
          spells = ((sym (ap length front) ∙ enough, subst AreBytes front (All-take (λ (b : ℕ). b < 256) len bytes all)), refl);
          split = sym (take-append-drop len bytes) ∙ ap (λ (l : List ℕ). l ++ drop len bytes) front ∙ ap (λ (l : List ℕ). part ++ l) left;
        }

-- a number of this many bits, little-endian
abbrev pub IsNumber : Width → ℕ → ℕ → List ℕ → Type 0
IsNumber w bits n text = (n < 2 ^ bits) × (text ≡ to_le_bytes w n)

-- what makes a width's bytes and numbers each other's
pub record IsCoded (w : Width) (bits : ℕ) : Type 0 where
  pub len : (n : ℕ) → length (to_le_bytes w n) ≡ byte_len w
  pub in_range : (n : ℕ) → AreBytes (to_le_bytes w n)
  pub number : (n : ℕ) → n < 2 ^ bits → from_le_bytes w (to_le_bytes w n) ≡ n
  pub below : (part : List ℕ) → IsPart (byte_len w) part → from_le_bytes w part < 2 ^ bits
  pub bytes : (part : List ℕ) → IsPart (byte_len w) part → to_le_bytes w (from_le_bytes w part) ≡ part

pub number_grammar : (F : Type 0) (short : F) (w : Width) (bits : ℕ) → IsCoded w bits → IsGrammar ℕ F short (IsNumber w bits) (number_at short w)
number_grammar F short w bits code =
    same_grammar ℕ F short (Joined (List ℕ) ℕ (IsPartOf (byte_len w)) (λ part. Done (from_le_bytes w part))) (IsNumber w bits) (number_at short w) there here
    (then_grammar (List ℕ) ℕ F short (IsPartOf (byte_len w)) (λ part. Done (from_le_bytes w part)) (bytes_at short (byte_len w)) (λ part rest. Ok (from_le_bytes w part, rest)) (bytes_grammar F short (byte_len w)) (λ part _ _. done_grammar ℕ F short (from_le_bytes w part)))
  where
    there : (n : ℕ) (text : List ℕ) → Joined (List ℕ) ℕ (IsPartOf (byte_len w)) (λ part. Done (from_le_bytes w part)) n text → IsNumber w bits n text
    there n text j =
        let is : from_le_bytes w j.first ≡ n = sym j.spells.0 in (
          subst (λ (k : ℕ). k < 2 ^ bits) is (code.below j.first j.spells_first.0),
          sym (alone j.front j.back text j.split j.spells.1) ∙ j.spells_first.1 ∙ sym (code.bytes j.first j.spells_first.0) ∙ ap (to_le_bytes w) is,
        )

    here : (n : ℕ) (text : List ℕ) → IsNumber w bits n text → Joined (List ℕ) ℕ (IsPartOf (byte_len w)) (λ part. Done (from_le_bytes w part)) n text
    here n text is = record {
      first = to_le_bytes w n;
      front = text;
      back = [];
      spells_first = ((code.len n, code.in_range n), is.1);
      spells = (sym (code.number n is.0), refl);
      split = sym (append-nil text);
    }

small_byte : (i n : ℕ) → byte_of i n < 256
small_byte zero n = omega arith
small_byte (suc i) n = mod_below (n / 256 ^ suc i) 256 (omega arith)

small2 : (part : List ℕ) → IsPart 2 part → from_le_bytes w16 part < 2 ^ 16
small2 part is =
    let a = is.1 0 0 (omega (arith, is.0)) in
    let b = is.1 1 0 (omega (arith, is.0)) in
    omega (arith, a, b)

small4 : (part : List ℕ) → IsPart 4 part → from_le_bytes w32 part < 2 ^ 32
small4 part is =
    let a = is.1 0 0 (omega (arith, is.0)) in
    let b = is.1 1 0 (omega (arith, is.0)) in
    let c = is.1 2 0 (omega (arith, is.0)) in
    let d = is.1 3 0 (omega (arith, is.0)) in
    omega (arith, a, b, c, d)

small8 : (part : List ℕ) → IsPart 8 part → from_le_bytes w64 part < 2 ^ 64
small8 part is =
    let a = is.1 0 0 (omega (arith, is.0)) in
    let b = is.1 1 0 (omega (arith, is.0)) in
    let c = is.1 2 0 (omega (arith, is.0)) in
    let d = is.1 3 0 (omega (arith, is.0)) in
    let e = is.1 4 0 (omega (arith, is.0)) in
    let f = is.1 5 0 (omega (arith, is.0)) in
    let g = is.1 6 0 (omega (arith, is.0)) in
    let h = is.1 7 0 (omega (arith, is.0)) in
    omega (arith, a, b, c, d, e, f, g, h)

each : (part : List ℕ) → AreBytes part → (i : ℕ) → get_or part i 0 < 256
each part all i = by_place (nat_lt i (length part)) refl
  where
    by_place : (b : Bool) → nat_lt i (length part) ≡ b → get_or part i 0 < 256
    by_place true is = all i 0 (ltb-true i (length part) is)
    by_place false is = let none : get_or part i 0 ≡ 0 = get_or_past part i 0 (ltb-false i (length part) is) in omega arith

low_bytes : (k i n : ℕ) → AreBytes (bytes_low_first i k n)
low_bytes zero i n = λ j d below. absurd (omega arith)
low_bytes (suc k) i n = All-cons (λ (b : ℕ). b < 256) (byte_of i n) (bytes_low_first (suc i) k n) (small_byte i n) (low_bytes k (suc i) n)

pub coded16 : IsCoded w16 16
coded16 = record { len = λ n. refl; in_range = low_bytes 2 0; number = from_le_bytes-to_le_bytes_2; below = small2; bytes = λ part is. le_bytes_2 part (from_le_bytes w16 part) is.0 (each part is.1) refl }

pub coded32 : IsCoded w32 32
coded32 = record { len = λ n. refl; in_range = low_bytes 4 0; number = from_le_bytes-to_le_bytes_4; below = small4; bytes = λ part is. le_bytes_4 part (from_le_bytes w32 part) is.0 (each part is.1) refl }

pub coded64 : IsCoded w64 64
coded64 = record { len = λ n. refl; in_range = low_bytes 8 0; number = from_le_bytes-to_le_bytes_8; below = small8; bytes = λ part is. le_bytes_8 part (from_le_bytes w64 part) is.0 (each part is.1) refl }
