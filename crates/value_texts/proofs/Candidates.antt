-- The one value of a kind that a word may be the printed text of.
use Rattle.std.proofs.Common.{◌≡◌, ◌≢◌, ℕ, ◌*◌, ◌^◌, ◌<◌, ◌≤◌, List, ◌++◌, length, ℤ, Option, Some, None, Result, Ok, Err, sym, ap, ◌∙◌, subst, arith}
use Rattle.std.specs.Fmt.{decimal, signed_decimal}
use Rattle.std.specs.Int.RustNames.{FitsSigned}
use Rattle.std.specs.Option.{MatchOption}
use Rattle.std.specs.Result.{result_ok}
use Rattle.std.specs.Str.{IsUtf8}
use Rattle.std.specs.Str.Parse.{ParsesUnsigned, ParsesSigned}
use Rattle.std.proofs.lemmas.Fmt.{parse-decimal, parse-signed_decimal, IsAscii-decimal, IsAscii-signed}
use Rattle.std.proofs.lemmas.Str.{IsUtf8-from_ascii}
use Rattle.std.specs.Prelude.{codes}
use Rattle.std.proofs.lemmas.List.{append_cancel_left}
use Rattle.std.specs.List.{All}
use Rattle.std.specs.Prelude.{MatchResult}
use Rattle.std.proofs.lemmas.Bool.Decides.{nat_tests}
use Rattle.hex.specs.Hex.{encode_lower, lower_digits, decode_sized}
use Rattle.hex.specs.declared.error.FromHexError.{FromHexError}
use Rattle.hex.proofs.HexLemmas.{length-encode_with, decode_sized-encode_lower}
use Rattle.ua_values.specs.Blobs.{blob_of}
use Rattle.ua_values.specs.InPlace.{IsShort}
use Rattle.value_texts.proofs.TextLaws.{bytes_from_All}
use Rattle.value_texts.specs.Texts.{hex_text}
use denote.Ref.{Bor}
use lib.Signed.{mag}
use mir.Syntax.{Width}

-- what `parse` reads of a number's text
pub unsigned_read : {E : Type 0} (bits n : ℕ) (word : List ℕ) (found : Option ℕ) → n < 2 ^ bits → n < 2 ^ 64 → word ≡ decimal n
    → (IsUtf8 word → (r : Result ℕ E) × (ParsesUnsigned bits 10 word r × (found ≡ result_ok r))) → found ≡ Some n
unsigned_read bits n word found fits low is reads =
    let r = reads (subst IsUtf8 (sym is) (IsUtf8-from_ascii (decimal n) (IsAscii-decimal n low))) in
    r.1.1 ∙ ap result_ok (parse-decimal bits n word r.0 fits low is r.1.0)

pub signed_read : {E : Type 0} (w : Width) (z : ℤ) (word : List ℕ) (found : Option ℤ) → FitsSigned w z → mag z < 2 ^ 63 → word ≡ signed_decimal z
    → (IsUtf8 word → (r : Result ℤ E) × (ParsesSigned w 10 word r × (found ≡ result_ok r))) → found ≡ Some z
signed_read w z word found fits low is reads =
    let r = reads (subst IsUtf8 (sym is) (IsUtf8-from_ascii (signed_decimal z) (IsAscii-signed z low))) in
    r.1.1 ∙ ap result_ok (parse-signed_decimal w z word r.0 fits low is r.1.0)

-- what stands behind `0x` in a text of bytes
pub digits_behind : (word : List ℕ) (r : Option (Bor (List ℕ))) (digits : Bor (List ℕ)) (bytes : List ℕ) → r ≡ Some digits
    → MatchOption r ((rest : List ℕ) → word ≢ codes "0x" ++ rest) (λ x. word ≡ codes "0x" ++ x.now) → word ≡ hex_text bytes
    → digits.now ≡ encode_lower bytes
digits_behind word r digits bytes was says is =
    let here : word ≡ codes "0x" ++ digits.now = rw was at says in
    append_cancel_left (codes "0x") digits.now (encode_lower bytes) (sym here ∙ is)

pub no_digits : (word : List ℕ) (r : Option (Bor (List ℕ))) (bytes : List ℕ) → r ≡ None
    → MatchOption r ((rest : List ℕ) → word ≢ codes "0x" ++ rest) (λ x. word ≡ codes "0x" ++ x.now) → word ≡ hex_text bytes → ⊥
no_digits word r bytes was says is =
    let none : (rest : List ℕ) → word ≢ codes "0x" ++ rest = rw was at says in
    none (encode_lower bytes) is

pub length_digits : (digits bytes : List ℕ) → digits ≡ encode_lower bytes → length digits ≡ 2 * length bytes
length_digits digits bytes is = ap length is ∙ length-encode_with lower_digits bytes

-- what the digits of some bytes are decoded to
pub written : (digits bytes old new : List ℕ) (r : Result Unit FromHexError) → digits ≡ encode_lower bytes → All (λ byte. byte < 256) bytes → length bytes ≡ length old
    → MatchResult (decode_sized digits (length old)) (λ list. (r ≡ Ok tt) × (new ≡ list)) (λ e. r ≡ Err e) → (r ≡ Ok tt) × (new ≡ bytes)
written digits bytes old new r is all same says =
    let e : decode_sized digits (length old) ≡ Ok bytes =
    ap (λ (l : List ℕ). decode_sized l (length old)) is ∙ decode_sized-encode_lower bytes (length old) same (bytes_from_All bytes all) in
    rw e at says

pub blob_short : (bytes : List ℕ) → IsShort bytes → blob_of bytes ≡ Ok bytes
blob_short bytes short = let h : length bytes ≤ 256 = short.at_most_256 in grind (arith, nat_tests)
