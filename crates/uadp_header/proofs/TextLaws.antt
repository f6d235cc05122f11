-- The texts that a format reads: each is read as what it tells, whatever follows it, and whatever is read has what holds of the format's parts, one after another.
use Rattle.std.proofs.Common.{◌≡◌, ℕ, ◌<◌, ◌^◌, Bool, true, false, List, [], ◌∷◌, ◌++◌, length, Option, Some, None, Result, Ok, refl, sym, ap, subst, ◌∙◌, append_assoc, append-nil, arith}
use Rattle.std.specs.Prelude.{is_some, IfSome, slice_index, if◌then◌else◌}
use Rattle.std.specs.Int.{Width, w16, w32, w64, byte_len, from_le_bytes, to_le_bytes}
use Rattle.std.proofs.lemmas.List.Elements.{All-take, All-drop}
use Rattle.std.proofs.lemmas.Nat.{from_le_bytes-to_le_bytes_2, from_le_bytes-to_le_bytes_4, from_le_bytes-to_le_bytes_8}
use Rattle.std.proofs.Math.Seq.{take-append_seam, drop-append_seam}
use Rattle.ua_binary.specs.Wire.{AreBytes, optional}
use Rattle.ua_binary.proofs.Grammar.{PartSpells}
use Rattle.ua_binary.proofs.Parts.{IsNumber, IsCoded, IsPartOf}
use Rattle.uadp_header.specs.declared.fault.HeaderFault.{HeaderFault}
use Rattle.uadp_header.specs.Formats.{Format, Told, Part, ◌>>=◌, read, Leads, joined}
use Rattle.uadp_header.specs.Headers.{if_there}
use Rattle.uadp_header.specs.Layout.{byte, number, block, when, byte_when}
use Rattle.uadp_header.specs.Wire.{byte_if}
use Rattle.uadp_header.proofs.FormatLaws.{then_read, read-then, read-spells, part-read}

-- ---- a text is read as what it tells, whatever follows it

abbrev pub IsTextOf : {X : Type 0} → Format X → X → List ℕ → Type 0
IsTextOf format x line = (rest : List ℕ) → read format (line ++ rest) ≡ Ok (x, rest)

pub told_text : {X : Type 0} (x : X) → IsTextOf (Told x) x []
unfolding read
told_text x = λ rest. refl

pub then_text : {A B : Type 0} (format : Format A) (after : A → Format B) (a : A) (b : B) (front back : List ℕ) → IsTextOf format a front → IsTextOf (after a) b back → IsTextOf (format >>= after) b (front ++ back)
then_text {A} format after a b front back first second = λ rest.
    read-then format after ((front ++ back) ++ rest)
    ∙ ap (λ (l : List ℕ). then_read (read format l) (λ x. read (after x.0) x.1)) (append_assoc front back rest)
    ∙ ap (λ (r : Result (A × List ℕ) HeaderFault). then_read r (λ x. read (after x.0) x.1)) (first (back ++ rest))
    ∙ second rest

-- the last part
pub last_text : {A B : Type 0} (format : Format A) (make : A → B) (a : A) (line : List ℕ) → IsTextOf format a line → IsTextOf (format >>= λ x. Told (make x)) (make a) line
unfolding read
last_text {A} format make a line is = λ rest.
    read-then format (λ x. Told (make x)) (line ++ rest)
    ∙ ap (λ (r : Result (A × List ℕ) HeaderFault). then_read r (λ x. Ok (make x.0, x.1))) (is rest)

pub byte_text : (refused : ℕ → Option HeaderFault) (n : ℕ) → refused n ≡ None → IsTextOf (byte refused) n (n ∷ [])
unfolding byte read
byte_text refused n passes = λ rest. part-read 1 (λ part. refused (slice_index part 0)) (λ part. Told (slice_index part 0)) (n ∷ []) rest refl passes

pub block_text : (len : ℕ) (line : List ℕ) → length line ≡ len → IsTextOf (block len) line line
unfolding block read
block_text len line is = λ rest. part-read len (λ part. None) Told line rest is refl

number_text : (w : Width) (n : ℕ) → length (to_le_bytes w n) ≡ byte_len w → from_le_bytes w (to_le_bytes w n) ≡ n → IsTextOf (number w) n (to_le_bytes w n)
unfolding number read
number_text w n len value = λ rest.
    part-read (byte_len w) (λ part. None) (λ part. Told (from_le_bytes w part)) (to_le_bytes w n) rest len refl ∙ ap (λ (k : ℕ). Ok (k, rest)) value

pub u16_text : (n : ℕ) → n < 2 ^ 16 → IsTextOf (number w16) n (to_le_bytes w16 n)
u16_text n small = number_text w16 n refl (from_le_bytes-to_le_bytes_2 n small)

pub u32_text : (n : ℕ) → n < 2 ^ 32 → IsTextOf (number w32) n (to_le_bytes w32 n)
u32_text n small = number_text w32 n refl (from_le_bytes-to_le_bytes_4 n small)

pub u64_text : (n : ℕ) → n < 2 ^ 64 → IsTextOf (number w64) n (to_le_bytes w64 n)
u64_text n small = number_text w64 n refl (from_le_bytes-to_le_bytes_8 n small)

-- a part that isn't always there
pub when_text : {A B : Type 0} (there : Bool) (format : Format B) (make : A → B) (spelling : A → List ℕ) (o : Option A) → there ≡ is_some o → IfSome o (λ a. IsTextOf format (make a) (spelling a))
    → IsTextOf (when there format) (if_there make o) (optional spelling o)
unfolding when
when_text true format make spelling (Some a) is line = last_text format Some (make a) (spelling a) line
when_text false format make spelling None is line = told_text None
when_text true format make spelling None is line = absurd cc
when_text false format make spelling (Some a) is line = absurd cc

-- flags that are 0 where they aren't there
pub byte_when_text : (there has : Bool) (refused : ℕ → Option HeaderFault) (n : ℕ) → has ≡ there → refused n ≡ None → (there ≡ false → n ≡ 0) → IsTextOf (byte_when has refused) n (byte_if there n)
unfolding byte_when
byte_when_text true true refused n same passes zero = byte_text refused n passes
byte_when_text false false refused n same passes zero = subst (λ (k : ℕ). IsTextOf (Told 0) k []) (sym (zero refl)) (told_text 0)
byte_when_text true false refused n same passes zero = absurd cc
byte_when_text false true refused n same passes zero = absurd cc

-- ---- whatever is read has what holds of the format's parts

-- whatever bytes the parts have, what they tell and the bytes together have this
abbrev pub Texts : {X : Type 0} → (X → List ℕ → Type 0) → Format X → Type 0
Texts P (Told told) = P told []
Texts P (Part size refused next) = (part : List ℕ) → length part ≡ size → AreBytes part → refused part ≡ None → Texts (λ x more. P x (part ++ more)) (next part)

pub more_texts : {X : Type 0} (P Q : X → List ℕ → Type 0) (format : Format X) → ((x : X) (line : List ℕ) → P x line → Q x line) → Texts P format → Texts Q format
more_texts P Q (Told told) more texts = more told [] texts
more_texts P Q (Part size refused next) more texts =
    λ part len are passes. more_texts (λ x line. P x (part ++ line)) (λ x line. Q x (part ++ line)) (next part) (λ x line. more x (part ++ line)) (texts part len are passes)

pub then_texts : {A B : Type 0} (P : A → List ℕ → Type 0) (Q : B → List ℕ → Type 0) (format : Format A) (after : A → Format B)
    → Texts P format → ((a : A) (front : List ℕ) → P a front → Texts (λ b more. Q b (front ++ more)) (after a)) → Texts Q (format >>= after)
unfolding ◌>>=◌
then_texts P Q (Told told) after first rest = rest told [] first
then_texts {A} {B} P Q (Part size refused next) after first rest =
    λ part len are passes. then_texts (λ a more. P a (part ++ more)) (λ b more. Q b (part ++ more)) (next part) after (first part len are passes) (λ a front is.
    more_texts (λ (b : B) more. Q b ((part ++ front) ++ more)) (λ (b : B) more. Q b (part ++ (front ++ more))) (after a) (λ b more. subst (Q b) (append_assoc part front more)) (rest a (part ++ front) is))

pub last_texts : {A B : Type 0} (P : A → List ℕ → Type 0) (Q : B → List ℕ → Type 0) (format : Format A) (make : A → B)
    → Texts P format → ((a : A) (line : List ℕ) → P a line → Q (make a) line) → Texts Q (format >>= λ x. Told (make x))
last_texts P Q format make first more =
    then_texts P Q format (λ x. Told (make x)) first (λ a front is. subst (Q (make a)) (sym (append-nil front)) (more a front is))

-- one of two
pub pick_texts : {X : Type 0} (P : X → List ℕ → Type 0) (b : Bool) (one other : Format X) → (b ≡ true → Texts P one) → (b ≡ false → Texts P other) → Texts P (if b then one else other)
pick_texts P true one other first second = first refl
pick_texts P false one other first second = second refl

front-bytes : (front back : List ℕ) → AreBytes (front ++ back) → AreBytes front
front-bytes front back are = subst AreBytes (take-append_seam front back) (All-take (λ (b : ℕ). b < 256) (length front) (front ++ back) are)

back-bytes : (front back : List ℕ) → AreBytes (front ++ back) → AreBytes back
back-bytes front back are = subst AreBytes (drop-append_seam front back) (All-drop (λ (b : ℕ). b < 256) (length front) (front ++ back) are)

leads_texts : {X : Type 0} (P : X → List ℕ → Type 0) (parts : List (List ℕ)) (format : Format X) (x : X) → Leads format parts (Told x) → AreBytes (joined parts) → Texts P format → P x (joined parts)
leads_texts P [] format x stand are texts = subst (Texts P) stand texts
leads_texts P (part ∷ parts) (Told told) x stand are texts = absurd stand
leads_texts P (part ∷ parts) (Part size refused next) x stand are texts =
    leads_texts (λ x more. P x (part ++ more)) parts (next part) x stand.2 (back-bytes part (joined parts) are) (texts part stand.0 (front-bytes part (joined parts) are) stand.1)

-- what was read, and the text that it was read of
pub record ReadOf (X : Type 0) (P : X → List ℕ → Type 0) (bytes : List ℕ) (x : X) (rest : List ℕ) : Type 0 where
  pub line : List ℕ
  pub has : P x line
  pub split : bytes ≡ line ++ rest

pub texts-read : {X : Type 0} (P : X → List ℕ → Type 0) (format : Format X) (bytes : List ℕ) (x : X) (rest : List ℕ) → Texts P format → AreBytes bytes → read format bytes ≡ Ok (x, rest) → ReadOf X P bytes x rest
texts-read P format bytes x rest texts are e =
    let spelled = read-spells format bytes x rest e in
    let parts_are : AreBytes (joined spelled.parts) = front-bytes (joined spelled.parts) rest (subst AreBytes spelled.bytes_are are) in
    record { line = joined spelled.parts; has = leads_texts P spelled.parts format x spelled.stand parts_are texts; split = spelled.bytes_are }

-- a byte that isn't refused
pub record SpellsByte (refused : ℕ → Option HeaderFault) (n : ℕ) (line : List ℕ) : Type 0 where
  pub is_byte : n < 256
  pub passes : refused n ≡ None
  pub split : line ≡ n ∷ []

one_byte : (part : List ℕ) → length part ≡ 1 → part ≡ slice_index part 0 ∷ []
one_byte [] len = absurd (omega (arith, len))
one_byte (a ∷ []) len = refl
one_byte (a ∷ b ∷ more) len = absurd (omega (arith, len))

pub byte_texts : (refused : ℕ → Option HeaderFault) → Texts (SpellsByte refused) (byte refused)
unfolding byte
byte_texts refused = λ part len are passes. record { is_byte = are 0 0 (omega (arith, len)); passes = passes; split = append-nil part ∙ one_byte part len }

pub number_texts : (w : Width) (bits : ℕ) → IsCoded w bits → Texts (IsNumber w bits) (number w)
unfolding number
number_texts w bits code = λ part len are passes. (code.below part (len, are), append-nil part ∙ sym (code.bytes part (len, are)))

pub block_texts : (len : ℕ) → Texts (IsPartOf len) (block len)
unfolding block
block_texts len = λ part part_len are passes. ((part_len, are), append-nil part)

pub when_texts : {A : Type 0} (P : A → List ℕ → Type 0) (there : Bool) (format : Format A) → Texts P format → Texts (PartSpells A there P) (when there format)
unfolding when
when_texts {A} P true format texts = last_texts P (PartSpells A true P) format Some texts (λ a line is. record { flagged = refl; spells = is })
when_texts P false format texts = record { flagged = refl; spells = refl }

-- flags, or 0 where they aren't there
pub record SpellsByteIf (there : Bool) (refused : ℕ → Option HeaderFault) (n : ℕ) (line : List ℕ) : Type 0 where
  pub is_byte : n < 256
  pub passes : there ≡ true → refused n ≡ None
  pub zero : there ≡ false → n ≡ 0
  pub split : line ≡ byte_if there n

pub byte_when_texts : (there : Bool) (refused : ℕ → Option HeaderFault) → Texts (SpellsByteIf there refused) (byte_when there refused)
unfolding byte_when
byte_when_texts true refused =
    more_texts (SpellsByte refused) (SpellsByteIf true refused) (byte refused)
    (λ n line is. record { is_byte = is.is_byte; passes = λ there. is.passes; zero = λ isnt. absurd (let no : Path Bool true false = isnt in cc); split = is.split }) (byte_texts refused)
byte_when_texts false refused = record { is_byte = omega arith; passes = λ there. absurd (let no : Path Bool false true = there in cc); zero = λ isnt. refl; split = refl }
