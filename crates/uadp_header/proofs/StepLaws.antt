-- The calls read the layout: each step is the reading of its format.
use Rattle.std.proofs.Common.{◌≡◌, ℕ, Bool, true, false, List, [], ◌∷◌, length, take, drop, Option, Some, None, Result, Ok, Err, refl, ap, ◌∙◌, arith}
use Rattle.std.specs.Prelude.{nat_lt, if◌then◌else◌}
use Rattle.std.specs.Int.{Width, w16, w32, byte_len, from_le_bytes, cast_signed}
use Rattle.std.proofs.lemmas.Bool.{le-ltb}
use Rattle.ua_binary.specs.Reading.{byte_at, bytes_at, number_at, part_at}
use Rattle.uadp_header.specs.declared.fault.HeaderFault.{HeaderFault}
use Rattle.uadp_header.specs.declared.fault.HeaderFault.TheVariants.{Short}
use Rattle.uadp_header.specs.Formats.{Format, Told, Part, ◌>>=◌, passing, read}
use Rattle.uadp_header.specs.Layout.{byte, any_byte, number, block, when, byte_when, text_len, fault_in, told_in, len_in, utf8_fault, text, publisher_id, group_numbers, group_when, payload_header, ids_when, extras, security_header, parts, header, header_at}
use Rattle.uadp_header.specs.Steps.{as_text, flags_at, flags_when, text_at, publisher_at, group_numbers_at, group_at, ids_at, promoted_at, extras_at, security_at, parts_at, whole_at}
use Rattle.uadp_header.proofs.FormatLaws.{then_read, read-then}

-- what is read, and the bytes behind it
abbrev pub got : {A : Type 0} → A → List ℕ → Result (A × List ℕ) HeaderFault
got x rest = Ok (x, rest)

read-told : {X : Type 0} (x : X) (bytes : List ℕ) → read (Told x) bytes ≡ Ok (x, bytes)
unfolding read
read-told x bytes = refl

read-byte : (refused : ℕ → Option HeaderFault) (bytes : List ℕ) → read (byte refused) bytes ≡ flags_at refused bytes
unfolding read byte flags_at
read-byte refused [] = refl
read-byte refused (first ∷ rest) = rw (le-ltb (length (first ∷ rest)) 1 (omega arith)) refl

read-any : (bytes : List ℕ) → read (byte any_byte) bytes ≡ byte_at Short bytes
unfolding read byte
read-any [] = refl
read-any (first ∷ rest) = rw (le-ltb (length (first ∷ rest)) 1 (omega arith)) refl

read-number : (w : Width) (bytes : List ℕ) → read (number w) bytes ≡ number_at Short w bytes
unfolding read number
read-number w bytes = by_size (nat_lt (length bytes) (byte_len w))
  where
    by_size : (short : Bool) → (if short then Err Short else passing None (got (from_le_bytes w (take (byte_len w) bytes)) (drop (byte_len w) bytes)))
        ≡ then_read (if short then Err Short else got (take (byte_len w) bytes) (drop (byte_len w) bytes)) (λ n. got (from_le_bytes w n.0) n.1)
    by_size true = refl
    by_size false = refl

read-block : (len : ℕ) (bytes : List ℕ) → read (block len) bytes ≡ bytes_at Short len bytes
unfolding read block
read-block len bytes = refl

read-when : {A : Type 0} (there : Bool) (format : Format A) (bytes : List ℕ) → read (when there format) bytes ≡ part_at there (read format) bytes
unfolding read when
read-when true format bytes = read-then format (λ x. Told (Some x)) bytes
read-when false format bytes = refl

same_part : {A : Type 0} (there : Bool) (one other : List ℕ → Result (A × List ℕ) HeaderFault) (bytes : List ℕ) → one bytes ≡ other bytes → part_at there one bytes ≡ part_at there other bytes
same_part {A} true one other bytes same = ap (λ (r : Result (A × List ℕ) HeaderFault). then_read r (λ part. Ok (Some part.0, part.1))) same
same_part false one other bytes same = refl

read-number_when : (there : Bool) (w : Width) (bytes : List ℕ) → read (when there (number w)) bytes ≡ part_at there (number_at Short w) bytes
read-number_when there w bytes = read-when there (number w) bytes ∙ same_part there (read (number w)) (number_at Short w) bytes (read-number w bytes)

read-block_when : (there : Bool) (len : ℕ) (bytes : List ℕ) → read (when there (block len)) bytes ≡ part_at there (bytes_at Short len) bytes
read-block_when there len bytes = read-when there (block len) bytes ∙ same_part there (read (block len)) (bytes_at Short len) bytes (read-block len bytes)

read-byte_when : (there : Bool) (refused : ℕ → Option HeaderFault) (bytes : List ℕ) → read (byte_when there refused) bytes ≡ flags_when there refused bytes
unfolding read byte_when flags_when
read-byte_when true refused bytes = read-byte refused bytes
read-byte_when false refused bytes = refl

-- a String's length, and its text
read-len : (bytes : List ℕ) → read (Part 4 (λ part. fault_in (len_in part)) (λ part. Told (told_in (len_in part)))) bytes
    ≡ then_read (number_at Short w32 bytes) (λ field. then_read (text_len (cast_signed w32 field.0)) (λ len. got len field.1))
unfolding read
read-len bytes = by_size (nat_lt (length bytes) 4)
  where
    by_len : (len : Result ℕ HeaderFault) (rest : List ℕ) → passing (fault_in len) (got (told_in len) rest) ≡ then_read len (λ n. got n rest)
    by_len (Ok n) rest = refl
    by_len (Err fault) rest = refl

    by_size : (short : Bool) → (if short then Err Short else passing (fault_in (len_in (take 4 bytes))) (got (told_in (len_in (take 4 bytes))) (drop 4 bytes)))
        ≡ then_read (then_read (if short then Err Short else got (take 4 bytes) (drop 4 bytes)) (λ n. got (from_le_bytes w32 n.0) n.1)) (λ field. then_read (text_len (cast_signed w32 field.0)) (λ len. got len field.1))
    by_size true = refl
    by_size false = by_len (len_in (take 4 bytes)) (drop 4 bytes)

read-utf8 : (len : ℕ) (bytes : List ℕ) → read (Part len utf8_fault Told) bytes ≡ then_read (bytes_at Short len bytes) (λ found. then_read (as_text found.0) (λ utf8. got utf8 found.1))
unfolding read
read-utf8 len bytes = by_size (nat_lt (length bytes) len)
  where
    by_fault : (fault : Option HeaderFault) (line rest : List ℕ) → passing fault (got line rest) ≡ then_read (passing fault (Ok line)) (λ utf8. got utf8 rest)
    by_fault None line rest = refl
    by_fault (Some fault) line rest = refl

    by_size : (short : Bool) → (if short then Err Short else passing (utf8_fault (take len bytes)) (got (take len bytes) (drop len bytes)))
        ≡ then_read (if short then Err Short else got (take len bytes) (drop len bytes)) (λ found. then_read (as_text found.0) (λ utf8. got utf8 found.1))
    by_size true = refl
    by_size false = by_fault (utf8_fault (take len bytes)) (take len bytes) (drop len bytes)

regrouped : {A B C : Type 0} (r : Result A HeaderFault) (more : A → Result B HeaderFault) (last : B → Result C HeaderFault) → then_read (then_read r more) last ≡ then_read r (λ x. then_read (more x) last)
regrouped (Ok x) more last = refl
regrouped (Err fault) more last = refl

same_more : {A B : Type 0} (r : Result A HeaderFault) (one other : A → Result B HeaderFault) → ((x : A) → one x ≡ other x) → then_read r one ≡ then_read r other
same_more (Ok x) one other same = same x
same_more (Err fault) one other same = refl

read-text : (bytes : List ℕ) → read text bytes ≡ text_at bytes
unfolding text text_at
read-text bytes =
    read-then (Part 4 (λ part. fault_in (len_in part)) (λ part. Told (told_in (len_in part)))) (λ len. Part len utf8_fault Told) bytes
    ∙ ap (λ (r : Result (ℕ × List ℕ) HeaderFault). then_read r (λ len. read (Part len.0 utf8_fault Told) len.1)) (read-len bytes)
    ∙ regrouped (number_at Short w32 bytes) (λ field. then_read (text_len (cast_signed w32 field.0)) (λ len. got len field.1)) (λ len. read (Part len.0 utf8_fault Told) len.1)
    ∙ same_more (number_at Short w32 bytes) _ (λ field. then_read (text_len (cast_signed w32 field.0)) (λ len. then_read (bytes_at Short len field.1) (λ found. then_read (as_text found.0) (λ utf8. got utf8 found.1))))
    (λ field. regrouped (text_len (cast_signed w32 field.0)) (λ len. got len field.1) (λ len. read (Part len.0 utf8_fault Told) len.1)
    ∙ same_more (text_len (cast_signed w32 field.0)) (λ len. read (Part len utf8_fault Told) field.1) (λ len. then_read (bytes_at Short len field.1) (λ found. then_read (as_text found.0) (λ utf8. got utf8 found.1)))
    (λ len. read-utf8 len field.1))

read-if : {X : Type 0} (b : Bool) (one other : Format X) (bytes : List ℕ) → read (if b then one else other) bytes ≡ (if b then read one bytes else read other bytes)
read-if true one other bytes = refl
read-if false one other bytes = refl

read-publisher : (type : ℕ) (bytes : List ℕ) → read (publisher_id type) bytes ≡ publisher_at type bytes
unfolding publisher_id publisher_at
read-publisher type bytes = simp (read-if, read-then, read-any, read-number, read-text, read-told)

read-publisher_when : (there : Bool) (type : ℕ) (bytes : List ℕ) → read (when there (publisher_id type)) bytes ≡ part_at there (publisher_at type) bytes
read-publisher_when there type bytes = read-when there (publisher_id type) bytes ∙ same_part there (read (publisher_id type)) (publisher_at type) bytes (read-publisher type bytes)

read-group_numbers : (flags : ℕ) (bytes : List ℕ) → read (group_numbers flags) bytes ≡ group_numbers_at flags bytes
unfolding group_numbers group_numbers_at
read-group_numbers flags bytes = simp (read-then, read-number_when, read-told)

read-group : (there : Bool) (bytes : List ℕ) → read (group_when there) bytes ≡ group_at there bytes
unfolding group_when group_at
read-group there bytes = simp (read-if, read-then, read-byte, read-group_numbers, read-told)

read-ids : (there chunk : Bool) (bytes : List ℕ) → read (ids_when there chunk) bytes ≡ ids_at there chunk bytes
unfolding ids_when payload_header ids_at
read-ids there chunk bytes = simp (read-if, read-then, read-any, read-number, read-block, read-told)

read-promoted : (bytes : List ℕ) → read (number w16 >>= block) bytes ≡ promoted_at bytes
unfolding promoted_at
read-promoted bytes = simp (read-then, read-number, read-block)

read-promoted_when : (there : Bool) (bytes : List ℕ) → read (when there (number w16 >>= block)) bytes ≡ part_at there promoted_at bytes
read-promoted_when there bytes = read-when there (number w16 >>= block) bytes ∙ same_part there (read (number w16 >>= block)) promoted_at bytes (read-promoted bytes)

read-extras : (extended1 extended2 : ℕ) (bytes : List ℕ) → read (extras extended1 extended2) bytes ≡ extras_at extended1 extended2 bytes
unfolding extras extras_at
read-extras extended1 extended2 bytes = simp (read-then, read-block_when, read-promoted_when, read-told)

read-security : (bytes : List ℕ) → read security_header bytes ≡ security_at bytes
unfolding security_header security_at
read-security bytes = simp (read-then, read-any, read-byte, read-number, read-block, read-number_when, read-told)

read-security_when : (there : Bool) (bytes : List ℕ) → read (when there security_header) bytes ≡ part_at there security_at bytes
read-security_when there bytes = read-when there security_header bytes ∙ same_part there (read security_header) security_at bytes (read-security bytes)

read-parts : (flags extended1 extended2 : ℕ) (bytes : List ℕ) → read (parts flags extended1 extended2) bytes ≡ parts_at flags extended1 extended2 bytes
unfolding parts parts_at
read-parts flags extended1 extended2 bytes = simp (read-then, read-publisher_when, read-block_when, read-group, read-ids, read-extras, read-security_when, read-told)

pub read-header : (bytes : List ℕ) → read header bytes ≡ whole_at bytes
unfolding header whole_at
read-header bytes = simp (read-then, read-byte, read-byte_when, read-parts)

pub header_whole : (bytes : List ℕ) → header_at bytes ≡ whole_at bytes
unfolding header_at
header_whole bytes = read-header bytes
