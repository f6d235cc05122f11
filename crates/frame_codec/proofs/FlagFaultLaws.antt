-- What the bits of DataSetFlags1 and DataSetFlags2 are refused for.
use Rattle.std.proofs.Common.{◌≡◌, ◌≢◌, refl, ap, ◌∙◌, arith, ℕ, ◌%◌, ◌/◌, ◌<◌, ◌≤◌, Bool, true, false, not, ◌&&◌, ◌||◌, List, ◌∷◌, Option, Some, None, Err}
use Rattle.std.specs.Prelude.{◌==◌, nat_lt, if◌then◌else◌}
use Rattle.std.proofs.lemmas.Bool.{eqb-true}
use Rattle.std.proofs.lemmas.Bool.Decides.{nat_tests}
use Rattle.ua_binary.specs.ReadingValues.{has}
use Rattle.frame_codec.specs.declared.fault.FrameFault.{FrameFault}
use Rattle.frame_codec.specs.declared.fault.FrameFault.TheVariants.{NotValid, BadEncoding, EventOut, ReservedBits}
use Rattle.frame_codec.specs.Fronts.{encoding_in, kind_in, is_encoding, fault_in_flags1, fault_in_flags2, front_at}
use Rattle.frame_codec.specs.Refusals.{HasFlags2}
use Rattle.frame_codec.specs.Wire.{is_field_encoding}
use Rattle.frame_codec.proofs.FlagLaws.{bits-tell}
use Rattle.frame_codec.proofs.FaultLaws.{flags1-refused, flags2-refused}

-- ---- DataSetFlags1

abbrev judged1 : Bool → Bool → Option FrameFault
judged1 valid right = if not valid then Some NotValid else if right then None else Some BadEncoding

flags1_fault : (fixed : Bool) (flags : ℕ) (valid right : Bool) → has flags 0x01 ≡ valid → is_encoding fixed (encoding_in flags) ≡ right → fault_in_flags1 fixed flags ≡ judged1 valid right
flags1_fault fixed flags valid right v r = ap (λ (b : Bool). judged1 b (is_encoding fixed (encoding_in flags))) v ∙ ap (judged1 valid) r

is_one : (n : ℕ) → n ≡ 1 → (n == 1) ≡ true
is_one n e = rw e refl

is_none : (n : ℕ) → n ≡ 0 → (n == 1) ≡ false
is_none n e = rw e refl

pub even-refused : (fixed : Bool) (flags : ℕ) (rest : List ℕ) → flags < 256 → flags % 2 ≡ 0 → front_at fixed (flags ∷ rest) ≡ Err NotValid
even-refused fixed flags rest small even =
    let valid = (bits-tell flags small).odd ∙ is_none (flags % 2) even in
    flags1-refused fixed flags rest NotValid (flags1_fault fixed flags false (is_encoding fixed (encoding_in flags)) valid refl)

pub encoding-refused : (fixed : Bool) (flags : ℕ) (rest : List ℕ) → flags < 256 → flags % 2 ≡ 1 → is_field_encoding fixed (flags / 2 % 4) ≡ false
    → front_at fixed (flags ∷ rest) ≡ Err BadEncoding
encoding-refused fixed flags rest small odd wrong =
    let valid = (bits-tell flags small).odd ∙ is_one (flags % 2) odd in
    flags1-refused fixed flags rest BadEncoding (flags1_fault fixed flags true false valid wrong)

-- ---- DataSetFlags2

abbrev judged2 : Bool → Bool → Bool → Option FrameFault
judged2 raw_delta event reserved = if raw_delta then Some BadEncoding else if event then Some EventOut else if reserved then Some ReservedBits else None

flags2_fault : (encoding extended : ℕ) (a b c : Bool) → (encoding == 1 && kind_in extended == 1) ≡ a → (kind_in extended == 2) ≡ b → (nat_lt 3 (kind_in extended) || has extended 0xc0) ≡ c
    → fault_in_flags2 encoding extended ≡ judged2 a b c
flags2_fault encoding extended a b c raw_delta event reserved =
    ap (λ (x : Bool). judged2 x (kind_in extended == 2) (nat_lt 3 (kind_in extended) || has extended 0xc0)) raw_delta
    ∙ ap (λ (x : Bool). judged2 a x (nat_lt 3 (kind_in extended) || has extended 0xc0)) event ∙ ap (judged2 a b) reserved

refused2 : (fixed : Bool) (flags extended : ℕ) (rest : List ℕ) (fault : FrameFault) → HasFlags2 fixed flags → fault_in_flags2 (encoding_in flags) extended ≡ Some fault
    → front_at fixed (flags ∷ extended ∷ rest) ≡ Err fault
refused2 fixed flags extended rest fault has2 is =
    let bits = bits-tell flags has2.small in
    let high : nat_lt 127 flags ≡ true = grind (arith, nat_tests, has2.more) in
    flags2-refused fixed flags extended rest fault (flags1_fault fixed flags true true (bits.odd ∙ is_one (flags % 2) has2.valid) has2.encoding) (bits.high ∙ high) is

-- of two tests of numbers one fails
and_no : (a : Bool) → (a && false) ≡ false
and_no true = refl
and_no false = refl

or_yes : (a : Bool) → (a || true) ≡ true
or_yes true = refl
or_yes false = refl

other : (n k : ℕ) (same : Bool) → (n == k) ≡ same → n ≢ k → (n == k) ≡ false
other n k true e apart = absurd (apart (eqb-true n k e))
other n k false e apart = e

-- a message that isn't a delta frame is no delta frame of RawData
no_delta : (encoding kind : ℕ) → kind ≢ 1 → (encoding == 1 && kind == 1) ≡ false
no_delta encoding kind apart = ap (λ (b : Bool). encoding == 1 && b) (other kind 1 (kind == 1) refl apart) ∙ and_no (encoding == 1)

not_both : (encoding kind : ℕ) (a b : Bool) → (encoding == 1) ≡ a → (kind == 1) ≡ b → ¬ ((encoding ≡ 1) × (kind ≡ 1)) → (a && b) ≡ false
not_both encoding kind true true p q apart = absurd (apart (eqb-true encoding 1 p, eqb-true kind 1 q))
not_both encoding kind true false p q apart = refl
not_both encoding kind false b p q apart = refl

pub raw_delta-refused : (fixed : Bool) (flags extended : ℕ) (rest : List ℕ) → HasFlags2 fixed flags → flags / 2 % 4 ≡ 1 → extended % 16 ≡ 1 → front_at fixed (flags ∷ extended ∷ rest) ≡ Err BadEncoding
raw_delta-refused fixed flags extended rest has2 raw delta =
    let both : (encoding_in flags == 1 && kind_in extended == 1) ≡ true = ap (λ (b : Bool). b && kind_in extended == 1) (is_one (flags / 2 % 4) raw) ∙ is_one (extended % 16) delta in
    refused2 fixed flags extended rest BadEncoding has2 (flags2_fault (encoding_in flags) extended true (kind_in extended == 2) (nat_lt 3 (kind_in extended) || has extended 0xc0) both refl refl)

is_two : (n : ℕ) → n ≡ 2 → (n == 2) ≡ true
is_two n e = rw e refl

pub event-refused : (fixed : Bool) (flags extended : ℕ) (rest : List ℕ) → HasFlags2 fixed flags → extended % 16 ≡ 2 → front_at fixed (flags ∷ extended ∷ rest) ≡ Err EventOut
event-refused fixed flags extended rest has2 event =
    let whole = no_delta (encoding_in flags) (kind_in extended) (λ (one : extended % 16 ≡ 1). absurd (omega (arith, event, one))) in
    refused2 fixed flags extended rest EventOut has2
    (flags2_fault (encoding_in flags) extended false true (nat_lt 3 (kind_in extended) || has extended 0xc0) whole (is_two (extended % 16) event) refl)

great : (n : ℕ) → 4 ≤ n → nat_lt 3 n ≡ true
great n many = grind (arith, nat_tests, many)

pub kind-refused : (fixed : Bool) (flags extended : ℕ) (rest : List ℕ) → HasFlags2 fixed flags → 4 ≤ extended % 16 → front_at fixed (flags ∷ extended ∷ rest) ≡ Err ReservedBits
kind-refused fixed flags extended rest has2 many =
    let whole = no_delta (encoding_in flags) (kind_in extended) (λ (one : extended % 16 ≡ 1). absurd (omega (arith, many, one))) in
    let no_event = other (kind_in extended) 2 (kind_in extended == 2) refl (λ (two : extended % 16 ≡ 2). absurd (omega (arith, many, two))) in
    refused2 fixed flags extended rest ReservedBits has2
    (flags2_fault (encoding_in flags) extended false false true whole no_event (ap (λ (b : Bool). b || has extended 0xc0) (great (extended % 16) many)))

pub bits-refused : (fixed : Bool) (flags extended : ℕ) (rest : List ℕ) → HasFlags2 fixed flags → extended < 256 → 64 ≤ extended → extended % 16 ≢ 2
    → ¬ ((flags / 2 % 4 ≡ 1) × (extended % 16 ≡ 1)) → front_at fixed (flags ∷ extended ∷ rest) ≡ Err ReservedBits
bits-refused fixed flags extended rest has2 small high no_event no_raw_delta =
    let whole = not_both (encoding_in flags) (kind_in extended) (encoding_in flags == 1) (kind_in extended == 1) refl refl no_raw_delta in
    let set : nat_lt 63 extended ≡ true = grind (arith, nat_tests, high) in
    refused2 fixed flags extended rest ReservedBits has2
    (flags2_fault (encoding_in flags) extended false false true whole (other (kind_in extended) 2 (kind_in extended == 2) refl no_event)
    (ap (λ (b : Bool). nat_lt 3 (kind_in extended) || b) ((bits-tell extended small).highest ∙ set) ∙ or_yes (nat_lt 3 (kind_in extended))))
