-- Flags are judged by their bits, from left to right.
use Rattle.std.proofs.Common.{◌≡◌, ◌≢◌, ℕ, ◌/◌, ◌%◌, ◌<◌, Bool, true, false, List, ◌∷◌, length, Option, Some, None, Err, refl, ap, ◌∙◌, arith, inl, inr}
use Rattle.std.specs.Prelude.{nat_lt, ◌==◌, ◌⊎◌, if◌then◌else◌}
use Rattle.std.proofs.lemmas.Bool.{le-ltb, lt-ltb, eqb-true}
use Rattle.std.proofs.lemmas.Bool.Decides.{nat_tests}
use Rattle.ua_binary.specs.ReadingValues.{has}
use Rattle.uadp_header.specs.declared.fault.HeaderFault.{HeaderFault}
use Rattle.uadp_header.specs.declared.fault.HeaderFault.TheVariants as faults
use Rattle.uadp_header.specs.Formats.{Format, ◌>>=◌, read}
use Rattle.uadp_header.specs.Headers.{HeaderValue}
use Rattle.uadp_header.specs.Layout.{byte, byte_when, flags_fault, extended1_fault, extended2_fault, parts, header, header_at}
use Rattle.uadp_header.specs.Flags.{HasExtended1, HasExtended2}

refused_byte : {B : Type 0} (refused : ℕ → Option HeaderFault) (after : ℕ → Format B) (first : ℕ) (rest : List ℕ) (fault : HeaderFault)
    → refused first ≡ Some fault → read (byte refused >>= after) (first ∷ rest) ≡ Err fault
unfolding read byte ◌>>=◌
refused_byte refused after first rest fault is = rw (le-ltb (length (first ∷ rest)) 1 (omega arith), is) refl

passed_byte : {B : Type 0} (refused : ℕ → Option HeaderFault) (after : ℕ → Format B) (first : ℕ) (rest : List ℕ)
    → refused first ≡ None → read (byte refused >>= after) (first ∷ rest) ≡ read (after first) rest
unfolding read byte ◌>>=◌
passed_byte refused after first rest is = rw (le-ltb (length (first ∷ rest)) 1 (omega arith), is) refl

refused_when : {B : Type 0} (there : Bool) (refused : ℕ → Option HeaderFault) (after : ℕ → Format B) (first : ℕ) (rest : List ℕ) (fault : HeaderFault)
    → there ≡ true → refused first ≡ Some fault → read (byte_when there refused >>= after) (first ∷ rest) ≡ Err fault
unfolding byte_when
refused_when there refused after first rest fault there_is is =
    ap (λ (b : Bool). read (byte_when b refused >>= after) (first ∷ rest)) there_is ∙ refused_byte refused after first rest fault is

passed_when : {B : Type 0} (there : Bool) (refused : ℕ → Option HeaderFault) (after : ℕ → Format B) (first : ℕ) (rest : List ℕ)
    → there ≡ true → refused first ≡ None → read (byte_when there refused >>= after) (first ∷ rest) ≡ read (after first) rest
unfolding byte_when
passed_when there refused after first rest there_is is =
    ap (λ (b : Bool). read (byte_when b refused >>= after) (first ∷ rest)) there_is ∙ passed_byte refused after first rest is

-- what stands behind ExtendedFlags1, and behind the flags
abbrev behind1 : ℕ → ℕ → Format HeaderValue
behind1 flags extended1 = byte_when (has extended1 0x80) (extended2_fault flags) >>= λ extended2. parts flags extended1 extended2

abbrev behind : ℕ → Format HeaderValue
behind flags = byte_when (has flags 0x80) extended1_fault >>= behind1 flags

pub version_judged : (flags : ℕ) (rest : List ℕ) → flags % 16 ≢ 1 → header_at (flags ∷ rest) ≡ Err (faults.Version (flags % 16))
unfolding header_at header
version_judged flags rest other = refused_byte flags_fault behind flags rest (faults.Version (flags % 16)) (by_test (flags % 16 == 1) refl)
  where
    by_test : (b : Bool) → (flags % 16 == 1) ≡ b → (if b then None else Some (faults.Version (flags % 16))) ≡ Some (faults.Version (flags % 16))
    by_test true is = absurd (other (eqb-true (flags % 16) 1 is))
    by_test false is = refl

flags_pass : (flags : ℕ) → flags % 16 ≡ 1 → flags_fault flags ≡ None
flags_pass flags is = ap (λ (n : ℕ). if n == 1 then None else Some (faults.Version n)) is

pub type_judged : (flags extended1 : ℕ) (rest : List ℕ) → HasExtended1 flags → 4 < extended1 % 8 → header_at (flags ∷ extended1 ∷ rest) ≡ Err faults.BadPublisherType
unfolding header_at header
type_judged flags extended1 rest has1 big =
    passed_byte flags_fault behind flags (extended1 ∷ rest) (flags_pass flags has1.version)
    ∙ refused_when (has flags 0x80) extended1_fault (behind1 flags) extended1 rest faults.BadPublisherType has1.there
    (ap (λ (b : Bool). if b then Some faults.BadPublisherType else None) (lt-ltb 4 (extended1 % 8) big))

-- a fault of ExtendedFlags2
second_judged : (flags extended1 extended2 : ℕ) (rest : List ℕ) (fault : HeaderFault) → HasExtended2 flags extended1 → extended2_fault flags extended2 ≡ Some fault
    → header_at (flags ∷ extended1 ∷ extended2 ∷ rest) ≡ Err fault
unfolding header_at header
second_judged flags extended1 extended2 rest fault has2 is =
    passed_byte flags_fault behind flags (extended1 ∷ extended2 ∷ rest) (flags_pass flags has2.first.version)
    ∙ passed_when (has flags 0x80) extended1_fault (behind1 flags) extended1 (extended2 ∷ rest) has2.first.there
    (ap (λ (b : Bool). if b then Some faults.BadPublisherType else None) (le-ltb 4 (extended1 % 8) has2.type))
    ∙ refused_when (has extended1 0x80) (extended2_fault flags) (λ e. parts flags extended1 e) extended2 rest fault has2.there is

pub discovery_judged : (flags extended1 extended2 : ℕ) (rest : List ℕ) → HasExtended2 flags extended1 → (extended2 / 4 % 8 ≡ 1) ⊎ (extended2 / 4 % 8 ≡ 2)
    → header_at (flags ∷ extended1 ∷ extended2 ∷ rest) ≡ Err faults.DiscoveryOut
discovery_judged flags extended1 extended2 rest has2 (inl is) = second_judged flags extended1 extended2 rest faults.DiscoveryOut has2 (rw is refl)
discovery_judged flags extended1 extended2 rest has2 (inr is) = second_judged flags extended1 extended2 rest faults.DiscoveryOut has2 (rw is refl)

pub message_type_judged : (flags extended1 extended2 : ℕ) (rest : List ℕ) → HasExtended2 flags extended1 → 2 < extended2 / 4 % 8
    → header_at (flags ∷ extended1 ∷ extended2 ∷ rest) ≡ Err faults.ReservedBits
message_type_judged flags extended1 extended2 rest has2 more =
    let probe : (extended2 / 4 % 8 == 1) ≡ false = grind (arith, nat_tests) in
    let announcement : (extended2 / 4 % 8 == 2) ≡ false = grind (arith, nat_tests) in
    let big : nat_lt 2 (extended2 / 4 % 8) ≡ true = lt-ltb 2 (extended2 / 4 % 8) more in
    second_judged flags extended1 extended2 rest faults.ReservedBits has2 (rw (probe, announcement, big) refl)
