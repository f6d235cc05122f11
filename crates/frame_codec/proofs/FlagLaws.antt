-- The flags of a message tell what it has, and nothing else.
use Rattle.std.proofs.Common.{◌≡◌, ℕ, zero, suc, ◌+◌, ◌*◌, ◌%◌, ◌<◌, Bool, true, false, not, refl, arith}
use Rattle.std.specs.Prelude.{◌==◌, ◌&&◌, ◌||◌, nat_lt}
use Rattle.std.specs.Bool.{beq}
use Rattle.std.proofs.lemmas.Bool.{eqb-true, ltb-true}
use Rattle.ua_binary.specs.ReadingValues.{has}
use Rattle.ua_binary.specs.Wire.{flag}
use Rattle.ua_binary.proofs.FlagTests.{both, same_bool, all_below, below_all}
use Rattle.frame_codec.specs.Fronts.{encoding_in, kind_in}

-- DataSetFlags1 from what it tells
abbrev pub code1 : ℕ → Bool → Bool → Bool → Bool → Bool → ℕ
code1 encoding number status major minor extended = 1 + 2 * encoding + flag number 8 + flag status 16 + flag major 32 + flag minor 64 + flag extended 128

is_code1 : ℕ → Bool
is_code1 flags = not (has flags 0x01) || flags == code1 (encoding_in flags) (has flags 0x08) (has flags 0x10) (has flags 0x20) (has flags 0x40) (has flags 0x80)

all_code1 : all_below 256 is_code1 ≡ true
unfolding all_below is_code1
all_code1 = refl

pub decoded1 : (flags : ℕ) → flags < 256 → has flags 0x01 ≡ true
    → flags ≡ code1 (encoding_in flags) (has flags 0x08) (has flags 0x10) (has flags 0x20) (has flags 0x40) (has flags 0x80)
unfolding is_code1
decoded1 flags small valid = eqb-true flags _ (cut (has flags 0x01) _ valid (below_all 256 flags is_code1 all_code1 small))
  where
    cut : (a b : Bool) → a ≡ true → (not a || b) ≡ true → b ≡ true
    cut true b is either = either
    cut false b is either = absurd cc

-- what DataSetFlags1 tells
pub record Tells1 (flags code : ℕ) (a b c d e : Bool) : Type 0 where
  pub valid : has flags 0x01 ≡ true
  pub encoding : encoding_in flags ≡ code
  pub number : has flags 0x08 ≡ a
  pub status : has flags 0x10 ≡ b
  pub major : has flags 0x20 ≡ c
  pub minor : has flags 0x40 ≡ d
  pub extended : has flags 0x80 ≡ e
  pub small : flags < 256

tests1 : ℕ → ℕ → Bool → Bool → Bool → Bool → Bool → Bool
tests1 flags encoding number status major minor extended =
    has flags 0x01 && (encoding_in flags == encoding) && beq (has flags 0x08) number && beq (has flags 0x10) status && beq (has flags 0x20) major
    && beq (has flags 0x40) minor && beq (has flags 0x80) extended && nat_lt flags 256

for_both : (Bool → Bool) → Bool
for_both test = test true && test false

one_of : (test : Bool → Bool) (b : Bool) → for_both test ≡ true → test b ≡ true
unfolding for_both
one_of test true all = (both (test true) (test false) all).0
one_of test false all = (both (test true) (test false) all).1

all_tests1 : ℕ → Bool
all_tests1 encoding =
    for_both (λ number. for_both (λ status. for_both (λ major. for_both (λ minor. for_both (λ extended. tests1 (code1 encoding number status major minor extended) encoding number status major minor extended)))))

all_told1 : (encoding : ℕ) → encoding < 3 → all_tests1 encoding ≡ true
unfolding all_tests1 for_both tests1
all_told1 zero below = refl
all_told1 (suc zero) below = refl
all_told1 (suc (suc zero)) below = refl
all_told1 (suc (suc (suc n))) below = absurd (omega arith)

pub told1 : (encoding : ℕ) (number status major minor extended : Bool) → encoding < 3
    → Tells1 (code1 encoding number status major minor extended) encoding number status major minor extended
unfolding tests1 all_tests1
told1 encoding number status major minor extended below =
    let all = all_told1 encoding below in
    let a = one_of _ number all in
    let b = one_of _ status a in
    let c = one_of _ major b in
    let d = one_of _ minor c in
    let e = one_of _ extended d in
    let flags = code1 encoding number status major minor extended in
    let p8 = both _ (nat_lt flags 256) e in
    let p7 = both _ (beq (has flags 0x80) extended) p8.0 in
    let p6 = both _ (beq (has flags 0x40) minor) p7.0 in
    let p5 = both _ (beq (has flags 0x20) major) p6.0 in
    let p4 = both _ (beq (has flags 0x10) status) p5.0 in
    let p3 = both _ (beq (has flags 0x08) number) p4.0 in
    let p2 = both (has flags 0x01) (encoding_in flags == encoding) p3.0 in
    record {
      valid = p2.0;
      encoding = eqb-true (encoding_in flags) encoding p2.1;
      number = same_bool (has flags 0x08) number p3.1;
      status = same_bool (has flags 0x10) status p4.1;
      major = same_bool (has flags 0x20) major p5.1;
      minor = same_bool (has flags 0x40) minor p6.1;
      extended = same_bool (has flags 0x80) extended p7.1;
      small = ltb-true flags 256 p8.1;
    }

-- DataSetFlags2 from what it tells
abbrev pub code2 : ℕ → Bool → Bool → ℕ
code2 kind timestamp picoseconds = kind + flag timestamp 16 + flag picoseconds 32

is_code2 : ℕ → Bool
is_code2 flags = has flags 0xc0 || flags == code2 (kind_in flags) (has flags 0x10) (has flags 0x20)

all_code2 : all_below 256 is_code2 ≡ true
unfolding all_below is_code2
all_code2 = refl

pub decoded2 : (flags : ℕ) → flags < 256 → has flags 0xc0 ≡ false → flags ≡ code2 (kind_in flags) (has flags 0x10) (has flags 0x20)
unfolding is_code2
decoded2 flags small free = eqb-true flags _ (cut (has flags 0xc0) _ free (below_all 256 flags is_code2 all_code2 small))
  where
    cut : (a b : Bool) → a ≡ false → (a || b) ≡ true → b ≡ true
    cut false b is either = either
    cut true b is either = absurd cc

pub record Tells2 (flags code : ℕ) (a b : Bool) : Type 0 where
  pub kind : kind_in flags ≡ code
  pub timestamp : has flags 0x10 ≡ a
  pub picoseconds : has flags 0x20 ≡ b
  pub free : has flags 0xc0 ≡ false
  pub small : flags < 256

tests2 : ℕ → ℕ → Bool → Bool → Bool
tests2 flags kind timestamp picoseconds =
    (kind_in flags == kind) && beq (has flags 0x10) timestamp && beq (has flags 0x20) picoseconds && beq (has flags 0xc0) false && nat_lt flags 256

all_tests2 : ℕ → Bool
all_tests2 kind = for_both (λ timestamp. for_both (λ picoseconds. tests2 (code2 kind timestamp picoseconds) kind timestamp picoseconds))

all_told2 : all_below 4 all_tests2 ≡ true
unfolding all_below all_tests2 for_both tests2
all_told2 = refl

pub told2 : (kind : ℕ) (timestamp picoseconds : Bool) → kind < 4 → Tells2 (code2 kind timestamp picoseconds) kind timestamp picoseconds
unfolding tests2 all_tests2
told2 kind timestamp picoseconds below =
    let all = below_all 4 kind all_tests2 all_told2 below in
    let a = one_of _ timestamp all in
    let b = one_of _ picoseconds a in
    let flags = code2 kind timestamp picoseconds in
    let p4 = both _ (nat_lt flags 256) b in
    let p3 = both _ (beq (has flags 0xc0) false) p4.0 in
    let p2 = both _ (beq (has flags 0x20) picoseconds) p3.0 in
    let p1 = both (kind_in flags == kind) (beq (has flags 0x10) timestamp) p2.0 in
    record {
      kind = eqb-true (kind_in flags) kind p1.0;
      timestamp = same_bool (has flags 0x10) timestamp p1.1;
      picoseconds = same_bool (has flags 0x20) picoseconds p2.1;
      free = same_bool (has flags 0xc0) false p3.1;
      small = ltb-true flags 256 p4.1;
    }

-- ---- bits as numbers

-- a byte is odd where its lowest bit is set, 128 at least where its highest is, and 64 at least where one of the two highest is
is_number : ℕ → Bool
is_number flags = beq (has flags 0x01) (flags % 2 == 1) && beq (has flags 0x80) (nat_lt 127 flags) && beq (has flags 0xc0) (nat_lt 63 flags)

all_number : all_below 256 is_number ≡ true
unfolding all_below is_number
all_number = refl

-- what the bits of a byte say of it
pub record BitsTell (flags : ℕ) : Type 0 where
  pub odd : has flags 0x01 ≡ (flags % 2 == 1)
  pub high : has flags 0x80 ≡ nat_lt 127 flags
  pub highest : has flags 0xc0 ≡ nat_lt 63 flags

pub bits-tell : (flags : ℕ) → flags < 256 → BitsTell flags
unfolding is_number
bits-tell flags small =
    let p2 = both _ (beq (has flags 0xc0) (nat_lt 63 flags)) (below_all 256 flags is_number all_number small) in
    let p1 = both (beq (has flags 0x01) (flags % 2 == 1)) (beq (has flags 0x80) (nat_lt 127 flags)) p2.0 in
    record {
      odd = same_bool (has flags 0x01) (flags % 2 == 1) p1.0;
      high = same_bool (has flags 0x80) (nat_lt 127 flags) p1.1;
      highest = same_bool (has flags 0xc0) (nat_lt 63 flags) p2.1;
    }
