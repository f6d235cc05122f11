-- The flags of a header tell what it has, and nothing else.
use Rattle.std.proofs.Common.{◌≡◌, ℕ, zero, suc, ◌+◌, ◌%◌, ◌<◌, ◌≤◌, Bool, true, false, not, Option, Some, None, refl, arith}
use Rattle.std.specs.Prelude.{◌==◌, ◌&&◌, ◌||◌, nat_lt, is_some, if◌then◌else◌}
use Rattle.std.specs.Bool.{beq}
use Rattle.std.proofs.lemmas.Bool.{eqb-true, eqb-false, ltb-false, le-ltb}
use Rattle.ua_binary.specs.ReadingValues.{has}
use Rattle.ua_binary.specs.Wire.{flag}
use Rattle.ua_binary.proofs.FlagTests.{both, same_bool, all_below, below_all}
use Rattle.uadp_header.specs.declared.fault.HeaderFault.{HeaderFault}
use Rattle.uadp_header.specs.declared.fault.HeaderFault.TheVariants.{DiscoveryOut, ReservedBits}
use Rattle.uadp_header.specs.Layout.{flags_fault, extended1_fault, extended2_fault, reserved_fault, message_type}

-- ---- tests of each number, and of both truth values

for_both : (Bool → Bool) → Bool
for_both test = test true && test false

one_of : (test : Bool → Bool) (b : Bool) → for_both test ≡ true → test b ≡ true
unfolding for_both
one_of test true all = (both (test true) (test false) all).0
one_of test false all = (both (test true) (test false) all).1

-- of two tests the one that isn't passed over
other : (a b : Bool) → a ≡ false → (a || b) ≡ true → b ≡ true
other false b is either = either
other true b is either = absurd cc

no_fault : (b : Bool) (fault : HeaderFault) (more : Option HeaderFault) → (if b then Some fault else more) ≡ None → b ≡ false
no_fault false fault more e = refl
no_fault true fault more e = absurd cc

passes : (b : Bool) (fault : HeaderFault) → (if b then None else Some fault) ≡ None → b ≡ true
passes true fault e = refl
passes false fault e = absurd cc

-- ---- the flags

abbrev pub flags_with : Bool → Bool → Bool → Bool → ℕ
flags_with publisher group ids extended = 1 + flag publisher 0x10 + flag group 0x20 + flag ids 0x40 + flag extended 0x80

pub record TellsFlags (has_publisher has_group has_list is_extended : Bool) (flags : ℕ) : Type 0 where
  pub no_fault : flags_fault flags ≡ None
  pub publisher : has flags 0x10 ≡ has_publisher
  pub group : has flags 0x20 ≡ has_group
  pub ids : has flags 0x40 ≡ has_list
  pub extended : has flags 0x80 ≡ is_extended

pub flags_tell : (publisher group ids extended : Bool) → TellsFlags publisher group ids extended (flags_with publisher group ids extended)
flags_tell true true true true = record { no_fault = refl; publisher = refl; group = refl; ids = refl; extended = refl }
flags_tell true true true false = record { no_fault = refl; publisher = refl; group = refl; ids = refl; extended = refl }
flags_tell true true false true = record { no_fault = refl; publisher = refl; group = refl; ids = refl; extended = refl }
flags_tell true true false false = record { no_fault = refl; publisher = refl; group = refl; ids = refl; extended = refl }
flags_tell true false true true = record { no_fault = refl; publisher = refl; group = refl; ids = refl; extended = refl }
flags_tell true false true false = record { no_fault = refl; publisher = refl; group = refl; ids = refl; extended = refl }
flags_tell true false false true = record { no_fault = refl; publisher = refl; group = refl; ids = refl; extended = refl }
flags_tell true false false false = record { no_fault = refl; publisher = refl; group = refl; ids = refl; extended = refl }
flags_tell false true true true = record { no_fault = refl; publisher = refl; group = refl; ids = refl; extended = refl }
flags_tell false true true false = record { no_fault = refl; publisher = refl; group = refl; ids = refl; extended = refl }
flags_tell false true false true = record { no_fault = refl; publisher = refl; group = refl; ids = refl; extended = refl }
flags_tell false true false false = record { no_fault = refl; publisher = refl; group = refl; ids = refl; extended = refl }
flags_tell false false true true = record { no_fault = refl; publisher = refl; group = refl; ids = refl; extended = refl }
flags_tell false false true false = record { no_fault = refl; publisher = refl; group = refl; ids = refl; extended = refl }
flags_tell false false false true = record { no_fault = refl; publisher = refl; group = refl; ids = refl; extended = refl }
flags_tell false false false false = record { no_fault = refl; publisher = refl; group = refl; ids = refl; extended = refl }

is_flags : ℕ → Bool
is_flags n = not (n % 16 == 1) || n == flags_with (has n 0x10) (has n 0x20) (has n 0x40) (has n 0x80)

all_flags : all_below 256 is_flags ≡ true
unfolding all_below is_flags
all_flags = refl

pub flags-sum : (n : ℕ) → n < 256 → flags_fault n ≡ None → n ≡ flags_with (has n 0x10) (has n 0x20) (has n 0x40) (has n 0x80)
unfolding is_flags
flags-sum n small e =
    let is : (n % 16 == 1) ≡ true = passes (n % 16 == 1) _ e in
    let isnt : not (n % 16 == 1) ≡ false = rw is refl in
    eqb-true n _ (other (not (n % 16 == 1)) _ isnt (below_all 256 n is_flags all_flags small))

-- ---- ExtendedFlags1

abbrev pub extended1_with : ℕ → Bool → Bool → Bool → Bool → Bool → ℕ
extended1_with type class security timestamp picoseconds extended =
    type + flag class 0x08 + flag security 0x10 + flag timestamp 0x20 + flag picoseconds 0x40 + flag extended 0x80

pub record TellsExtended1 (id_type : ℕ) (has_class has_security has_timestamp has_picoseconds is_extended : Bool) (extended1 : ℕ) : Type 0 where
  pub no_fault : extended1_fault extended1 ≡ None
  pub type : extended1 % 8 ≡ id_type
  pub class : has extended1 0x08 ≡ has_class
  pub security : has extended1 0x10 ≡ has_security
  pub timestamp : has extended1 0x20 ≡ has_timestamp
  pub picoseconds : has extended1 0x40 ≡ has_picoseconds
  pub extended : has extended1 0x80 ≡ is_extended

tests1 : ℕ → ℕ → Bool → Bool → Bool → Bool → Bool → Bool
tests1 n type class security timestamp picoseconds extended =
    (n % 8 == type) && (beq (has n 0x08) class && (beq (has n 0x10) security && (beq (has n 0x20) timestamp && (beq (has n 0x40) picoseconds && beq (has n 0x80) extended))))

all_tests1 : ℕ → Bool
all_tests1 type =
    for_both (λ class. for_both (λ security. for_both (λ timestamp. for_both (λ picoseconds. for_both (λ extended.
    tests1 (extended1_with type class security timestamp picoseconds extended) type class security timestamp picoseconds extended)))))

all_told1 : (type : ℕ) → type ≤ 4 → all_tests1 type ≡ true
unfolding all_tests1 for_both tests1
all_told1 zero below = refl
all_told1 (suc zero) below = refl
all_told1 (suc (suc zero)) below = refl
all_told1 (suc (suc (suc zero))) below = refl
all_told1 (suc (suc (suc (suc zero)))) below = refl
all_told1 (suc (suc (suc (suc (suc n))))) below = absurd (omega arith)

typed : (n type : ℕ) → n % 8 ≡ type → type ≤ 4 → extended1_fault n ≡ None
typed n type is below = let small : nat_lt 4 (n % 8) ≡ false = le-ltb 4 (n % 8) (omega arith) in rw small refl

pub extended1_tell : (type : ℕ) (class security timestamp picoseconds extended : Bool) → type ≤ 4
    → TellsExtended1 type class security timestamp picoseconds extended (extended1_with type class security timestamp picoseconds extended)
unfolding tests1 all_tests1
extended1_tell type class security timestamp picoseconds extended below =
    let n = extended1_with type class security timestamp picoseconds extended in
    let a = one_of _ class (all_told1 type below) in
    let b = one_of _ security a in
    let c = one_of _ timestamp b in
    let d = one_of _ picoseconds c in
    let e = one_of _ extended d in
    let p1 = both (n % 8 == type) _ e in
    let p2 = both (beq (has n 0x08) class) _ p1.1 in
    let p3 = both (beq (has n 0x10) security) _ p2.1 in
    let p4 = both (beq (has n 0x20) timestamp) _ p3.1 in
    let p5 = both (beq (has n 0x40) picoseconds) (beq (has n 0x80) extended) p4.1 in
    record {
      no_fault = typed n type (eqb-true (n % 8) type p1.0) below;
      type = eqb-true (n % 8) type p1.0;
      class = same_bool (has n 0x08) class p2.0;
      security = same_bool (has n 0x10) security p3.0;
      timestamp = same_bool (has n 0x20) timestamp p4.0;
      picoseconds = same_bool (has n 0x40) picoseconds p5.0;
      extended = same_bool (has n 0x80) extended p5.1;
    }

is_extended1 : ℕ → Bool
is_extended1 n = n == extended1_with (n % 8) (has n 0x08) (has n 0x10) (has n 0x20) (has n 0x40) (has n 0x80)

all_extended1 : all_below 256 is_extended1 ≡ true
unfolding all_below is_extended1
all_extended1 = refl

pub extended1-sum : (n : ℕ) → n < 256 → n ≡ extended1_with (n % 8) (has n 0x08) (has n 0x10) (has n 0x20) (has n 0x40) (has n 0x80)
unfolding is_extended1
extended1-sum n small = eqb-true n _ (below_all 256 n is_extended1 all_extended1 small)

pub extended1-type : (n : ℕ) → extended1_fault n ≡ None → n % 8 ≤ 4
extended1-type n e = ltb-false 4 (n % 8) (no_fault (nat_lt 4 (n % 8)) _ None e)

-- ---- ExtendedFlags2

pub record TellsExtended2 (is_chunk has_promoted : Bool) (flags extended2 : ℕ) : Type 0 where
  pub no_fault : extended2_fault flags extended2 ≡ None
  pub chunk : has extended2 0x01 ≡ is_chunk
  pub promoted : has extended2 0x02 ≡ has_promoted

abbrev pub extended2_with : Bool → Bool → ℕ
extended2_with chunk promoted = flag chunk 0x01 + flag promoted 0x02

-- a chunk has a payload header
pub extended2_tell : (chunk promoted : Bool) (flags : ℕ) → (chunk ≡ true → has flags 0x40 ≡ true) → TellsExtended2 chunk promoted flags (extended2_with chunk promoted)
extended2_tell true true flags listed = record { no_fault = rw (listed refl) refl; chunk = refl; promoted = refl }
extended2_tell true false flags listed = record { no_fault = rw (listed refl) refl; chunk = refl; promoted = refl }
extended2_tell false true flags listed = record { no_fault = refl; chunk = refl; promoted = refl }
extended2_tell false false flags listed = record { no_fault = refl; chunk = refl; promoted = refl }

-- what ExtendedFlags2 is refused for, by whether there is a payload header
fault2 : Bool → ℕ → Option HeaderFault
fault2 listed n =
    if message_type n == 1 || message_type n == 2 then Some DiscoveryOut
    else if nat_lt 2 (message_type n) || has n 0xe0 || (has n 0x01 && not listed) then Some ReservedBits
    else None

is_extended2 : Bool → ℕ → Bool
is_extended2 listed n = is_some (fault2 listed n) || ((n == extended2_with (has n 0x01) (has n 0x02)) && (not (has n 0x01) || listed))

all_extended2 : (listed : Bool) → all_below 256 (is_extended2 listed) ≡ true
unfolding all_below is_extended2 fault2
all_extended2 true = refl
all_extended2 false = refl

none : (o : Option HeaderFault) → o ≡ None → is_some o ≡ false
none o e = rw e refl

implies : (a b : Bool) → (not a || b) ≡ true → a ≡ true → b ≡ true
implies true b either is = either
implies false b either is = absurd cc

pub record IsExtended2 (flags extended2 : ℕ) : Type 0 where
  pub sum : extended2 ≡ extended2_with (has extended2 0x01) (has extended2 0x02)
  pub listed : has extended2 0x01 ≡ true → has flags 0x40 ≡ true

pub extended2-sum : (flags n : ℕ) → n < 256 → extended2_fault flags n ≡ None → IsExtended2 flags n
unfolding is_extended2 fault2
extended2-sum flags n small e =
    let told = other _ _ (none (fault2 (has flags 0x40) n) e) (below_all 256 n (is_extended2 (has flags 0x40)) (all_extended2 (has flags 0x40)) small) in
    let parts = both (n == extended2_with (has n 0x01) (has n 0x02)) _ told in
    record { sum = eqb-true n _ parts.0; listed = implies (has n 0x01) (has flags 0x40) parts.1 }

-- ---- GroupFlags and SecurityFlags

abbrev pub low_with : Bool → Bool → Bool → Bool → ℕ
low_with one two four eight = flag one 0x01 + flag two 0x02 + flag four 0x04 + flag eight 0x08

pub record TellsLow (is_one is_two is_four is_eight : Bool) (flags : ℕ) : Type 0 where
  pub no_fault : reserved_fault flags ≡ None
  pub one : has flags 0x01 ≡ is_one
  pub two : has flags 0x02 ≡ is_two
  pub four : has flags 0x04 ≡ is_four
  pub eight : has flags 0x08 ≡ is_eight

pub low_tell : (one two four eight : Bool) → TellsLow one two four eight (low_with one two four eight)
low_tell true true true true = record { no_fault = refl; one = refl; two = refl; four = refl; eight = refl }
low_tell true true true false = record { no_fault = refl; one = refl; two = refl; four = refl; eight = refl }
low_tell true true false true = record { no_fault = refl; one = refl; two = refl; four = refl; eight = refl }
low_tell true true false false = record { no_fault = refl; one = refl; two = refl; four = refl; eight = refl }
low_tell true false true true = record { no_fault = refl; one = refl; two = refl; four = refl; eight = refl }
low_tell true false true false = record { no_fault = refl; one = refl; two = refl; four = refl; eight = refl }
low_tell true false false true = record { no_fault = refl; one = refl; two = refl; four = refl; eight = refl }
low_tell true false false false = record { no_fault = refl; one = refl; two = refl; four = refl; eight = refl }
low_tell false true true true = record { no_fault = refl; one = refl; two = refl; four = refl; eight = refl }
low_tell false true true false = record { no_fault = refl; one = refl; two = refl; four = refl; eight = refl }
low_tell false true false true = record { no_fault = refl; one = refl; two = refl; four = refl; eight = refl }
low_tell false true false false = record { no_fault = refl; one = refl; two = refl; four = refl; eight = refl }
low_tell false false true true = record { no_fault = refl; one = refl; two = refl; four = refl; eight = refl }
low_tell false false true false = record { no_fault = refl; one = refl; two = refl; four = refl; eight = refl }
low_tell false false false true = record { no_fault = refl; one = refl; two = refl; four = refl; eight = refl }
low_tell false false false false = record { no_fault = refl; one = refl; two = refl; four = refl; eight = refl }

is_low : ℕ → Bool
is_low n = has n 0xf0 || n == low_with (has n 0x01) (has n 0x02) (has n 0x04) (has n 0x08)

all_low : all_below 256 is_low ≡ true
unfolding all_below is_low
all_low = refl

pub low-sum : (n : ℕ) → n < 256 → reserved_fault n ≡ None → n ≡ low_with (has n 0x01) (has n 0x02) (has n 0x04) (has n 0x08)
unfolding is_low
low-sum n small e = eqb-true n _ (other (has n 0xf0) _ (no_fault (has n 0xf0) _ None e) (below_all 256 n is_low all_low small))
