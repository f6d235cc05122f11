-- What spells a front, as a record of it on the wire.
use Rattle.std.proofs.Common.{◌≡◌, ℕ, zero, suc, ◌<◌, Bool, true, false, not, List, [], ◌∷◌, ◌++◌, Option, Some, None, refl, sym, ap, ◌∙◌, subst, append_assoc, arith}
use Rattle.std.specs.Prelude.{is_some, ◌==◌, ◌&&◌, ◌||◌, nat_lt, if◌then◌else◌}
use Rattle.std.specs.Int.{w16, w32, to_le_bytes}
use Rattle.std.proofs.lemmas.Bool.{eqb-true, ltb-false, le-ltb}
use Rattle.ua_binary.specs.Reading.{◌>>=◌}
use Rattle.ua_binary.specs.ReadingValues.{has}
use Rattle.ua_binary.specs.Wire.{optional}
use Rattle.ua_binary.proofs.Grammar.{IsGrammar, Joined, then_grammar, Done, same_grammar}
use Rattle.frame_codec.specs.declared.fault.FrameFault.{FrameFault}
use Rattle.frame_codec.specs.declared.fault.FrameFault.TheVariants.{Short, BadEncoding, NotValid, EventOut, ReservedBits}
use Rattle.frame_codec.specs.declared.front.Front.{Front}
use Rattle.frame_codec.specs.Fronts.{encoding_in, kind_in, is_encoding, fault_in_flags1, fault_in_flags2, flags1_at, flags2_at, parts_at, front_at}
use Rattle.frame_codec.specs.Wire.{WireFront, IsWireFront, is_kind, wire_flags1, wire_flags2, flags2_bytes, wire_front_bytes, front_read}
use Rattle.frame_codec.proofs.Grammars.{Choice}
use Rattle.frame_codec.proofs.FlagLaws.{code1, code2, decoded1, decoded2, told1, told2}
use Rattle.frame_codec.proofs.FrontGrammar.{SpellsFlags, flags1_grammar, SpellsFlags2, flags2_grammar, SpellsParts, parts_grammar}

-- a front on the wire has this text and tells this
pub record SpellsFront (fixed : Bool) (front : Front) (text : List ℕ) : Type 0 where
  pub wire : WireFront
  pub is_wire : IsWireFront fixed wire
  pub tells : front_read wire ≡ front
  pub split : text ≡ wire_front_bytes wire

no : {A : Type 0} {x : A} → Path (Option A) (Some x) None → ⊥
no e = cc

-- what passes as DataSetFlags1
flags1_pass : (fixed : Bool) (flags : ℕ) → fault_in_flags1 fixed flags ≡ None → (has flags 0x01 ≡ true) × (is_encoding fixed (encoding_in flags) ≡ true)
flags1_pass fixed flags e = by_valid (has flags 0x01) (is_encoding fixed (encoding_in flags)) e
  where
    by_valid : (valid encoded : Bool) → (if not valid then Some NotValid else if encoded then None else Some BadEncoding) ≡ None → (valid ≡ true) × (encoded ≡ true)
    by_valid true true e = (refl, refl)
    by_valid true false e = absurd (no e)
    by_valid false encoded e = absurd (no e)

flags1_passes : (fixed : Bool) (flags encoding : ℕ) → has flags 0x01 ≡ true → encoding_in flags ≡ encoding → is_encoding fixed encoding ≡ true → fault_in_flags1 fixed flags ≡ None
flags1_passes fixed flags encoding valid is legal = rw (valid, is, legal) refl

-- what passes as DataSetFlags2
record Passes2 (encoding code : ℕ) (reserved : Bool) : Type 0 where
  no_raw_delta : (encoding == 1 && code == 1) ≡ false
  kind : is_kind code ≡ true
  free : reserved ≡ false

kinds_left : (kind : ℕ) → (kind == 2) ≡ false → nat_lt 3 kind ≡ false → is_kind kind ≡ true
kinds_left zero two more = refl
kinds_left (suc zero) two more = refl
kinds_left (suc (suc zero)) two more = absurd (let e : Path Bool true false = two in cc)
kinds_left (suc (suc (suc zero))) two more = refl
kinds_left (suc (suc (suc (suc n)))) two more = absurd (omega (arith, ltb-false 3 (suc (suc (suc (suc n)))) more))

flags2_pass : (encoding extended : ℕ) → fault_in_flags2 encoding extended ≡ None → Passes2 encoding (kind_in extended) (has extended 0xc0)
flags2_pass encoding extended e = by_test (encoding == 1 && kind_in extended == 1) (kind_in extended == 2) (nat_lt 3 (kind_in extended)) (has extended 0xc0) refl refl refl refl e
  where
    by_test : (raw event more reserved : Bool) → (encoding == 1 && kind_in extended == 1) ≡ raw → (kind_in extended == 2) ≡ event → nat_lt 3 (kind_in extended) ≡ more → has extended 0xc0 ≡ reserved
        → (if raw then Some BadEncoding else if event then Some EventOut else if more || reserved then Some ReservedBits else None) ≡ None → Passes2 encoding (kind_in extended) (has extended 0xc0)
    by_test true event more reserved a b c d e = absurd (no e)
    by_test false true more reserved a b c d e = absurd (no e)
    by_test false false true reserved a b c d e = absurd (no e)
    by_test false false false true a b c d e = absurd (no e)
    by_test false false false false a b c d e = record { no_raw_delta = a; kind = kinds_left (kind_in extended) b c; free = d }

pub kind_small : (kind : ℕ) → is_kind kind ≡ true → (kind < 4) × ((kind == 2) ≡ false)
kind_small kind is = by_test (kind == 0) (kind == 1) (kind == 3) refl refl refl is
  where
    at : (n : ℕ) → kind ≡ n → (n < 4) × ((n == 2) ≡ false) → (kind < 4) × ((kind == 2) ≡ false)
    at n e small = subst (λ (k : ℕ). (k < 4) × ((k == 2) ≡ false)) (sym e) small

    by_test : (a b c : Bool) → (kind == 0) ≡ a → (kind == 1) ≡ b → (kind == 3) ≡ c → (a || b || c) ≡ true → (kind < 4) × ((kind == 2) ≡ false)
    by_test true b c ea eb ec is = at 0 (eqb-true kind 0 ea) (omega arith, refl)
    by_test false true c ea eb ec is = at 1 (eqb-true kind 1 eb) (omega arith, refl)
    by_test false false true ea eb ec is = at 3 (eqb-true kind 3 ec) (omega arith, refl)
    by_test false false false ea eb ec is = absurd (let e : Path Bool false true = is in cc)

flags2_passes : (encoding extended kind : ℕ) → kind_in extended ≡ kind → is_kind kind ≡ true → (encoding == 1 && kind == 1) ≡ false → has extended 0xc0 ≡ false → fault_in_flags2 encoding extended ≡ None
flags2_passes encoding extended kind is legal no_raw free =
    let small = kind_small kind legal in
    rw (is, no_raw, small.1, le-ltb 3 kind (omega (arith, small.0)), free) refl

encoding_small : (fixed : Bool) (encoding : ℕ) → is_encoding fixed encoding ≡ true → encoding < 3
encoding_small fixed encoding is = by_test (encoding == 0) (encoding == 2) (encoding == 1) fixed refl refl refl is
  where
    by_test : (a b c f : Bool) → (encoding == 0) ≡ a → (encoding == 2) ≡ b → (encoding == 1) ≡ c → (a || b || (f && c)) ≡ true → encoding < 3
    by_test true b c f ea eb ec is = omega (arith, eqb-true encoding 0 ea)
    by_test false true c f ea eb ec is = omega (arith, eqb-true encoding 2 eb)
    by_test false false true f ea eb ec is = omega (arith, eqb-true encoding 1 ec)
    by_test false false false true ea eb ec is = absurd (let e : Path Bool false true = is in cc)
    by_test false false false false ea eb ec is = absurd (let e : Path Bool false true = is in cc)

ExtendedJoined : ℕ → Front → List ℕ → Type 0
ExtendedJoined flags = Joined ℕ Front (SpellsFlags2 flags) (SpellsParts flags)

FrontJoined : Bool → Front → List ℕ → Type 0
FrontJoined fixed = Joined ℕ Front (λ flags. SpellsFlags (fault_in_flags1 fixed flags) flags) ExtendedJoined

regrouped : (a b c d e f g : List ℕ) → a ++ (b ++ ((c ++ (d ++ e)) ++ (f ++ g))) ≡ a ++ b ++ c ++ d ++ e ++ f ++ g
regrouped a b c d e f g = simp append_assoc refl

-- what was read behind the flags, as a front on the wire
wire_with : (flags extended : ℕ) (front : Front) (text : List ℕ) → SpellsParts flags extended front text → WireFront
wire_with flags extended front text s = record {
  encoding = encoding_in flags;
  extended = has flags 0x80;
  kind = kind_in extended;
  number = s.number;
  timestamp = s.times.timestamp;
  picoseconds = s.times.picoseconds;
  status = s.times.status;
  major = s.major;
  minor = s.minor;
}

code1_of : (encoding : ℕ) {a b c d p q r s : Bool} (x : Bool) → a ≡ p → b ≡ q → c ≡ r → d ≡ s → code1 encoding a b c d x ≡ code1 encoding p q r s x
code1_of encoding x a b c d = cc

code2_of : (kind : ℕ) {a b p q : Bool} → a ≡ p → b ≡ q → code2 kind a b ≡ code2 kind p q
code2_of kind a b = cc

-- DataSetFlags2 where it is there, and what it then is
record Extended (flags extended : ℕ) (text : List ℕ) : Type 0 where
  passes : Passes2 (encoding_in flags) (kind_in extended) (has extended 0xc0)
  code : extended ≡ code2 (kind_in extended) (has extended 0x10) (has extended 0x20)
  plain : has flags 0x80 ≡ false → extended ≡ 0
  bytes : text ≡ (if has flags 0x80 then extended ∷ [] else [])

none_raw : (encoding : ℕ) → (encoding == 1 && 0 == 1) ≡ false
none_raw encoding = by (encoding == 1)
  where
    by : (b : Bool) → (b && 0 == 1) ≡ false
    by true = refl
    by false = refl

extended_is : (flags extended : ℕ) (text : List ℕ) → SpellsFlags2 flags extended text → Extended flags extended text
extended_is flags extended text s = by_flag (has flags 0x80) refl s
  where
    by_flag : (b : Bool) → has flags 0x80 ≡ b → Choice b (SpellsFlags (fault_in_flags2 (encoding_in flags) extended) extended text) (Done 0 extended text) → Extended flags extended text
    by_flag true is s =
        let pass = flags2_pass (encoding_in flags) extended s.passes in
        record {
          passes = pass;
          code = decoded2 extended s.is_byte pass.free;
          plain = λ not_there. absurd (let e : Path Bool true false = sym is ∙ not_there in cc);
          bytes = rw is s.split;
        }
    by_flag false is s =
        subst (λ (n : ℕ). Extended flags n text) (sym s.0) (record {
          passes = record { no_raw_delta = none_raw (encoding_in flags); kind = refl; free = refl };
          code = refl;
          plain = λ _. refl;
          bytes = rw is s.1;
        })

extended_back : (flags extended : ℕ) (text : List ℕ) → extended < 256 → fault_in_flags2 (encoding_in flags) extended ≡ None → (has flags 0x80 ≡ false → extended ≡ 0)
    → text ≡ (if has flags 0x80 then extended ∷ [] else []) → SpellsFlags2 flags extended text
extended_back flags extended text small passes plain split = by_flag (has flags 0x80) plain split
  where
    by_flag : (b : Bool) → (b ≡ false → extended ≡ 0) → text ≡ (if b then extended ∷ [] else []) → Choice b (SpellsFlags (fault_in_flags2 (encoding_in flags) extended) extended text) (Done 0 extended text)
    by_flag true plain split = record { is_byte = small; passes = passes; split = split }
    by_flag false plain split = (plain refl, split)

pub front_grammar : (fixed : Bool) → IsGrammar Front FrameFault Short (SpellsFront fixed) (front_at fixed)
unfolding front_at FrontJoined ExtendedJoined wire_with wire_front_bytes
front_grammar fixed =
    same_grammar Front FrameFault Short (FrontJoined fixed) (SpellsFront fixed) (front_at fixed) there here
    (then_grammar ℕ Front FrameFault Short (λ flags. SpellsFlags (fault_in_flags1 fixed flags) flags) ExtendedJoined (flags1_at fixed) (λ flags rest. flags2_at flags rest >>= λ extended. parts_at flags extended.0 extended.1) (flags1_grammar fixed)
    (λ flags _ _. then_grammar ℕ Front FrameFault Short (SpellsFlags2 flags) (SpellsParts flags) (flags2_at flags) (parts_at flags) (flags2_grammar flags) (λ extended _ _. parts_grammar flags extended)))
  where
    there : (front : Front) (text : List ℕ) → FrontJoined fixed front text → SpellsFront fixed front text
    there front text j =
        let flags = j.first in
        let k = j.spells in
        let extended = k.first in
        let s = k.spells in
        let wire = wire_with flags extended front k.back s in
        let pass1 = flags1_pass fixed flags j.spells_first.passes in
        let x = extended_is flags extended k.front k.spells_first in
        let first : wire_flags1 wire ≡ flags = sym (decoded1 flags j.spells_first.is_byte pass1.0 ∙ code1_of (encoding_in flags) (has flags 0x80) s.has_number s.times.has_status s.has_major s.has_minor) in
        let second : wire_flags2 wire ≡ extended = sym (x.code ∙ code2_of (kind_in extended) s.times.has_timestamp s.times.has_picoseconds) in
        record {
          wire = wire;
          is_wire = record {
            encoding = pass1.1;
            kind = x.passes.kind;
            no_raw_delta = x.passes.no_raw_delta;
            plain = λ not_there. second ∙ x.plain not_there;
            number = s.number_is;
            timestamp = s.times.timestamp_is;
            picoseconds = s.times.picoseconds_is;
            status = s.times.status_is;
            major = s.major_is;
            minor = s.minor_is;
          };
          tells = sym s.tells;
          split = whole flags extended (wire_flags1 wire) (wire_flags2 wire) (has flags 0x80) _ _ _ _ _ _ j.front j.back k.front k.back s.past text j.split j.spells_first.split k.split x.bytes s.split s.times.split first second;
        }
      where
        whole : (flags extended one two : ℕ) (there : Bool) (n t p u a i : List ℕ) (front back middle parts past text : List ℕ) → text ≡ front ++ back → front ≡ flags ∷ [] → back ≡ middle ++ parts
            → middle ≡ (if there then extended ∷ [] else []) → parts ≡ n ++ (past ++ (a ++ i)) → past ≡ t ++ (p ++ u) → one ≡ flags → two ≡ extended
            → text ≡ one ∷ (if there then two ∷ [] else []) ++ n ++ t ++ p ++ u ++ a ++ i
        whole flags extended one two there n t p u a i front back middle parts past text e1 e2 e3 e4 e5 e6 e7 e8 =
            rw (e7, e8) (e1 ∙ ap (λ (l : List ℕ). l ++ back) e2 ∙ ap (λ (l : List ℕ). flags ∷ l) (e3 ∙ ap (λ (l : List ℕ). l ++ parts) e4 ∙ ap (λ (l : List ℕ). (if there then extended ∷ [] else []) ++ l)
            (e5 ∙ ap (λ (l : List ℕ). n ++ (l ++ (a ++ i))) e6) ∙ regrouped (if there then extended ∷ [] else []) n t p u a i))

    here : (front : Front) (text : List ℕ) → SpellsFront fixed front text → FrontJoined fixed front text
    here front text s =
        let wire = s.wire in
        let is = s.is_wire in
        let flags = wire_flags1 wire in
        let extended = wire_flags2 wire in
        let t1 = told1 wire.encoding (is_some wire.number) (is_some wire.status) (is_some wire.major) (is_some wire.minor) wire.extended (encoding_small fixed wire.encoding is.encoding) in
        let t2 = told2 wire.kind (is_some wire.timestamp) (is_some wire.picoseconds) (kind_small wire.kind is.kind).0 in
        let middle = flags2_bytes wire in
        let past = optional (λ part. part) wire.timestamp ++ (optional (λ part. part) wire.picoseconds ++ optional (λ part. part) wire.status) in
        let parts = optional (to_le_bytes w16) wire.number ++ (past ++ (optional (to_le_bytes w32) wire.major ++ optional (to_le_bytes w32) wire.minor)) in
        record {
          first = flags;
          front = flags ∷ [];
          back = middle ++ parts;
          spells_first = record { is_byte = t1.small; passes = flags1_passes fixed flags wire.encoding t1.valid t1.encoding is.encoding; split = refl };
          spells = record {
            first = extended;
            front = middle;
            back = parts;
            spells_first = extended_back flags extended middle t2.small (rw t1.encoding (flags2_passes wire.encoding extended wire.kind t2.kind is.kind is.no_raw_delta t2.free))
                (λ not_there. is.plain (sym t1.extended ∙ not_there)) (rw t1.extended refl);
            spells = record {
              number = wire.number;
              major = wire.major;
              minor = wire.minor;
              past = past;
              times = record {
                timestamp = wire.timestamp;
                picoseconds = wire.picoseconds;
                status = wire.status;
                has_timestamp = t2.timestamp;
                has_picoseconds = t2.picoseconds;
                has_status = t1.status;
                timestamp_is = is.timestamp;
                picoseconds_is = is.picoseconds;
                status_is = is.status;
                split = refl;
              };
              has_number = t1.number;
              has_major = t1.major;
              has_minor = t1.minor;
              number_is = is.number;
              major_is = is.major;
              minor_is = is.minor;
              tells = sym s.tells ∙ rw (t1.encoding, t2.kind) refl;
              split = refl;
            };
            split = refl;
          };
          split = s.split ∙ ap (λ (l : List ℕ). flags ∷ l) (sym (regrouped middle (optional (to_le_bytes w16) wire.number) (optional (λ part. part) wire.timestamp) (optional (λ part. part) wire.picoseconds) (optional (λ part. part) wire.status) (optional (to_le_bytes w32) wire.major) (optional (to_le_bytes w32) wire.minor)));
        }
