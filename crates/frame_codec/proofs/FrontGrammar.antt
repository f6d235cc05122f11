-- The front of a message is read of exactly what spells it.
use Rattle.std.proofs.Common.{◌≡◌, ℕ, ◌<◌, ◌^◌, Bool, true, List, [], ◌∷◌, ◌++◌, Option, Some, None, Ok, refl, sym, ap, ◌∙◌, subst, append-nil}
use Rattle.std.specs.Prelude.{IfSome, is_some}
use Rattle.std.specs.Int.{Width, w16, w32, to_le_bytes}
use Rattle.ua_binary.specs.Reading.{◌>>=◌, byte_at, bytes_at, number_at, part_at, skipped}
use Rattle.ua_binary.specs.ReadingValues.{has}
use Rattle.ua_binary.specs.Wire.{optional, IsPart}
use Rattle.ua_binary.proofs.Grammar.{IsGrammar, Joined, then_grammar, Done, done_grammar, same_grammar, Optional, PartSpells, part_grammar, Skips, skipped_grammar}
use Rattle.ua_binary.proofs.Parts.{IsByte, byte_grammar, IsPartOf, bytes_grammar, IsNumber, number_grammar, coded16, coded32}
use Rattle.frame_codec.specs.declared.fault.FrameFault.{FrameFault}
use Rattle.frame_codec.specs.declared.fault.FrameFault.TheVariants.{Short}
use Rattle.frame_codec.specs.declared.front.Front.{Front}
use Rattle.frame_codec.specs.Fronts.{encoding_in, kind_in, fault_in_flags1, fault_in_flags2, passing, flags1_at, flags2_at, times_past, parts_at}
use Rattle.frame_codec.proofs.Grammars.{Choice, either_grammar, passing_grammar}

-- a byte that is judged
pub record SpellsFlags (fault : Option FrameFault) (flags : ℕ) (text : List ℕ) : Type 0 where
  pub is_byte : flags < 256
  pub passes : fault ≡ None
  pub split : text ≡ flags ∷ []

judged_byte : (fault : ℕ → Option FrameFault) → IsGrammar ℕ FrameFault Short (λ flags. SpellsFlags (fault flags) flags) (λ bytes. byte_at Short bytes >>= λ flags. passing (fault flags.0) flags)
judged_byte fault =
    same_grammar ℕ FrameFault Short (Joined ℕ ℕ IsByte T) (λ flags. SpellsFlags (fault flags) flags) (λ bytes. byte_at Short bytes >>= λ flags. passing (fault flags.0) flags) there here
    (then_grammar ℕ ℕ FrameFault Short IsByte T (byte_at Short) (λ byte rest. passing (fault byte) (byte, rest)) (byte_grammar FrameFault Short) (λ byte _ _. passing_grammar ℕ (fault byte) byte))
  where
    T : ℕ → ℕ → List ℕ → Type 0
    T byte flags text = (fault byte ≡ None) × (flags ≡ byte) × (text ≡ [])

    there : (flags : ℕ) (text : List ℕ) → Joined ℕ ℕ IsByte T flags text → SpellsFlags (fault flags) flags text
    there flags text j =
        let same : j.first ≡ flags = sym j.spells.1 in
        record {
          is_byte = subst (λ (n : ℕ). n < 256) same j.spells_first.0;
          passes = subst (λ (n : ℕ). fault n ≡ None) same j.spells.0;
          split = j.split ∙ ap (λ (l : List ℕ). j.front ++ l) j.spells.2 ∙ append-nil j.front ∙ j.spells_first.1 ∙ ap (λ (n : ℕ). n ∷ []) same;
        }

    here : (flags : ℕ) (text : List ℕ) → SpellsFlags (fault flags) flags text → Joined ℕ ℕ IsByte T flags text
    here flags text s = record { first = flags; front = text; back = []; spells_first = (s.is_byte, s.split); spells = (s.passes, refl, refl); split = sym (append-nil text) }

pub flags1_grammar : (fixed : Bool) → IsGrammar ℕ FrameFault Short (λ flags. SpellsFlags (fault_in_flags1 fixed flags) flags) (flags1_at fixed)
unfolding flags1_at
flags1_grammar fixed = judged_byte (fault_in_flags1 fixed)

-- DataSetFlags2, or none
abbrev pub SpellsFlags2 : ℕ → ℕ → List ℕ → Type 0
SpellsFlags2 flags extended text = Choice (has flags 0x80) (SpellsFlags (fault_in_flags2 (encoding_in flags) extended) extended text) (Done 0 extended text)

pub flags2_grammar : (flags : ℕ) → IsGrammar ℕ FrameFault Short (SpellsFlags2 flags) (flags2_at flags)
unfolding flags2_at
flags2_grammar flags =
    either_grammar ℕ FrameFault Short (λ extended. SpellsFlags (fault_in_flags2 (encoding_in flags) extended) extended) (Done 0) (has flags 0x80)
    (λ bytes. byte_at Short bytes >>= λ extended. passing (fault_in_flags2 (encoding_in flags) extended.0) extended) (λ bytes. Ok (0, bytes))
    (λ _. judged_byte (fault_in_flags2 (encoding_in flags))) (λ _. done_grammar ℕ FrameFault Short 0)

-- a part that is read past
SkipsPart : Bool → ℕ → Unit {0} → List ℕ → Type 0
SkipsPart flagged len = Skips (Option (List ℕ)) (PartSpells (List ℕ) flagged (IsPartOf len))

past_grammar : (flagged : Bool) (len : ℕ) → IsGrammar (Unit {0}) FrameFault Short (SkipsPart flagged len) (skipped (part_at flagged (bytes_at Short len)))
unfolding SkipsPart
past_grammar flagged len =
    skipped_grammar (Option (List ℕ)) FrameFault Short (PartSpells (List ℕ) flagged (IsPartOf len)) (part_at flagged (bytes_at Short len))
    (part_grammar (List ℕ) FrameFault Short flagged (IsPartOf len) (bytes_at Short len) (bytes_grammar FrameFault Short len))

u16_grammar : (flagged : Bool) → IsGrammar (Option ℕ) FrameFault Short (PartSpells ℕ flagged (IsNumber w16 16)) (part_at flagged (number_at Short w16))
u16_grammar flagged = part_grammar ℕ FrameFault Short flagged (IsNumber w16 16) (number_at Short w16) (number_grammar FrameFault Short w16 16 coded16)

u32_grammar : (flagged : Bool) → IsGrammar (Option ℕ) FrameFault Short (PartSpells ℕ flagged (IsNumber w32 32)) (part_at flagged (number_at Short w32))
u32_grammar flagged = part_grammar ℕ FrameFault Short flagged (IsNumber w32 32) (number_at Short w32) (number_grammar FrameFault Short w32 32 coded32)

-- the parts that are read past
pub record SpellsTimes (flags extended : ℕ) (done : Unit {0}) (text : List ℕ) : Type 0 where
  pub timestamp : Option (List ℕ)
  pub picoseconds : Option (List ℕ)
  pub status : Option (List ℕ)
  pub has_timestamp : has extended 0x10 ≡ is_some timestamp
  pub has_picoseconds : has extended 0x20 ≡ is_some picoseconds
  pub has_status : has flags 0x10 ≡ is_some status
  pub timestamp_is : IfSome timestamp (IsPart 8)
  pub picoseconds_is : IfSome picoseconds (IsPart 2)
  pub status_is : IfSome status (IsPart 2)
  pub split : text ≡ optional (λ part. part) timestamp ++ (optional (λ part. part) picoseconds ++ optional (λ part. part) status)

part_text : (len : ℕ) (part : Option (List ℕ)) (text : List ℕ) → Optional (IsPartOf len) part text → IfSome part (IsPart len) × (text ≡ optional (λ part. part) part)
part_text len None text spells = (tt, spells)
part_text len (Some part) text spells = spells

part_back : (len : ℕ) (part : Option (List ℕ)) → IfSome part (IsPart len) → Optional (IsPartOf len) part (optional (λ part. part) part)
part_back len None is = refl
part_back len (Some part) is = (is, refl)

TimesJoined : ℕ → ℕ → Unit {0} → List ℕ → Type 0
TimesJoined flags extended =
    Joined (Unit {0}) (Unit {0}) (SkipsPart (has extended 0x10) 8) (λ _. Joined (Unit {0}) (Unit {0}) (SkipsPart (has extended 0x20) 2) (λ _. SkipsPart (has flags 0x10) 2))

pub times_grammar : (flags extended : ℕ) → IsGrammar (Unit {0}) FrameFault Short (SpellsTimes flags extended) (times_past flags extended)
unfolding times_past TimesJoined SkipsPart
times_grammar flags extended =
    same_grammar (Unit {0}) FrameFault Short (TimesJoined flags extended) (SpellsTimes flags extended) (times_past flags extended) there here
    (then_grammar (Unit {0}) (Unit {0}) FrameFault Short (SkipsPart (has extended 0x10) 8) (λ _. Joined (Unit {0}) (Unit {0}) (SkipsPart (has extended 0x20) 2) (λ _. SkipsPart (has flags 0x10) 2))
    (skipped (part_at (has extended 0x10) (bytes_at Short 8))) (λ _ rest. skipped (part_at (has extended 0x20) (bytes_at Short 2)) rest >>= λ picoseconds. skipped (part_at (has flags 0x10) (bytes_at Short 2)) picoseconds.1) (past_grammar (has extended 0x10) 8)
    (λ _ _ _. then_grammar (Unit {0}) (Unit {0}) FrameFault Short (SkipsPart (has extended 0x20) 2) (λ _. SkipsPart (has flags 0x10) 2)
    (skipped (part_at (has extended 0x20) (bytes_at Short 2))) (λ _ rest. skipped (part_at (has flags 0x10) (bytes_at Short 2)) rest) (past_grammar (has extended 0x20) 2)
    (λ _ _ _. past_grammar (has flags 0x10) 2)))
  where
    there : (done : Unit {0}) (text : List ℕ) → TimesJoined flags extended done text → SpellsTimes flags extended done text
    there done text j =
        let time = j.spells_first in
        let picos = j.spells.spells_first in
        let status = j.spells.spells in
        let a = part_text 8 time.found j.front time.spells.spells in
        let b = part_text 2 picos.found j.spells.front picos.spells.spells in
        let c = part_text 2 status.found j.spells.back status.spells.spells in
        record {
          timestamp = time.found;
          picoseconds = picos.found;
          status = status.found;
          has_timestamp = sym time.spells.flagged;
          has_picoseconds = sym picos.spells.flagged;
          has_status = sym status.spells.flagged;
          timestamp_is = a.0;
          picoseconds_is = b.0;
          status_is = c.0;
          split = rw (← a.1, ← b.1, ← c.1, ← j.spells.split) j.split;
        }

    here : (done : Unit {0}) (text : List ℕ) → SpellsTimes flags extended done text → TimesJoined flags extended done text
    here done text s = record {
      first = tt;
      front = optional (λ part. part) s.timestamp;
      back = optional (λ part. part) s.picoseconds ++ optional (λ part. part) s.status;
      spells_first = record { found = s.timestamp; spells = record { flagged = sym s.has_timestamp; spells = part_back 8 s.timestamp s.timestamp_is } };
      spells = record {
        first = tt;
        front = optional (λ part. part) s.picoseconds;
        back = optional (λ part. part) s.status;
        spells_first = record { found = s.picoseconds; spells = record { flagged = sym s.has_picoseconds; spells = part_back 2 s.picoseconds s.picoseconds_is } };
        spells = record { found = s.status; spells = record { flagged = sym s.has_status; spells = part_back 2 s.status s.status_is } };
        split = refl;
      };
      split = s.split;
    }

number_text : (w : Width) (bits : ℕ) (part : Option ℕ) (text : List ℕ) → Optional (IsNumber w bits) part text → IfSome part (λ n. n < 2 ^ bits) × (text ≡ optional (to_le_bytes w) part)
number_text w bits None text spells = (tt, spells)
number_text w bits (Some n) text spells = spells

number_back : (w : Width) (bits : ℕ) (part : Option ℕ) → IfSome part (λ n. n < 2 ^ bits) → Optional (IsNumber w bits) part (optional (to_le_bytes w) part)
number_back w bits None is = refl
number_back w bits (Some n) is = (is, refl)

abbrev told : ℕ → ℕ → Option ℕ → Option ℕ → Option ℕ → Front
told flags extended number major minor = record { valid = true; encoding = encoding_in flags; kind = kind_in extended; number = number; major = major; minor = minor }

-- all that stands behind the flags
pub record SpellsParts (flags extended : ℕ) (front : Front) (text : List ℕ) : Type 0 where
  pub number : Option ℕ
  pub major : Option ℕ
  pub minor : Option ℕ
  pub past : List ℕ
  pub times : SpellsTimes flags extended tt past
  pub has_number : has flags 0x08 ≡ is_some number
  pub has_major : has flags 0x20 ≡ is_some major
  pub has_minor : has flags 0x40 ≡ is_some minor
  pub number_is : IfSome number (λ n. n < 2 ^ 16)
  pub major_is : IfSome major (λ n. n < 2 ^ 32)
  pub minor_is : IfSome minor (λ n. n < 2 ^ 32)
  pub tells : front ≡ told flags extended number major minor
  pub split : text ≡ optional (to_le_bytes w16) number ++ (past ++ (optional (to_le_bytes w32) major ++ optional (to_le_bytes w32) minor))

MinorJoined : ℕ → ℕ → Option ℕ → Option ℕ → Front → List ℕ → Type 0
MinorJoined flags extended number major = Joined (Option ℕ) Front (PartSpells ℕ (has flags 0x40) (IsNumber w32 32)) (λ minor. Done (told flags extended number major minor))

MajorJoined : ℕ → ℕ → Option ℕ → Front → List ℕ → Type 0
MajorJoined flags extended number = Joined (Option ℕ) Front (PartSpells ℕ (has flags 0x20) (IsNumber w32 32)) (MinorJoined flags extended number)

PastJoined : ℕ → ℕ → Option ℕ → Front → List ℕ → Type 0
PastJoined flags extended number = Joined (Unit {0}) Front (SpellsTimes flags extended) (λ _. MajorJoined flags extended number)

NumberJoined : ℕ → ℕ → Front → List ℕ → Type 0
NumberJoined flags extended = Joined (Option ℕ) Front (PartSpells ℕ (has flags 0x08) (IsNumber w16 16)) (PastJoined flags extended)

minor_grammar : (flags extended : ℕ) (number major : Option ℕ)
    → IsGrammar Front FrameFault Short (MinorJoined flags extended number major) (λ bytes. part_at (has flags 0x40) (number_at Short w32) bytes >>= λ minor. Ok (told flags extended number major minor.0, minor.1))
unfolding MinorJoined
minor_grammar flags extended number major =
    then_grammar (Option ℕ) Front FrameFault Short (PartSpells ℕ (has flags 0x40) (IsNumber w32 32)) (λ minor. Done (told flags extended number major minor)) (part_at (has flags 0x40) (number_at Short w32))
    (λ minor rest. Ok (told flags extended number major minor, rest)) (u32_grammar (has flags 0x40)) (λ minor _ _. done_grammar Front FrameFault Short (told flags extended number major minor))

major_grammar : (flags extended : ℕ) (number : Option ℕ)
    → IsGrammar Front FrameFault Short (MajorJoined flags extended number)
    (λ bytes. part_at (has flags 0x20) (number_at Short w32) bytes >>= λ major. part_at (has flags 0x40) (number_at Short w32) major.1 >>= λ minor. Ok (told flags extended number major.0 minor.0, minor.1))
unfolding MajorJoined
major_grammar flags extended number =
    then_grammar (Option ℕ) Front FrameFault Short (PartSpells ℕ (has flags 0x20) (IsNumber w32 32)) (MinorJoined flags extended number) (part_at (has flags 0x20) (number_at Short w32))
    (λ major rest. part_at (has flags 0x40) (number_at Short w32) rest >>= λ minor. Ok (told flags extended number major minor.0, minor.1)) (u32_grammar (has flags 0x20)) (λ major _ _. minor_grammar flags extended number major)

past_parts_grammar : (flags extended : ℕ) (number : Option ℕ)
    → IsGrammar Front FrameFault Short (PastJoined flags extended number)
    (λ bytes. times_past flags extended bytes >>= λ times. part_at (has flags 0x20) (number_at Short w32) times.1 >>= λ major. part_at (has flags 0x40) (number_at Short w32) major.1 >>= λ minor. Ok (told flags extended number major.0 minor.0, minor.1))
unfolding PastJoined
past_parts_grammar flags extended number =
    then_grammar (Unit {0}) Front FrameFault Short (SpellsTimes flags extended) (λ _. MajorJoined flags extended number) (times_past flags extended)
    (λ _ rest. part_at (has flags 0x20) (number_at Short w32) rest >>= λ major. part_at (has flags 0x40) (number_at Short w32) major.1 >>= λ minor. Ok (told flags extended number major.0 minor.0, minor.1))
    (times_grammar flags extended) (λ _ _ _. major_grammar flags extended number)

pub parts_grammar : (flags extended : ℕ) → IsGrammar Front FrameFault Short (SpellsParts flags extended) (parts_at flags extended)
unfolding parts_at NumberJoined PastJoined MajorJoined MinorJoined
parts_grammar flags extended =
    same_grammar Front FrameFault Short (NumberJoined flags extended) (SpellsParts flags extended) (parts_at flags extended) there here
    (then_grammar (Option ℕ) Front FrameFault Short (PartSpells ℕ (has flags 0x08) (IsNumber w16 16)) (PastJoined flags extended) (part_at (has flags 0x08) (number_at Short w16))
    (λ number rest. times_past flags extended rest >>= λ times. part_at (has flags 0x20) (number_at Short w32) times.1 >>= λ major. part_at (has flags 0x40) (number_at Short w32) major.1 >>= λ minor. Ok (told flags extended number major.0 minor.0, minor.1))
    (u16_grammar (has flags 0x08)) (λ number _ _. past_parts_grammar flags extended number))
  where
    there : (front : Front) (text : List ℕ) → NumberJoined flags extended front text → SpellsParts flags extended front text
    there front text j =
        let p = j.spells in
        let m = p.spells in
        let n = m.spells in
        let a = number_text w16 16 j.first j.front j.spells_first.spells in
        let b = number_text w32 32 m.first m.front m.spells_first.spells in
        let c = number_text w32 32 n.first n.front n.spells_first.spells in
        record {
          number = j.first;
          major = m.first;
          minor = n.first;
          past = p.front;
          times = p.spells_first;
          has_number = sym j.spells_first.flagged;
          has_major = sym m.spells_first.flagged;
          has_minor = sym n.spells_first.flagged;
          number_is = a.0;
          major_is = b.0;
          minor_is = c.0;
          tells = n.spells.0;
          split = j.split ∙ ap (λ (l : List ℕ). l ++ j.back) a.1 ∙ ap (λ (l : List ℕ). optional (to_le_bytes w16) j.first ++ l) (p.split ∙ ap (λ (l : List ℕ). p.front ++ l) (m.split
              ∙ ap (λ (l : List ℕ). l ++ m.back) b.1 ∙ ap (λ (l : List ℕ). optional (to_le_bytes w32) m.first ++ l) (n.split ∙ ap (λ (l : List ℕ). n.front ++ l) n.spells.1 ∙ append-nil n.front ∙ c.1)));
        }

    here : (front : Front) (text : List ℕ) → SpellsParts flags extended front text → NumberJoined flags extended front text
    here front text s = record {
      first = s.number;
      front = optional (to_le_bytes w16) s.number;
      back = s.past ++ (optional (to_le_bytes w32) s.major ++ optional (to_le_bytes w32) s.minor);
      spells_first = record { flagged = sym s.has_number; spells = number_back w16 16 s.number s.number_is };
      spells = record {
        first = tt;
        front = s.past;
        back = optional (to_le_bytes w32) s.major ++ optional (to_le_bytes w32) s.minor;
        spells_first = s.times;
        spells = record {
          first = s.major;
          front = optional (to_le_bytes w32) s.major;
          back = optional (to_le_bytes w32) s.minor;
          spells_first = record { flagged = sym s.has_major; spells = number_back w32 32 s.major s.major_is };
          spells = record {
            first = s.minor;
            front = optional (to_le_bytes w32) s.minor;
            back = [];
            spells_first = record { flagged = sym s.has_minor; spells = number_back w32 32 s.minor s.minor_is };
            spells = (s.tells, refl);
            split = sym (append-nil (optional (to_le_bytes w32) s.minor));
          };
          split = refl;
        };
        split = refl;
      };
      split = s.split;
    }
