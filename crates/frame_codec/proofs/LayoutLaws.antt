-- Fronts of a fixed layout and of a dynamic one.
use Rattle.std.proofs.Common.{◌≡◌, ◌≢◌, ℕ, Bool, true, false, List, ◌∷◌, Some, None, Result, Ok, refl, sym, ap, ◌∙◌}
use Rattle.std.specs.Prelude.{◌↔◌, ◌==◌, ◌||◌, not, if◌then◌else◌}
use Rattle.std.proofs.lemmas.Bool.{eqb-true}
use Rattle.ua_binary.specs.Reading.{◌>>=◌}
use Rattle.ua_binary.specs.ReadingValues.{has}
use Rattle.ua_binary.specs.Wire.{AreBytes}
use Rattle.frame_codec.specs.declared.fault.FrameFault.{FrameFault}
use Rattle.frame_codec.specs.declared.fault.FrameFault.TheVariants.{NotValid, BadEncoding}
use Rattle.frame_codec.specs.declared.front.Front.{Front}
use Rattle.frame_codec.specs.Fronts.{encoding_in, is_encoding, passing, flags1_at, flags2_at, parts_at, front_at}
use Rattle.frame_codec.specs.Begins.{BeginsWithFront}
use Rattle.frame_codec.proofs.ReadingLaws.{front-spelled}

same_encoding : (encoding : ℕ) → encoding ≢ 1 → is_encoding true encoding ≡ is_encoding false encoding
same_encoding encoding other = by_test (encoding == 1) refl
  where
    by_test : (b : Bool) → (encoding == 1) ≡ b → (encoding == 0 || encoding == 2 || b) ≡ (encoding == 0 || encoding == 2 || false)
    by_test true is = absurd (other (eqb-true encoding 1 is))
    by_test false is = refl

pub same-front : (flags : ℕ) (rest : List ℕ) → encoding_in flags ≢ 1 → front_at true (flags ∷ rest) ≡ front_at false (flags ∷ rest)
unfolding front_at flags1_at
same-front flags rest other =
    ap (λ (b : Bool).
    let passed : Result (ℕ × List ℕ) FrameFault = passing (if not (has flags 0x01) then Some NotValid else if b then None else Some BadEncoding) (flags, rest) in
    passed >>= λ first. flags2_at first.0 first.1 >>= λ extended. parts_at first.0 extended.0 extended.1)
    (same_encoding (encoding_in flags) other)

-- the same front in the other layout
in_dynamic : (bytes rest : List ℕ) (front : Front) → front.encoding ≢ 1 → BeginsWithFront true bytes front rest → BeginsWithFront false bytes front rest
in_dynamic bytes rest front other s = record {
  wire = s.wire;
  is_wire = record {
    encoding = sym (same_encoding s.wire.encoding (λ raw. other (ap (λ (f : Front). f.encoding) (sym s.meaning) ∙ raw))) ∙ s.is_wire.encoding;
    kind = s.is_wire.kind;
    no_raw_delta = s.is_wire.no_raw_delta;
    plain = s.is_wire.plain;
    number = s.is_wire.number;
    timestamp = s.is_wire.timestamp;
    picoseconds = s.is_wire.picoseconds;
    status = s.is_wire.status;
    major = s.is_wire.major;
    minor = s.is_wire.minor;
  };
  meaning = s.meaning;
  split = s.split;
}

in_fixed : (bytes rest : List ℕ) (front : Front) → front.encoding ≢ 1 → BeginsWithFront false bytes front rest → BeginsWithFront true bytes front rest
in_fixed bytes rest front other s = record {
  wire = s.wire;
  is_wire = record {
    encoding = same_encoding s.wire.encoding (λ raw. other (ap (λ (f : Front). f.encoding) (sym s.meaning) ∙ raw)) ∙ s.is_wire.encoding;
    kind = s.is_wire.kind;
    no_raw_delta = s.is_wire.no_raw_delta;
    plain = s.is_wire.plain;
    number = s.is_wire.number;
    timestamp = s.is_wire.timestamp;
    picoseconds = s.is_wire.picoseconds;
    status = s.is_wire.status;
    major = s.is_wire.major;
    minor = s.is_wire.minor;
  };
  meaning = s.meaning;
  split = s.split;
}

pub same-layout : (bytes rest : List ℕ) (front : Front) → AreBytes bytes → front.encoding ≢ 1 → (front_at true bytes ≡ Ok (front, rest)) ↔ (front_at false bytes ≡ Ok (front, rest))
same-layout bytes rest front all other = (
  λ e. (front-spelled false bytes rest front all).1 (in_dynamic bytes rest front other ((front-spelled true bytes rest front all).0 e)),
  λ e. (front-spelled true bytes rest front all).1 (in_fixed bytes rest front other ((front-spelled false bytes rest front all).0 e)),
)
