-- More readings that take from left to right exactly what spells their answer.
use Rattle.std.proofs.Common.{◌≡◌, ℕ, Bool, true, false, List, [], Option, Some, None, Result, Ok, Err, refl, sym, ap}
use Rattle.std.specs.Prelude.{if◌then◌else◌}
use Rattle.ua_binary.specs.declared.fault.ValueFault.{ValueFault}
use Rattle.ua_binary.specs.declared.fault.ValueFault.TheVariants as values
use Rattle.ua_binary.specs.Reading.{◌>>=◌}
use Rattle.ua_binary.proofs.Grammar.{IsGrammar, Done, Never, done_grammar, refused_grammar, same_grammar}
use Rattle.frame_codec.specs.declared.fault.FrameFault.{FrameFault}
use Rattle.frame_codec.specs.declared.fault.FrameFault.TheVariants.{Short}
use Rattle.frame_codec.specs.Fronts.{passing}
use Rattle.frame_codec.specs.Contents.{in_frame, fault_of}

abbrev pub Choice : Bool → Type 0 → Type 0 → Type 0
Choice true A B = A
Choice false A B = B

-- one reading or the other
pub either_grammar : (A F : Type 0) (short : F) (S T : A → List ℕ → Type 0) (b : Bool) (one other : List ℕ → Result (A × List ℕ) F) → (b ≡ true → IsGrammar A F short S one) → (b ≡ false → IsGrammar A F short T other)
    → IsGrammar A F short (λ a text. Choice b (S a text) (T a text)) (λ bytes. if b then one bytes else other bytes)
either_grammar A F short S T true one other is_one is_other = is_one refl
either_grammar A F short S T false one other is_one is_other = is_other refl

-- nothing is read, and what was read is judged
pub judged_grammar : (A F : Type 0) (short : F) (r : Result A F) → IsGrammar A F short (λ a text. (r ≡ Ok a) × (text ≡ [])) (λ bytes. r >>= λ a. Ok (a, bytes))
judged_grammar A F short (Ok x) =
    same_grammar A F short (Done x) (λ a text. (Path (Result A F) (Ok x) (Ok a)) × (text ≡ [])) (λ bytes. Ok (x, bytes)) (λ a text d. (ap Ok (sym d.0), d.1)) (λ a text d. (sym (once x a d.0), d.1)) (done_grammar A F short x)
  where
    once : (one other : A) → Path (Result A F) (Ok one) (Ok other) → one ≡ other
    once one other e = cc
judged_grammar A F short (Err fault) =
    same_grammar A F short Never (λ a text. (Path (Result A F) (Err fault) (Ok a)) × (text ≡ [])) (λ bytes. Err fault) (λ a text never. absurd never) (λ a text d. absurd (no a d.0)) (refused_grammar A F short fault)
  where
    no : (a : A) → Path (Result A F) (Err fault) (Ok a) → ⊥
    no a e = cc

pub passing_grammar : (A : Type 0) (fault : Option FrameFault) (x : A) → IsGrammar A FrameFault Short (λ a text. (fault ≡ None) × (a ≡ x) × (text ≡ [])) (λ bytes. passing fault (x, bytes))
passing_grammar A None x =
    same_grammar A FrameFault Short (Done x) (λ a text. (Path (Option FrameFault) None None) × (a ≡ x) × (text ≡ [])) (λ bytes. Ok (x, bytes)) (λ a text d. (refl, d.0, d.1)) (λ a text d. (d.1, d.2)) (done_grammar A FrameFault Short x)
passing_grammar A (Some fault) x =
    same_grammar A FrameFault Short Never (λ a text. (Path (Option FrameFault) (Some fault) None) × (a ≡ x) × (text ≡ [])) (λ bytes. Err fault) (λ a text never. absurd never) (λ a text d. absurd (no d.0)) (refused_grammar A FrameFault Short fault)
  where
    no : Path (Option FrameFault) (Some fault) None → ⊥
    no e = cc

-- a reading of a value, with the frame's faults
pub framed_grammar : (A : Type 0) (S : A → List ℕ → Type 0) (read : List ℕ → Result (A × List ℕ) ValueFault) → IsGrammar A ValueFault values.Short S read → IsGrammar A FrameFault Short S (λ bytes. in_frame (read bytes))
framed_grammar A S read is = record {
  again = λ a text rest spells. ap (λ (r : Result (A × List ℕ) ValueFault). in_frame r) (is.again a text rest spells);
  back = λ bytes rest a all e. is.back bytes rest a all (unframed (read bytes) (a, rest) e);
  fewer = λ a text n spells below. ap (λ (r : Result (A × List ℕ) ValueFault). in_frame r) (is.fewer a text n spells below);
}
  where
    unframed : (r : Result (A × List ℕ) ValueFault) (x : A × List ℕ) → in_frame r ≡ Ok x → r ≡ Ok x
    unframed (Ok y) x e = cc
    unframed (Err fault) x e = absurd (let no : Path (Result (A × List ℕ) FrameFault) (Err (fault_of fault)) (Ok x) = e in cc)
