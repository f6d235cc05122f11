-- Texts that are written in pieces.
use Rattle.std.proofs.Common.{◌≡◌, ℕ, ◌+◌, suc, min, Bool, true, false, List, [], ◌∷◌, ◌++◌, length, take, Option, Some, None, refl, sym, ap, ◌∙◌, append_assoc, arith, inl, inr}
use Rattle.std.proofs.lemmas.List.{take-append-le, take_min}
use Rattle.ua_base.specs.Output.{appended}
use Rattle.cmd_base.specs.Telling.{Puts, WritesText}

appended-appended : (old : Option (List ℕ)) (a b : List ℕ) → appended (appended old a) b ≡ appended old (a ++ b)
appended-appended None a b = refl
appended-appended (Some w) a b = ap (λ (l : List ℕ). Some l) (append_assoc w a b)

take-add : (a b : List ℕ) (k : ℕ) → take (length a + k) (a ++ b) ≡ a ++ take k b
take-add [] b k = let z : 0 + k ≡ k = omega arith in rw z refl
take-add (x ∷ a) b k = let z : suc (length a) + k ≡ suc (length a + k) = omega arith in rw z (ap (λ (l : List ℕ). x ∷ l) (take-add a b k))

-- a first piece that was written whole, and then another
pub then_put : (r : Bool) (x y z : Option (List ℕ)) (m n o : ℕ) (a b : List ℕ) → Puts true x y m n a → Puts r y z n o b → Puts r x z m o (a ++ b)
then_put true x y z m n o a b p q = (q.0 ∙ ap (λ (t : Option (List ℕ)). appended t b) p.0 ∙ appended-appended x a b, omega (arith, p.1, q.1))
then_put false x y z m n o a b p q =
    ((length a + q.0.0, q.0.1 ∙ ap (λ (t : Option (List ℕ)). appended t (take q.0.0 b)) p.0 ∙ appended-appended x a (take q.0.0 b) ∙ ap (appended x) (sym (take-add a b q.0.0))), omega (arith, p.1, q.1))

-- the first piece was not written whole
pub cut_short : (x y : Option (List ℕ)) (m n : ℕ) (a b : List ℕ) → Puts false x y m n a → Puts false x y m n (a ++ b)
cut_short x y m n a b p = ((min p.0.0 (length a), p.0.1 ∙ ap (appended x) (short a b p.0.0)), p.1)
  where
    short : (a b : List ℕ) (k : ℕ) → take k a ≡ take (min k (length a)) (a ++ b)
    short a b k = sym (take_min k a) ∙ sym (take-append-le (min k (length a)) a b (omega arith))

-- whichever of the two it was
pub puts_tells : (r : Bool) (x y : Option (List ℕ)) (m n : ℕ) (text : List ℕ) → Puts r x y m n text → WritesText x y m n text
puts_tells true x y m n text p = inl p.0
puts_tells false x y m n text p = inr p
