-- One text laid behind another is both laid as one.
use Rattle.std.proofs.Common.{◌≡◌, ℕ, ◌+◌, ◌≤◌, List, ◌++◌, length, take, drop, ap, subst, ◌∙◌, append_assoc, arith}
use Rattle.std.proofs.lemmas.List.{length-append, length-take-le, drop-drop}
use Rattle.std.proofs.Math.Seq.{take-append_seam, drop-append-add}
use Rattle.ua_binary.specs.declared.pen.Pen.{Pen}
use Rattle.ua_binary.specs.Writing.{laid, Puts}

length-front : (bytes : List ℕ) (at : ℕ) (text : List ℕ) → at ≤ length bytes → length (take at bytes ++ text) ≡ at + length text
length-front bytes at text within = length-append (take at bytes) text ∙ ap (λ n. n + length text) (length-take-le at bytes within)

pub laid-laid : (bytes : List ℕ) (at : ℕ) (x y : List ℕ) → at ≤ length bytes → laid (laid bytes at x) (at + length x) y ≡ laid bytes at (x ++ y)
laid-laid bytes at x y within =
    let seam = length-front bytes at x within in
    let rest = drop (at + length x) bytes in
    let taken : take (at + length x) ((take at bytes ++ x) ++ rest) ≡ take at bytes ++ x =
    subst (λ n. take n ((take at bytes ++ x) ++ rest) ≡ take at bytes ++ x) seam (take-append_seam (take at bytes ++ x) rest) in
    let dropped : drop (at + length x + length y) ((take at bytes ++ x) ++ rest) ≡ drop (length y) rest =
    subst (λ n. drop (n + length y) ((take at bytes ++ x) ++ rest) ≡ drop (length y) rest) seam (drop-append-add (take at bytes ++ x) rest (length y)) in
    let far : at + length x + length y ≡ at + length (x ++ y) = omega (arith, length-append x y) in
    let behind : drop (length y) rest ≡ drop (at + length (x ++ y)) bytes = drop-drop (length y) (at + length x) bytes ∙ ap (λ n. drop n bytes) far in
    ap (λ (t : List ℕ). (t ++ y) ++ drop (at + length x + length y) ((take at bytes ++ x) ++ rest)) taken
    ∙ ap (λ (t : List ℕ). ((take at bytes ++ x) ++ y) ++ t) (dropped ∙ behind)
    ∙ ap (λ (t : List ℕ). t ++ drop (at + length (x ++ y)) bytes) (append_assoc (take at bytes) x y)

pub Puts-then : (a b c : Pen) (x y : List ℕ) → Puts a b x → Puts b c y → Puts a c (x ++ y)
Puts-then a b c x y first second =
    let same : length b.bytes.now ≡ length a.bytes.now = first.same_length in
    let room : a.at ≤ length a.bytes.now = a.within in
    let both : c.bytes.now ≡ laid a.bytes.now a.at (x ++ y) =
    second.written ∙ ap (λ (bytes : List ℕ). laid bytes b.at y) first.written ∙ ap (λ n. laid (laid a.bytes.now a.at x) n y) first.moved ∙ laid-laid a.bytes.now a.at x y room in
    record {
      written = both;
      moved = omega (arith, length-append x y, first.moved, second.moved);
      same_loan = second.same_loan ∙ first.same_loan;
      same_length = second.same_length ∙ first.same_length;
    }
