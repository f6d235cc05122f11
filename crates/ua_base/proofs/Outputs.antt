-- Writes in a row on a sink that tells.
use Rattle.std.proofs.Common.{◌≡◌, ℕ, ◌+◌, List, ◌++◌, length, take, Option, Some, None, refl, sym, ap, ◌∙◌, append_assoc, min, arith}
use Rattle.std.proofs.lemmas.List.{take_all, take_min, take-append-le}
use Rattle.std.proofs.Math.Seq.{take-append-add}
use Rattle.ua_base.specs.Output.{appended, AppendsPrefix}

pub appended-append : (told : Option (List ℕ)) (xs ys : List ℕ) → appended told (xs ++ ys) ≡ appended (appended told xs) ys
appended-append None xs ys = refl
appended-append (Some before) xs ys = ap (λ (l : List ℕ). Some l) (sym (append_assoc before xs ys))

-- the whole is a prefix
pub AppendsPrefix-whole : (old new : Option (List ℕ)) (xs : List ℕ) → new ≡ appended old xs → AppendsPrefix old new xs
AppendsPrefix-whole old new xs is = (length xs, is ∙ ap (λ (l : List ℕ). appended old l) (sym (take_all (length xs) xs (omega arith))))

-- a prefix of the first bytes is one of all
pub AppendsPrefix-front : (old new : Option (List ℕ)) (xs ys : List ℕ) → AppendsPrefix old new xs → AppendsPrefix old new (xs ++ ys)
AppendsPrefix-front old new xs ys p =
    let count : ℕ = min p.0 (length xs) in
    let same : take count (xs ++ ys) ≡ take p.0 xs = take-append-le count xs ys (omega arith) ∙ take_min p.0 xs in
    (count, p.1 ∙ ap (λ (l : List ℕ). appended old l) (sym same))

-- the first bytes, and then a prefix of the others
pub AppendsPrefix-after : (old mid new : Option (List ℕ)) (xs ys : List ℕ) → mid ≡ appended old xs → AppendsPrefix mid new ys → AppendsPrefix old new (xs ++ ys)
AppendsPrefix-after old mid new xs ys is p = (
  length xs + p.0,
  p.1 ∙ ap (λ (told : Option (List ℕ)). appended told (take p.0 ys)) is ∙ sym (appended-append old xs (take p.0 ys))
      ∙ ap (λ (l : List ℕ). appended old l) (sym (take-append-add xs ys p.0)),
)
