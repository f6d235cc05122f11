-- Lists of refusals, each with its test, of any faults: what stands in front of others, and what is answered where none holds.
use Rattle.std.proofs.Common.{◌≡◌, refl, sym, ap, Bool, true, false, List, [], ◌∷◌, ◌++◌, Option, Some, None, map}
use Rattle.std.specs.Prelude.{Result, Ok, Err}
use Rattle.message_guard.specs.Opening.{judged, judged_by}

-- a value is no fault
pub ok_err : {A E B : Type 0} {x : A} {e : E} → Path (Result A E) (Ok x) (Err e) → B
ok_err e = absurd (no e)
  where
    no : {A E : Type 0} {x : A} {e : E} → Path (Result A E) (Ok x) (Err e) → ⊥
    no e = cc

-- what is answered by a value was refused by no test
pub judged_by-ok : {F X : Type 0} (found : Option (Bool × F)) (x y : X) → judged_by found x ≡ Ok y → (found ≡ None) × (x ≡ y)
judged_by-ok None x y e = (refl, cc)
judged_by-ok (Some refusal) x y e = ok_err (sym e)

-- the value is the one that was given
pub judged-value : {F X : Type 0} (list : List (Bool × F)) (x y : X) → judged list x ≡ Ok y → x ≡ y
judged-value [] x y e = cc
judged-value ((true, fault) ∷ list) x y e = ok_err (sym e)
judged-value ((false, fault) ∷ list) x y e = judged-value list x y e

-- a test that doesn't hold is passed over
pub judged-skip : {F X : Type 0} (test : Bool) (fault : F) (list : List (Bool × F)) (x : X) → test ≡ false → judged ((test, fault) ∷ list) x ≡ judged list x
judged-skip true fault list x e = absurd (let wrong : Path Bool true false = e in cc)
judged-skip false fault list x e = refl

-- what is refused by no test of a list is refused by none behind the first
pub judged-more : {F X : Type 0} (test : Bool) (fault : F) (list : List (Bool × F)) (x y : X) → judged ((test, fault) ∷ list) x ≡ Ok y → judged list x ≡ Ok y
judged-more true fault list x y e = ok_err (sym e)
judged-more false fault list x y e = e

-- where no refusal of the first list holds, the second is judged alone
pub judged-behind : {F X Y : Type 0} (front back : List (Bool × F)) (x : X) (y z : Y) → judged front y ≡ Ok z → judged (front ++ back) x ≡ judged back x
judged-behind [] back x y z none = refl
judged-behind ((true, fault) ∷ front) back x y z none = ok_err (sym none)
judged-behind ((false, fault) ∷ front) back x y z none = judged-behind front back x y z none

-- a refusal of the first list comes before the second is looked at
pub judged-before : {F X Y : Type 0} (front back : List (Bool × F)) (x : X) (y : Y) (fault : F) → judged front y ≡ Err fault → judged (front ++ back) x ≡ Err fault
judged-before [] back x y fault some = ok_err some
judged-before ((true, first) ∷ front) back x y fault some = ap Err (same some)
  where
    same : {F Y : Type 0} {a b : F} → Path (Result Y F) (Err a) (Err b) → a ≡ b
    same e = cc
judged-before ((false, first) ∷ front) back x y fault some = judged-before front back x y fault some

-- what passes a list passes its first part
pub judged-front : {F X Y : Type 0} (front back : List (Bool × F)) (x y : X) (z : Y) → judged (front ++ back) x ≡ Ok y → judged front z ≡ Ok z
judged-front [] back x y z e = refl
judged-front ((true, fault) ∷ front) back x y z e = ok_err (sym e)
judged-front ((false, fault) ∷ front) back x y z e = judged-front front back x y z e

-- ---- refusals that are faults of another type

-- the tests with their refusals as other faults
abbrev pub judged_as : {E F : Type 0} → (E → F) → List (Bool × E) → List (Bool × F)
judged_as wrap list = map (λ test. (test.0, wrap test.1)) list

-- a refusal of them comes first, as such a fault
pub judged_as-before : {E F X Y : Type 0} (wrap : E → F) (front : List (Bool × E)) (back : List (Bool × F)) (x : X) (y : Y) (fault : E) → judged front y ≡ Err fault
    → judged (judged_as wrap front ++ back) x ≡ Err (wrap fault)
judged_as-before wrap [] back x y fault e = ok_err e
judged_as-before wrap ((true, first) ∷ front) back x y fault e = ap (λ f. Err (wrap f)) (same e)
  where
    same : {F Y : Type 0} {a b : F} → Path (Result Y F) (Err a) (Err b) → a ≡ b
    same e = cc
judged_as-before wrap ((false, first) ∷ front) back x y fault e = judged_as-before wrap front back x y fault e

-- where none of them holds, what stands behind is judged alone
pub judged_as-behind : {E F X Y : Type 0} (wrap : E → F) (front : List (Bool × E)) (back : List (Bool × F)) (x : X) (y z : Y) → judged front y ≡ Ok z
    → judged (judged_as wrap front ++ back) x ≡ judged back x
judged_as-behind wrap [] back x y z e = refl
judged_as-behind wrap ((true, first) ∷ front) back x y z e = ok_err (sym e)
judged_as-behind wrap ((false, first) ∷ front) back x y z e = judged_as-behind wrap front back x y z e

-- what passes them with what stands behind passes them alone
pub judged_as-front : {E F X Y : Type 0} (wrap : E → F) (front : List (Bool × E)) (back : List (Bool × F)) (x y : X) (z : Y) → judged (judged_as wrap front ++ back) x ≡ Ok y
    → judged front z ≡ Ok z
judged_as-front wrap [] back x y z e = refl
judged_as-front wrap ((true, first) ∷ front) back x y z e = ok_err (sym e)
judged_as-front wrap ((false, first) ∷ front) back x y z e = judged_as-front wrap front back x y z e
