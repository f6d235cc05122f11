-- What was read at a place of a list.
use Rattle.std.proofs.Common.{◌≡◌, ℕ, ◌<◌, List, length, get_or, set, sym, subst}
use Rattle.std.specs.List.{HoldsAt}
use Rattle.std.proofs.lemmas.List.{get_or_read, get_or-set_same}

-- it is what stands there, whatever stands past the end; the list and the place are known by other names
pub read-at : {X : Type 0} (read list : List X) (i place : ℕ) (x : X) → read ≡ list → i ≡ place → i < length read → x ≡ get_or read i x → (d : X) → x ≡ get_or list place d
read-at {X} read list i place x same at low is d =
    subst (λ (l : List X). x ≡ get_or l place d) same (subst (λ (k : ℕ). x ≡ get_or read k d) at (get_or_read read i x low is d))

-- so what holds of it holds there
pub holds-at : {X : Type 0} (P : X → Type 0) (read list : List X) (i place : ℕ) (x : X) → read ≡ list → i ≡ place → i < length read → x ≡ get_or read i x → P x
    → HoldsAt P list place
holds-at {X} P read list i place x same at low is holds = λ d. subst P (read-at read list i place x same at low is d) holds

-- what holds of what is put at a place holds there
pub put-at : {X : Type 0} (P : X → Type 0) (list : List X) (i place : ℕ) (x : X) → i ≡ place → i < length list → P x → HoldsAt P (set list i x) place
put-at {X} P list i place x at low holds =
    λ d. subst P (sym (subst (λ (k : ℕ). get_or (set list i x) k d ≡ x) at (get_or-set_same list i x d low))) holds
