-- Calls in a row on a link that tells, and files that are told.
use Rattle.std.proofs.Common.{◌≡◌, ℕ, List, Option, Some, None, refl, sym, subst, ◌∙◌}
use Rattle.ua_base.specs.Journal.{LinkState, Tells}
use Rattle.ua_base.specs.Files.{ToldFile, TellsFile}

pub Tells-weaker : (a b : Option LinkState) (P Q : LinkState → LinkState → Type 0) → ((before after : LinkState) → P before after → Q before after) → Tells a b P → Tells a b Q
Tells-weaker a None P Q f t = tt
Tells-weaker a (Some after) P Q f t = (t.0, t.1, f t.0 after t.2)

pub Tells-refl : (a : Option LinkState) (P : LinkState → LinkState → Type 0) → ((w : LinkState) → P w w) → Tells a a P
Tells-refl None P f = tt
Tells-refl (Some w) P f = (w, refl, f w)

pub Tells-then : (a b c : Option LinkState) (P Q R : LinkState → LinkState → Type 0) → ((x y z : LinkState) → P x y → Q y z → R x z) → Tells a b P → Tells b c Q → Tells a c R
Tells-then a b None P Q R f p q = tt
Tells-then a b (Some z) P Q R f p q =
    let first : Tells a (Some q.0) P = subst (λ (o : Option LinkState). Tells a o P) q.1 p in
    (first.0, first.1, f first.0 q.0 z first.2 q.2)

-- what is told of the end of a call is told of its start, and the call did this between them
pub Tells-at : (a : Option LinkState) (after : LinkState) (P : LinkState → LinkState → Type 0) → Tells a (Some after) P → (before : LinkState) × (a ≡ Some before) × P before after
Tells-at a after P t = t

-- from what is told at both ends
pub Tells-between : (before after : LinkState) (a b : Option LinkState) (P : LinkState → LinkState → Type 0) → a ≡ Some before → b ≡ Some after → Tells a b P → P before after
Tells-between before after a b P start end t =
    let told : Tells a (Some after) P = subst (λ (o : Option LinkState). Tells a o P) end t in
    let same : told.0 ≡ before = let is : Some told.0 ≡ Some before = sym told.1 ∙ start in cc in
    subst (λ (w : LinkState). P w after) same told.2

pub TellsFile-weaker : (told : ToldFile) (P Q : List ℕ → Type 0) → ((bytes : List ℕ) → P bytes → Q bytes) → TellsFile told P → TellsFile told Q
TellsFile-weaker None P Q f t = tt
TellsFile-weaker (Some file) P Q f t = (t.0, t.1, f t.0 t.2)

-- a told file is the one that is read
pub TellsFile-at : (told : ToldFile) (bytes : List ℕ) (P : List ℕ → Type 0) → told ≡ Some (Some bytes) → TellsFile told P → P bytes
TellsFile-at told bytes P is t =
    let file : TellsFile (Some (Some bytes)) P = subst (λ (o : ToldFile). TellsFile o P) is t in
    let same : file.0 ≡ bytes = let e : Some bytes ≡ Some file.0 = file.1 in cc in
    subst P same file.2

-- a name of which no file is told can't be read
pub TellsFile-missing : (told : ToldFile) (P : List ℕ → Type 0) → told ≡ Some None → TellsFile told P → ⊥
TellsFile-missing told P is t =
    let file : TellsFile (Some None) P = subst (λ (o : ToldFile). TellsFile o P) is t in
    let e : None ≡ Some file.0 = file.1 in cc
