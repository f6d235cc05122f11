-- A part of a list has one name.
use Rattle.std.proofs.Common.{◌≡◌, ℕ, ◌<◌, List, [], ◌∷◌, length, get_or, sym, ◌∙◌, arith}
use Rattle.ps_config.specs.declared.parts.Config.{Config}
use Rattle.uapubsub_c.specs.Listing.{HasAt, IsNamed}
use Rattle.uapubsub_c.specs.declared.listed.Listed.{Listed}
use Rattle.uapubsub_c.specs.declared.listed.Listed.TheVariants.{DataSets, Fields, Groups, KeyGroups, ReadGroups, Readers, Writers}

-- an element of a list that isn't empty
some-of : {X : Type 0} (list : List X) (place : ℕ) → place < length list → X
some-of [] place low = absurd (omega (arith, low))
some-of (x ∷ list) place low = x

-- what follows of two things that a part is
both-at : {X : Type 0} {P : Type 0} (first second : X → Type 0) (parts : List X) (index : ℕ) → ((x : X) → first x → second x → P)
    → HasAt first parts index → HasAt second parts index → P
both-at first second parts index step one other =
    let d = some-of parts index one.within in step (get_or parts index d) (one.is d) (other.is d)

-- the part with this index of whatever has a name
same-at : {X : Type 0} (name_of : X → List ℕ) (parts : List X) (index : ℕ) (one other : List ℕ)
    → HasAt (λ x. name_of x ≡ one) parts index → HasAt (λ x. name_of x ≡ other) parts index → one ≡ other
same-at name_of parts index one other first second =
    both-at (λ x. name_of x ≡ one) (λ x. name_of x ≡ other) parts index (λ x p q. sym p ∙ q) first second

pub one-name : (config : Config) (list : Listed) (of index : ℕ) (one other : List ℕ)
    → IsNamed config list of index one → IsNamed config list of index other → one ≡ other
one-name config DataSets of index one other first second = same-at (λ meta. meta.name) config.dataset index one other first second
one-name config Fields of index one other first second =
    both-at _ _ config.dataset of (λ meta p q. same-at (λ field. field.name) meta.fields index one other p q) first second
one-name config KeyGroups of index one other first second = same-at (λ keygroup. keygroup.name) config.keygroup index one other first second
one-name config Groups of index one other first second = same-at (λ group. group.name) config.group index one other first second
one-name config Writers of index one other first second =
    both-at _ _ config.group of (λ group p q. same-at (λ writer. writer.name) group.writer index one other p q) first second
one-name config ReadGroups of index one other first second = same-at (λ group. group.name) config.readgroup index one other first second
one-name config Readers of index one other first second =
    both-at _ _ config.readgroup of (λ group p q. same-at (λ reader. reader.name) group.reader index one other p q) first second
