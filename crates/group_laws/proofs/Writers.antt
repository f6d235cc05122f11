-- The writers of a group of a sound configuration: their ids are of 16 bits, not 0, and each another.
use Rattle.std.proofs.Common.{◌≡◌, ◌≢◌, refl, sym, ◌∙◌, subst, arith, ℕ, zero, suc, ◌+◌, ◌<◌, ◌≤◌, ◌⊎◌, inl, inr, List, [], ◌∷◌, ◌++◌, length, map, get_or, length-append, AllPairs, Contains}
use Rattle.std.specs.List.{flat_map}
use Rattle.std.proofs.lemmas.Bool.{cases_lt}
use Rattle.std.proofs.lemmas.List.{length-map, map-append, get_or-append-add, get_or_append_left}
use Rattle.ps_config.specs.declared.parts.Config.{Config}
use Rattle.ps_config.specs.declared.parts.GroupPart.{GroupPart}
use Rattle.ps_config.specs.declared.parts.WriterPart.{WriterPart}
use Rattle.ps_config.specs.Sound.{IsSound, IsGroup}
use Rattle.writer_group.specs.Payloads.{no_writer}
use Rattle.writer_group.proofs.SmallIds.{group-sound, id_at, past-zero, there-within}

-- ---- pairs in a part of a list

pairs-left : {X : Type 0} (R : X → X → Type 0) (xs ys : List X) → AllPairs R (xs ++ ys) → AllPairs R xs
pairs-left R xs ys all = λ i j d less below.
    let far : j < length (xs ++ ys) = omega (arith, below, length-append xs ys) in
    let at_j = get_or_append_left xs ys d j below in
    let at_i = get_or_append_left xs ys d i (omega (arith, less, below)) in
    subst (λ x. R x (get_or xs j d)) at_i (subst (λ y. R (get_or (xs ++ ys) i d) y) at_j (all i j d less far))

pairs-right : {X : Type 0} (R : X → X → Type 0) (xs ys : List X) → AllPairs R (xs ++ ys) → AllPairs R ys
pairs-right R xs ys all = λ i j d less below.
    let far : length xs + j < length (xs ++ ys) = omega (arith, below, length-append xs ys) in
    subst (λ x. R x (get_or ys j d)) (get_or-append-add xs ys i d)
    (subst (λ y. R (get_or (xs ++ ys) (length xs + i) d) y) (get_or-append-add xs ys j d) (all (length xs + i) (length xs + j) d (omega (arith, less)) far))

-- in what one of many gives
pairs-in : {X Y Z : Type 0} (R : Z → Z → Type 0) (h : Y → Z) (f : X → List Y) (xs : List X) (k : ℕ) (d : X) → k < length xs → AllPairs R (map h (flat_map f xs)) → AllPairs R (map h (f (get_or xs k d)))
pairs-in R h f [] k d below all = absurd (omega (arith, below))
pairs-in {X} {Y} {Z} R h f (x ∷ xs) zero d below all = pairs-left R (map h (f x)) (map h (flat_map f xs)) (subst (λ (l : List Z). AllPairs R l) (map-append h (f x) (flat_map f xs)) all)
pairs-in {X} {Y} {Z} R h f (x ∷ xs) (suc k) d below all =
    pairs-in R h f xs k d (omega (arith, below)) (pairs-right R (map h (f x)) (map h (flat_map f xs)) (subst (λ (l : List Z). AllPairs R l) (map-append h (f x) (flat_map f xs)) all))

mapped : {X Y : Type 0} (h : X → Y) (xs : List X) (k : ℕ) (d : X) → get_or (map h xs) k (h d) ≡ h (get_or xs k d)
mapped h [] k d = refl
mapped h (x ∷ xs) zero d = refl
mapped h (x ∷ xs) (suc k) d = mapped h xs k d

-- ---- ids

ids-apart : (config : Config) (group : GroupPart) (one other : ℕ) → IsSound config → Contains config.group group → one < other → other < length group.writer → id_at group one ≢ id_at group other
ids-apart config group one other sound there less within =
    let ids : WriterPart → ℕ = λ w. w.id in
    let all : AllPairs (λ (a b : ℕ). a ≢ b) (map ids (get_or config.group there.0 group).writer) = pairs-in (λ (a b : ℕ). a ≢ b) ids (λ (g : GroupPart). g.writer) config.group there.0 group there.1 sound.one_writer in
    let here : AllPairs (λ (a b : ℕ). a ≢ b) (map ids group.writer) = subst (λ (g : GroupPart). AllPairs (λ (a b : ℕ). a ≢ b) (map ids g.writer)) there.2 all in
    let apart = here one other 0 less (omega (arith, within, length-map group.writer ids)) in
    λ same. apart (mapped ids group.writer one no_writer ∙ same ∙ sym (mapped ids group.writer other no_writer))

-- the id of a writer of the group is no other's
pub other-id : (config : Config) (group : GroupPart) (writer other : ℕ) → IsSound config → Contains config.group group → writer < length group.writer → other ≢ writer → id_at group other ≢ id_at group writer
other-id config group writer other sound there within differ = on (cases_lt other (length group.writer)) (cases_lt other writer)
  where
    is : IsGroup config group
    is = group-sound config group sound there

    on : (other < length group.writer) ⊎ (length group.writer ≤ other) → (other < writer) ⊎ (writer ≤ other) → id_at group other ≢ id_at group writer
    on (inr past) order = λ same. let zero_is = past-zero group other past in let h = there-within config group writer is within in absurd (omega (arith, same, zero_is, h.0))
    on (inl here) (inl less) = ids-apart config group other writer sound there less within
    on (inl here) (inr more) = λ same. ids-apart config group writer other sound there (omega (arith, more, differ)) here (sym same)
