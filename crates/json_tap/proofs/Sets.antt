-- The data sets of writers, one group after another.
use Rattle.std.proofs.Common.{◌≡◌, ℕ, zero, suc, ◌<◌, List, [], ◌∷◌, ◌++◌, length, drop, get_or, map, cond, Bool, true, false, Option, Some, None, refl, sym, ap, ◌∙◌, subst, arith}
use Rattle.std.specs.Prelude.{◌==◌, flat_map}
use Rattle.std.proofs.lemmas.List.{map-append}
use Rattle.ps_config.specs.declared.parts.GroupPart.{GroupPart}
use Rattle.ps_config.specs.declared.parts.WriterPart.{WriterPart}
use Rattle.json_frames.specs.Reading.{set_of}

pub one_off : {X : Type 0} (xs : List X) (i : ℕ) (d : X) → i < length xs → drop i xs ≡ get_or xs i d ∷ drop (suc i) xs
one_off [] i d below = absurd (omega (arith, below))
one_off (x ∷ xs) zero d below = refl
one_off (x ∷ xs) (suc i) d below = one_off xs i d (omega (arith, below))

found_by : (b : Bool) (set found : ℕ) (one both : Option ℕ) → (one ≡ Some found → both ≡ Some found) → cond b (Some set) one ≡ Some found → cond b (Some set) both ≡ Some found
found_by true set found one both later is = is
found_by false set found one both later is = later is

missed_by : (b : Bool) (set : ℕ) (one other both : Option ℕ) → (one ≡ None → both ≡ other) → cond b (Some set) one ≡ None → cond b (Some set) both ≡ other
missed_by true set one other both later is = absurd cc
missed_by false set one other both later is = later is

set_in_first : (xs ys : List (ℕ × ℕ)) (writer set : ℕ) → set_of xs writer ≡ Some set → set_of (xs ++ ys) writer ≡ Some set
set_in_first [] ys writer set is = absurd cc
set_in_first (x ∷ xs) ys writer set is = found_by (x.0 == writer) x.1 set (set_of xs writer) (set_of (xs ++ ys) writer) (set_in_first xs ys writer set) is

set_in_second : (xs ys : List (ℕ × ℕ)) (writer : ℕ) → set_of xs writer ≡ None → set_of (xs ++ ys) writer ≡ set_of ys writer
set_in_second [] ys writer is = refl
set_in_second (x ∷ xs) ys writer is = missed_by (x.0 == writer) x.1 (set_of xs writer) (set_of ys writer) (set_of (xs ++ ys) writer) (set_in_second xs ys writer) is

-- the data set of each of these writers
abbrev pub pairs : List WriterPart → List (ℕ × ℕ)
pairs writers = map (λ writer. (writer.id, writer.dataset)) writers

abbrev pub sets_in : List GroupPart → List (ℕ × ℕ)
sets_in groups = pairs (flat_map (λ group. group.writer) groups)

split_sets : (group : GroupPart) (groups : List GroupPart) → sets_in (group ∷ groups) ≡ pairs group.writer ++ sets_in groups
split_sets group groups = map-append (λ (writer : WriterPart). (writer.id, writer.dataset)) group.writer (flat_map (λ (group : GroupPart). group.writer) groups)

pub found_in_group : (groups : List GroupPart) (i : ℕ) (group : GroupPart) (writer set : ℕ) → drop i groups ≡ group ∷ drop (suc i) groups → set_of (pairs group.writer) writer ≡ Some set → set_of (sets_in (drop i groups)) writer ≡ Some set
found_in_group groups i group writer set here is =
    ap (λ (l : List GroupPart). set_of (sets_in l) writer) here ∙ ap (λ (l : List (ℕ × ℕ)). set_of l writer) (split_sets group (drop (suc i) groups)) ∙ set_in_first (pairs group.writer) (sets_in (drop (suc i) groups)) writer set is

pub none_in_group : (groups : List GroupPart) (i : ℕ) (group : GroupPart) (writer : ℕ) → drop i groups ≡ group ∷ drop (suc i) groups → set_of (pairs group.writer) writer ≡ None → set_of (sets_in (drop i groups)) writer ≡ set_of (sets_in (drop (suc i) groups)) writer
none_in_group groups i group writer here is =
    ap (λ (l : List GroupPart). set_of (sets_in l) writer) here ∙ ap (λ (l : List (ℕ × ℕ)). set_of l writer) (split_sets group (drop (suc i) groups)) ∙ set_in_second (pairs group.writer) (sets_in (drop (suc i) groups)) writer is

pub group_here : (items groups : List GroupPart) (i : ℕ) (group : GroupPart) → items ≡ groups → i < length items → group ≡ get_or items i group → drop i groups ≡ group ∷ drop (suc i) groups
group_here items groups i group same inside is =
    subst (λ (l : List GroupPart). drop i l ≡ group ∷ drop (suc i) l) same (one_off items i group inside ∙ ap (λ (g : GroupPart). g ∷ drop (suc i) items) (sym is))
