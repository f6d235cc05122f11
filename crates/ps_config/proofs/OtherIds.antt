-- Groups of a sound configuration have different ids, and so have the writers of different groups.
use Rattle.std.proofs.Common.{◌≡◌, ◌≢◌, sym, ap, ◌∙◌, subst, arith, ℕ, zero, suc, ◌+◌, ◌<◌, ◌≤◌, ◌⊎◌, inl, inr, List, [], ◌∷◌, ◌++◌, length, map, get_or, length-append, AllPairs, All, Some}
use Rattle.std.specs.Prelude.{slice_get}
use Rattle.std.specs.List.{flat_map}
use Rattle.std.proofs.lemmas.Bool.{cases_lt}
use Rattle.std.proofs.lemmas.List.{get_or-map, get_or_default, length-map, map-append, get_or-append-add, get_or_append_left}
use Rattle.std.proofs.lemmas.List.Elements.{All-nil, All-cons, All-head, All-tail}
use Rattle.std.proofs.lemmas.Option.{slice_get_within, get_or_from_slice_get}
use Rattle.ps_config.specs.declared.parts.Config.{Config}
use Rattle.ps_config.specs.declared.parts.GroupPart.{GroupPart}
use Rattle.ps_config.specs.declared.parts.WriterPart.{WriterPart}
use Rattle.ps_config.specs.Sound.{IsSound}

abbrev Differ : ℕ → ℕ → Type 0
Differ one other = one ≢ other

-- ---- pairs across two parts of a list

cross : {X : Type 0} (R : X → X → Type 0) (xs ys : List X) (k : ℕ) (d : X) → AllPairs R (xs ++ ys) → k < length xs → All (R (get_or xs k d)) ys
cross R xs ys k d all below = λ l e here.
    let far : length xs + l < length (xs ++ ys) = omega (arith, here, length-append xs ys) in
    let at_k : get_or (xs ++ ys) k e ≡ get_or xs k d = get_or_append_left xs ys e k below ∙ get_or_default xs k e d below in
    subst (λ x. R x (get_or ys l e)) at_k (subst (λ y. R (get_or (xs ++ ys) k e) y) (get_or-append-add xs ys l e) (all k (length xs + l) e (omega (arith, below)) far))

right : {X : Type 0} (R : X → X → Type 0) (xs ys : List X) → AllPairs R (xs ++ ys) → AllPairs R ys
right R xs ys all = λ i j d less below.
    let far : length xs + j < length (xs ++ ys) = omega (arith, below, length-append xs ys) in
    subst (λ x. R x (get_or ys j d)) (get_or-append-add xs ys i d)
    (subst (λ y. R (get_or (xs ++ ys) (length xs + i) d) y) (get_or-append-add xs ys j d) (all (length xs + i) (length xs + j) d (omega (arith, less)) far))

of_map : {X Y : Type 0} (P : Y → Type 0) (h : X → Y) (xs : List X) → All P (map h xs) → All (λ x. P (h x)) xs
of_map P h [] all = All-nil (λ x. P (h x))
of_map P h (x ∷ xs) all = All-cons (λ x. P (h x)) x xs (All-head P (h x) (map h xs) all) (of_map P h xs (All-tail P (h x) (map h xs) all))

all_left : {X : Type 0} (P : X → Type 0) (xs ys : List X) → All P (xs ++ ys) → All P xs
all_left P [] ys all = All-nil P
all_left P (x ∷ xs) ys all = All-cons P x xs (All-head P x (xs ++ ys) all) (all_left P xs ys (All-tail P x (xs ++ ys) all))

all_right : {X : Type 0} (P : X → Type 0) (xs ys : List X) → All P (xs ++ ys) → All P ys
all_right P [] ys all = all
all_right P (x ∷ xs) ys all = all_right P xs ys (All-tail P x (xs ++ ys) all)

of_one : {X Y : Type 0} (P : Y → Type 0) (f : X → List Y) (xs : List X) (k : ℕ) (d : X) → k < length xs → All P (flat_map f xs) → All P (f (get_or xs k d))
of_one P f [] k d below all = absurd (omega (arith, below))
of_one P f (x ∷ xs) zero d below all = all_left P (f x) (flat_map f xs) all
of_one P f (x ∷ xs) (suc k) d below all = of_one P f xs k d (omega (arith, below)) (all_right P (f x) (flat_map f xs) all)

module _ {X Y : Type 0} (h : Y → ℕ) (f : X → List Y) where
  ids_map : (x : X) (xs : List X) → AllPairs Differ (map h (flat_map f (x ∷ xs))) → AllPairs Differ (map h (f x) ++ map h (flat_map f xs))
  ids_map x xs all = subst (λ (l : List ℕ). AllPairs Differ l) (map-append h (f x) (flat_map f xs)) all

  -- what one gives differs from what a later one gives
  pub apart : (xs : List X) (i j : ℕ) (d : X) → i < j → j < length xs → AllPairs Differ (map h (flat_map f xs)) → (k : ℕ) (e : Y) → k < length (f (get_or xs i d))
      → All (λ y. h (get_or (f (get_or xs i d)) k e) ≢ h y) (f (get_or xs j d))
  apart [] i j d less below all k e here = absurd (omega (arith, below))
  apart (x ∷ xs) i zero d less below all k e here = absurd (omega (arith, less))
  apart (x ∷ xs) zero (suc j) d less below all k e here =
      let first = cross Differ (map h (f x)) (map h (flat_map f xs)) k (h e) (ids_map x xs all) (omega (arith, here, length-map (f x) h)) in
      let mine : All (λ y. h (get_or (f x) k e) ≢ h y) (flat_map f xs) =
      of_map (λ n. h (get_or (f x) k e) ≢ n) h (flat_map f xs) (subst (λ (n : ℕ). All (λ m. n ≢ m) (map h (flat_map f xs))) (get_or-map h (f x) k e (h e) here) first) in
      of_one (λ y. h (get_or (f x) k e) ≢ h y) f xs j d (omega (arith, below)) mine
  apart (x ∷ xs) (suc i) (suc j) d less below all k e here =
      apart xs i j d (omega (arith, less)) (omega (arith, below)) (right Differ (map h (f x)) (map h (flat_map f xs)) (ids_map x xs all)) k e here

-- ---- groups by their indexes

abbrev IsAt : Config → ℕ → GroupPart → Type 0
IsAt config index group = slice_get config.group index ≡ Some group

earlier_id : (config : Config) (g h : ℕ) (group part : GroupPart) → IsSound config → IsAt config g group → IsAt config h part → g < h → group.id ≢ part.id
earlier_id config g h group part sound at_g at_h less same =
    let ids : GroupPart → ℕ = λ x. x.id in
    let below = slice_get_within config.group h part at_h in
    let first = slice_get_within config.group g group at_g in
    let one : get_or (map ids config.group) g 0 ≡ group.id = get_or-map ids config.group g group 0 first ∙ ap ids (get_or_from_slice_get config.group g group group at_g) in
    let other : get_or (map ids config.group) h 0 ≡ part.id = get_or-map ids config.group h part 0 below ∙ ap ids (get_or_from_slice_get config.group h part part at_h) in
    sound.one_group g h 0 less (omega (arith, below, length-map config.group ids)) (one ∙ same ∙ sym other)

pub other_group_id : (config : Config) (index other : ℕ) (one part : GroupPart) → IsSound config → IsAt config index one → IsAt config other part → other ≢ index → part.id ≢ one.id
other_group_id config index other one part sound at_index at_other differ same = on (cases_lt index other)
  where
    on : (index < other) ⊎ (other ≤ index) → ⊥
    on (inl less) = earlier_id config index other one part sound at_index at_other less (sym same)
    on (inr more) = earlier_id config other index part one sound at_other at_index (omega (arith, more, differ)) same

-- the ids of the writers of a later group differ from those of an earlier one
later_ids : (config : Config) (g h place : ℕ) (group part : GroupPart) (d : WriterPart) → IsSound config → IsAt config g group → IsAt config h part → g < h → place < length group.writer
    → All (λ another. (get_or group.writer place d).id ≢ another.id) part.writer
later_ids config g h place group part d sound at_g at_h less here =
    let below = slice_get_within config.group h part at_h in
    let one : get_or config.group g group ≡ group = get_or_from_slice_get config.group g group group at_g in
    let other : get_or config.group h group ≡ part = get_or_from_slice_get config.group h part group at_h in
    let within : place < length (get_or config.group g group).writer = subst (λ (x : GroupPart). place < length x.writer) (sym one) here in
    let all = apart (λ (w : WriterPart). w.id) (λ (x : GroupPart). x.writer) config.group g h group less below sound.one_writer place d within in
    subst (λ (x : GroupPart). All (λ another. (get_or group.writer place d).id ≢ another.id) x.writer) other
    (subst (λ (x : GroupPart). All (λ another. (get_or x.writer place d).id ≢ another.id) (get_or config.group h group).writer) one all)

pub other_writer_ids : (config : Config) (index other place : ℕ) (one part : GroupPart) (writer : WriterPart) → IsSound config → IsAt config index one → IsAt config other part → other ≢ index
    → slice_get one.writer place ≡ Some writer → All (λ another. another.id ≢ writer.id) part.writer
other_writer_ids config index other place one part writer sound at_index at_other differ at_place = on (cases_lt index other)
  where
    within : place < length one.writer
    within = slice_get_within one.writer place writer at_place

    is : (d : WriterPart) → get_or one.writer place d ≡ writer
    is d = get_or_from_slice_get one.writer place writer d at_place

    on : (index < other) ⊎ (other ≤ index) → All (λ another. another.id ≢ writer.id) part.writer
    on (inl less) = λ k d below same.
        let all = later_ids config index other place one part writer sound at_index at_other less within in
        all k d below (ap (λ (w : WriterPart). w.id) (is writer) ∙ sym same)
    on (inr more) = λ k d below same.
        let all = later_ids config other index k part one d sound at_other at_index (omega (arith, more, differ)) below in
        all place writer within (same ∙ sym (ap (λ (w : WriterPart). w.id) (is writer)))
