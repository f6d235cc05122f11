-- The ends of a closed session, by the places of writers and readers.
use Rattle.std.proofs.Common.{◌≡◌, ◌≢◌, refl, sym, ap, ◌∙◌, subst, arith, ℕ, zero, suc, ◌+◌, ◌<◌, Bool, true, false, List, [], ◌∷◌, ◌++◌, length, map, get_or, AllPairs, Option, Some}
use Rattle.std.specs.Prelude.{◌==◌, find, slice_get, slice_index_or, option_map}
use Rattle.std.specs.Option.{option_map_or}
use Rattle.std.specs.List.{flat_map, zip, range_with_len, AllZip}
use Rattle.std.proofs.lemmas.Bool.Decides.{nat_tests}
use Rattle.std.proofs.lemmas.List.{map-append}
use Rattle.std.proofs.lemmas.List.Concat.{get_or-flat_map}
use Rattle.std.proofs.lemmas.List.Folds.{length-flat_map-take}
use Rattle.std.proofs.lemmas.List.FromFn.{get_or-range_with_len, length-map-range_with_len, length-range_with_len, get_or-map-range_with_len}
use Rattle.std.proofs.lemmas.Option.{slice_get-get_or, slice_get-map}
use Rattle.ps_config.specs.declared.parts.Config.{Config}
use Rattle.ps_config.specs.declared.parts.ReadGroupPart.{ReadGroupPart}
use Rattle.ps_config.specs.declared.parts.ReaderPart.{ReaderPart}
use Rattle.ps_config.specs.declared.parts.WriterPart.{WriterPart}
use Rattle.ps_report.specs.declared.closed.WriterEnd.{WriterEnd}
use Rattle.ps_report.specs.Conditions.{writers_of}
use Rattle.ps_report.specs.Told.{log_of, grouped_readers}
use Rattle.reader_group.specs.Members.{no_seat}
use Rattle.group_laws.specs.Matching.{reader_at as part_at}
use Rattle.reader_group.specs.Settings.{group_at as read_group_at, no_group as no_read_group}
use Rattle.writer_group.specs.Payloads.{writer_at, no_writer}
use Rattle.writer_group.specs.Parts.{group_at, no_group}
use Rattle.session_model.specs.Closing.{MemberPlace, reader_places, writer_places}

-- ---- lists in step

pub zip-get : {A B : Type 0} (R : A → B → Type 0) (xs : List A) (ys : List B) (k : ℕ) (x : A) (y : B) → AllZip R xs ys → slice_get xs k ≡ Some x → slice_get ys k ≡ Some y → R x y
zip-get R [] ys k x y all at of = absurd (cc)
zip-get R (a ∷ xs) [] k x y all at of = absurd all
zip-get {A} {B} R (a ∷ xs) (b ∷ ys) zero x y all at of = subst (λ (v : A). R v y) (some-is at) (subst (λ (v : B). R a v) (some-is of) all.0)
  where
    some-is : {X : Type 0} {one other : X} → Some one ≡ Some other → one ≡ other
    some-is {X} {one} e = ap (λ (o : Option X). option_map_or (λ v. v) o one) e
zip-get R (a ∷ xs) (b ∷ ys) (suc k) x y all at of = zip-get R xs ys k x y all.1 at of

pub zip-there : {A B : Type 0} (R : A → B → Type 0) (xs : List A) (ys : List B) (k : ℕ) (x : A) → AllZip R xs ys → slice_get xs k ≡ Some x → (y : B) × (slice_get ys k ≡ Some y)
zip-there R [] ys k x all at = absurd (cc)
zip-there R (a ∷ xs) [] k x all at = absurd all
zip-there R (a ∷ xs) (b ∷ ys) zero x all at = (b, refl)
zip-there R (a ∷ xs) (b ∷ ys) (suc k) x all at = zip-there R xs ys k x all.1 at

-- ---- by indexes

map-flat : {X Y Z : Type 0} (h : Y → Z) (f : X → List Y) (xs : List X) → map h (flat_map f xs) ≡ flat_map (λ x. map h (f x)) xs
map-flat h f [] = refl
map-flat h f (x ∷ xs) = map-append h (f x) (flat_map f xs) ∙ ap (λ l. map h (f x) ++ l) (map-flat h f xs)

map-map : {X Y Z : Type 0} (h : Y → Z) (f : X → Y) (xs : List X) → map h (map f xs) ≡ map (λ x. h (f x)) xs
map-map h f [] = refl
map-map h f (x ∷ xs) = ap (λ l. h (f x) ∷ l) (map-map h f xs)

-- what is made of the elements at all indexes is made of the list
mapped : {X Z : Type 0} (f : ℕ → Z) (F : X → Z) (xs : List X) (a : ℕ) (d : X) → ((k : ℕ) → k < length xs → f (a + k) ≡ F (get_or xs k d)) → map f (range_with_len a (length xs)) ≡ map F xs
mapped f F [] a d same = refl
mapped {X} {Z} f F (x ∷ xs) a d same =
    let first : f a ≡ F x = ap f (sym (omega arith)) ∙ same zero (omega arith) in
    let rest = mapped f F xs (a + 1) d (λ k below. ap f (omega arith) ∙ same (suc k) (omega (arith, below))) in
    ap (λ (z : Z). z ∷ map f (range_with_len (a + 1) (length xs))) first ∙ ap (λ (l : List Z). F x ∷ l) rest

flattened : {X Z : Type 0} (f : ℕ → List Z) (F : X → List Z) (xs : List X) (a : ℕ) (d : X) → ((k : ℕ) → k < length xs → f (a + k) ≡ F (get_or xs k d)) → flat_map f (range_with_len a (length xs)) ≡ flat_map F xs
flattened f F [] a d same = refl
flattened {X} {Z} f F (x ∷ xs) a d same =
    let first : f a ≡ F x = ap f (sym (omega arith)) ∙ same zero (omega arith) in
    let rest = flattened f F xs (a + 1) d (λ k below. ap f (omega arith) ∙ same (suc k) (omega (arith, below))) in
    ap (λ (z : List Z). z ++ flat_map f (range_with_len (a + 1) (length xs))) first ∙ ap (λ (l : List Z). F x ++ l) rest

-- the places of the parts of a list's elements
abbrev places : {X Y : Type 0} → (X → List Y) → List X → X → List MemberPlace
places parts xs d = flat_map (λ g. map (λ w. (g, w)) (range_with_len 0 (length (parts (slice_index_or xs g d))))) (range_with_len 0 (length xs))

-- what is made of the part at each place
made-of : {X Y Z : Type 0} (parts : X → List Y) (k : X → Y → Z) (xs : List X) (d : X) (e : Y)
    → map (λ (at : MemberPlace). k (slice_index_or xs at.0 d) (slice_index_or (parts (slice_index_or xs at.0 d)) at.1 e)) (places parts xs d) ≡ flat_map (λ x. map (k x) (parts x)) xs
made-of {X} {Y} {Z} parts k xs d e =
    let h : MemberPlace → Z = λ at. k (slice_index_or xs at.0 d) (slice_index_or (parts (slice_index_or xs at.0 d)) at.1 e) in
    let f : ℕ → List MemberPlace = λ g. map (λ w. (g, w)) (range_with_len 0 (length (parts (slice_index_or xs g d)))) in
    let own : (g : ℕ) → map h (f g) ≡ map (k (get_or xs g d)) (parts (get_or xs g d)) = λ g.
    map-map h (λ w. (g, w)) (range_with_len 0 (length (parts (slice_index_or xs g d))))
    ∙ mapped (λ w. h (g, w)) (k (get_or xs g d)) (parts (get_or xs g d)) 0 e (λ w below. ap (λ (n : ℕ). h (g, n)) (omega arith)) in
    map-flat h f (range_with_len 0 (length xs))
    ∙ flattened (λ g. map h (f g)) (λ x. map (k x) (parts x)) xs 0 d (λ g below. own (0 + g) ∙ ap (λ (n : ℕ). map (k (get_or xs n d)) (parts (get_or xs n d))) (omega arith))

-- each part has a place
place-of : {X Y : Type 0} (parts : X → List Y) (xs : List X) (d : X) (g w : ℕ) → g < length xs → w < length (parts (slice_index_or xs g d)) → (index : ℕ) × (slice_get (places parts xs d) index ≡ Some (g, w))
place-of parts xs d g w here within =
    let f : ℕ → List MemberPlace = λ g. map (λ w. (g, w)) (range_with_len 0 (length (parts (slice_index_or xs g d)))) in
    let list = range_with_len 0 (length xs) in
    let own : get_or list g 0 ≡ g = get_or-range_with_len 0 (length xs) g 0 here ∙ omega arith in
    let below : g < length list = omega (arith, here, length-range_with_len 0 (length xs)) in
    let many : length (f g) ≡ length (parts (slice_index_or xs g d)) = length-map-range_with_len (λ w. (g, w)) 0 (length (parts (slice_index_or xs g d))) in
    let inside : w < length (f (get_or list g 0)) = subst (λ (n : ℕ). w < length (f n)) (sym own) (omega (arith, within, many)) in
    let index = length (flat_map f (Rattle.std.specs.Prelude.take g list)) + w in
    let room = length-flat_map-take f list g 0 below in
    let there : index < length (flat_map f list) = omega (arith, room, inside) in
    let at : get_or (flat_map f list) index (0, 0) ≡ (g, w) =
    get_or-flat_map f list g w 0 (0, 0) below inside ∙ ap (λ (n : ℕ). get_or (f n) w (0, 0)) own
    ∙ get_or-map-range_with_len (λ w. (g, w)) 0 (length (parts (slice_index_or xs g d))) w w (0, 0) within (omega arith) in
    (index, slice_get-get_or (flat_map f list) index (0, 0) there ∙ ap (λ (x : MemberPlace). Some x) at)

-- ---- a writer's

map-self : {X : Type 0} (xs : List X) → map (λ x. x) xs ≡ xs
map-self [] = refl
map-self {X} (x ∷ xs) = ap (λ (l : List X). x ∷ l) (map-self xs)

flat-self : {X Y : Type 0} (parts : X → List Y) (xs : List X) → flat_map (λ x. map (λ y. y) (parts x)) xs ≡ flat_map parts xs
flat-self parts [] = refl
flat-self {X} {Y} parts (x ∷ xs) = ap (λ (l : List Y). l ++ flat_map (λ x. map (λ y. y) (parts x)) xs) (map-self (parts x)) ∙ ap (λ (l : List Y). parts x ++ l) (flat-self parts xs)

-- the part at a place
pub writer-part : (config : Config) (index g w : ℕ) → slice_get (writer_places config) index ≡ Some (g, w) → slice_get (writers_of config.group) index ≡ Some (writer_at (group_at config g) w)
writer-part config index g w at =
    let h : MemberPlace → WriterPart = λ place. writer_at (group_at config place.0) place.1 in
    let all : map h (writer_places config) ≡ writers_of config.group = made-of (λ group. group.writer) (λ group part. part) config.group no_group no_writer ∙ flat-self (λ group. group.writer) config.group in
    ap (λ (l : List WriterPart). slice_get l index) (sym all) ∙ slice_get-map h (writer_places config) index ∙ ap (λ (o : Option MemberPlace). option_map h o) at

pub reader-part : (config : Config) (index r i : ℕ) → slice_get (reader_places config) index ≡ Some (r, i)
    → slice_get (grouped_readers config.readgroup) index ≡ Some (read_group_at config r, part_at (read_group_at config r) i)
reader-part config index r i at =
    let h : MemberPlace → ReadGroupPart × ReaderPart = λ place. (read_group_at config place.0, part_at (read_group_at config place.0) place.1) in
    let all : map h (reader_places config) ≡ grouped_readers config.readgroup = made-of (λ group. group.reader) (λ group part. (group, part)) config.readgroup no_read_group no_seat.part in
    ap (λ (l : List (ReadGroupPart × ReaderPart)). slice_get l index) (sym all) ∙ slice_get-map h (reader_places config) index ∙ ap (λ (o : Option MemberPlace). option_map h o) at

pub writer-place : (config : Config) (g w : ℕ) → g < length config.group → w < length (group_at config g).writer → (index : ℕ) × (slice_get (writer_places config) index ≡ Some (g, w))
writer-place config g w here within = place-of (λ group. group.writer) config.group no_group g w here within

pub reader-place : (config : Config) (r i : ℕ) → r < length config.readgroup → i < length (read_group_at config r).reader → (index : ℕ) × (slice_get (reader_places config) index ≡ Some (r, i))
reader-place config r i here within = place-of (λ group. group.reader) config.readgroup no_read_group r i here within

-- ---- the log that a report finds by the writer's id

abbrev Differ : ℕ → ℕ → Type 0
Differ one other = one ≢ other

abbrev ids : List WriterPart → List ℕ
ids parts = map (λ part. part.id) parts

ids-at : (parts : List WriterPart) (k : ℕ) (part : WriterPart) → slice_get parts k ≡ Some part → (k < length (ids parts)) × (get_or (ids parts) k 0 ≡ part.id)
ids-at [] k part at = absurd (cc)
ids-at (x ∷ parts) zero part at = (omega arith, ap (λ (o : Option WriterPart). option_map_or (λ part. part.id) o 0) at)
ids-at (x ∷ parts) (suc k) part at = let rest = ids-at parts k part at in (omega (arith, rest.0), rest.1)

pairs-tail : (x : ℕ) (xs : List ℕ) → AllPairs Differ (x ∷ xs) → AllPairs Differ xs
pairs-tail x xs all = λ i j d less below. all (suc i) (suc j) d (omega (arith, less)) (omega (arith, below))

no-test : (a b : ℕ) → a ≢ b → (a == b) ≡ false
no-test a b differ = grind (arith, nat_tests)

yes-test : (a b : ℕ) → a ≡ b → (a == b) ≡ true
yes-test a b same = grind (arith, nat_tests)

pub found-log : (parts : List WriterPart) (ends : List WriterEnd) (k : ℕ) (part : WriterPart) (end : WriterEnd) → slice_get parts k ≡ Some part → slice_get ends k ≡ Some end → AllPairs Differ (ids parts) → log_of parts ends part.id ≡ end.log
found-log [] ends k part end at of apart = absurd (cc)
found-log (x ∷ parts) [] k part end at of apart = absurd (cc)
found-log (x ∷ parts) (y ∷ ends) zero part end at of apart =
    let id : x.id ≡ part.id = ap (λ (o : Option WriterPart). option_map_or (λ part. part.id) o 0) at in
    ap (λ (b : Bool). option_map_or (λ (at : WriterPart × WriterEnd). at.1.log) (Rattle.std.specs.Prelude.if◌then◌else◌ b (Some (x, y)) (find (λ (at : WriterPart × WriterEnd). at.0.id == part.id) (zip parts ends))) []) (yes-test x.id part.id id)
    ∙ ap (λ (o : Option WriterEnd). option_map_or (λ end. end.log) o []) of
found-log (x ∷ parts) (y ∷ ends) (suc k) part end at of apart =
    let there = ids-at parts k part at in
    let differ : x.id ≢ part.id = λ same. apart zero (suc k) 0 (omega arith) (omega (arith, there.0)) (same ∙ sym there.1) in
    ap (λ (b : Bool). option_map_or (λ (at : WriterPart × WriterEnd). at.1.log) (Rattle.std.specs.Prelude.if◌then◌else◌ b (Some (x, y)) (find (λ (at : WriterPart × WriterEnd). at.0.id == part.id) (zip parts ends))) []) (no-test x.id part.id differ)
    ∙ found-log parts ends k part end at of (pairs-tail x.id (ids parts) apart)
