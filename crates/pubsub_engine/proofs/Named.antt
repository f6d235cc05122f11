-- Writers by their ids, and readers by their indexes over all read groups.
use Rattle.std.proofs.Common.{◌≡◌, ◌≢◌, ◌⊎◌, inl, inr, refl, sym, ap, ◌∙◌, subst, arith, ℕ, suc, ◌+◌, ◌-◌, ◌<◌, ◌≤◌, ◌==◌, Bool, true, false, cond, List, [], ◌∷◌, ◌++◌, length, map, drop, zip, find, flat_map, get_or, slice_get, Option, Some, None, option_map, eq-eqb}
use Rattle.std.specs.List.{range_with_len}
use Rattle.std.specs.Option.{option_map_or, option_or}
use Rattle.std.proofs.lemmas.Bool.Decides.{eqb_tells}
use Rattle.std.proofs.lemmas.List.{drop_more, length-map}
use Rattle.std.proofs.lemmas.List.Folds.{find-append}
use Rattle.std.proofs.lemmas.List.FromFn.{length-map-range_with_len}
use Rattle.std.proofs.lemmas.Option.{slice_get-get_or, slice_get-map}
use Rattle.std.proofs.Math.Seq.{drop-length}
use Rattle.pubsub_states.proofs.Families.{slice_get-front, slice_get-skip}
use Rattle.session_model.proofs.Sending.{zip-append}
use Rattle.ps_config.specs.declared.parts.Config.{Config}
use Rattle.ps_config.specs.declared.parts.GroupPart.{GroupPart}
use Rattle.ps_config.specs.declared.parts.WriterPart.{WriterPart}
use Rattle.ps_config.specs.declared.parts.ReadGroupPart.{ReadGroupPart}
use Rattle.ps_config.specs.declared.parts.ReaderPart.{ReaderPart}
use Rattle.ps_report.specs.Conditions.{writers_of}
use Rattle.ps_report.specs.Told.{grouped_readers}
use Rattle.writer_group.specs.Parts.{group_at, no_group}
use Rattle.session_model.specs.Deeds.{writer_indexes}
use Rattle.session_model.specs.Closing.{MemberPlace, writer_places}
use Rattle.pubsub_engine.specs.Logs.{log_by, logs_told, place_in, place_named, place_within}

-- ---- lists

rest-more : (a n : ℕ) → a < n → range_with_len a (n - a) ≡ a ∷ range_with_len (a + 1) (n - (a + 1))
rest-more a n low = let e : n - a ≡ suc (n - (a + 1)) = omega arith in ap (range_with_len a) e

some-else : {X : Type 0} (x : X) (o : Option X) → option_or (Some x) o ≡ Some x
some-else x o = refl

-- ---- the writers of a group

-- the place of the first writer with the id from this one on
abbrev pub rest_within : GroupPart → ℕ → ℕ → ℕ → Option MemberPlace
rest_within group g w id = place_in (drop w group.writer) (map (λ i. (g, i)) (range_with_len w (length group.writer - w))) id

tested : (part : WriterPart) (parts : List WriterPart) (place : MemberPlace) (places : List MemberPlace) (id : ℕ) (b : Bool) → (part.id == id) ≡ b
    → place_in (part ∷ parts) (place ∷ places) id ≡ cond b (Some place) (place_in parts places id)
tested part parts place places id true e = ap (λ (b : Bool). option_map (λ at. at.1) (cond b (Some (part, place)) (find (λ at. at.0.id == id) (zip parts places)))) e
tested part parts place places id false e = ap (λ (b : Bool). option_map (λ at. at.1) (cond b (Some (part, place)) (find (λ at. at.0.id == id) (zip parts places)))) e

one-more : (group : GroupPart) (g w id : ℕ) (part : WriterPart) (b : Bool) → w < length group.writer → part ≡ get_or group.writer w part → (part.id == id) ≡ b
    → rest_within group g w id ≡ cond b (Some (g, w)) (rest_within group g (w + 1) id)
one-more group g w id part b low at is =
    ap (λ (parts : List WriterPart). place_in parts (map (λ i. (g, i)) (range_with_len w (length group.writer - w))) id) (drop_more group.writer w part low)
    ∙ ap (λ (l : List ℕ). place_in (get_or group.writer w part ∷ drop (w + 1) group.writer) (map (λ i. (g, i)) l) id) (rest-more w (length group.writer) low)
    ∙ ap (λ (first : WriterPart). place_in (first ∷ drop (w + 1) group.writer) ((g, w) ∷ map (λ i. (g, i)) (range_with_len (w + 1) (length group.writer - (w + 1)))) id) (sym at)
    ∙ tested part (drop (w + 1) group.writer) (g, w) (map (λ i. (g, i)) (range_with_len (w + 1) (length group.writer - (w + 1)))) id b is

pub rest-all : (group : GroupPart) (g id : ℕ) → rest_within group g 0 id ≡ place_within group g id
rest-all group g id = let e : length group.writer - 0 ≡ length group.writer = omega arith in ap (λ (n : ℕ). place_in group.writer (map (λ i. (g, i)) (range_with_len 0 n)) id) e

pub rest-none : (group : GroupPart) (g id : ℕ) → rest_within group g (length group.writer) id ≡ None
rest-none group g id = ap (λ (parts : List WriterPart). place_in parts (map (λ i. (g, i)) (range_with_len (length group.writer) (length group.writer - length group.writer))) id) (drop-length group.writer)

-- the writer with this index has the id
pub writer-found : (group : GroupPart) (g w id : ℕ) (part : WriterPart) → w < length group.writer → part ≡ get_or group.writer w part → part.id ≡ id
    → rest_within group g w id ≡ Some (g, w)
writer-found group g w id part low at is = one-more group g w id part true low at (eq-eqb part.id id is)

other-id : (a b : ℕ) → a ≢ b → (a == b) ≡ false
other-id a b apart = by_case (eqb_tells a b)
  where
    by_case : ((a == b) ≡ true) × (a ≡ b) ⊎ ((a == b) ≡ false) × (a ≢ b) → (a == b) ≡ false
    by_case (inl same) = absurd (apart same.1)
    by_case (inr other) = other.0

-- it has another
pub writer-other : (group : GroupPart) (g w id : ℕ) (part : WriterPart) → w < length group.writer → part ≡ get_or group.writer w part → part.id ≢ id
    → rest_within group g (w + 1) id ≡ rest_within group g w id
writer-other group g w id part low at other = sym (one-more group g w id part false low at (other-id part.id id other))

-- ---- the writers of all groups

abbrev pub places_of : Config → ℕ → List MemberPlace
places_of config g = map (λ w. (g, w)) (writer_indexes (group_at config g))

-- the place of the first writer with the id in this group and those behind it
abbrev pub rest_named : Config → ℕ → ℕ → Option MemberPlace
rest_named config g id =
    place_in (flat_map (λ group. group.writer) (drop g config.group)) (flat_map (places_of config) (range_with_len g (length config.group - g))) id

-- the first of two lists of writers, if it has one
joined : (parts others : List WriterPart) (places behind : List MemberPlace) (id : ℕ) → length places ≡ length parts
    → place_in (parts ++ others) (places ++ behind) id ≡ option_or (place_in parts places id) (place_in others behind id)
joined parts others places behind id same =
    ap (λ (l : List (WriterPart × MemberPlace)). option_map (λ at. at.1) (find (λ at. at.0.id == id) l)) (zip-append parts others places behind same)
    ∙ ap (option_map (λ (at : WriterPart × MemberPlace). at.1)) (find-append (λ (at : WriterPart × MemberPlace). at.0.id == id) (zip parts places) (zip others behind))
    ∙ mapped (find (λ at. at.0.id == id) (zip parts places))
  where
    mapped : (o : Option (WriterPart × MemberPlace)) → option_map (λ at. at.1) (option_or o (find (λ at. at.0.id == id) (zip others behind)))
        ≡ option_or (option_map (λ at. at.1) o) (place_in others behind id)
    mapped None = refl
    mapped (Some x) = refl

group-more : (config : Config) (g id : ℕ) → g < length config.group
    → rest_named config g id ≡ option_or (place_within (group_at config g) g id) (rest_named config (g + 1) id)
group-more config g id low =
    ap (λ (groups : List GroupPart). place_in (flat_map (λ group. group.writer) groups) (flat_map (places_of config) (range_with_len g (length config.group - g))) id) (drop_more config.group g no_group low)
    ∙ ap (λ (l : List ℕ). place_in (flat_map (λ group. group.writer) (group_at config g ∷ drop (g + 1) config.group)) (flat_map (places_of config) l) id) (rest-more g (length config.group) low)
    ∙ joined (group_at config g).writer (flat_map (λ group. group.writer) (drop (g + 1) config.group)) (places_of config g)
    (flat_map (places_of config) (range_with_len (g + 1) (length config.group - (g + 1)))) id (length-map-range_with_len (λ w. (g, w)) 0 (length (group_at config g).writer))

pub named-all : (config : Config) (id : ℕ) → rest_named config 0 id ≡ place_named config id
named-all config id =
    let e : length config.group - 0 ≡ length config.group = omega arith in
    ap (λ (n : ℕ). place_in (writers_of config.group) (flat_map (places_of config) (range_with_len 0 n)) id) e

pub named-none : (config : Config) (id : ℕ) → rest_named config (length config.group) id ≡ None
named-none config id =
    ap (λ (groups : List GroupPart). place_in (flat_map (λ group. group.writer) groups) (flat_map (places_of config) (range_with_len (length config.group) (length config.group - length config.group))) id)
    (drop-length config.group)

-- the group has a writer with the id
pub group-found : (config : Config) (g id w : ℕ) → g < length config.group → option_map (λ (i : ℕ). (g, i)) (Some w) ≡ place_within (group_at config g) g id
    → rest_named config g id ≡ Some (g, w)
group-found config g id w low found = group-more config g id low ∙ ap (λ (o : Option MemberPlace). option_or o (rest_named config (g + 1) id)) (sym found)

-- it has none
pub group-other : (config : Config) (g id : ℕ) → g < length config.group → option_map (λ (i : ℕ). (g, i)) None ≡ place_within (group_at config g) g id
    → rest_named config (g + 1) id ≡ rest_named config g id
group-other config g id low none = sym (group-more config g id low ∙ ap (λ (o : Option MemberPlace). option_or o (rest_named config (g + 1) id)) (sym none))

-- the log of the writer with an id is that at its place
pub log-at : (logs : ℕ → ℕ → List (ℕ × ℕ)) (config : Config) (id : ℕ) (o : Option MemberPlace) → o ≡ place_named config id
    → option_map_or (λ place. logs place.0 place.1) o [] ≡ log_by logs config id
log-at logs config id o is =
    ap (λ (found : Option MemberPlace). option_map_or (λ place. logs place.0 place.1) found []) is
    ∙ mapped (find (λ at. at.0.id == id) (zip (writers_of config.group) (writer_places config)))
  where
    mapped : (found : Option (WriterPart × MemberPlace)) → option_map_or (λ place. logs place.0 place.1) (option_map (λ at. at.1) found) []
        ≡ option_map_or (λ at. logs at.1.0 at.1.1) found []
    mapped None = refl
    mapped (Some x) = refl

-- ---- the readers of all read groups

-- the readers from this read group on
abbrev pub rest_readers : Config → ℕ → List (ReadGroupPart × ReaderPart)
rest_readers config r = grouped_readers (drop r config.readgroup)

readers-more : (config : Config) (r : ℕ) (group : ReadGroupPart) → r < length config.readgroup → group ≡ get_or config.readgroup r group
    → rest_readers config r ≡ map (λ part. (group, part)) group.reader ++ rest_readers config (r + 1)
readers-more config r group low at =
    ap grouped_readers (drop_more config.readgroup r group low)
    ∙ ap (λ (first : ReadGroupPart). grouped_readers (first ∷ drop (r + 1) config.readgroup)) (sym at)

-- the reader is in this read group
pub reader-found : (config : Config) (r left : ℕ) (group : ReadGroupPart) (part : ReaderPart) → r < length config.readgroup → group ≡ get_or config.readgroup r group
    → left < length group.reader → part ≡ get_or group.reader left part
    → slice_get (rest_readers config r) left ≡ Some (group, part)
reader-found config r left group part low at within at_part =
    ap (λ (l : List (ReadGroupPart × ReaderPart)). slice_get l left) (readers-more config r group low at)
    ∙ slice_get-front (map (λ part. (group, part)) group.reader) (rest_readers config (r + 1)) left
    (subst (λ n. left < n) (sym (length-map group.reader (λ (part : ReaderPart). (group, part)))) within)
    ∙ slice_get-map (λ (part : ReaderPart). (group, part)) group.reader left
    ∙ ap (option_map (λ (part : ReaderPart). (group, part))) (slice_get-get_or group.reader left part within ∙ ap Some (sym at_part))

-- it is behind it
pub reader-behind : (config : Config) (r left : ℕ) (group : ReadGroupPart) → r < length config.readgroup → group ≡ get_or config.readgroup r group
    → length group.reader ≤ left
    → slice_get (rest_readers config (r + 1)) (left - length group.reader) ≡ slice_get (rest_readers config r) left
reader-behind config r left group low at behind =
    sym (ap (λ (l : List (ReadGroupPart × ReaderPart)). slice_get l left) (readers-more config r group low at)
    ∙ ap (slice_get (map (λ part. (group, part)) group.reader ++ rest_readers config (r + 1))) split
    ∙ slice_get-skip (map (λ part. (group, part)) group.reader) (rest_readers config (r + 1)) (left - length group.reader))
  where
    split : left ≡ length {A = ReadGroupPart × ReaderPart} (map (λ part. (group, part)) group.reader) + (left - length group.reader)
    split = let e = length-map {B = ReadGroupPart × ReaderPart} group.reader (λ part. (group, part)) in omega (arith, e, behind)

pub readers-none : (config : Config) (left : ℕ) → slice_get (rest_readers config (length config.readgroup)) left ≡ None
readers-none config left = ap (λ (groups : List ReadGroupPart). slice_get (grouped_readers groups) left) (drop-length config.readgroup)

-- ---- no versions are told

none-found : {X : Type 0} (o : Option X) → ◌≡◌ {A = List (ℕ × ℕ)} [] (option_map_or (λ (at : X). []) o [])
none-found None = refl
none-found (Some at) = refl

pub no-log-told : (logs : ℕ → ℕ → List (ℕ × ℕ)) (config : Config) (id : ℕ) → [] ≡ log_by (logs_told false logs) config id
no-log-told logs config id = none-found (find (λ (at : WriterPart × MemberPlace). at.0.id == id) (zip (writers_of config.group) (writer_places config)))
