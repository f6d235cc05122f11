-- The groups that are left, beside the tables that are left.
use Rattle.std.proofs.Common.{◌≡◌, ℕ, zero, suc, ◌+◌, ◌<◌, Bool, true, false, ◌&&◌, cond, List, [], ◌∷◌, ◌++◌, length, get_or, take, drop, map, Option, Some, refl, sym, ap, ◌∙◌, arith, length-drop}
use Rattle.std.proofs.lemmas.List.{drop_more, map-append}
use Rattle.dataset_meta.specs.Metas.{MetaData}
use Rattle.config_tables.specs.declared.document.Placed.{Placed}
use Rattle.config_tables.specs.declared.fault.Fault.TheVariants.{FrameLarge}
use Rattle.config_tables.specs.declared.key.Key.TheVariants.{Id}
use Rattle.config_tables.specs.declared.place.Part.TheVariants.{Group}
use Rattle.config_tables.specs.declared.place.Place.{Place}
use Rattle.config_tables.specs.Places.{is_outer}
use Rattle.config_tables.specs.Seen.{seen}
use Rattle.config_tables.specs.Tables.{Located}
use Rattle.ps_config.specs.declared.parts.Config.{Config}
use Rattle.ps_config.specs.declared.parts.GroupPart.{GroupPart}
use Rattle.ps_config.specs.Configs.{config_of, group_of, publisher_part}
use Rattle.ps_config.specs.Fields.{outer_tables, publisher_members}
use Rattle.ps_config.specs.Messages.{metas_of}
use Rattle.ps_config.specs.Refusals.{stands, first_from}
use Rattle.ps_config.specs.Rooms.{lacks_room}
use Rattle.ps_config.specs.Settings.{publisher_at}
use Rattle.ps_config.proofs.Sums.{next_seen}

take_push : {X : Type 0} (xs : List X) (i : ℕ) (x : X) → i < length xs → take (i + 1) xs ≡ take i xs ++ get_or xs i x ∷ []
take_push [] i x within = absurd (omega arith)
take_push (y ∷ xs) zero x within = refl
take_push (y ∷ xs) (suc i) x within =
    let e : suc i + 1 ≡ suc (i + 1) = omega arith in
    ap (λ n. take n (y ∷ xs)) e ∙ ap (λ l. y ∷ l) (take_push xs i x (omega arith))

-- one table more was seen
pub seen_more : (ts : List Placed) (i : ℕ) (t : Placed) → i < length ts → t ≡ get_or ts i t → map seen (take (i + 1) ts) ≡ map seen (take i ts) ++ seen t ∷ []
seen_more ts i t within is =
    ap (map seen) (take_push ts i t within) ∙ map-append seen (take i ts) (get_or ts i t ∷ []) ∙ ap (λ x. map seen (take i ts) ++ seen x ∷ []) (sym is)

-- the group of a table that is one, and those that are left
pub group_next : (f : Located → GroupPart) (groups : List GroupPart) (k : ℕ) (ts : List Placed) (i : ℕ) (t : Placed) → i < length ts → t ≡ get_or ts i t → is_outer Group t.place ≡ true
    → drop k groups ≡ map f (outer_tables Group (map seen (drop i ts)))
    → drop k groups ≡ f (seen t) ∷ map f (outer_tables Group (map seen (drop (i + 1) ts)))
group_next f groups k ts i t within is passes left =
    left ∙ ap (λ xs. map f (outer_tables Group xs)) (next_seen ts i t within is)
    ∙ ap (λ b. map f (cond b (seen t ∷ outer_tables Group (map seen (drop (i + 1) ts))) (outer_tables Group (map seen (drop (i + 1) ts))))) passes

-- and those that are left where a table is none
pub group_other : (f : Located → GroupPart) (groups : List GroupPart) (k : ℕ) (ts : List Placed) (i : ℕ) (t : Placed) → i < length ts → t ≡ get_or ts i t → is_outer Group t.place ≡ false
    → drop k groups ≡ map f (outer_tables Group (map seen (drop i ts)))
    → drop k groups ≡ map f (outer_tables Group (map seen (drop (i + 1) ts)))
group_other f groups k ts i t within is fails left =
    left ∙ ap (λ xs. map f (outer_tables Group xs)) (next_seen ts i t within is)
    ∙ ap (λ b. map f (cond b (seen t ∷ outer_tables Group (map seen (drop (i + 1) ts))) (outer_tables Group (map seen (drop (i + 1) ts))))) fails

some_left : (groups : List GroupPart) (k : ℕ) (g : GroupPart) (rest : List GroupPart) → drop k groups ≡ g ∷ rest → k < length groups
some_left groups k g rest is = omega (arith, length-drop k groups, ap length is)

pub this_group : (groups : List GroupPart) (k : ℕ) (x g : GroupPart) (rest : List GroupPart) → drop k groups ≡ g ∷ rest → x ≡ get_or groups k x → x ≡ g
this_group groups k x g rest is at =
    let whole : get_or groups k x ∷ drop (k + 1) groups ≡ g ∷ rest = sym (drop_more groups k x (some_left groups k g rest is)) ∙ is in
    let same : get_or groups k x ≡ g = cc in
    at ∙ same

pub other_groups : (groups : List GroupPart) (k : ℕ) (x g : GroupPart) (rest : List GroupPart) → drop k groups ≡ g ∷ rest → drop (k + 1) groups ≡ rest
other_groups groups k x g rest is =
    let whole : get_or groups k x ∷ drop (k + 1) groups ≡ g ∷ rest = sym (drop_more groups k x (some_left groups k g rest is)) ∙ is in
    cc

-- whether the fault stands at a group's table
pub stands_by : (ts before : List Located) (t : Located) (config : Config) (metas : List MetaData) (g : GroupPart) → config ≡ config_of ts → metas ≡ config.dataset → g ≡ group_of ts t
    → is_outer Group t.place ≡ true → stands FrameLarge ts before t ≡ lacks_room config.publisher.id metas g
unfolding stands config_of publisher_part
stands_by ts before t config metas g e m same is =
    let id : config.publisher.id ≡ publisher_at Id (publisher_members ts) = ap (λ (k : Config). k.publisher.id) e in
    let sets : metas ≡ metas_of ts = m ∙ ap (λ (k : Config). k.dataset) e in
    ap (λ b. b && lacks_room (publisher_at Id (publisher_members ts)) (metas_of ts) (group_of ts t)) is
    ∙ ap (λ p. lacks_room p (metas_of ts) (group_of ts t)) (sym id) ∙ ap (λ ms. lacks_room config.publisher.id ms (group_of ts t)) (sym sets) ∙ ap (lacks_room config.publisher.id metas) (sym same)

pub stands_not : (ts before : List Located) (t : Located) → is_outer Group t.place ≡ false → stands FrameLarge ts before t ≡ false
unfolding stands
stands_not ts before t is = ap (λ b. b && lacks_room (publisher_at Id (publisher_members ts)) (metas_of ts) (group_of ts t)) is

-- a scan at its next table
pub found_here : (test : List Located → Located → Bool) (ts : List Placed) (i : ℕ) (t : Placed) (all : Option Place) → i < length ts → t ≡ get_or ts i t → test (map seen (take i ts)) (seen t) ≡ true
    → first_from test (map seen (take i ts)) (map seen (drop i ts)) ≡ all → Some t.place ≡ all
found_here test ts i t all within is passes so =
    sym (ap (first_from test (map seen (take i ts))) (next_seen ts i t within is)
    ∙ ap (λ b. cond b (Some t.place) (first_from test (map seen (take i ts) ++ seen t ∷ []) (map seen (drop (i + 1) ts)))) passes) ∙ so

pub not_here : (test : List Located → Located → Bool) (ts : List Placed) (i : ℕ) (t : Placed) (all : Option Place) → i < length ts → t ≡ get_or ts i t → test (map seen (take i ts)) (seen t) ≡ false
    → first_from test (map seen (take i ts)) (map seen (drop i ts)) ≡ all → first_from test (map seen (take (i + 1) ts)) (map seen (drop (i + 1) ts)) ≡ all
not_here test ts i t all within is fails so =
    ap (λ l. first_from test l (map seen (drop (i + 1) ts))) (seen_more ts i t within is)
    ∙ sym (ap (first_from test (map seen (take i ts))) (next_seen ts i t within is)
    ∙ ap (λ b. cond b (Some t.place) (first_from test (map seen (take i ts) ++ seen t ∷ []) (map seen (drop (i + 1) ts)))) fails) ∙ so
