-- One more item of a list.
use Rattle.std.proofs.Common.{◌≡◌, ◌≢◌, ℕ, zero, suc, ◌+◌, ◌<◌, ◌≤◌, Bool, cond, List, [], ◌∷◌, ◌++◌, length, map, take, drop, get_or, set, refl, sym, ap, ◌∙◌, subst, arith, le_refl, length-append, eq-eqb, ne_eqb, Some, get_or-set_other}
use Rattle.std.specs.Prelude.{IsSome}
use Rattle.std.specs.List.{flat_map, AllZip}
use Rattle.std.proofs.lemmas.List.{append-nil, take_more, take_all, drop_all, map-append, length-set, take-append-drop}
use Rattle.std.proofs.lemmas.List.Concat.{flat_map-append}
use native.Mathlib.Decide.{ℕ_discrete}
use Rattle.dataset_meta.specs.declared.field.Field.{Field}
use Rattle.row_words.specs.declared.patch.Patch.{Patch}
use Rattle.row_words.specs.Patches.{IsPatchOf, patched_words}
use Rattle.version_cell.specs.declared.rule.Entry.{Entry}
use Rattle.version_cell.specs.declared.cell.Placed.TheVariants as answers
use Rattle.version_cell.specs.Histories.{StartsWith, entry, own, row_after}
use Rattle.version_cell.specs.Terms.{quota}
use Rattle.version_cell.specs.Known.{Known, nothing}
use Rattle.version_cell.specs.Cells.{CellData}
use Rattle.version_cell.specs.Passes.{SeesLawful, SeesMore, HasLeft, WasPlaced}
use Rattle.version_cell.specs.Sets.{ArePassesOf, ChangesAt, cell_at, pass_at}
use Rattle.version_cell.proofs.Logs.{starts_itself, starts_length, starts_trans, starts_longer}
use Rattle.version_cell.proofs.Retries.{sees_itself, sees_on}
use Rattle.app_threads.specs.declared.item.Item.{Item}
use Rattle.app_threads.specs.declared.item.Item.TheVariants as items
use Rattle.app_threads.specs.declared.done.Done.{Done}
use Rattle.app_threads.specs.declared.done.Looked.{Looked}
use Rattle.app_threads.specs.declared.hand.Progress.{Progress}
use Rattle.app_threads.specs.declared.opening.PassSets.{PassSets}
use Rattle.app_threads.specs.Marks.{Made}
use Rattle.app_threads.specs.Items.{only_at, patch_of, patches_in, set_of, sets_in, watch_of, watches_in, versions_in, FitsItem}
use Rattle.app_threads.specs.Looks.{counts_of, counts_in, Climbs, IsLooked}
use Rattle.app_threads.specs.Duties.{Duty, CanRun, Worked, Watched, IsDone, begun_with}
use Rattle.app_threads.specs.Crews.{IsFresh}
use Rattle.app_threads.specs.Doing.{AddsRoom, MayPlace, DidPlace, MayLook, DidLook, MayDo, Did}
use Rattle.app_threads.specs.Running.{Ran, HasRoom}
use Rattle.app_threads.proofs.Marking.{Made-none, Made-seen, Made-push, Made-count}
use Rattle.app_threads.proofs.Rising.{worked_rises}

some_same : (x y : ℕ) → Some x ≡ Some y → x ≡ y
some_same x y e = cc

-- ---- the pass of one data set

-- the pass made one more write
worked_one : (cell : CellData) (t : ℕ) (old now new : Known) (vs : List ℕ) (ps : List Patch) (v : ℕ) (p : Patch) → Worked cell.meta.fields t old now vs ps → WasPlaced cell p now new (answers.Wrote v) → SeesLawful new
    → Worked cell.meta.fields t old new (vs ++ v ∷ []) (ps ++ p ∷ [])
worked_one cell t old now new vs ps v p w h lawful =
    let seen : Known = h.1.before in
    let more = h.1.more in
    let adds = h.1.adds in
    let by_is : adds.by ≡ t = some_same adds.by t (sym adds.is_by ∙ more.author ∙ w.author) in
    let row = patched_words cell.meta.fields p (row_after seen.seen) in
    let is : new.seen ≡ seen.seen ++ entry t row ∷ [] = adds.seen ∙ ap (λ (u : ℕ). seen.seen ++ entry u row ∷ []) by_is in
    let pushed = Made-push cell.meta.fields t old.seen seen.seen vs ps p (Made-seen cell.meta.fields t old.seen now.seen seen.seen vs ps more.seen (more.own_same t w.author) w.made) in
    let v_is : length seen.seen + 1 ≡ v = omega (arith, h.2, ap length is, length-append seen.seen (entry t row ∷ [])) in
    record {
      cell = adds.cell ∙ more.cell ∙ w.cell;
      terms = adds.terms ∙ more.terms ∙ w.terms;
      author = adds.author ∙ more.author ∙ w.author;
      seen = subst (λ (l : List Entry). StartsWith l old.seen) (sym is) (starts_longer seen.seen (entry t row ∷ []) old.seen (starts_trans seen.seen now.seen old.seen more.seen w.seen));
      lawful = λ _. lawful;
      made = subst (λ (l : List Entry). Made cell.meta.fields t old.seen l (vs ++ v ∷ []) (ps ++ p ∷ [])) (sym is) (subst (λ (k : ℕ). Made cell.meta.fields t old.seen (seen.seen ++ entry t row ∷ []) (vs ++ k ∷ []) (ps ++ p ∷ [])) v_is pushed);
    }

worked_none : (fields : List Field) (t : ℕ) (p : Known) → p.author ≡ Some t → Worked fields t p p [] []
worked_none fields t p e = record { cell = refl; terms = refl; author = e; seen = starts_itself p.seen; lawful = λ h. h; made = Made-none fields t p.seen }

-- ---- lists that are taken apart item by item

only_here : {X : Type 0} (here there : ℕ) (x : X) → here ≡ there → only_at here there x ≡ x ∷ []
only_here {X} here there x e = ap (λ (b : Bool). cond b (x ∷ []) []) (eq-eqb here there e)

only_else : {X : Type 0} (here there : ℕ) (x : X) → here ≢ there → only_at here there x ≡ []
only_else {X} here there x n = ap (λ (b : Bool). cond b (x ∷ []) []) (ne_eqb here there n)

flat_push : {X A : Type 0} (f : X → List A) (xs : List X) (x : X) → flat_map f (xs ++ x ∷ []) ≡ flat_map f xs ++ f x
flat_push f xs x = flat_map-append f xs (x ∷ []) ∙ ap (λ l. flat_map f xs ++ l) (append-nil (f x))

flat_taken : {X A : Type 0} (f : X → List A) (xs : List X) (k : ℕ) (x : X) → k < length xs → get_or xs k x ≡ x → flat_map f (take (k + 1) xs) ≡ flat_map f (take k xs) ++ f x
flat_taken {X} f xs k x lt e = ap (flat_map f) (take_more xs k x lt ∙ ap (λ (y : X). take k xs ++ y ∷ []) e) ∙ flat_push f (take k xs) x

drop_here : {X : Type 0} (xs : List X) (k : ℕ) (x : X) → k < length xs → get_or xs k x ≡ x → drop k xs ≡ x ∷ drop (k + 1) xs
drop_here [] k x lt e = absurd (omega arith)
drop_here (y ∷ xs) zero x lt e = ap (λ z. z ∷ xs) e
drop_here {X} (y ∷ xs) (suc k) x lt e = drop_here xs k x (omega arith) e ∙ ap (λ (j : ℕ). x ∷ drop j (y ∷ xs)) (let n : suc (k + 1) ≡ suc k + 1 = omega arith in n)

flat_left : {X A : Type 0} (f : X → List A) (xs : List X) (k : ℕ) (x : X) → k < length xs → get_or xs k x ≡ x → flat_map f (drop k xs) ≡ f x ++ flat_map f (drop (k + 1) xs)
flat_left f xs k x lt e = ap (flat_map f) (drop_here xs k x lt e)

flat_whole : {X A : Type 0} (f : X → List A) (xs : List X) (k : ℕ) → flat_map f xs ≡ flat_map f (take k xs) ++ flat_map f (drop k xs)
flat_whole f xs k = ap (flat_map f) (sym (take-append-drop k xs)) ∙ flat_map-append f (take k xs) (drop k xs)

-- one more pair
zip_push : {A B : Type 0} (R : A → B → Type 0) (xs : List A) (ys : List B) (x : A) (y : B) → AllZip R xs ys → R x y → AllZip R (xs ++ x ∷ []) (ys ++ y ∷ [])
zip_push R [] [] x y all r = (r, tt)
zip_push R [] (b ∷ ys) x y all r = absurd all
zip_push R (a ∷ xs) [] x y all r = absurd all
zip_push R (a ∷ xs) (b ∷ ys) x y all r = (all.0, zip_push R xs ys x y all.1 r)

-- the first of the pairs that are left
zip_first : {A B : Type 0} (R : A → B → Type 0) (x : A) (xs : List A) (ys : List B) (next : ℕ) → AllZip R (x ∷ xs) (drop next ys) → (next < length ys) × ((d : B) → R x (get_or ys next d)) × AllZip R xs (drop (next + 1) ys)
zip_first R x xs [] zero all = absurd all
zip_first R x xs [] (suc next) all = absurd all
zip_first R x xs (y ∷ ys) zero all = (omega arith, λ d. all.0, all.1)
zip_first {A} {B} R x xs (y ∷ ys) (suc next) all =
    let rest = zip_first R x xs ys next all in
    (let a = rest.0 in omega arith, rest.1, subst (λ (k : ℕ). AllZip R xs (drop k (y ∷ ys))) (let n : suc (next + 1) ≡ suc next + 1 = omega arith in n) rest.2)

-- an element in place of the next one
pub take_set : {A : Type 0} (xs : List A) (k : ℕ) (x : A) → k < length xs → take (k + 1) (set xs k x) ≡ take k xs ++ x ∷ []
take_set [] k x lt = absurd (omega arith)
take_set (y ∷ xs) zero x lt = refl
take_set {A} (y ∷ xs) (suc k) x lt = ap (λ (j : ℕ). take j (y ∷ set xs k x)) (let n : suc k + 1 ≡ suc (k + 1) = omega arith in n) ∙ ap (λ (l : List A). y ∷ l) (take_set xs k x (omega arith))

drop_set : {A : Type 0} (xs : List A) (k : ℕ) (x : A) → drop (k + 1) (set xs k x) ≡ drop (k + 1) xs
drop_set [] zero x = refl
drop_set [] (suc k) x = refl
drop_set (y ∷ xs) zero x = refl
drop_set {A} (y ∷ xs) (suc k) x =
    let n : suc k + 1 ≡ suc (k + 1) = omega arith in
    ap (λ (j : ℕ). drop j (y ∷ set xs k x)) n ∙ drop_set xs k x ∙ ap (λ (j : ℕ). drop j (y ∷ xs)) (sym n)

-- ---- the looks at one target

Climbs-lower : (low mid : ℕ) (counts : List ℕ) (high : ℕ) → low ≤ mid → Climbs mid counts high → Climbs low counts high
Climbs-lower low mid [] high le h = omega arith
Climbs-lower low mid (n ∷ counts) high le h = ((let a = h.0 in omega arith), h.1)

Climbs-append : (low : ℕ) (one : List ℕ) (mid : ℕ) (two : List ℕ) (high : ℕ) → Climbs low one mid → Climbs mid two high → Climbs low (one ++ two) high
Climbs-append low [] mid two high h k = Climbs-lower low mid two high h k
Climbs-append low (n ∷ one) mid two high h k = (h.0, Climbs-append n one mid two high h.1 k)

pub watched_on : (old now new : Known) (one two : List ℕ) → Watched old now one → Watched now new two → Watched old new (one ++ two)
watched_on old now new one two w x = record { more = sees_on old now new w.more x.more; climbs = Climbs-append (length old.seen) one (length now.seen) two (length new.seen) w.climbs x.climbs }

pub watched_none : (p : Known) → Watched p p []
watched_none p = record { more = sees_itself p; climbs = le_refl (length p.seen) }

-- one more look
pub watched_one : (old new : Known) (count : ℕ) → SeesMore old new → count ≡ length new.seen → Watched old new (count ∷ [])
watched_one old new count more is = record { more = more; climbs = (let a = starts_length new.seen old.seen more.seen in omega arith, omega arith) }

counts_here : (reader : ℕ) (looked : Looked) → looked.reader ≡ reader → counts_of reader looked ≡ looked.counts
counts_here reader looked e = ap (λ (b : Bool). cond b looked.counts []) (eq-eqb looked.reader reader e)

counts_else : (reader : ℕ) (looked : Looked) → looked.reader ≢ reader → counts_of reader looked ≡ []
counts_else reader looked n = ap (λ (b : Bool). cond b looked.counts []) (ne_eqb looked.reader reader n)

-- the pass of another place stays
pass_else : (old new : List Known) (k j : ℕ) → ChangesAt k old new → j ≢ k → pass_at new j ≡ pass_at old j
pass_else old new k j e n = ap (λ (l : List Known). pass_at l j) e ∙ get_or-set_other old k j (pass_at new k) nothing n

set_twice : {A : Type 0} (xs : List A) (k : ℕ) (x y : A) → set (set xs k x) k y ≡ set xs k y
set_twice [] k x y = refl
set_twice (z ∷ xs) zero x y = refl
set_twice {A} (z ∷ xs) (suc k) x y = ap (λ (l : List A). z ∷ l) (set_twice xs k x y)

set_same : (xs : List Known) (k : ℕ) → xs ≡ set xs k (pass_at xs k)
set_same [] k = refl
set_same (x ∷ xs) zero = refl
set_same (x ∷ xs) (suc k) = ap (λ (l : List Known). x ∷ l) (set_same xs k)

-- the same place is changed again, or not at all
pub changes_on : (old now new : List Known) (k : ℕ) → ChangesAt k old now → ChangesAt k now new → ChangesAt k old new
changes_on old now new k e e' = e' ∙ ap (λ (l : List Known). set l k (pass_at new k)) e ∙ set_twice old k (pass_at now k) (pass_at new k)

pub changes_none : (old : List Known) (k : ℕ) → ChangesAt k old old
changes_none old k = set_same old k

-- the element of a list, whatever stands where there is none
pub item_at : {A : Type 0} (xs : List A) (k : ℕ) (d : A) → k < length xs → get_or xs k (get_or xs k d) ≡ get_or xs k d
item_at [] k d lt = absurd (omega arith)
item_at (x ∷ xs) zero d lt = refl
item_at (x ∷ xs) (suc k) d lt = item_at xs k d (omega arith)

-- ---- what an item needs, and what it leaves

module _ (bank targets : List CellData) (thread : ℕ) (duty : Duty) (can : CanRun bank targets thread duty) (k : ℕ) (at : Progress) (done : Done) (r : Ran bank targets thread duty k at done) (lt : k < length duty.list) where
  module _ (set : ℕ) (patch : Patch) (here : get_or duty.list k (items.Write set patch) ≡ items.Write set patch) where
    fits_write : (set < length bank) × IsPatchOf (cell_at bank set).meta patch
    fits_write = subst (FitsItem bank targets) here (can.fit k (items.Write set patch) lt)

    patches_left : patches_in set duty.list ≡ patches_in set (take k duty.list) ++ patch ∷ patches_in set (drop (k + 1) duty.list)
    patches_left =
        flat_whole (patch_of set) duty.list k
        ∙ ap (λ (l : List Patch). patches_in set (take k duty.list) ++ l) (flat_left (patch_of set) duty.list k (items.Write set patch) lt here ∙ ap (λ (l : List Patch). l ++ patches_in set (drop (k + 1) duty.list)) (only_here set set patch refl))

    has_left : HasLeft (pass_at done.passes set)
    has_left t e =
        let w = r.worked set fits_write.0 in
        let t_is : t ≡ thread = some_same t thread (sym e ∙ w.author) in
        let made = Made-count (cell_at bank set).meta.fields thread (pass_at duty.passes set).seen (pass_at done.passes set).seen (versions_in set (take at.writes done.versions)) (patches_in set (take k duty.list)) w.made in
        let enough = can.enough set fits_write.0 in
        let all = ap length patches_left in
        let count = length-append (patches_in set (take k duty.list)) (patch ∷ patches_in set (drop (k + 1) duty.list)) in
        let terms = ap (quota thread) w.terms in
        subst (λ (u : ℕ). length (own u (pass_at done.passes set).seen) < quota u (pass_at done.passes set).terms) (sym t_is) (omega (arith, made, enough, all, count, terms))

    places_left : at.writes + suc (length (sets_in (drop (k + 1) duty.list))) ≡ length done.versions
    places_left = ap (λ (l : List ℕ). at.writes + length l) (sym (flat_left set_of duty.list k (items.Write set patch) lt here)) ∙ r.places

    place : at.writes < length done.versions
    place = let a = places_left in omega (arith, a)

    pub may_place : MayPlace bank set patch at.writes done
    may_place = record {
      of_bank = r.of_bank;
      within = fits_write.0;
      fits = fits_write.1;
      numbered = subst IsSome (sym (r.worked set fits_write.0).author) refl;
      left = has_left;
      place = place;
    }

    module _ (after : Progress) (new : Done) (d : DidPlace bank set patch at.writes done new) (writes : after.writes ≡ at.writes + 1) (watches : after.watches ≡ at.watches) where
      place_versions : take after.writes new.versions ≡ take at.writes done.versions ++ (set, d.version) ∷ []
      place_versions =
          ap (λ (n : ℕ). take n new.versions) writes ∙ ap (take (at.writes + 1)) d.noted ∙ take_set done.versions at.writes (set, d.version) place

      place_looks : take after.watches new.looks ≡ take at.watches done.looks
      place_looks = ap (λ (n : ℕ). take n new.looks) watches ∙ ap (take at.watches) d.looks

      place_waiting : drop after.watches new.looks ≡ drop at.watches done.looks
      place_waiting = ap (λ (n : ℕ). drop n new.looks) watches ∙ ap (drop at.watches) d.looks

      worked_on : (s : ℕ) → s < length bank → Worked (cell_at bank s).meta.fields thread (pass_at duty.passes s) (pass_at new.passes s) (versions_in s (take after.writes new.versions)) (patches_in s (take (k + 1) duty.list))
      worked_on s small = go (ℕ_discrete set s)
        where
          versions_on : versions_in s (take after.writes new.versions) ≡ versions_in s (take at.writes done.versions) ++ only_at set s d.version
          versions_on = ap (versions_in s) place_versions ∙ flat_push (λ (v : ℕ × ℕ). only_at v.0 s v.1) (take at.writes done.versions) (set, d.version)

          patches_on : patches_in s (take (k + 1) duty.list) ≡ patches_in s (take k duty.list) ++ only_at set s patch
          patches_on = flat_taken (patch_of s) duty.list k (items.Write set patch) lt here

          go : Dec (set ≡ s) → Worked (cell_at bank s).meta.fields thread (pass_at duty.passes s) (pass_at new.passes s) (versions_in s (take after.writes new.versions)) (patches_in s (take (k + 1) duty.list))
          go (yes e) =
              let placed' = subst (λ (j : ℕ). WasPlaced (cell_at bank j) patch (pass_at done.passes j) (pass_at new.passes j) (answers.Wrote d.version)) e d.placed in
              let lawful' = subst (λ (j : ℕ). SeesLawful (pass_at new.passes j)) e d.lawful in
              let one = worked_one (cell_at bank s) thread (pass_at duty.passes s) (pass_at done.passes s) (pass_at new.passes s) (versions_in s (take at.writes done.versions)) (patches_in s (take k duty.list)) d.version patch (r.worked s small) placed' lawful' in
              let vs_is = versions_on ∙ ap (λ (l : List ℕ). versions_in s (take at.writes done.versions) ++ l) (only_here set s d.version e) in
              let ps_is = patches_on ∙ ap (λ (l : List Patch). patches_in s (take k duty.list) ++ l) (only_here set s patch e) in
              subst (λ (x : List ℕ × List Patch). Worked (cell_at bank s).meta.fields thread (pass_at duty.passes s) (pass_at new.passes s) x.0 x.1) (λ i. (sym vs_is i, sym ps_is i)) one
          go (no ne) =
              let same : pass_at done.passes s ≡ pass_at new.passes s = sym (pass_else done.passes new.passes set s d.others (λ e. ne (sym e))) in
              let vs_is = versions_on ∙ ap (λ (l : List ℕ). versions_in s (take at.writes done.versions) ++ l) (only_else set s d.version ne) ∙ append-nil (versions_in s (take at.writes done.versions)) in
              let ps_is = patches_on ∙ ap (λ (l : List Patch). patches_in s (take k duty.list) ++ l) (only_else set s patch ne) ∙ append-nil (patches_in s (take k duty.list)) in
              subst (λ (x : Known × List ℕ × List Patch). Worked (cell_at bank s).meta.fields thread (pass_at duty.passes s) x.0 x.1 x.2) (λ i. (same i, sym vs_is i, sym ps_is i)) (r.worked s small)

      pub ran_place : Ran bank targets thread duty (k + 1) after new
      ran_place = record {
        count = let c = r.count in omega (arith, c, writes, watches);
        number = d.list ∙ r.number;
        of_bank = d.of_bank;
        of_targets = subst (ArePassesOf targets) (sym d.watches) r.of_targets;
        places = let a = places_left in let b = ap length d.noted ∙ length-set done.versions at.writes (set, d.version) in omega (arith, a, b, writes);
        sets = ap (map (λ (v : ℕ × ℕ). v.0)) place_versions ∙ map-append (λ (v : ℕ × ℕ). v.0) (take at.writes done.versions) ((set, d.version) ∷ []) ∙ ap (λ (l : List ℕ). l ++ set ∷ []) r.sets
            ∙ sym (flat_taken set_of duty.list k (items.Write set patch) lt here);
        worked = worked_on;
        within = let a = r.within in let b = ap length d.looks in omega (arith, a, b, watches);
        looked = subst (λ (x : List (ℕ × ℕ) × List Looked). AllZip IsLooked x.0 x.1)
            (λ i. (sym (flat_taken watch_of duty.list k (items.Write set patch) lt here ∙ append-nil (watches_in (take k duty.list))) i, sym place_looks i)) r.looked;
        waiting = subst (λ (x : List (ℕ × ℕ) × List Looked). AllZip IsLooked x.0 x.1) (λ i. (flat_left watch_of duty.list k (items.Write set patch) lt here i, sym place_waiting i)) r.waiting;
        watched = λ reader small. subst (λ (x : List Known × List Looked). Watched (pass_at duty.watches reader) (pass_at x.0 reader) (counts_in reader x.1)) (λ i. (sym d.watches i, sym place_looks i)) (r.watched reader small);
      }

  module _ (reader times : ℕ) (here : get_or duty.list k (items.Watch reader times) ≡ items.Watch reader times) where
    fits_watch : reader < length targets
    fits_watch = subst (FitsItem bank targets) here (can.fit k (items.Watch reader times) lt)

    first : (at.watches < length done.looks) × ((d : Looked) → IsLooked (reader, times) (get_or done.looks at.watches d)) × AllZip IsLooked (watches_in (drop (k + 1) duty.list)) (drop (at.watches + 1) done.looks)
    first = zip_first IsLooked (reader, times) (watches_in (drop (k + 1) duty.list)) done.looks at.watches
        (subst (λ (ws : List (ℕ × ℕ)). AllZip IsLooked ws (drop at.watches done.looks)) (flat_left watch_of duty.list k (items.Watch reader times) lt here) r.waiting)

    pub may_look : MayLook targets reader at.watches done
    may_look = record { of_targets = r.of_targets; within = fits_watch; place = first.0 }

    module _ (after : Progress) (new : Done) (d : DidLook targets reader at.watches done new) (writes : after.writes ≡ at.writes) (watches : after.watches ≡ at.watches + 1) where
      looked_is : IsLooked (reader, times) d.looked
      looked_is = record { reader = d.same d.looked ∙ (first.1 d.looked).reader; times = d.times d.looked ∙ (first.1 d.looked).times }

      look_versions : take after.writes new.versions ≡ take at.writes done.versions
      look_versions = ap (λ (n : ℕ). take n new.versions) writes ∙ ap (take at.writes) d.versions

      look_looks : take after.watches new.looks ≡ take at.watches done.looks ++ d.looked ∷ []
      look_looks = ap (λ (n : ℕ). take n new.looks) watches ∙ ap (take (at.watches + 1)) d.noted ∙ take_set done.looks at.watches d.looked first.0

      look_waiting : drop after.watches new.looks ≡ drop (at.watches + 1) done.looks
      look_waiting = ap (λ (n : ℕ). drop n new.looks) watches ∙ ap (drop (at.watches + 1)) d.noted ∙ drop_set done.looks at.watches d.looked

      watched_on_all : (other : ℕ) → other < length targets → Watched (pass_at duty.watches other) (pass_at new.watches other) (counts_in other (take after.watches new.looks))
      watched_on_all other small = go (ℕ_discrete reader other)
        where
          counts_on : counts_in other (take after.watches new.looks) ≡ counts_in other (take at.watches done.looks) ++ counts_of other d.looked
          counts_on = ap (counts_in other) look_looks ∙ flat_push (counts_of other) (take at.watches done.looks) d.looked

          go : Dec (reader ≡ other) → Watched (pass_at duty.watches other) (pass_at new.watches other) (counts_in other (take after.watches new.looks))
          go (yes e) =
              let is = counts_on ∙ ap (λ (l : List ℕ). counts_in other (take at.watches done.looks) ++ l) (counts_here other d.looked (looked_is.reader ∙ e)) in
              let w = subst (λ (j : ℕ). Watched (pass_at done.watches j) (pass_at new.watches j) d.looked.counts) e d.watched in
              subst (λ (l : List ℕ). Watched (pass_at duty.watches other) (pass_at new.watches other) l) (sym is)
              (watched_on (pass_at duty.watches other) (pass_at done.watches other) (pass_at new.watches other) (counts_in other (take at.watches done.looks)) d.looked.counts (r.watched other small) w)
          go (no ne) =
              let is = counts_on ∙ ap (λ (l : List ℕ). counts_in other (take at.watches done.looks) ++ l) (counts_else other d.looked (λ e. ne (sym looked_is.reader ∙ e))) ∙ append-nil (counts_in other (take at.watches done.looks)) in
              let same : pass_at done.watches other ≡ pass_at new.watches other = sym (pass_else done.watches new.watches reader other d.others (λ e. ne (sym e))) in
              subst (λ (x : Known × List ℕ). Watched (pass_at duty.watches other) x.0 x.1) (λ i. (same i, sym is i)) (r.watched other small)

      pub ran_look : Ran bank targets thread duty (k + 1) after new
      ran_look = record {
        count = let c = r.count in omega (arith, c, writes, watches);
        number = d.list ∙ r.number;
        of_bank = subst (ArePassesOf bank) (sym d.passes) r.of_bank;
        of_targets = d.of_targets;
        places = ap (λ (n : ℕ). n + length (sets_in (drop (k + 1) duty.list))) writes ∙ ap (λ (l : List ℕ). at.writes + length l) (sym (flat_left set_of duty.list k (items.Watch reader times) lt here)) ∙ r.places ∙ sym (ap length d.versions);
        sets = ap (map (λ (v : ℕ × ℕ). v.0)) look_versions ∙ r.sets ∙ sym (flat_taken set_of duty.list k (items.Watch reader times) lt here ∙ append-nil (sets_in (take k duty.list)));
        worked = λ s small.
            let same = flat_taken (patch_of s) duty.list k (items.Watch reader times) lt here ∙ append-nil (patches_in s (take k duty.list)) in
            subst (λ (x : List Known × List (ℕ × ℕ) × List Patch). Worked (cell_at bank s).meta.fields thread (pass_at duty.passes s) (pass_at x.0 s) (versions_in s x.1) x.2) (λ i. (sym d.passes i, sym look_versions i, sym same i)) (r.worked s small);
        within = let a = first.0 in let b = ap length d.noted ∙ length-set done.looks at.watches d.looked in omega (arith, a, b, watches);
        looked = subst (λ (x : List (ℕ × ℕ) × List Looked). AllZip IsLooked x.0 x.1) (λ i. (sym (flat_taken watch_of duty.list k (items.Watch reader times) lt here) i, sym look_looks i))
            (zip_push IsLooked (watches_in (take k duty.list)) (take at.watches done.looks) (reader, times) d.looked r.looked looked_is);
        waiting = subst (λ (ls : List Looked). AllZip IsLooked (watches_in (drop (k + 1) duty.list)) ls) (sym look_waiting) first.2;
        watched = watched_on_all;
      }

  -- whatever the item is
  pub may_do : (item : Item) → get_or duty.list k item ≡ item → MayDo bank targets item at done
  may_do (items.Write set patch) here = may_place set patch here
  may_do (items.Watch reader times) here = may_look reader times here

  pub ran_item : (item : Item) (after : Progress) (new : Done) → get_or duty.list k item ≡ item → Did bank targets item at after done new → Ran bank targets thread duty (k + 1) after new
  ran_item (items.Write set patch) after new here d = ran_place set patch here after new d.0 d.1 d.2
  ran_item (items.Watch reader times) after new here d = ran_look reader times here after new d.0 d.1 d.2

-- no item is done yet
pub ran_none : (bank targets : List CellData) (thread : ℕ) (list : List Item) (done : Done) (at : Progress) → at.writes ≡ 0 → at.watches ≡ 0 → CanRun bank targets thread (begun_with list done) → IsFresh thread list done
    → Ran bank targets thread (begun_with list done) 0 at done
ran_none bank targets thread list done at no_writes no_watches can fresh = record {
  count = omega (arith, no_writes, no_watches);
  number = fresh.number;
  of_bank = can.of_bank;
  of_targets = can.of_targets;
  places = let a = fresh.versions in omega (arith, a, no_writes);
  sets = ap (map (λ (v : ℕ × ℕ). v.0)) no_versions;
  worked = λ set small. subst (λ (vs : List (ℕ × ℕ)). Worked (cell_at bank set).meta.fields thread (pass_at done.passes set) (pass_at done.passes set) (versions_in set vs) []) (sym no_versions)
      (worked_none (cell_at bank set).meta.fields thread (pass_at done.passes set) (can.numbered set small));
  within = omega (arith, no_watches);
  looked = subst (λ (ls : List Looked). AllZip IsLooked [] ls) (sym no_looks) tt;
  waiting = subst (λ (n : ℕ). AllZip IsLooked (watches_in list) (drop n done.looks)) (sym no_watches) fresh.looks;
  watched = λ reader small. subst (λ (ls : List Looked). Watched (pass_at done.watches reader) (pass_at done.watches reader) (counts_in reader ls)) (sym no_looks) (watched_none (pass_at done.watches reader));
}
  where
    no_versions : take at.writes done.versions ≡ []
    no_versions = ap (λ (n : ℕ). take n done.versions) no_writes

    no_looks : take at.watches done.looks ≡ []
    no_looks = ap (λ (n : ℕ). take n done.looks) no_watches

whole_taken : {A : Type 0} (xs : List A) (n : ℕ) → drop n xs ≡ [] → take n xs ≡ xs
whole_taken {A} xs n e = sym (append-nil (take n xs)) ∙ ap (λ (l : List A). take n xs ++ l) (sym e) ∙ take-append-drop n xs

zip_none : {A B : Type 0} (R : A → B → Type 0) (ys : List B) → AllZip R [] ys → ys ≡ []
zip_none R [] h = refl
zip_none R (y ∷ ys) h = absurd h

-- all items are done
module _ (bank targets : List CellData) (thread : ℕ) (duty : Duty) (k : ℕ) (at : Progress) (done : Done) (r : Ran bank targets thread duty k at done) (le : length duty.list ≤ k) where
  all_items : take k duty.list ≡ duty.list
  all_items = take_all k duty.list le

  no_item : drop k duty.list ≡ []
  no_item = drop_all k duty.list le

  all_versions : take at.writes done.versions ≡ done.versions
  all_versions = take_all at.writes done.versions (let a : at.writes + 0 ≡ length done.versions = ap (λ (l : List Item). at.writes + length (sets_in l)) (sym no_item) ∙ r.places in omega (arith, a))

  all_looks : take at.watches done.looks ≡ done.looks
  all_looks = whole_taken done.looks at.watches (zip_none IsLooked (drop at.watches done.looks) (subst (λ (l : List Item). AllZip IsLooked (watches_in l) (drop at.watches done.looks)) no_item r.waiting))

  worked_whole : (set : ℕ) → set < length bank → Worked (cell_at bank set).meta.fields thread (pass_at duty.passes set) (pass_at done.passes set) (versions_in set done.versions) (patches_in set duty.list)
  worked_whole set small = subst (λ (x : List (ℕ × ℕ) × List Item). Worked (cell_at bank set).meta.fields thread (pass_at duty.passes set) (pass_at done.passes set) (versions_in set x.0) (patches_in set x.1)) (λ i. (all_versions i, all_items i)) (r.worked set small)

  pub ran_all : IsDone bank targets thread duty done
  ran_all = record {
    list = r.number;
    of_bank = r.of_bank;
    of_targets = r.of_targets;
    sets = sym (ap (map (λ (v : ℕ × ℕ). v.0)) all_versions) ∙ r.sets ∙ ap sets_in all_items;
    worked = worked_whole;
    rising = λ set small. worked_rises (cell_at bank set).meta.fields thread (pass_at duty.passes set) (pass_at done.passes set) (versions_in set done.versions) (patches_in set duty.list) (worked_whole set small);
    looks = subst (λ (x : List Item × List Looked). AllZip IsLooked (watches_in x.0) x.1) (λ i. (all_items i, all_looks i)) r.looked;
    watched = λ reader small. subst (λ (l : List Looked). Watched (pass_at duty.watches reader) (pass_at done.watches reader) (counts_in reader l)) all_looks (r.watched reader small);
  }

-- ---- places for one more item's answers

pub room_item : (list : List Item) (k : ℕ) (item : Item) (old new : PassSets) → k < length list → get_or list k item ≡ item → AddsRoom item old new → HasRoom list k old → HasRoom list (k + 1) new
room_item list k (items.Write set patch) old new lt here d h = record {
  versions = let a = ap length (flat_taken set_of list k (items.Write set patch) lt here) in let b = length-append (sets_in (take k list)) (set ∷ []) in let c = h.versions in let e = d.0 in omega (arith, a, b, c, e);
  looks = subst (λ (x : List (ℕ × ℕ) × List Looked). AllZip IsLooked x.0 x.1) (λ i. (sym (flat_taken watch_of list k (items.Write set patch) lt here ∙ append-nil (watches_in (take k list))) i, sym d.1 i)) h.looks;
}
room_item list k (items.Watch reader times) old new lt here d h = record {
  versions = ap length d.0 ∙ h.versions ∙ ap length (sym (flat_taken set_of list k (items.Watch reader times) lt here ∙ append-nil (sets_in (take k list))));
  looks = subst (λ (x : List (ℕ × ℕ) × List Looked). AllZip IsLooked x.0 x.1) (λ i. (sym (flat_taken watch_of list k (items.Watch reader times) lt here) i, sym d.1.1 i)) (zip_push IsLooked (watches_in (take k list)) old.looks.items (reader, times) d.1.0 h.looks d.1.2);
}
