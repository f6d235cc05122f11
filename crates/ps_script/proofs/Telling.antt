-- What the lines so far say of what they have done.
use Rattle.std.proofs.Common.{◌≡◌, inl, inr, ℕ, zero, suc, ◌+◌, ◌<◌, ◌≤◌, Bool, true, false, ◌&&◌, ◌||◌, not, cond, eqb, List, [], ◌∷◌, ◌++◌, length, take, get_or, Some, slice_get, refl, sym, ap, ◌∙◌, subst, arith, length-append}
use Rattle.std.specs.Prelude.{slice_set, All}
use Rattle.std.specs.List.{list_any, AllZip}
use Rattle.std.proofs.lemmas.Bool.{or_parts, eq-eqb}
use Rattle.std.proofs.lemmas.Bool.Decides.{eqb_tells}
use Rattle.std.proofs.lemmas.List.{append_assoc, length-set, take_at, get_or-set_same, get_or-set_other}
use Rattle.std.proofs.lemmas.List.Elements.{All-set}
use Rattle.std.proofs.lemmas.List.Sums.{sum_by_push, fold_push}
use Rattle.std.proofs.lemmas.Option.{same_Some, slice_get_within}
use Rattle.dataset_meta.specs.declared.field.Field.{Field}
use Rattle.dataset_meta.specs.Metas.{IsMeta, MetaData, meta_of, grown}
use Rattle.ps_config.specs.declared.parts.Config.{Config}
use Rattle.ps_config.specs.declared.parts.GroupPart.{GroupPart}
use Rattle.ps_config.specs.Rooms.{lacks_room}
use Rattle.ps_config.specs.Sound.{component_names}
use Rattle.ps_script.specs.declared.script.Line.{Line}
use Rattle.ps_script.specs.declared.script.Act.{Act}
use Rattle.ps_script.specs.declared.script.Act.TheVariants as act
use Rattle.ps_script.specs.Past.{Done}
use Rattle.ps_script.specs.Sessions.{is_append, appends_in, meta_behind, metas_from, metas_behind, enabled_by, is_enabled}
use Rattle.ps_script.specs.Sound.{FitConfig}
use Rattle.ps_script.proofs.Below.{Below}
use Rattle.ps_script.proofs.Fine.{Switched, Appended, Does}

-- ---- data sets

-- a data set by a line: as many fields more than configured, and a minor version as much higher, as the lines append
pub record MetaAt (before : List Line) (set : ℕ) (configured meta : MetaData) : Type 0 where
  pub count : length meta.fields ≡ length configured.fields + appends_in set before
  pub minor : meta.minor ≡ configured.minor + appends_in set before
  pub below : Below configured meta

pub record TellsMetas (config : Config) (before : List Line) (done : Done) : Type 0 where
  pub sets : length done.metas ≡ length config.dataset
  pub metas : (set : ℕ) (configured meta : MetaData) → slice_get config.dataset set ≡ Some configured → slice_get done.metas set ≡ Some meta → MetaAt before set configured meta
  pub fit : FitConfig config done.metas

-- one line more
appends_more : (set : ℕ) (before : List Line) (line : Line) → appends_in set (before ++ line ∷ []) ≡ appends_in set before + cond (is_append set line.act) 1 0
appends_more set before line = sum_by_push (λ (l : Line). cond (is_append set l.act) 1 0) before line

-- a line that appends nothing to the data set
meta_kept : (before : List Line) (line : Line) (set : ℕ) (configured meta : MetaData) → is_append set line.act ≡ false → MetaAt before set configured meta → MetaAt (before ++ line ∷ []) set configured meta
meta_kept before line set configured meta other m =
    let same : appends_in set (before ++ line ∷ []) ≡ appends_in set before + 0 =
    appends_more set before line ∙ ap (λ (v : Bool). appends_in set before + cond v 1 0) other in
    record { count = omega (arith, m.count, same); minor = omega (arith, m.minor, same); below = m.below }

metas_kept : (config : Config) (before : List Line) (line : Line) (done next : Done) → next.metas ≡ done.metas → ((set : ℕ) → is_append set line.act ≡ false)
    → TellsMetas config before done → TellsMetas config (before ++ line ∷ []) next
metas_kept config before line done next same other t = record {
  sets = ap (λ (ms : List MetaData). length ms) same ∙ t.sets;
  metas = λ set configured meta here there.
      meta_kept before line set configured meta (other set) (t.metas set configured meta here (sym (ap (λ (ms : List MetaData). slice_get ms set) same) ∙ there));
  fit = subst (FitConfig config) (sym same) t.fit;
}

below_push : (configured meta : MetaData) (field : Field) → Below configured meta → Below configured (grown meta field)
below_push configured meta field b = record {
  name = b.name;
  major = b.major;
  quality = b.quality;
  more = b.more ++ field ∷ [];
  fields = ap (λ (fs : List Field). fs ++ field ∷ []) b.fields ∙ append_assoc configured.fields b.more (field ∷ []);
}

meta_grown : (before : List Line) (number set : ℕ) (configured meta : MetaData) (field : Field) → MetaAt before set configured meta
    → MetaAt (before ++ record { at = number; act = act.Append set } ∷ []) set configured (grown meta field)
meta_grown before number set configured meta field m =
    let line : Line = record { at = number; act = act.Append set } in
    let one : appends_in set (before ++ line ∷ []) ≡ appends_in set before + 1 =
    appends_more set before line ∙ ap (λ (v : Bool). appends_in set before + cond v 1 0) (eq-eqb set set refl) in
    record {
      count = omega (arith, length-append meta.fields (field ∷ []), m.count, one);
      minor = omega (arith, m.minor, one);
      below = below_push configured meta field m.below;
    }

get_set_same : {X : Type 0} (xs : List X) (i : ℕ) (y : X) → i < length xs → slice_get (slice_set xs i y) i ≡ Some y
get_set_same [] i y lt = absurd (omega arith)
get_set_same (x ∷ xs) zero y lt = refl
get_set_same (x ∷ xs) (suc i) y lt = get_set_same xs i y (omega arith)

get_set_other : {X : Type 0} (xs : List X) (i k : ℕ) (y : X) → (i ≡ k → ⊥) → slice_get (slice_set xs i y) k ≡ slice_get xs k
get_set_other [] i k y apart = refl
get_set_other (x ∷ xs) zero zero y apart = absurd (apart refl)
get_set_other (x ∷ xs) zero (suc k) y apart = refl
get_set_other (x ∷ xs) (suc i) zero y apart = refl
get_set_other (x ∷ xs) (suc i) (suc k) y apart = get_set_other xs i k y (λ e. apart (ap suc e))

-- what stands at a place behind a line that appends to this one
meta_by : (config : Config) (before : List Line) (number at : ℕ) (done : Done) (meta : MetaData) (field : Field) → TellsMetas config before done → slice_get done.metas at ≡ Some meta
    → (set : ℕ) (configured now : MetaData) → slice_get config.dataset set ≡ Some configured → slice_get (slice_set done.metas at (grown meta field)) set ≡ Some now
    → MetaAt (before ++ record { at = number; act = act.Append at } ∷ []) set configured now
meta_by config before number at done meta field t found set configured now here there =
    let line : Line = record { at = number; act = act.Append at } in
    elim (eqb_tells at set) [
      | inl same ↦
          let old : slice_get done.metas set ≡ Some meta = subst (λ (k : ℕ). slice_get done.metas k ≡ Some meta) same.1 found in
          let new : slice_get (slice_set done.metas at (grown meta field)) set ≡ Some (grown meta field) =
          subst (λ (k : ℕ). slice_get (slice_set done.metas at (grown meta field)) k ≡ Some (grown meta field)) same.1
          (get_set_same done.metas at (grown meta field) (slice_get_within done.metas at meta found)) in
          let is : grown meta field ≡ now = same_Some (grown meta field) now (sym new ∙ there) in
          let grows : MetaAt (before ++ record { at = number; act = act.Append set } ∷ []) set configured (grown meta field) = meta_grown before number set configured meta field (t.metas set configured meta here old) in
          subst (MetaAt (before ++ line ∷ []) set configured) is
          (subst (λ (k : ℕ). MetaAt (before ++ record { at = number; act = act.Append k } ∷ []) set configured (grown meta field)) (sym same.1) grows)
      | inr other ↦
          let old : slice_get done.metas set ≡ Some now = sym (get_set_other done.metas at set (grown meta field) other.1) ∙ there in
          meta_kept before line set configured now other.0 (t.metas set configured now here old)
    ]

none_any : {X : Type 0} (p : X → Bool) (xs : List X) → list_any p xs ≡ false → All (λ x. p x ≡ false) xs
none_any p [] e k d lt = absurd (omega arith)
none_any p (x ∷ xs) e zero d lt = (or_parts (p x) (list_any p xs) e).0
none_any p (x ∷ xs) e (suc k) d lt = none_any p xs (or_parts (p x) (list_any p xs) e).1 k d (omega arith)

metas_appended : (config : Config) (before : List Line) (number at : ℕ) (done next : Done) → Appended config done next at → TellsMetas config before done
    → TellsMetas config (before ++ record { at = number; act = act.Append at } ∷ []) next
metas_appended config before number at done next a t =
    let metas : next.metas ≡ slice_set done.metas at (grown a.meta a.field) = ap (λ (d : Done). d.metas) a.leaves in
    record {
      sets = ap (λ (ms : List MetaData). length ms) metas ∙ length-set done.metas at (grown a.meta a.field) ∙ t.sets;
      metas = λ set configured now here there.
          meta_by config before number at done a.meta a.field t a.found set configured now here (sym (ap (λ (ms : List MetaData). slice_get ms set) metas) ∙ there);
      fit = record {
        each = subst (λ (ms : List MetaData). All (λ (m : MetaData). IsMeta m.fields) ms) (sym metas) (All-set (λ (m : MetaData). IsMeta m.fields) done.metas at (grown a.meta a.field) a.is_meta t.fit.each);
        room = none_any (λ (group : GroupPart). lacks_room config.publisher.id next.metas group) config.group a.room;
      };
    }

pub metas_next : (config : Config) (takes_fates : Bool) (full : List MetaData) (before : List Line) (number : ℕ) (done next : Done) (a : Act) → Does config takes_fates full done next a → TellsMetas config before done
    → TellsMetas config (before ++ record { at = number; act = a } ∷ []) next
metas_next config takes_fates full before number done next (act.Write thread set patch) w t = metas_kept config before (record { at = number; act = act.Write thread set patch }) done next (ap (λ (d : Done). d.metas) w.leaves) (λ k. refl) t
metas_next config takes_fates full before number done next (act.Tick ms) w t = metas_kept config before (record { at = number; act = act.Tick ms }) done next (ap (λ (d : Done). d.metas) w.leaves) (λ k. refl) t
metas_next config takes_fates full before number done next (act.Enable id) w t = metas_kept config before (record { at = number; act = act.Enable id }) done next (ap (λ (d : Done). d.metas) w.leaves) (λ k. refl) t
metas_next config takes_fates full before number done next (act.Disable id) w t = metas_kept config before (record { at = number; act = act.Disable id }) done next (ap (λ (d : Done). d.metas) w.leaves) (λ k. refl) t
metas_next config takes_fates full before number done next (act.Fated k fate) w t = metas_kept config before (record { at = number; act = act.Fated k fate }) done next (ap (λ (d : Done). d.metas) w.leaves) (λ j. refl) t
metas_next config takes_fates full before number done next (act.Watch thread reader times) w t = metas_kept config before (record { at = number; act = act.Watch thread reader times }) done next (ap (λ (d : Done). d.metas) w.leaves) (λ k. refl) t
metas_next config takes_fates full before number done next (act.Append set) w t = metas_appended config before number set done next w t

-- ---- so they are those behind the lines

is_behind : (before : List Line) (set : ℕ) (configured meta whole : MetaData) → MetaAt before set configured meta → Below meta whole → meta ≡ meta_behind set configured whole before
is_behind before set configured meta whole m b =
    let count : ℕ = length configured.fields + appends_in set before in
    let fields : meta.fields ≡ take count whole.fields =
    sym (take_at meta.fields b.more count m.count) ∙ ap (take count) (sym b.fields) in
    ap (λ (n : List ℕ). meta_of n meta.fields meta.major meta.minor meta.quality) (sym b.name)
    ∙ ap (λ (fs : List Field). meta_of whole.name fs meta.major meta.minor meta.quality) fields
    ∙ ap (λ (k : ℕ). meta_of whole.name (take count whole.fields) k meta.minor meta.quality) (sym b.major)
    ∙ ap (λ (k : ℕ). meta_of whole.name (take count whole.fields) whole.major k meta.quality) m.minor
    ∙ ap (λ (q : Bool). meta_of whole.name (take count whole.fields) whole.major (configured.minor + appends_in set before) q) (sym b.quality)

behind_from : (before : List Line) (at : ℕ) (configured metas full : List MetaData) → length metas ≡ length configured → AllZip Below metas full
    → ((k : ℕ) (c m : MetaData) → slice_get configured k ≡ Some c → slice_get metas k ≡ Some m → MetaAt before (at + k) c m)
    → metas ≡ metas_from at configured full before
behind_from before at [] [] full count zip each = refl
behind_from before at [] (m ∷ metas) full count zip each = absurd (omega arith)
behind_from before at (c ∷ configured) [] full count zip each = absurd (omega arith)
behind_from before at (c ∷ configured) (m ∷ metas) [] count zip each = absurd zip
behind_from before at (c ∷ configured) (m ∷ metas) (whole ∷ full) count zip each =
    let none : at + 0 ≡ at = omega arith in
    let here : MetaAt before at c m = subst (λ (n : ℕ). MetaAt before n c m) none (each zero c m refl refl) in
    ap (λ (x : MetaData). x ∷ metas) (is_behind before at c m whole here zip.0)
    ∙ ap (λ (xs : List MetaData). meta_behind at c whole before ∷ xs)
    (behind_from before (at + 1) configured metas full (omega (arith, count)) zip.1
    (λ k x y left right.
    let more : at + suc k ≡ at + 1 + k = omega arith in
    subst (λ (n : ℕ). MetaAt before n x y) more (each (suc k) x y left right)))

pub are_behind : (config : Config) (full : List MetaData) (before : List Line) (done : Done) → AllZip Below done.metas full → TellsMetas config before done
    → done.metas ≡ metas_behind config.dataset full before
are_behind config full before done zip t =
    behind_from before 0 config.dataset done.metas full t.sets zip (λ k c m left right.
    let same : k ≡ 0 + k = omega arith in
    subst (λ (n : ℕ). MetaAt before n c m) same (t.metas k c m left right))

-- ---- which components are enabled

pub record TellsEnabled (before : List Line) (done : Done) : Type 0 where
  pub room : length done.enabled ≡ 64
  pub each : (id : ℕ) → id < 64 → get_or done.enabled id true ≡ is_enabled id before

enabled_more : (id : ℕ) (before : List Line) (line : Line) → is_enabled id (before ++ line ∷ []) ≡ enabled_by id (is_enabled id before) line.act
enabled_more id before line = fold_push (λ (on : Bool) (l : Line). enabled_by id on l.act) true before line

enabled_kept : (before : List Line) (line : Line) (done next : Done) → next.enabled ≡ done.enabled → ((id : ℕ) (on : Bool) → enabled_by id on line.act ≡ on) → TellsEnabled before done → TellsEnabled (before ++ line ∷ []) next
enabled_kept before line done next same other t = record {
  room = ap (λ (bs : List Bool). length bs) same ∙ t.room;
  each = λ id lt. ap (λ (bs : List Bool). get_or bs id true) same ∙ t.each id lt ∙ sym (other id (is_enabled id before)) ∙ sym (enabled_more id before line);
}

-- a switch gives its own component this, and leaves the others
abbrev switch : Bool → ℕ → Act
switch true id = act.Enable id
switch false id = act.Disable id

switch_here : (id other : ℕ) (on was : Bool) → eqb other id ≡ true → on ≡ enabled_by id was (switch on other)
switch_here id other true was same = sym (ap (λ v. v || was) same)
switch_here id other false was same = sym (ap (λ v. not v && was) same)

switch_there : (id other : ℕ) (on was : Bool) → eqb other id ≡ false → was ≡ enabled_by id was (switch on other)
switch_there id other true was apart = sym (ap (λ v. v || was) apart)
switch_there id other false was apart = sym (ap (λ v. not v && was) apart)

switch_each : (config : Config) (before : List Line) (number at : ℕ) (on : Bool) (done : Done) → at < 64 → TellsEnabled before done
    → (id : ℕ) → id < 64 → get_or (slice_set done.enabled at on) id true ≡ enabled_by id (is_enabled id before) (switch on at)
switch_each config before number at on done small t id lt =
    elim (eqb_tells at id) [
      | inl same ↦
          let here : get_or (slice_set done.enabled at on) at true ≡ on = get_or-set_same done.enabled at on true (omega (arith, t.room, small)) in
          subst (λ (k : ℕ). get_or (slice_set done.enabled at on) k true ≡ on) same.1 here ∙ switch_here id at on (is_enabled id before) same.0
      | inr other ↦
          get_or-set_other done.enabled at id on true (λ e. other.1 (sym e)) ∙ t.each id lt ∙ switch_there id at on (is_enabled id before) other.0
    ]

switched : (config : Config) (before : List Line) (number at : ℕ) (on : Bool) (done next : Done) → length (component_names config) ≤ 64 → Switched config done next at on → TellsEnabled before done
    → TellsEnabled (before ++ record { at = number; act = switch on at } ∷ []) next
switched config before number at on done next few s t =
    let enabled : next.enabled ≡ slice_set done.enabled at on = ap (λ (d : Done). d.enabled) s.leaves in
    let small : at < 64 = omega (arith, few, s.there) in
    record {
      room = ap (λ (bs : List Bool). length bs) enabled ∙ length-set done.enabled at on ∙ t.room;
      each = λ id lt.
          ap (λ (bs : List Bool). get_or bs id true) enabled ∙ switch_each config before number at on done small t id lt
          ∙ sym (enabled_more id before (record { at = number; act = switch on at }));
    }

pub enabled_next : (config : Config) (takes_fates : Bool) (full : List MetaData) (before : List Line) (number : ℕ) (done next : Done) (a : Act) → length (component_names config) ≤ 64 → Does config takes_fates full done next a → TellsEnabled before done
    → TellsEnabled (before ++ record { at = number; act = a } ∷ []) next
enabled_next config takes_fates full before number done next (act.Write thread set patch) few w t = enabled_kept before (record { at = number; act = act.Write thread set patch }) done next (ap (λ (d : Done). d.enabled) w.leaves) (λ id on. refl) t
enabled_next config takes_fates full before number done next (act.Tick ms) few w t = enabled_kept before (record { at = number; act = act.Tick ms }) done next (ap (λ (d : Done). d.enabled) w.leaves) (λ id on. refl) t
enabled_next config takes_fates full before number done next (act.Enable id) few w t = switched config before number id true done next few w t
enabled_next config takes_fates full before number done next (act.Disable id) few w t = switched config before number id false done next few w t
enabled_next config takes_fates full before number done next (act.Fated k fate) few w t = enabled_kept before (record { at = number; act = act.Fated k fate }) done next (ap (λ (d : Done). d.enabled) w.leaves) (λ id on. refl) t
enabled_next config takes_fates full before number done next (act.Watch thread reader times) few w t = enabled_kept before (record { at = number; act = act.Watch thread reader times }) done next (ap (λ (d : Done). d.enabled) w.leaves) (λ id on. refl) t
enabled_next config takes_fates full before number done next (act.Append set) few w t = enabled_kept before (record { at = number; act = act.Append set }) done next (ap (λ (d : Done). d.enabled) w.leaves) (λ id on. refl) t
