-- Generated work is a script of the built-in configuration.
use Rattle.std.proofs.Common.{◌≡◌, inl, inr, ℕ, zero, suc, ◌+◌, ◌*◌, ◌/◌, ◌%◌, ◌^◌, ◌<◌, ◌≤◌, ◌==◌, Bool, true, false, not, cond, List, [], ◌∷◌, ◌++◌, map, length, take, get_or, Some, slice_get, refl, sym, ap, ◌∙◌, subst, arith}
use Rattle.std.specs.Prelude.{flat_map, count_by}
use Rattle.std.specs.List.{HoldsAt, range_with_len}
use Rattle.std.proofs.Math.Nat.{min-le_left}
use Rattle.std.proofs.lemmas.Bool.Decides.{eqb_tells}
use Rattle.std.proofs.lemmas.List.{take_all}
use Rattle.std.proofs.lemmas.List.FromFn.{length-map-range_with_len, get_or-map-range_with_len, sum_by-map-range_with_len_more}
use Rattle.std.proofs.lemmas.List.Sums.{sum_by-cons}
use Rattle.std.proofs.lemmas.Option.{same_Some, none-some, slice_get_within, get_or_from_slice_get}
use Rattle.dataset_meta.specs.DataValues.{FitsField}
use Rattle.dataset_meta.specs.Metas.{IsMeta, MetaData, meta_of}
use Rattle.dataset_meta.specs.Rows.{IsPatch}
use Rattle.row_words.specs.declared.patch.Patch.{Patch}
use Rattle.row_words.specs.Patches.{IsPatchOf, spelled_patch}
use Rattle.row_words.proofs.MeaningLaws.{IsPatchOf-spelled_patch}
use Rattle.ua_base.specs.declared.link.Fate.{Fate}
use Rattle.ua_base.specs.Fates.{AreFates}
use Rattle.ps_config.specs.BuiltIn.{built_in_config, demo}
use Rattle.ps_config.proofs.BuiltIn.{built_in_sound}
use Rattle.ps_script.specs.declared.script.Line.{Line}
use Rattle.ps_script.specs.declared.script.Act.{Act}
use Rattle.ps_script.specs.declared.script.Act.TheVariants as act
use Rattle.ps_script.specs.Acts.{next_number}
use Rattle.ps_script.specs.Generated.{generated_value, generated_write, generated_act, generated_line, generated}
use Rattle.ps_script.specs.Sessions.{is_tick, is_append, ticks_in, appends_in, fates_of, fates_by, meta_behind, metas_behind}
use Rattle.ps_script.specs.Sound.{IsGrown, IsAct, FitConfig, is_some_write, is_watch, is_some_append, AreFew, AreNumbered, IsScript}
use Rattle.ps_script.proofs.Demo.{demo_fits, four}
use Rattle.ps_script.proofs.Writing.{marked}
use Rattle.ps_script.proofs.Sound.{fit_configured}

-- ---- a line is a tick or a write

by_line : (P : Act → Type 0) → P (act.Tick 100) → ((write : ℕ) → write < 32776 → P (generated_write write)) → (k : ℕ) → k < 36864 → P (generated_act k)
unfolding generated_act
by_line P tick write k small = chosen (k % 9 == 8)
  where
    chosen : (b : Bool) → P (cond b (act.Tick 100) (generated_write (8 * (k / 9) + k % 9)))
    chosen true = tick
    chosen false = write (8 * (k / 9) + k % 9) (omega (arith, small))

no_tick : (write : ℕ) → is_tick (generated_write write) ≡ false
unfolding generated_write
no_tick write = refl

a_write : (write : ℕ) → is_some_write (generated_write write) ≡ true
unfolding generated_write
a_write write = refl

is_tick_at : (k : ℕ) → is_tick (generated_act k) ≡ (k % 9 == 8)
unfolding generated_act
is_tick_at k = chosen (k % 9 == 8)
  where
    chosen : (b : Bool) → is_tick (cond b (act.Tick 100) (generated_write (8 * (k / 9) + k % 9))) ≡ b
    chosen true = refl
    chosen false = no_tick (8 * (k / 9) + k % 9)

is_write_at : (k : ℕ) → is_some_write (generated_act k) ≡ not (k % 9 == 8)
unfolding generated_act
is_write_at k = chosen (k % 9 == 8)
  where
    chosen : (b : Bool) → is_some_write (cond b (act.Tick 100) (generated_write (8 * (k / 9) + k % 9))) ≡ not b
    chosen true = refl
    chosen false = a_write (8 * (k / 9) + k % 9)

no_append : (set write : ℕ) → is_append set (generated_write write) ≡ false
unfolding generated_write
no_append set write = refl

no_watch : (write : ℕ) → is_watch (generated_write write) ≡ false
unfolding generated_write
no_watch write = refl

none_appended : (write : ℕ) → is_some_append (generated_write write) ≡ false
unfolding generated_write
none_appended write = refl

no_fate : (write : ℕ) → fates_by (generated_write write) ≡ []
unfolding generated_write
no_fate write = refl

abbrev work : ℕ → List Line
work m = map generated_line (range_with_len 0 m)

-- the line at a place
line_at : (m k : ℕ) (line : Line) → slice_get (work m) k ≡ Some line → (k < m) × (line ≡ generated_line k)
line_at m k line found =
    let within : k < length (work m) = slice_get_within (work m) k line found in
    let lt : k < m = subst (λ (n : ℕ). k < n) (length-map-range_with_len generated_line 0 m) within in
    let same : 0 + k ≡ k = omega arith in
    (lt, sym (get_or_from_slice_get (work m) k line line found) ∙ get_or-map-range_with_len generated_line 0 m k k line lt same)

-- what holds of ticks and of writes holds of each line
each_line : (P : Act → Type 0) → P (act.Tick 100) → ((write : ℕ) → write < 32776 → P (generated_write write)) → (m : ℕ) → m ≤ 36864
    → (k : ℕ) (line : Line) → slice_get (work m) k ≡ Some line → P line.act
each_line P tick write m small k line found =
    let at = line_at m k line found in
    let lt : k < 36864 = omega (arith, at.0, small) in
    subst (λ (l : Line). P l.act) (sym at.1) (by_line P tick write k lt)

-- ---- counts

none_counted : (p : Line → Bool) (xs : List Line) → ((k : ℕ) (x : Line) → slice_get xs k ≡ Some x → p x ≡ false) → (j : ℕ) → count_by p (take j xs) ≡ 0
none_counted p xs each zero = refl
none_counted p [] each (suc j) = refl
none_counted p (x ∷ xs) each (suc j) =
    sum_by-cons (λ (l : Line). cond (p l) 1 0) x (take j xs)
    ∙ ap (λ (v : Bool). cond v 1 0 + count_by p (take j xs)) (each zero x refl)
    ∙ ap (λ (n : ℕ). 0 + n) (none_counted p xs (λ k y found. each (suc k) y found) j)

all_none : (p : Line → Bool) (xs : List Line) → ((k : ℕ) (x : Line) → slice_get xs k ≡ Some x → p x ≡ false) → count_by p xs ≡ 0
all_none p xs each =
    let all : length xs ≤ length xs = omega arith in
    ap (λ (ys : List Line). count_by p ys) (sym (take_all (length xs) xs all)) ∙ none_counted p xs each (length xs)

none_mapped : (f : Line → List (ℕ × Fate)) (xs : List Line) → ((k : ℕ) (x : Line) → slice_get xs k ≡ Some x → f x ≡ []) → flat_map f xs ≡ []
none_mapped f [] each = refl
none_mapped f (x ∷ xs) each =
    ap (λ (ys : List (ℕ × Fate)). ys ++ flat_map f xs) (each zero x refl) ∙ none_mapped f xs (λ k y found. each (suc k) y found)

no_appends : (set m : ℕ) → m ≤ 36864 → (j : ℕ) → appends_in set (take j (work m)) ≡ 0
no_appends set m small j = none_counted (λ (l : Line). is_append set l.act) (work m) (each_line (λ (a : Act). is_append set a ≡ false) refl (λ write lt. no_append set write) m small) j

ninth : (m : ℕ) (b : Bool) → (m % 9 == 8) ≡ b → m / 9 + cond b 1 0 ≡ (m + 1) / 9
ninth m b e =
    elim (eqb_tells (m % 9) 8) [
      | inl same ↦
          let last : m % 9 ≡ 8 = same.1 in
          let next : m / 9 + 1 ≡ (m + 1) / 9 = omega arith in
          subst (λ (v : Bool). m / 9 + cond v 1 0 ≡ (m + 1) / 9) (sym same.0 ∙ e) next
      | inr other ↦
          let before : m % 9 < 8 = below_last (m % 9) (rest m) other.1 in
          let next : m / 9 + 0 ≡ (m + 1) / 9 = omega arith in
          subst (λ (v : Bool). m / 9 + cond v 1 0 ≡ (m + 1) / 9) (sym other.0 ∙ e) next
    ]
  where
    rest : (n : ℕ) → n % 9 < 9
    rest n = omega arith

    below_last : (r : ℕ) → r < 9 → (r ≡ 8 → ⊥) → r < 8
    below_last r lt apart = omega arith

ticks_are : (m : ℕ) → ticks_in (work m) ≡ m / 9
ticks_are zero = refl
ticks_are (suc m) =
    let more : m + 1 ≡ suc m = omega arith in
    let none : 0 + m ≡ m = omega arith in
    subst (λ (k : ℕ). ticks_in (work k) ≡ k / 9) more
    (sum_by-map-range_with_len_more (λ (l : Line). cond (is_tick l.act) 1 0) generated_line 0 m m none
    ∙ ap (λ (n : ℕ). n + cond (is_tick (generated_act m)) 1 0) (ticks_are m)
    ∙ ap (λ (v : Bool). m / 9 + cond v 1 0) (is_tick_at m)
    ∙ ninth m (m % 9 == 8) refl)

one_each : (b : Bool) → cond (not b) 1 0 + cond b 1 0 ≡ 1
one_each true = refl
one_each false = refl

-- each line is a tick or a write
writes_are : (m : ℕ) → count_by (λ (l : Line). is_some_write l.act) (work m) + m / 9 ≡ m
writes_are zero = refl
writes_are (suc m) =
    let more : m + 1 ≡ suc m = omega arith in
    let none : 0 + m ≡ m = omega arith in
    let before : count_by (λ (l : Line). is_some_write l.act) (work m) + m / 9 ≡ m = writes_are m in
    let count : count_by (λ (l : Line). is_some_write l.act) (work (m + 1)) ≡ count_by (λ (l : Line). is_some_write l.act) (work m) + cond (not (m % 9 == 8)) 1 0 =
    sum_by-map-range_with_len_more (λ (l : Line). cond (is_some_write l.act) 1 0) generated_line 0 m m none
    ∙ ap (λ (v : Bool). count_by (λ (l : Line). is_some_write l.act) (work m) + cond v 1 0) (is_write_at m) in
    let ticks : m / 9 + cond (m % 9 == 8) 1 0 ≡ (m + 1) / 9 = ninth m (m % 9 == 8) refl in
    let both : cond (not (m % 9 == 8)) 1 0 + cond (m % 9 == 8) 1 0 ≡ 1 = one_each (m % 9 == 8) in
    subst (λ (k : ℕ). count_by (λ (l : Line). is_some_write l.act) (work k) + k / 9 ≡ k) more
    (sums (count_by (λ (l : Line). is_some_write l.act) (work (m + 1))) (count_by (λ (l : Line). is_some_write l.act) (work m)) (cond (not (m % 9 == 8)) 1 0) (cond (m % 9 == 8) 1 0) (m / 9) ((m + 1) / 9) m before count ticks both)
  where
    sums : (new old write tick q p n : ℕ) → old + q ≡ n → new ≡ old + write → q + tick ≡ p → write + tick ≡ 1 → new + p ≡ n + 1
    sums new old write tick q p n a b c d = omega arith

few_ticks : (n count : ℕ) → n ≤ 1024 → count ≡ 36 * n / 9 → count ≤ 4096
few_ticks n count small is = omega arith

few_writes : (n count : ℕ) → n ≤ 1024 → count + 36 * n / 9 ≡ 36 * n → count ≤ 32768
few_writes n count small is = omega arith

-- ---- the data set stays

meta_stays : (lines : List Line) → appends_in 0 lines ≡ 0 → meta_behind 0 demo demo lines ≡ demo
unfolding demo
meta_stays lines none = ap (λ (n : ℕ). meta_of demo.name (take (length demo.fields + n) demo.fields) demo.major (demo.minor + n) demo.quality) none

metas_stay : (lines : List Line) → appends_in 0 lines ≡ 0 → metas_behind built_in_config.dataset (demo ∷ []) lines ≡ demo ∷ []
unfolding built_in_config
metas_stay lines none = ap (λ (m : MetaData). m ∷ []) (meta_stays lines none)

is_built_in : demo ∷ [] ≡ built_in_config.dataset
unfolding built_in_config
is_built_in = refl

demo_meta : IsMeta demo.fields
unfolding built_in_config
demo_meta = let one : 0 < 1 = omega arith in built_in_sound.metas 0 demo one

stays_grown : (lines : List Line) → appends_in 0 lines ≡ 0 → IsGrown 0 lines demo demo
stays_grown lines none =
    let same : (n : ℕ) → n ≡ n + appends_in 0 lines = λ n. equal n (appends_in 0 lines) none in
    let all : length demo.fields ≤ length demo.fields = omega arith in
    record {
      name = refl;
      major = refl;
      minor = same demo.minor;
      count = same (length demo.fields);
      grown = record { fields = sym (take_all (length demo.fields) demo.fields all); quality = refl; major = refl };
      is_meta = demo_meta;
    }
  where
    equal : (n k : ℕ) → k ≡ 0 → n ≡ n + k
    equal n k e = omega arith

grown_sets : (lines : List Line) → appends_in 0 lines ≡ 0 → (set : ℕ) (configured full : MetaData) → slice_get built_in_config.dataset set ≡ Some configured → slice_get (demo ∷ []) set ≡ Some full
    → IsGrown set lines configured full
unfolding built_in_config
grown_sets lines none zero configured full here there =
    subst (λ (c : MetaData). IsGrown 0 lines c full) (same_Some demo configured here)
    (subst (λ (f : MetaData). IsGrown 0 lines demo f) (same_Some demo full there) (stays_grown lines none))
grown_sets lines none (suc set) configured full here there = absurd (none-some full there)

-- ---- what lines write

in_range : (write : ℕ) → write < 32776 → 100000 * (write % 4) + (write / 4 + 1) < 2 ^ 32
in_range write small = omega arith

value_fits : (write : ℕ) → write < 32776 → HoldsAt (λ field. FitsField demo.quality field (generated_value write)) demo.fields (write % 4)
unfolding demo
value_fits write small d =
    record { is_value = in_range write small; fits = demo_fits (write % 4) (100000 * (write % 4) + (write / 4 + 1)) (fourth write) d; is_status = refl }
  where
    fourth : (n : ℕ) → n % 4 < 4
    fourth n = omega arith

write_is : (write : ℕ) → write < 32776 → IsPatchOf demo (spelled_patch demo.fields ((write % 4, generated_value write) ∷ []))
write_is write small =
    let few : write % 4 < 4 = omega arith in
    let within : write % 4 < length demo.fields = subst (λ (n : ℕ). write % 4 < n) (sym four) few in
    let least : 0 ≤ write % 4 = omega arith in
    let is : IsPatch demo ((write % 4, generated_value write) ∷ []) = (least, within, value_fits write small, tt) in
    IsPatchOf-spelled_patch demo ((write % 4, generated_value write) ∷ []) demo_meta is

write_marks : (write : ℕ) → 0 < (spelled_patch demo.fields ((write % 4, generated_value write) ∷ [])).mask
unfolding spelled_patch
write_marks write = marked (write % 4, generated_value write) []

at_first : (P : MetaData → Type 0) (metas : List MetaData) → metas ≡ demo ∷ [] → P demo → HoldsAt P metas 0
at_first P metas is here d = subst (λ (ms : List MetaData). P (get_or ms 0 d)) (sym is) here

write_act : (before : List Line) → appends_in 0 before ≡ 0 → (write : ℕ) → write < 32776 → IsAct built_in_config (demo ∷ []) before (generated_write write)
unfolding generated_write
write_act before none write small =
    let patch : Patch = spelled_patch demo.fields ((write % 4, generated_value write) ∷ []) in
    let is : IsPatchOf demo patch = write_is write small in
    let few : write % 4 < 8 = omega arith in
    let one : 0 < 1 = omega arith in
    record {
      bound = few;
      there = one;
      of = at_first (λ (m : MetaData). IsPatchOf m patch) (demo ∷ []) refl is;
      some = write_marks write;
      marks = at_first (λ (m : MetaData). patch.mask < 2 ^ length m.fields) (metas_behind built_in_config.dataset (demo ∷ []) before) (metas_stay before none) is.marks;
    }

tick_act : (before : List Line) → IsAct built_in_config (demo ∷ []) before (act.Tick 100)
tick_act before = let least : 1 ≤ 100 = omega arith in let most : 100 ≤ 3600000 = omega arith in (least, most)

zero_le : (n : ℕ) → 0 ≤ n
zero_le n = omega arith

numbered : (least first m : ℕ) → least ≤ first + 1 → AreNumbered least (map generated_line (range_with_len first m))
numbered least first zero le = tt
numbered least first (suc m) le = (le, numbered (next_number (first + 1)) (first + 1) m (min-le_left (first + 1 + 1) 4294967295))

few_lines : (n : ℕ) → n ≤ 1024 → (m : ℕ) → m ≡ 36 * n → m ≤ 36864 → AreFew (work m)
few_lines n small m is few =
    let fates : fates_of (work m) ≡ [] = none_mapped (λ (l : Line). fates_by l.act) (work m) (each_line (λ (a : Act). fates_by a ≡ []) refl (λ write lt. no_fate write) m few) in
    let watches : count_by (λ (l : Line). is_watch l.act) (work m) ≡ 0 = all_none (λ (l : Line). is_watch l.act) (work m) (each_line (λ (a : Act). is_watch a ≡ false) refl (λ write lt. no_watch write) m few) in
    let appends : count_by (λ (l : Line). is_some_append l.act) (work m) ≡ 0 = all_none (λ (l : Line). is_some_append l.act) (work m) (each_line (λ (a : Act). is_some_append a ≡ false) refl (λ write lt. none_appended write) m few) in
    record {
      ticks = few_ticks n (ticks_in (work m)) small (ticks_are m ∙ ap (λ (k : ℕ). k / 9) is);
      writes = few_writes n (count_by (λ (l : Line). is_some_write l.act) (work m)) small (ap (λ (k : ℕ). count_by (λ (l : Line). is_some_write l.act) (work m) + k / 9) (sym is) ∙ writes_are m ∙ is);
      fates = subst (λ (fs : List (ℕ × Fate)). length fs ≤ 256) (sym fates) (zero_le 256);
      watches = subst (λ (k : ℕ). k ≤ 64) (sym watches) (zero_le 64);
      appends = subst (λ (k : ℕ). k ≤ 16) (sym appends) (zero_le 16);
    }

work_is : (n : ℕ) → n ≤ 1024 → (m : ℕ) → m ≡ 36 * n → IsScript built_in_config (record { lines = work m; metas = demo ∷ [] })
work_is n small m is =
    let few : m ≤ 36864 = omega arith in
    let none : appends_in 0 (work m) ≡ 0 = all_none (λ (l : Line). is_append 0 l.act) (work m) (each_line (λ (a : Act). is_append 0 a ≡ false) refl (λ write lt. no_append 0 write) m few) in
    let fates : fates_of (work m) ≡ [] = none_mapped (λ (l : Line). fates_by l.act) (work m) (each_line (λ (a : Act). fates_by a ≡ []) refl (λ write lt. no_fate write) m few) in
    record {
      sets = ap (λ (ms : List MetaData). length ms) is_built_in;
      metas = grown_sets (work m) none;
      acts = λ k line found.
          each_line (IsAct built_in_config (demo ∷ []) (take k (work m))) (tick_act (take k (work m))) (write_act (take k (work m)) (no_appends 0 m few k)) m few k line found;
      behind = λ k.
          subst (FitConfig built_in_config) (sym (metas_stay (take k (work m)) (no_appends 0 m few k) ∙ is_built_in)) (fit_configured built_in_config built_in_sound);
      few = few_lines n small m is few;
      numbers = let least : 1 ≤ 0 + 1 = omega arith in numbered 1 0 m least;
      fates = subst AreFates (sym fates) tt;
    }

pub generated_sound : (n : ℕ) → n ≤ 1024 → IsScript built_in_config (generated n)
unfolding generated
generated_sound n small = work_is n small (36 * n) refl
