-- The row that the threads of generated work leave, in whatever order they write.
use Rattle.std.proofs.Common.{◌≡◌, ℕ, zero, suc, ◌+◌, ◌-◌, ◌*◌, ◌/◌, ◌%◌, ◌^◌, ◌<◌, ◌≤◌, ◌==◌, Bool, true, false, cond, List, [], ◌∷◌, map, length, refl, sym, ap, ◌∙◌, subst, arith}
use Rattle.std.specs.Prelude.{slice_index_or, slice_set, option_map, unwrap_or, Option}
use Rattle.std.specs.List.{range_with_len}
use Rattle.std.proofs.lemmas.Bool.Decides.{nat_tests}
use Rattle.std.proofs.lemmas.List.FromFn.{get_or-map-range_with_len, length-map-range_with_len}
use Rattle.ua_values.specs.declared.value.Value.TheVariants.{UInt32}
use Rattle.dataset_meta.specs.DataValues.{DataValue}
use Rattle.dataset_meta.specs.Metas.{IsMeta}
use Rattle.dataset_meta.specs.Rows.{IsPatch, opening_row, patched}
use Rattle.row_words.specs.Patches.{patch_in}
use Rattle.row_words.proofs.MeaningLaws.{patch_in-spelled_patch}
use Rattle.pubsub_model.specs.History.{Written, IsLegal, last_row, legal_history, legal_rows, no_patch, patch_at, row_of, times_of}
use Rattle.pubsub_model.proofs.HistoryLaws.{entry-version, times_of-cons}
use Rattle.ps_config.specs.BuiltIn.{built_in_config, demo}
use Rattle.ps_config.proofs.BuiltIn.{built_in_sound}
use Rattle.ps_script.specs.Generated.{generated}
use Rattle.ps_script.specs.Sessions.{patches_of, ticks_in}
use Rattle.ps_script.proofs.Demo.{demo_fits, four}
use Rattle.script_runner.specs.Legal.{fields_in, history_by, writes_to}
use Rattle.cmd_load.specs.Newest.{newest_row, newest_value}
use Rattle.cmd_load.proofs.Work.{work, value_by, patch_by, thread_writes, others_write_nothing, ticks_are}

-- what the threads' patches stand for
abbrev Writes : Type 0
Writes = List (List (List (ℕ × DataValue)))

-- ---- the rows, where each of four threads has so many patches of its own field

pub record AreWork (writes : Writes) (each : ℕ) : Type 0 where
  pub own : (thread j : ℕ) → thread < 4 → j < each → patch_at writes thread j ≡ (thread, value_by thread j) ∷ []
  pub count : (thread : ℕ) → thread < 4 → length (slice_index_or writes thread []) ≡ each
  pub none : (thread : ℕ) → 4 ≤ thread → length (slice_index_or writes thread []) ≡ 0

-- a thread's field behind so many of its writes
abbrev field_by : ℕ → ℕ → DataValue
field_by thread zero = record { value = UInt32 0; status = 0 }
field_by thread (suc j) = value_by thread j

abbrev row_by : ℕ → ℕ → ℕ → ℕ → List DataValue
row_by a b c d = field_by 0 a ∷ field_by 1 b ∷ field_by 2 c ∷ field_by 3 d ∷ []

abbrev row_behind : List ℕ → List DataValue
row_behind threads = row_by (times_of 0 threads) (times_of 1 threads) (times_of 2 threads) (times_of 3 threads)

same_row : (a b c d a' b' c' d' : ℕ) → a ≡ a' → b ≡ b' → c ≡ c' → d ≡ d' → row_by a b c d ≡ row_by a' b' c' d'
same_row a b c d a' b' c' d' p q r s =
    ap (λ (k : ℕ). row_by k b c d) p ∙ ap (λ (k : ℕ). row_by a' k c d) q ∙ ap (λ (k : ℕ). row_by a' b' k d) r ∙ ap (λ (k : ℕ). row_by a' b' c' k) s

-- how often a thread stands in a list with one thread more
once_more : (thread : ℕ) (before : List ℕ) → suc (times_of thread before) ≡ times_of thread (thread ∷ before)
once_more thread before =
    let same : (thread == thread) ≡ true = grind (arith, nat_tests) in
    omega (arith, times_of-cons thread thread before ∙ ap (λ (b : Bool). cond b 1 0 + times_of thread before) same)

no_more : (thread other : ℕ) (before : List ℕ) → (other ≡ thread → ⊥) → times_of thread before ≡ times_of thread (other ∷ before)
no_more thread other before apart =
    let test : (other == thread) ≡ false = grind (arith, nat_tests, apart) in
    omega (arith, times_of-cons thread other before ∙ ap (λ (b : Bool). cond b 1 0 + times_of thread before) test)

later : (thread other : ℕ) (before : List ℕ) → times_of thread before ≤ times_of thread (other ∷ before)
later thread other before = omega (arith, times_of-cons thread other before)

module _ (writes : Writes) (each : ℕ) (are : AreWork writes each) where
  -- one write more
  next_row : (thread : ℕ) (before : List ℕ) → times_of thread (thread ∷ before) ≤ length (slice_index_or writes thread [])
      → patched (row_behind before) (patch_at writes thread (times_of thread before)) ≡ row_behind (thread ∷ before)
  next_row thread before few = by_thread thread few
    where
      within : (t : ℕ) → t < 4 → times_of t (t ∷ before) ≤ length (slice_index_or writes t []) → times_of t before < each
      within t small some = omega (arith, some, once_more t before, are.count t small)

      laid : (t : ℕ) → t < 4 → times_of t (t ∷ before) ≤ length (slice_index_or writes t [])
          → patched (row_behind before) (patch_at writes t (times_of t before)) ≡ slice_set (row_behind before) t (value_by t (times_of t before))
      laid t small some = ap (patched (row_behind before)) (are.own t (times_of t before) small (within t small some))

      by_thread : (t : ℕ) → times_of t (t ∷ before) ≤ length (slice_index_or writes t [])
          → patched (row_behind before) (patch_at writes t (times_of t before)) ≡ row_behind (t ∷ before)
      by_thread zero some =
          laid 0 (omega arith) some
          ∙ same_row (suc (times_of 0 before)) (times_of 1 before) (times_of 2 before) (times_of 3 before) (times_of 0 (0 ∷ before)) (times_of 1 (0 ∷ before)) (times_of 2 (0 ∷ before)) (times_of 3 (0 ∷ before))
          (once_more 0 before) (no_more 1 0 before (λ e. omega arith)) (no_more 2 0 before (λ e. omega arith)) (no_more 3 0 before (λ e. omega arith))
      by_thread (suc zero) some =
          laid 1 (omega arith) some
          ∙ same_row (times_of 0 before) (suc (times_of 1 before)) (times_of 2 before) (times_of 3 before) (times_of 0 (1 ∷ before)) (times_of 1 (1 ∷ before)) (times_of 2 (1 ∷ before)) (times_of 3 (1 ∷ before))
          (no_more 0 1 before (λ e. omega arith)) (once_more 1 before) (no_more 2 1 before (λ e. omega arith)) (no_more 3 1 before (λ e. omega arith))
      by_thread (suc (suc zero)) some =
          laid 2 (omega arith) some
          ∙ same_row (times_of 0 before) (times_of 1 before) (suc (times_of 2 before)) (times_of 3 before) (times_of 0 (2 ∷ before)) (times_of 1 (2 ∷ before)) (times_of 2 (2 ∷ before)) (times_of 3 (2 ∷ before))
          (no_more 0 2 before (λ e. omega arith)) (no_more 1 2 before (λ e. omega arith)) (once_more 2 before) (no_more 3 2 before (λ e. omega arith))
      by_thread (suc (suc (suc zero))) some =
          laid 3 (omega arith) some
          ∙ same_row (times_of 0 before) (times_of 1 before) (times_of 2 before) (suc (times_of 3 before)) (times_of 0 (3 ∷ before)) (times_of 1 (3 ∷ before)) (times_of 2 (3 ∷ before)) (times_of 3 (3 ∷ before))
          (no_more 0 3 before (λ e. omega arith)) (no_more 1 3 before (λ e. omega arith)) (no_more 2 3 before (λ e. omega arith)) (once_more 3 before)
      by_thread (suc (suc (suc (suc t)))) some =
          let large : 4 ≤ suc (suc (suc (suc t))) = omega arith in
          absurd (omega (arith, some, once_more (suc (suc (suc (suc t)))) before, are.none (suc (suc (suc (suc t)))) large))

  -- the row behind all writes of a list that has no more of a thread than there are
  rows_behind : (threads : List ℕ) → ((thread : ℕ) → times_of thread threads ≤ length (slice_index_or writes thread []))
      → last_row demo.fields (legal_rows demo.fields writes threads) ≡ row_behind threads
  unfolding demo
  rows_behind [] few = refl
  rows_behind (thread ∷ before) few =
      ap (λ (row : List DataValue). patched row (patch_at writes thread (times_of thread before)))
      (rows_behind before (λ other. omega (arith, few other, later other thread before)))
      ∙ next_row thread before (few thread)

  -- each of a list's threads is one of the four
  one_more : (thread : ℕ) (before : List ℕ) → times_of thread (thread ∷ before) ≤ length (slice_index_or writes thread [])
      → times_of 0 (thread ∷ before) + times_of 1 (thread ∷ before) + times_of 2 (thread ∷ before) + times_of 3 (thread ∷ before)
      ≡ times_of 0 before + times_of 1 before + times_of 2 before + times_of 3 before + 1
  one_more zero before few =
      omega (arith, once_more 0 before, no_more 1 0 before (λ e. omega arith), no_more 2 0 before (λ e. omega arith), no_more 3 0 before (λ e. omega arith))
  one_more (suc zero) before few =
      omega (arith, no_more 0 1 before (λ e. omega arith), once_more 1 before, no_more 2 1 before (λ e. omega arith), no_more 3 1 before (λ e. omega arith))
  one_more (suc (suc zero)) before few =
      omega (arith, no_more 0 2 before (λ e. omega arith), no_more 1 2 before (λ e. omega arith), once_more 2 before, no_more 3 2 before (λ e. omega arith))
  one_more (suc (suc (suc zero))) before few =
      omega (arith, no_more 0 3 before (λ e. omega arith), no_more 1 3 before (λ e. omega arith), no_more 2 3 before (λ e. omega arith), once_more 3 before)
  one_more (suc (suc (suc (suc t)))) before few =
      let large : 4 ≤ suc (suc (suc (suc t))) = omega arith in
      absurd (omega (arith, few, once_more (suc (suc (suc (suc t)))) before, are.none (suc (suc (suc (suc t)))) large))

  count_four : (threads : List ℕ) → ((thread : ℕ) → times_of thread threads ≤ length (slice_index_or writes thread []))
      → length threads ≡ times_of 0 threads + times_of 1 threads + times_of 2 threads + times_of 3 threads
  count_four [] few = refl
  count_four (thread ∷ before) few =
      omega (arith, one_more thread before (few thread), count_four before (λ other. omega (arith, few other, later other thread before)))

-- ---- the last version

last_field : (n thread count : ℕ) → count ≡ 8 * n → 1 ≤ n → field_by thread count ≡ newest_value n thread
last_field n thread zero is some = absurd (omega (arith, is, some))
last_field n thread (suc j) is some =
    let more : j + 1 ≡ 8 * n = omega (arith, is) in
    ap (λ (k : ℕ). let value : DataValue = record { value = UInt32 (100000 * thread + k); status = 0 } in value) more

last_fields : (n a b c d : ℕ) → a ≡ 8 * n → b ≡ 8 * n → c ≡ 8 * n → d ≡ 8 * n → 1 ≤ n → row_by a b c d ≡ newest_row n
unfolding newest_row
last_fields n a b c d p q r s some =
    ap (λ (x : DataValue). x ∷ field_by 1 b ∷ field_by 2 c ∷ field_by 3 d ∷ []) (last_field n 0 a p some)
    ∙ ap (λ (x : DataValue). newest_value n 0 ∷ x ∷ field_by 2 c ∷ field_by 3 d ∷ []) (last_field n 1 b q some)
    ∙ ap (λ (x : DataValue). newest_value n 0 ∷ newest_value n 1 ∷ x ∷ field_by 3 d ∷ []) (last_field n 2 c r some)
    ∙ ap (λ (x : DataValue). newest_value n 0 ∷ newest_value n 1 ∷ newest_value n 2 ∷ x ∷ []) (last_field n 3 d s some)

version_row : (writes : Writes) (threads : List ℕ) → row_of demo.fields (legal_history demo.fields writes threads) (length threads) ≡ last_row demo.fields (legal_rows demo.fields writes threads)
version_row writes [] = refl
version_row writes (thread ∷ before) =
    ap (λ (o : Option Written). unwrap_or (option_map (λ e. e.row) o) (opening_row demo.fields)) (entry-version demo.fields writes [] thread before)

last_version : (writes : Writes) (n : ℕ) (threads : List ℕ) → AreWork writes (8 * n) → 1 ≤ n → IsLegal threads writes
    → row_of demo.fields (legal_history demo.fields writes threads) (length threads) ≡ newest_row n
last_version writes n threads are some legal =
    version_row writes threads ∙ rows_behind writes (8 * n) are threads few
    ∙ last_fields n (times_of 0 threads) (times_of 1 threads) (times_of 2 threads) (times_of 3 threads) (times 0 (omega arith)) (times 1 (omega arith)) (times 2 (omega arith)) (times 3 (omega arith)) some
  where
    few : (t : ℕ) → times_of t threads ≤ length (slice_index_or writes t [])
    few t = omega (arith, legal.each t)

    times : (t : ℕ) → t < 4 → times_of t threads ≡ 8 * n
    times t small = legal.each t ∙ are.count t small

-- ---- generated work is such work

-- what a thread's patches stand for
abbrev writes_by : ℕ → ℕ → List (List (ℕ × DataValue))
writes_by n thread = map (patch_in demo.fields) (patches_of thread 0 (work (36 * n)))

there : (n thread : ℕ) → thread < 8 → slice_index_or (writes_to (generated n) 0) thread [] ≡ writes_by n thread
unfolding generated
there n zero lt = refl
there n (suc zero) lt = refl
there n (suc (suc zero)) lt = refl
there n (suc (suc (suc zero))) lt = refl
there n (suc (suc (suc (suc zero)))) lt = refl
there n (suc (suc (suc (suc (suc zero))))) lt = refl
there n (suc (suc (suc (suc (suc (suc zero)))))) lt = refl
there n (suc (suc (suc (suc (suc (suc (suc zero))))))) lt = refl
there n (suc (suc (suc (suc (suc (suc (suc (suc thread)))))))) lt = absurd (omega arith)

none_there : (n thread : ℕ) → slice_index_or (writes_to (generated n) 0) (suc (suc (suc (suc (suc (suc (suc (suc thread)))))))) [] ≡ []
unfolding generated
none_there n thread = refl

map_twice : {A B C : Type 0} (g : B → C) (f : A → B) (xs : List A) → map g (map f xs) ≡ map (λ x. g (f x)) xs
map_twice g f [] = refl
map_twice g f (x ∷ xs) = ap (λ (ys : List _). g (f x) ∷ ys) (map_twice g f xs)

turns_are : (n thread : ℕ) → thread < 4 → (8 * (36 * n / 9) + 36 * n % 9 + 3 - thread) / 4 ≡ 8 * n
turns_are n thread small = omega arith

-- its writes as a list by their numbers
listed : (n thread : ℕ) → thread < 4 → writes_by n thread ≡ map (λ j. patch_in demo.fields (patch_by thread j)) (range_with_len 0 (8 * n))
listed n thread small =
    ap (map (patch_in demo.fields)) (thread_writes thread small (36 * n))
    ∙ map_twice (patch_in demo.fields) (patch_by thread) (range_with_len 0 ((8 * (36 * n / 9) + 36 * n % 9 + 3 - thread) / 4))
    ∙ ap (λ (k : ℕ). map (λ j. patch_in demo.fields (patch_by thread j)) (range_with_len 0 k)) (turns_are n thread small)

demo_meta : IsMeta demo.fields
unfolding built_in_config
demo_meta = let one : 0 < 1 = omega arith in built_in_sound.metas 0 demo one

is_patch : (thread j : ℕ) → thread < 4 → j < 8192 → IsPatch demo ((thread, value_by thread j) ∷ [])
unfolding demo
is_patch thread j small few =
    let least : 0 ≤ thread = omega arith in
    (least, there_is thread small, λ d. record { is_value = in_range; fits = demo_fits thread (100000 * thread + (j + 1)) small d; is_status = refl }, tt)
  where
    in_range : 100000 * thread + (j + 1) < 2 ^ 32
    in_range = omega arith

    there_is : (t : ℕ) → t < 4 → t < length demo.fields
    there_is t lt = subst (λ (k : ℕ). t < k) (sym four) lt

meaning : (thread j : ℕ) → thread < 4 → j < 8192 → patch_in demo.fields (patch_by thread j) ≡ (thread, value_by thread j) ∷ []
meaning thread j small few = patch_in-spelled_patch demo ((thread, value_by thread j) ∷ []) demo_meta (is_patch thread j small few)

idle : (n thread : ℕ) → thread < 8 → 4 ≤ thread → length (slice_index_or (writes_to (generated n) 0) thread []) ≡ 0
idle n thread lt large = ap length (there n thread lt ∙ ap (map (patch_in demo.fields)) (others_write_nothing thread (36 * n) large))

nothing : (n thread : ℕ) → 4 ≤ thread → length (slice_index_or (writes_to (generated n) 0) thread []) ≡ 0
nothing n zero large = absurd (omega arith)
nothing n (suc zero) large = absurd (omega arith)
nothing n (suc (suc zero)) large = absurd (omega arith)
nothing n (suc (suc (suc zero))) large = absurd (omega arith)
nothing n (suc (suc (suc (suc zero)))) large = idle n 4 (omega arith) large
nothing n (suc (suc (suc (suc (suc zero))))) large = idle n 5 (omega arith) large
nothing n (suc (suc (suc (suc (suc (suc zero)))))) large = idle n 6 (omega arith) large
nothing n (suc (suc (suc (suc (suc (suc (suc zero))))))) large = idle n 7 (omega arith) large
nothing n (suc (suc (suc (suc (suc (suc (suc (suc thread)))))))) large = ap length (none_there n thread)

pub are_work : (n : ℕ) → n ≤ 1024 → AreWork (writes_to (generated n) 0) (8 * n)
are_work n most = record {
  own = λ thread j small few.
      let lt : thread < 8 = omega (arith, small) in
      let same : 0 + j ≡ j = omega arith in
      let less : j < 8192 = omega (arith, most, few) in
      ap (λ (ps : List (List (ℕ × DataValue))). slice_index_or ps j no_patch) (there n thread lt ∙ listed n thread small)
      ∙ get_or-map-range_with_len (λ k. patch_in demo.fields (patch_by thread k)) 0 (8 * n) j j no_patch few same
      ∙ meaning thread j small less;
  count = λ thread small.
      let lt : thread < 8 = omega (arith, small) in
      ap length (there n thread lt ∙ listed n thread small) ∙ length-map-range_with_len (λ k. patch_in demo.fields (patch_by thread k)) 0 (8 * n);
  none = nothing n;
}

-- ---- the law

pub law_ticks : (n : ℕ) → ticks_in (generated n).lines ≡ 4 * n
unfolding generated
law_ticks n = ticks_are (36 * n) ∙ fourth n
  where
    fourth : (k : ℕ) → 36 * k / 9 ≡ 4 * k
    fourth k = omega arith

pub law_versions : (n : ℕ) (threads : List ℕ) → n ≤ 1024 → IsLegal threads (writes_to (generated n) 0) → length threads ≡ 32 * n
law_versions n threads most legal =
    let are = are_work n most in
    let all = count_four (writes_to (generated n) 0) (8 * n) are threads (λ t. omega (arith, legal.each t)) in
    omega (arith, all, legal.each 0, legal.each 1, legal.each 2, legal.each 3, are.count 0 (omega arith), are.count 1 (omega arith), are.count 2 (omega arith), are.count 3 (omega arith))

pub law_newest : (n : ℕ) (threads : List ℕ) → 1 ≤ n → n ≤ 1024 → IsLegal threads (writes_to (generated n) 0)
    → row_of (fields_in (generated n) 0) (history_by (generated n) 0 threads) (32 * n) ≡ newest_row n
unfolding generated
law_newest n threads least most legal =
    let last : row_of demo.fields (legal_history demo.fields (writes_to (generated n) 0) threads) (length threads) ≡ newest_row n =
    last_version (writes_to (generated n) 0) n threads (are_work n most) least legal in
    subst (λ (k : ℕ). row_of demo.fields (legal_history demo.fields (writes_to (generated n) 0) threads) k ≡ newest_row n) (law_versions n threads most legal) last
