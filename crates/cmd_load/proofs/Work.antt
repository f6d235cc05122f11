-- What each thread of generated work writes.
use Rattle.std.proofs.Common.{◌≡◌, ◌⊎◌, inl, inr, ℕ, zero, suc, ◌+◌, ◌-◌, ◌*◌, ◌/◌, ◌%◌, ◌<◌, ◌≤◌, ◌==◌, Bool, true, false, cond, List, [], ◌∷◌, ◌++◌, map, refl, sym, ap, ◌∙◌, subst, arith}
use Rattle.std.specs.Prelude.{◌&&◌}
use Rattle.std.specs.List.{range_with_len}
use Rattle.std.proofs.lemmas.Bool.Decides.{eqb_tells}
use Rattle.std.proofs.lemmas.List.{append-nil}
use Rattle.std.proofs.lemmas.List.Concat.{flat_map-append}
use Rattle.std.proofs.lemmas.List.FromFn.{map-range_with_len_more, sum_by-map-range_with_len_more}
use Rattle.ua_values.specs.declared.value.Value.TheVariants.{UInt32}
use Rattle.dataset_meta.specs.DataValues.{DataValue}
use Rattle.row_words.specs.declared.patch.Patch.{Patch}
use Rattle.row_words.specs.Patches.{spelled_patch}
use Rattle.ps_config.specs.BuiltIn.{demo}
use Rattle.ps_script.specs.declared.script.Act.{Act}
use Rattle.ps_script.specs.declared.script.Act.TheVariants as act
use Rattle.ps_script.specs.declared.script.Line.{Line}
use Rattle.ps_script.specs.Generated.{generated_act, generated_line, generated_write}
use Rattle.ps_script.specs.Sessions.{is_tick, patches_by, patches_of, ticks_in}

-- the first lines
abbrev pub work : ℕ → List Line
work m = map generated_line (range_with_len 0 m)

-- a thread's value number j, from 0
abbrev pub value_by : ℕ → ℕ → DataValue
value_by thread j = record { value = UInt32 (100000 * thread + (j + 1)); status = 0 }

abbrev pub patch_by : ℕ → ℕ → Patch
patch_by thread j = spelled_patch demo.fields ((thread, value_by thread j) ∷ [])

-- how many writes the first lines have, and how many of the first writes are a thread's
abbrev writes_before : ℕ → ℕ
writes_before m = 8 * (m / 9) + m % 9

abbrev turns_before : ℕ → ℕ → ℕ
turns_before thread write = (write + 3 - thread) / 4

-- ---- a line

tick_there : (m : ℕ) → m % 9 ≡ 8 → generated_act m ≡ act.Tick 100
unfolding generated_act
tick_there m is =
    let e : (m % 9 == 8) ≡ true = ap (λ (r : ℕ). r == 8) is in
    ap (λ (b : Bool). cond b (act.Tick 100) (generated_write (8 * (m / 9) + m % 9))) e

write_there : (m : ℕ) → (m % 9 == 8) ≡ false → generated_act m ≡ generated_write (writes_before m)
unfolding generated_act
write_there m e = ap (λ (b : Bool). cond b (act.Tick 100) (generated_write (8 * (m / 9) + m % 9))) e

write_is : (write : ℕ) → generated_write write ≡ act.Write (write % 4) 0 (patch_by (write % 4) (write / 4))
unfolding generated_write
write_is write = refl

-- ---- the patches of one thread

patches_more : (thread m : ℕ) → patches_of thread 0 (work (m + 1)) ≡ patches_of thread 0 (work m) ++ patches_by thread 0 (generated_act m)
patches_more thread m =
    let none : 0 + m ≡ m = omega arith in
    ap (patches_of thread 0) (map-range_with_len_more generated_line 0 m m none)
    ∙ flat_map-append (λ (line : Line). patches_by thread 0 line.act) (work m) (generated_line m ∷ [])
    ∙ ap (λ (ps : List Patch). patches_of thread 0 (work m) ++ ps) (append-nil (patches_by thread 0 (generated_act m)))

-- what a write adds
by_thread : (thread write : ℕ) → patches_by thread 0 (generated_write write) ≡ cond (write % 4 == thread) (patch_by (write % 4) (write / 4) ∷ []) []
by_thread thread write =
    ap (patches_by thread 0) (write_is write) ∙ ap (λ (b : Bool). cond b (patch_by (write % 4) (write / 4) ∷ []) []) (and_true (write % 4 == thread))
  where
    and_true : (b : Bool) → (b && true) ≡ b
    and_true true = refl
    and_true false = refl

-- a line more
next_writes : (m : ℕ) → (m % 9 ≡ 8 → ⊥) → writes_before (m + 1) ≡ writes_before m + 1
next_writes m other = let below : m % 9 < 8 = below_last (m % 9) (rest m) other in omega (arith, below)
  where
    rest : (n : ℕ) → n % 9 < 9
    rest n = omega arith

    below_last : (r : ℕ) → r < 9 → (r ≡ 8 → ⊥) → r < 8
    below_last r lt apart = omega arith

same_writes : (m : ℕ) → m % 9 ≡ 8 → writes_before (m + 1) ≡ writes_before m
same_writes m is = omega arith

own_turn : (thread write : ℕ) → thread < 4 → write % 4 ≡ thread → (turns_before thread write ≡ write / 4) × (turns_before thread (write + 1) ≡ write / 4 + 1)
own_turn thread write small is = (omega arith, omega arith)

other_turn : (thread write : ℕ) → thread < 4 → (write % 4 ≡ thread → ⊥) → turns_before thread (write + 1) ≡ turns_before thread write
other_turn thread write small other = between (write / 4) (write % 4) (parts write) (rest write)
  where
    parts : (w : ℕ) → w ≡ 4 * (w / 4) + w % 4
    parts w = omega arith

    rest : (w : ℕ) → w % 4 < 4
    rest w = omega arith

    between : (q r : ℕ) → write ≡ 4 * q + r → r < 4 → turns_before thread (write + 1) ≡ turns_before thread write
    between q r is lt = omega arith

module _ (thread : ℕ) (small : thread < 4) where
  abbrev first_patches : ℕ → List Patch
  first_patches count = map (patch_by thread) (range_with_len 0 count)

  -- the patches behind one write more
  write_more : (write : ℕ) → first_patches (turns_before thread write) ++ patches_by thread 0 (generated_write write) ≡ first_patches (turns_before thread (write + 1))
  write_more write =
      ap (λ (ps : List Patch). first_patches (turns_before thread write) ++ ps) (by_thread thread write)
      ∙ elim (eqb_tells (write % 4) thread) [
        | inl same ↦ own write same.1 same.0
        | inr other ↦ others write other.1 other.0
      ]
    where
      own : (w : ℕ) → w % 4 ≡ thread → (w % 4 == thread) ≡ true
          → first_patches (turns_before thread w) ++ cond (w % 4 == thread) (patch_by (w % 4) (w / 4) ∷ []) [] ≡ first_patches (turns_before thread (w + 1))
      own w is test =
          let none : 0 + w / 4 ≡ w / 4 = omega arith in
          let turns = own_turn thread w small is in
          ap (λ (b : Bool). first_patches (turns_before thread w) ++ cond b (patch_by (w % 4) (w / 4) ∷ []) []) test
          ∙ ap (λ (t : ℕ). first_patches (turns_before thread w) ++ patch_by t (w / 4) ∷ []) is
          ∙ ap (λ (k : ℕ). first_patches k ++ patch_by thread (w / 4) ∷ []) turns.0
          ∙ sym (map-range_with_len_more (patch_by thread) 0 (w / 4) (w / 4) none)
          ∙ ap first_patches (sym turns.1)

      others : (w : ℕ) → (w % 4 ≡ thread → ⊥) → (w % 4 == thread) ≡ false
          → first_patches (turns_before thread w) ++ cond (w % 4 == thread) (patch_by (w % 4) (w / 4) ∷ []) [] ≡ first_patches (turns_before thread (w + 1))
      others w other test =
          ap (λ (b : Bool). first_patches (turns_before thread w) ++ cond b (patch_by (w % 4) (w / 4) ∷ []) []) test
          ∙ append-nil (first_patches (turns_before thread w))
          ∙ ap first_patches (sym (other_turn thread w small other))

  -- the patches behind one line more
  line_more : (m : ℕ) → first_patches (turns_before thread (writes_before m)) ++ patches_by thread 0 (generated_act m) ≡ first_patches (turns_before thread (writes_before (m + 1)))
  line_more m =
      elim (eqb_tells (m % 9) 8) [
        | inl same ↦
            ap (λ (a : Act). first_patches (turns_before thread (writes_before m)) ++ patches_by thread 0 a) (tick_there m same.1)
            ∙ append-nil (first_patches (turns_before thread (writes_before m)))
            ∙ ap (λ (w : ℕ). first_patches (turns_before thread w)) (sym (same_writes m same.1))
        | inr other ↦
            ap (λ (a : Act). first_patches (turns_before thread (writes_before m)) ++ patches_by thread 0 a) (write_there m other.0)
            ∙ write_more (writes_before m)
            ∙ ap (λ (w : ℕ). first_patches (turns_before thread w)) (sym (next_writes m other.1))
      ]

  -- its writes in the first lines are those with its first values
  pub thread_writes : (m : ℕ) → patches_of thread 0 (work m) ≡ first_patches (turns_before thread (writes_before m))
  thread_writes zero =
      let none : 0 ≡ turns_before thread (writes_before 0) = no_turns thread small in
      ap first_patches none
    where
      no_turns : (t : ℕ) → t < 4 → 0 ≡ (0 + 3 - t) / 4
      no_turns t lt = omega arith
  thread_writes (suc m) =
      let more : m + 1 ≡ suc m = omega arith in
      subst (λ (k : ℕ). patches_of thread 0 (work k) ≡ first_patches (turns_before thread (writes_before k))) more
      (patches_more thread m ∙ ap (λ (ps : List Patch). ps ++ patches_by thread 0 (generated_act m)) (thread_writes m) ∙ line_more m)

-- no other thread writes
pub others_write_nothing : (thread m : ℕ) → 4 ≤ thread → patches_of thread 0 (work m) ≡ []
others_write_nothing thread zero large = refl
others_write_nothing thread (suc m) large =
    let more : m + 1 ≡ suc m = omega arith in
    subst (λ (k : ℕ). patches_of thread 0 (work k) ≡ []) more
    (patches_more thread m ∙ ap (λ (ps : List Patch). ps ++ patches_by thread 0 (generated_act m)) (others_write_nothing thread m large) ∙ nothing (eqb_tells (m % 9) 8))
  where
    no_write : (w : ℕ) → (w % 4 == thread) ≡ false
    no_write w = elim (eqb_tells (w % 4) thread) [ inl same ↦ absurd (apart (w % 4) (rest w) same.1) | inr other ↦ other.0 ]
      where
        rest : (n : ℕ) → n % 4 < 4
        rest n = omega arith

        apart : (r : ℕ) → r < 4 → r ≡ thread → ⊥
        apart r lt is = omega arith

    nothing : ((m % 9 == 8) ≡ true) × (m % 9 ≡ 8) ⊎ ((m % 9 == 8) ≡ false) × (m % 9 ≡ 8 → ⊥) → patches_by thread 0 (generated_act m) ≡ []
    nothing (inl same) = ap (patches_by thread 0) (tick_there m same.1)
    nothing (inr other) =
        ap (patches_by thread 0) (write_there m other.0) ∙ by_thread thread (writes_before m)
        ∙ ap (λ (b : Bool). cond b (patch_by (writes_before m % 4) (writes_before m / 4) ∷ []) []) (no_write (writes_before m))

-- ---- ticks

tick_more : (m : ℕ) → m / 9 + cond (is_tick (generated_act m)) 1 0 ≡ (m + 1) / 9
tick_more m =
    elim (eqb_tells (m % 9) 8) [
      | inl same ↦ ap (λ (a : Act). m / 9 + cond (is_tick a) 1 0) (tick_there m same.1) ∙ last m same.1
      | inr other ↦ ap (λ (a : Act). m / 9 + cond (is_tick a) 1 0) (write_there m other.0 ∙ write_is (writes_before m)) ∙ earlier m other.1
    ]
  where
    last : (k : ℕ) → k % 9 ≡ 8 → k / 9 + 1 ≡ (k + 1) / 9
    last k is = omega arith

    earlier : (k : ℕ) → (k % 9 ≡ 8 → ⊥) → k / 9 + 0 ≡ (k + 1) / 9
    earlier k other = let below : k % 9 < 8 = below_last (k % 9) (rest k) other in omega (arith, below)
      where
        rest : (n : ℕ) → n % 9 < 9
        rest n = omega arith

        below_last : (r : ℕ) → r < 9 → (r ≡ 8 → ⊥) → r < 8
        below_last r lt apart = omega arith

pub ticks_are : (m : ℕ) → ticks_in (work m) ≡ m / 9
ticks_are zero = refl
ticks_are (suc m) =
    let more : m + 1 ≡ suc m = omega arith in
    let none : 0 + m ≡ m = omega arith in
    subst (λ (k : ℕ). ticks_in (work k) ≡ k / 9) more
    (sum_by-map-range_with_len_more (λ (l : Line). cond (is_tick l.act) 1 0) generated_line 0 m m none
    ∙ ap (λ (n : ℕ). n + cond (is_tick (generated_act m)) 1 0) (ticks_are m)
    ∙ tick_more m)
