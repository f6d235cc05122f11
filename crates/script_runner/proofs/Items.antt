-- A thread's items are the writes and watches that the lines of a script have for it.
use Rattle.std.proofs.Common.{◌≡◌, ℕ, suc, ◌+◌, ◌≤◌, ◌==◌, Bool, true, false, ◌&&◌, cond, List, [], ◌∷◌, ◌++◌, length, refl, ◌∙◌, arith, Some}
use Rattle.std.specs.Prelude.{All, count_by, slice_get}
use Rattle.std.proofs.lemmas.List.{append-nil, length-append}
use Rattle.std.proofs.lemmas.List.Concat.{flat_map-append}
use Rattle.std.proofs.lemmas.List.Elements.{All-append, All-nil}
use Rattle.std.proofs.lemmas.List.Sums.{sum_by-cons}
use Rattle.app_threads.specs.declared.item.Item.{Item}
use Rattle.app_threads.specs.declared.item.Item.TheVariants as items
use Rattle.app_threads.specs.Items.{patch_of, patches_in, watch_of, watches_in}
use Rattle.ps_script.specs.declared.script.Act.{Act}
use Rattle.ps_script.specs.declared.script.Act.TheVariants as act
use Rattle.ps_script.specs.declared.script.Line.{Line}
use Rattle.ps_script.specs.Sessions.{is_write, patches_by, patches_of, writes_in}
use Rattle.ps_script.specs.Sound.{is_some_write, is_watch}
use Rattle.script_runner.specs.Lists.{item_by, items_by, watch_by, watches_by}

-- ---- the patches of a data set

act-patches : (thread set : ℕ) (a : Act) → patches_in set (item_by thread a) ≡ patches_by thread set a
act-patches thread set (act.Write writer other patch) = go (writer == thread)
  where
    go : (b : Bool) → patches_in set (cond b (items.Write other patch ∷ []) []) ≡ cond (b && other == set) (patch ∷ []) []
    go true = append-nil (cond (other == set) (patch ∷ []) [])
    go false = refl
act-patches thread set (act.Watch watcher reader times) = go (watcher == thread)
  where
    go : (b : Bool) → patches_in set (cond b (items.Watch reader times ∷ []) []) ≡ []
    go true = refl
    go false = refl
act-patches thread set (act.Tick ms) = refl
act-patches thread set (act.Enable id) = refl
act-patches thread set (act.Disable id) = refl
act-patches thread set (act.Fated k fate) = refl
act-patches thread set (act.Append other) = refl

pub patches-are : (thread set : ℕ) (lines : List Line) → patches_in set (items_by thread lines) ≡ patches_of thread set lines
patches-are thread set [] = refl
patches-are thread set (line ∷ lines) =
    flat_map-append (patch_of set) (item_by thread line.act) (items_by thread lines) ∙ (λ i. act-patches thread set line.act i ++ patches-are thread set lines i)

-- ---- the watches

act-watches : (thread : ℕ) (a : Act) → watches_in (item_by thread a) ≡ watch_by thread a
act-watches thread (act.Write writer other patch) = go (writer == thread)
  where
    go : (b : Bool) → watches_in (cond b (items.Write other patch ∷ []) []) ≡ []
    go true = refl
    go false = refl
act-watches thread (act.Watch watcher reader times) = go (watcher == thread)
  where
    go : (b : Bool) → watches_in (cond b (items.Watch reader times ∷ []) []) ≡ cond b ((reader, times) ∷ []) []
    go true = refl
    go false = refl
act-watches thread (act.Tick ms) = refl
act-watches thread (act.Enable id) = refl
act-watches thread (act.Disable id) = refl
act-watches thread (act.Fated k fate) = refl
act-watches thread (act.Append other) = refl

pub watches-are : (thread : ℕ) (lines : List Line) → watches_in (items_by thread lines) ≡ watches_by thread lines
watches-are thread [] = refl
watches-are thread (line ∷ lines) =
    flat_map-append watch_of (item_by thread line.act) (items_by thread lines) ∙ (λ i. act-watches thread line.act i ++ watches-are thread lines i)

-- ---- how many there are

abbrev one_if : Bool → ℕ
one_if b = cond b 1 0

act-count : (thread set : ℕ) (a : Act) → length (patches_by thread set a) ≡ one_if (is_write thread set a)
act-count thread set (act.Write writer other patch) = go (writer == thread && other == set)
  where
    go : (b : Bool) → length (cond b (patch ∷ []) []) ≡ one_if b
    go true = refl
    go false = refl
act-count thread set (act.Watch watcher reader times) = refl
act-count thread set (act.Tick ms) = refl
act-count thread set (act.Enable id) = refl
act-count thread set (act.Disable id) = refl
act-count thread set (act.Fated k fate) = refl
act-count thread set (act.Append other) = refl

-- each patch is a write
pub patches-count : (thread set : ℕ) (lines : List Line) → length (patches_of thread set lines) ≡ writes_in thread set lines
patches-count thread set [] = refl
patches-count thread set (line ∷ lines) =
    let both = length-append (patches_by thread set line.act) (patches_of thread set lines) in
    let all = sum_by-cons (λ (l : Line). one_if (is_write thread set l.act)) line lines in
    let here = act-count thread set line.act in
    let later = patches-count thread set lines in
    omega arith

act-few : (thread : ℕ) (a : Act) → length (item_by thread a) ≤ one_if (is_some_write a) + one_if (is_watch a)
act-few thread (act.Write writer other patch) = go (writer == thread)
  where
    go : (b : Bool) → length (cond b (items.Write other patch ∷ []) []) ≤ 1 + 0
    go true = omega arith
    go false = omega arith
act-few thread (act.Watch watcher reader times) = go (watcher == thread)
  where
    go : (b : Bool) → length (cond b (items.Watch reader times ∷ []) []) ≤ 0 + 1
    go true = omega arith
    go false = omega arith
act-few thread (act.Tick ms) = omega arith
act-few thread (act.Enable id) = omega arith
act-few thread (act.Disable id) = omega arith
act-few thread (act.Fated k fate) = omega arith
act-few thread (act.Append other) = omega arith

-- each item is a write or a watch
pub items-few : (thread : ℕ) (lines : List Line)
    → length (items_by thread lines) ≤ count_by (λ (line : Line). is_some_write line.act) lines + count_by (λ (line : Line). is_watch line.act) lines
items-few thread [] = omega arith
items-few thread (line ∷ lines) =
    let both = length-append (item_by thread line.act) (items_by thread lines) in
    let writes = sum_by-cons (λ (l : Line). one_if (is_some_write l.act)) line lines in
    let watches = sum_by-cons (λ (l : Line). one_if (is_watch l.act)) line lines in
    let here = act-few thread line.act in
    let later = items-few thread lines in
    omega arith

-- ---- what holds of all items

pub items-all : (P : Item → Type 0) (thread : ℕ) (lines : List Line) → ((k : ℕ) (line : Line) → slice_get lines k ≡ Some line → All P (item_by thread line.act))
    → All P (items_by thread lines)
items-all P thread [] each = All-nil P
items-all P thread (line ∷ lines) each =
    All-append P (item_by thread line.act) (items_by thread lines) (each 0 line refl) (items-all P thread lines (λ k l at. each (suc k) l at))
