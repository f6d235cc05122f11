-- The looks of all threads, in order.
use Rattle.std.proofs.Common.{◌≡◌, refl, sym, ap, ◌∙◌, subst, arith, ℕ, zero, suc, ◌+◌, ◌<◌, ◌≤◌, List, [], ◌∷◌, ◌++◌, length, get_or, map, take}
use Rattle.std.specs.Prelude.{All}
use Rattle.std.specs.List.Sorted.{IsNonDecreasing}
use Rattle.std.proofs.lemmas.List.{take_more, append-nil}
use Rattle.std.proofs.lemmas.List.Concat.{flat_map-append}
use Rattle.std.proofs.lemmas.List.Elements.{All-nil, All-cons, All-head, All-tail, All-append, All-map, All-weaker}
use Rattle.ps_report.specs.declared.closed.WatchEnd.{WatchEnd}
use Rattle.app_threads.specs.declared.done.Done.{Done}
use Rattle.app_threads.specs.declared.done.Looked.{Looked}
use Rattle.pubsub_engine.specs.Authored.{AreInOrder, byte_of, watch_of, watches_in_bytes, watches_of}

-- one thread more
pub watches-more : (dones : List Done) (k : ℕ) (done : Done) → k < length dones → done ≡ get_or dones k done
    → watches_in_bytes (take (k + 1) dones) ≡ watches_in_bytes (take k dones) ++ map (watch_of (byte_of done.list)) done.looks
watches-more dones k done low at =
    ap watches_in_bytes (take_more dones k done low)
    ∙ flat_map-append f (take k dones) (get_or dones k done ∷ [])
    ∙ ap (λ (l : List WatchEnd). watches_in_bytes (take k dones) ++ l) (append-nil (f (get_or dones k done)) ∙ ap f (sym at))
  where
    f : Done → List WatchEnd
    f d = map (watch_of (byte_of d.list)) d.looks

-- ---- in their order

-- the threads count from a number on
abbrev AreFrom : ℕ → List Done → Type 0
AreFrom a dones = (t : ℕ) → t < length dones → (d : Done) → (get_or dones t d).list ≡ a + t

next-from : (a : ℕ) (done : Done) (dones : List Done) → AreFrom a (done ∷ dones) → AreFrom (a + 1) dones
next-from a done dones from t low d = from (suc t) (omega (arith, low)) d ∙ omega arith

head-from : (a : ℕ) (done : Done) (dones : List Done) → AreFrom a (done ∷ dones) → done.list ≡ a
head-from a done dones from = from 0 (omega arith) done ∙ omega arith

pub same-watches : (dones : List Done) → AreInOrder dones → watches_in_bytes dones ≡ watches_of dones
same-watches dones order = go 0 dones (omega (arith, order.few)) (λ t low d. order.numbers t low d ∙ omega arith)
  where
    go : (a : ℕ) (ds : List Done) → a + length ds ≤ 256 → AreFrom a ds → watches_in_bytes ds ≡ watches_of ds
    go a [] few from = refl
    go a (d ∷ ds) few from =
        let is : d.list ≡ a = head-from a d ds from in
        let whole : byte_of d.list ≡ d.list = omega (arith, is, few) in
        ap (λ (thread : ℕ). map (watch_of thread) d.looks ++ watches_in_bytes ds) whole
        ∙ ap (λ (l : List WatchEnd). map (watch_of d.list) d.looks ++ l) (go (a + 1) ds (omega (arith, few)) (next-from a d ds from))

abbrev threads_in : List WatchEnd → List ℕ
threads_in ends = map (λ (end : WatchEnd). end.thread) ends

rising-cons : (x : ℕ) (xs : List ℕ) → All (λ y. x ≤ y) xs → IsNonDecreasing xs → IsNonDecreasing (x ∷ xs)
rising-cons x xs least rising zero zero d le low = omega arith
rising-cons x xs least rising zero (suc j) d le low = least j d (omega (arith, low))
rising-cons x xs least rising (suc i) zero d le low = absurd (omega (arith, le))
rising-cons x xs least rising (suc i) (suc j) d le low = rising i j d (omega (arith, le)) (omega (arith, low))

rising-block : (thread : ℕ) (looks : List Looked) (rest : List WatchEnd) → All (λ y. thread ≤ y) (threads_in rest) → IsNonDecreasing (threads_in rest)
    → All (λ y. thread ≤ y) (threads_in (map (watch_of thread) looks ++ rest)) × IsNonDecreasing (threads_in (map (watch_of thread) looks ++ rest))
rising-block thread [] rest least rising = (least, rising)
rising-block thread (look ∷ looks) rest least rising =
    let more = rising-block thread looks rest least rising in (
      All-cons (λ y. thread ≤ y) thread (threads_in (map (watch_of thread) looks ++ rest)) (omega arith) more.0,
      rising-cons thread (threads_in (map (watch_of thread) looks ++ rest)) more.0 more.1,
    )

rising-from : (a : ℕ) (dones : List Done) → AreFrom a dones → All (λ y. a ≤ y) (threads_in (watches_of dones)) × IsNonDecreasing (threads_in (watches_of dones))
rising-from a [] from = (All-nil (λ y. a ≤ y), λ i j d le low. absurd (omega (arith, low)))
rising-from a (d ∷ ds) from =
    let rest = rising-from (a + 1) ds (next-from a d ds from) in
    let is : a ≡ d.list = sym (head-from a d ds from) in
    subst (λ (thread : ℕ). All (λ y. a ≤ y) (threads_in (map (watch_of thread) d.looks ++ watches_of ds)) × IsNonDecreasing (threads_in (map (watch_of thread) d.looks ++ watches_of ds))) is
    (rising-block a d.looks (watches_of ds) (All-weaker (λ y. a + 1 ≤ y) (λ y. a ≤ y) (λ y le. omega (arith, le)) (threads_in (watches_of ds)) rest.0) rest.1)

pub rising : (dones : List Done) → AreInOrder dones → IsNonDecreasing (threads_in (watches_of dones))
rising dones order = (rising-from 0 dones (λ t low d. order.numbers t low d ∙ omega arith)).1

-- ---- at their readers

pub watched-readers : (count : ℕ) (dones : List Done) → All (λ (done : Done). All (λ (looked : Looked). looked.reader < count) done.looks) dones
    → All (λ (end : WatchEnd). end.reader < count) (watches_in_bytes dones)
watched-readers count [] looks = All-nil (λ (end : WatchEnd). end.reader < count)
watched-readers count (done ∷ dones) looks =
    All-append (λ (end : WatchEnd). end.reader < count) (map (watch_of (byte_of done.list)) done.looks) (watches_in_bytes dones)
    (All-map (λ (end : WatchEnd). end.reader < count) (watch_of (byte_of done.list)) done.looks
    (All-head (λ (done : Done). All (λ (looked : Looked). looked.reader < count) done.looks) done dones looks))
    (watched-readers count dones (All-tail (λ (done : Done). All (λ (looked : Looked). looked.reader < count) done.looks) done dones looks))
