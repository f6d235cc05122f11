-- The threads that the versions of all threads fill in are those of the history.
use Rattle.std.proofs.Common.{◌≡◌, ◌≢◌, ◌⊎◌, inl, inr, ◌≤◌, ℕ, zero, suc, Some, ◌+◌, ◌-◌, ◌<◌, Bool, true, false, eqb, cond, List, [], ◌∷◌, ◌++◌, length, get_or, map, set, take, replicate, refl, sym, ap, ◌∙◌, subst, arith, length-append, append_assoc}
use Rattle.std.specs.Prelude.{nat_lt, All, option_map, slice_get}
use Rattle.std.proofs.lemmas.List.{append-nil, get_or-map, length-map, length-replicate, length_push, map_more, length-take-le}
use Rattle.std.proofs.lemmas.List.Concat.{flat_map-append}
use Rattle.std.proofs.lemmas.List.Elements.{All-tail, All-head}
use Rattle.std.proofs.lemmas.Bool.Decides.{eqb_tells, nat_tests}
use Rattle.pubsub_model.specs.History.{places}
use Rattle.app_threads.specs.declared.done.Done.{Done}
use Rattle.app_threads.specs.Items.{only_at, versions_in}
use Rattle.version_cell.specs.Known.{Known}
use Rattle.version_cell.specs.Sets.{pass_at}
use Rattle.ps_report.specs.declared.closed.History.{History}
use Rattle.pubsub_engine.specs.Authored.{AreHistories, HasThreads, IsAuthored, filled}

-- the versions of a data set that each thread was answered
abbrev pub answers_of : ℕ → List Done → List (List ℕ)
answers_of data_set dones = map (λ done. versions_in data_set done.versions) dones

-- the threads, from one on, at the versions that they were answered
abbrev pub filled_by : ℕ → List (List ℕ) → List ℕ → List ℕ
filled_by t [] threads = threads
filled_by t (versions ∷ answers) threads = filled_by (t + 1) answers (filled t versions threads)

replaced : ℕ → List ℕ → List ℕ → List ℕ
replaced t [] ms = ms
replaced t (u ∷ us) [] = []
replaced t (u ∷ us) (m ∷ ms) = cond (eqb u t) t m ∷ replaced t us ms

-- those below t are filled in
partly : ℕ → List ℕ → List ℕ → List ℕ
partly t [] ms = ms
partly t (u ∷ us) [] = []
partly t (u ∷ us) (m ∷ ms) = cond (nat_lt u t) u m ∷ partly t us ms

set-there : (pre ms : List ℕ) (m t : ℕ) → set (pre ++ m ∷ ms) (length pre) t ≡ (pre ++ t ∷ []) ++ ms
set-there [] ms m t = refl
set-there (x ∷ pre) ms m t = ap (λ (l : List ℕ). x ∷ l) (set-there pre ms m t)

fill_places : (t : ℕ) (pre us ms : List ℕ) → length us ≡ length ms → filled t (places t (length pre) us) (pre ++ ms) ≡ pre ++ replaced t us ms
unfolding replaced
fill_places t pre [] ms e = refl
fill_places t pre (u ∷ us) [] e = absurd (omega arith)
fill_places t pre (u ∷ us) (m ∷ ms) e = go (eqb u t)
    (fill_places t (pre ++ t ∷ []) us ms (omega arith)) (fill_places t (pre ++ m ∷ []) us ms (omega arith))
  where
    long : (x : ℕ) → length (pre ++ x ∷ []) ≡ length pre + 1
    long x = length-append pre (x ∷ [])

    back : length pre + 1 - 1 ≡ length pre
    back = omega arith

    go : (b : Bool) → filled t (places t (length (pre ++ t ∷ [])) us) ((pre ++ t ∷ []) ++ ms) ≡ (pre ++ t ∷ []) ++ replaced t us ms
        → filled t (places t (length (pre ++ m ∷ [])) us) ((pre ++ m ∷ []) ++ ms) ≡ (pre ++ m ∷ []) ++ replaced t us ms
        → filled t (cond b ((length pre + 1) ∷ places t (length pre + 1) us) (places t (length pre + 1) us)) (pre ++ m ∷ ms) ≡ pre ++ (cond b t m ∷ replaced t us ms)
    go true h _ =
        ap (λ (l : List ℕ). filled t (places t (length pre + 1) us) l) (ap (λ (k : ℕ). set (pre ++ m ∷ ms) k t) back ∙ set-there pre ms m t)
        ∙ ap (λ (k : ℕ). filled t (places t k us) ((pre ++ t ∷ []) ++ ms)) (sym (long t)) ∙ h ∙ append_assoc pre (t ∷ []) (replaced t us ms)
    go false _ h =
        ap (λ (l : List ℕ). filled t (places t (length pre + 1) us) l) (sym (append_assoc pre (m ∷ []) ms))
        ∙ ap (λ (k : ℕ). filled t (places t k us) ((pre ++ m ∷ []) ++ ms)) (sym (long m)) ∙ h ∙ append_assoc pre (m ∷ []) (replaced t us ms)

one_more : (t u m : ℕ) → cond (eqb u t) t (cond (nat_lt u t) u m) ≡ cond (nat_lt u (t + 1)) u m
one_more t u m = grind (arith, nat_tests)

next_partly : (t : ℕ) (us ms : List ℕ) → replaced t us (partly t us ms) ≡ partly (t + 1) us ms
unfolding replaced partly
next_partly t [] ms = refl
next_partly t (u ∷ us) [] = refl
next_partly t (u ∷ us) (m ∷ ms) = λ i. one_more t u m i ∷ next_partly t us ms i

length-partly : (t : ℕ) (us ms : List ℕ) → length us ≡ length ms → length (partly t us ms) ≡ length us
unfolding partly
length-partly t [] ms e = sym e
length-partly t (u ∷ us) [] e = absurd (omega arith)
length-partly t (u ∷ us) (m ∷ ms) e = ap suc (length-partly t us ms (omega arith))

not_below : (u m : ℕ) → cond (nat_lt u 0) u m ≡ m
not_below u m = grind (arith, nat_tests)

none_partly : (us ms : List ℕ) → length us ≡ length ms → partly 0 us ms ≡ ms
unfolding partly
none_partly [] ms e = refl
none_partly (u ∷ us) [] e = absurd (omega arith)
none_partly (u ∷ us) (m ∷ ms) e = let rest = none_partly us ms (omega arith) in λ i. not_below u m i ∷ rest i

all_partly : (t : ℕ) (us ms : List ℕ) → length us ≡ length ms → All (λ (u : ℕ). u < t) us → partly t us ms ≡ us
unfolding partly
all_partly t [] [] e h = refl
all_partly t [] (m ∷ ms) e h = absurd (omega arith)
all_partly t (u ∷ us) [] e h = absurd (omega arith)
all_partly t (u ∷ us) (m ∷ ms) e h =
    let lt = All-head (λ (x : ℕ). x < t) u us h in
    let yes_it : nat_lt u t ≡ true = grind (arith, nat_tests) in
    let rest = all_partly t us ms (omega arith) (All-tail (λ (x : ℕ). x < t) u us h) in
    λ i. cond (yes_it i) u m ∷ rest i

all_filled : (t : ℕ) (us ms : List ℕ) (answers : List (List ℕ)) → length us ≡ length ms
    → ((i : ℕ) → i < length answers → get_or answers i [] ≡ places (t + i) 0 us) → filled_by t answers (partly t us ms) ≡ partly (t + length answers) us ms
all_filled t us ms [] e h = ap (λ (k : ℕ). partly k us ms) (omega arith)
all_filled t us ms (versions ∷ answers) e h =
    let here : versions ≡ places t 0 us = h 0 (omega arith) ∙ ap (λ (k : ℕ). places k 0 us) (omega arith) in
    let step : filled t versions (partly t us ms) ≡ partly (t + 1) us ms =
    ap (λ (vs : List ℕ). filled t vs (partly t us ms)) here ∙ fill_places t [] us (partly t us ms) (sym (length-partly t us ms e)) ∙ next_partly t us ms in
    ap (λ (l : List ℕ). filled_by (t + 1) answers l) step
    ∙ all_filled (t + 1) us ms answers e (λ i lt. h (suc i) (omega arith) ∙ ap (λ (k : ℕ). places k 0 us) (omega arith))
    ∙ ap (λ (k : ℕ). partly k us ms) (omega arith)

pub authors_are : (data_set : ℕ) (dones : List Done) (threads : List ℕ) (n : ℕ) → IsAuthored data_set dones threads → length threads ≡ n
    → filled_by 0 (answers_of data_set dones) (replicate n 0) ≡ threads
authors_are data_set dones threads n a e =
    ap (λ (l : List ℕ). filled_by 0 (answers_of data_set dones) l) (sym (none_partly threads (replicate n 0) len))
    ∙ all_filled 0 threads (replicate n 0) (answers_of data_set dones) len placed
    ∙ all_partly (0 + length (answers_of data_set dones)) threads (replicate n 0) len (subst (λ (k : ℕ). All (λ (u : ℕ). u < k) threads) (omega (arith, count)) a.known)
  where
    len : length threads ≡ length (replicate {A = ℕ} n 0)
    len = e ∙ sym (length-replicate {A = ℕ} n 0)

    count : length (answers_of data_set dones) ≡ length dones
    count = length-map dones (λ (done : Done). versions_in data_set done.versions)

    placed : (i : ℕ) → i < length (answers_of data_set dones) → get_or (answers_of data_set dones) i [] ≡ places (0 + i) 0 threads
    placed i low = there dones a.placed i (omega (arith, low, count)) ∙ ap (λ (k : ℕ). places k 0 threads) (omega arith)
      where
        there : (ds : List Done) → ((t : ℕ) → t < length ds → (d : Done) → versions_in data_set (get_or ds t d).versions ≡ places t 0 threads)
            → (t : ℕ) → t < length ds → get_or (answers_of data_set ds) t [] ≡ places t 0 threads
        there [] placed t within = absurd (omega (arith, within))
        there (d ∷ ds) placed t within = get_or-map (λ (done : Done). versions_in data_set done.versions) (d ∷ ds) t d [] within ∙ placed t within d

-- ---- one more version, one more thread

filled-append : (t : ℕ) (vs ws l : List ℕ) → filled t (vs ++ ws) l ≡ filled t ws (filled t vs l)
filled-append t [] ws l = refl
filled-append t (v ∷ vs) ws l = filled-append t vs ws (set l (v - 1) t)

versions-push : (data_set : ℕ) (vs : List (ℕ × ℕ)) (v : ℕ × ℕ) → versions_in data_set (vs ++ v ∷ []) ≡ versions_in data_set vs ++ only_at v.0 data_set v.1
versions-push data_set vs v =
    flat_map-append (λ (version : ℕ × ℕ). only_at version.0 data_set version.1) vs (v ∷ []) ∙ ap (λ (l : List ℕ). versions_in data_set vs ++ l) (append-nil (only_at v.0 data_set v.1))

-- a version of the data set is filled in
pub filled-more : (t data_set : ℕ) (vs : List (ℕ × ℕ)) (v : ℕ × ℕ) (l : List ℕ) → v.0 ≡ data_set
    → filled t (versions_in data_set (vs ++ v ∷ [])) l ≡ set (filled t (versions_in data_set vs) l) (v.1 - 1) t
filled-more t data_set vs v l is =
    let yes_it : eqb v.0 data_set ≡ true = grind (arith, nat_tests) in
    ap (λ (ws : List ℕ). filled t ws l) (versions-push data_set vs v)
    ∙ filled-append t (versions_in data_set vs) (only_at v.0 data_set v.1) l
    ∙ ap (λ (b : Bool). filled t (cond b (v.1 ∷ []) []) (filled t (versions_in data_set vs) l)) yes_it

-- one of another isn't
pub filled-same : (t data_set : ℕ) (vs : List (ℕ × ℕ)) (v : ℕ × ℕ) (l : List ℕ) → (v.0 ≡ data_set → ⊥)
    → filled t (versions_in data_set (vs ++ v ∷ [])) l ≡ filled t (versions_in data_set vs) l
filled-same t data_set vs v l is =
    let not_it : eqb v.0 data_set ≡ false = grind (arith, nat_tests) in
    ap (λ (ws : List ℕ). filled t ws l) (versions-push data_set vs v)
    ∙ filled-append t (versions_in data_set vs) (only_at v.0 data_set v.1) l
    ∙ ap (λ (b : Bool). filled t (cond b (v.1 ∷ []) []) (filled t (versions_in data_set vs) l)) not_it

pub filled_by-push : (t : ℕ) (answers : List (List ℕ)) (versions l : List ℕ) → filled_by t (answers ++ versions ∷ []) l ≡ filled (t + length answers) versions (filled_by t answers l)
filled_by-push t [] versions l = ap (λ (k : ℕ). filled k versions l) (omega arith)
filled_by-push t (vs ∷ answers) versions l =
    filled_by-push (t + 1) answers versions (filled t vs l) ∙ ap (λ (k : ℕ). filled k versions (filled_by (t + 1) answers (filled t vs l))) (omega arith)

-- the next thread is filled in
pub filled_by-more : (data_set k : ℕ) (dones : List Done) (done : Done) (l : List ℕ) → k < length dones
    → filled_by 0 (answers_of data_set (take (k + 1) dones)) l ≡ filled k (versions_in data_set (get_or dones k done).versions) (filled_by 0 (answers_of data_set (take k dones)) l)
filled_by-more data_set k dones done l low =
    ap (λ (ws : List (List ℕ)). filled_by 0 ws l) (map_more f dones k done low)
    ∙ filled_by-push 0 (answers_of data_set (take k dones)) (f (get_or dones k done)) l
    ∙ ap (λ (j : ℕ). filled j (f (get_or dones k done)) (filled_by 0 (answers_of data_set (take k dones)) l)) long
  where
    f : Done → List ℕ
    f d = versions_in data_set d.versions

    long : 0 + length (answers_of data_set (take k dones)) ≡ k
    long = omega (arith, length-map (take k dones) f, length-take-le k dones (omega (arith, low)))

-- ---- histories

get-left : {X : Type 0} (xs ys : List X) (k : ℕ) → k < length xs → slice_get (xs ++ ys) k ≡ slice_get xs k
get-left [] ys k low = absurd (omega (arith, low))
get-left (x ∷ xs) ys zero low = refl
get-left (x ∷ xs) ys (suc k) low = get-left xs ys k (omega (arith, low))

get-last : {X : Type 0} (xs : List X) (y : X) (k : ℕ) → length xs ≡ k → slice_get (xs ++ y ∷ []) k ≡ Some y
get-last [] y zero is = refl
get-last [] y (suc k) is = absurd (omega (arith, is))
get-last (x ∷ xs) y zero is = absurd (omega (arith, is))
get-last (x ∷ xs) y (suc k) is = get-last xs y k (omega (arith, is))

-- the next data set's history
pub histories-more : (passes : List Known) (dones : List Done) (n : ℕ) (histories : List History) (history : History) → AreHistories passes dones n histories
    → (length dones ≤ 256 → (threads : List ℕ) → IsAuthored n dones threads → length threads ≡ length (pass_at passes n).seen → history.threads ≡ threads)
    → AreHistories passes dones (n + 1) (histories ++ history ∷ [])
histories-more passes dones n histories history so_far own = record {
  count = length_push histories history ∙ ap (λ k. k + 1) so_far.count;
  named = λ few set threads low authored long. by_case few set threads low authored long (eqb_tells set n);
}
  where
    threads_are : History → List ℕ
    threads_are h = h.threads

    by_case : length dones ≤ 256 → (data_set : ℕ) (threads : List ℕ) → data_set < n + 1 → IsAuthored data_set dones threads → length threads ≡ length (pass_at passes data_set).seen
        → (eqb data_set n ≡ true) × (data_set ≡ n) ⊎ (eqb data_set n ≡ false) × (data_set ≢ n) → HasThreads (histories ++ history ∷ []) data_set threads
    by_case few data_set threads low authored long (inl same) =
        ap (option_map threads_are) (get-last histories history data_set (so_far.count ∙ sym same.1))
        ∙ ap (λ (l : List ℕ). Some l) (own few threads (subst (λ k. IsAuthored k dones threads) same.1 authored) (long ∙ ap (λ k. length (pass_at passes k).seen) same.1))
    by_case few data_set threads low authored long (inr other) =
        let before : data_set < n = omega (arith, low, other.1) in
        ap (option_map threads_are) (get-left histories (history ∷ []) data_set (omega (arith, so_far.count, before)))
        ∙ so_far.named few data_set threads before authored long
