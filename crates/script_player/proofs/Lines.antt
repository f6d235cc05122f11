-- What one more line, or one more entry, adds to what is made of lists of them.
use Rattle.std.proofs.Common.{◌≡◌, ◌≢◌, ℕ, ◌+◌, Bool, true, false, eqb, cond, not, ◌&&◌, ◌||◌, List, [], ◌∷◌, ◌++◌, length, reverse, refl, sym, ap, ◌∙◌, arith, eq-eqb, ne_eqb}
use Rattle.std.specs.Prelude.{count_by}
use Rattle.std.proofs.lemmas.List.{append-nil, map-append, reverse-append, length-map}
use Rattle.std.proofs.lemmas.List.Concat.{flat_map-append}
use Rattle.std.proofs.lemmas.List.Sums.{sum_by-cons, sum_by-append, fold_push}
use Rattle.dataset_meta.specs.Metas.{MetaData}
use Rattle.row_words.specs.declared.patch.Patch.{Patch}
use Rattle.row_words.specs.Patches.{patched_words}
use Rattle.pubsub_model.specs.History.{places}
use Rattle.version_cell.specs.declared.rule.Entry.{Entry}
use Rattle.version_cell.specs.Histories.{entry, row_after}
use Rattle.ps_script.specs.declared.script.Act.{Act}
use Rattle.ps_script.specs.declared.script.Act.TheVariants as act
use Rattle.ps_script.specs.declared.script.Line.{Line}
use Rattle.ps_script.specs.Sessions.{enabled_by, is_enabled}
use Rattle.pubsub_states.specs.Changes.{Change, is_enabled as is_enabled_after}
use Rattle.app_threads.specs.Items.{versions_in}
use Rattle.app_threads.specs.Marks.{authors}
use Rattle.script_player.specs.Playing.{log_after}
use Rattle.script_player.specs.Player.{switches_by, with_switch}
use Rattle.script_player.specs.Sizes.{appended_by, appended_sets}

-- ---- counts

pub reverse-cons : {A : Type 0} (x : A) (xs : List A) → reverse (x ∷ xs) ≡ reverse xs ++ x ∷ []
reverse-cons x xs = reverse-append (x ∷ []) xs

pub count_by-cons : {A : Type 0} (p : A → Bool) (x : A) (xs : List A) → count_by p (x ∷ xs) ≡ cond (p x) 1 0 + count_by p xs
count_by-cons {A} p x xs = sum_by-cons (λ (y : A). cond (p y) 1 0) x xs

pub count_by-append : {A : Type 0} (p : A → Bool) (xs ys : List A) → count_by p (xs ++ ys) ≡ count_by p xs + count_by p ys
count_by-append {A} p xs ys = sum_by-append (λ (y : A). cond (p y) 1 0) xs ys

pub count_by-reverse : {A : Type 0} (p : A → Bool) (xs : List A) → count_by p (reverse xs) ≡ count_by p xs
count_by-reverse p [] = refl
count_by-reverse {A} p (x ∷ xs) =
    let e : count_by p (reverse (x ∷ xs)) ≡ count_by p (reverse xs ++ x ∷ []) = ap (λ (l : List A). count_by p l) (reverse-cons x xs) in
    omega (arith, e, count_by-append p (reverse xs) (x ∷ []), count_by-cons p x xs, count_by-cons p x [], count_by-reverse p xs)

-- ---- a history with one more entry

pub authors-push : (log : List Entry) (e : Entry) → authors (log ++ e ∷ []) ≡ authors log ++ e.author ∷ []
authors-push log e = map-append (λ (x : Entry). x.author) log (e ∷ [])

pub length-authors : (log : List Entry) → length (authors log) ≡ length log
length-authors log = length-map log (λ (e : Entry). e.author)

pub places-append : (t n : ℕ) (us vs : List ℕ) → places t n (us ++ vs) ≡ places t n us ++ places t (n + length us) vs
places-append t n [] vs = ap (λ (k : ℕ). places t k vs) (omega arith)
places-append t n (u ∷ us) vs = go (eqb u t) (places-append t (n + 1) us vs ∙ ap (λ (k : ℕ). places t (n + 1) us ++ places t k vs) (omega arith))
  where
    go : (b : Bool) → places t (n + 1) (us ++ vs) ≡ places t (n + 1) us ++ places t (n + length (u ∷ us)) vs
        → cond b ((n + 1) ∷ places t (n + 1) (us ++ vs)) (places t (n + 1) (us ++ vs))
        ≡ cond b ((n + 1) ∷ places t (n + 1) us) (places t (n + 1) us) ++ places t (n + length (u ∷ us)) vs
    go true h = ap (λ (l : List ℕ). (n + 1) ∷ l) h
    go false h = h

pub places_push : (t : ℕ) (us : List ℕ) → places t 0 (us ++ t ∷ []) ≡ places t 0 us ++ (length us + 1) ∷ []
places_push t us =
    places-append t 0 us (t ∷ []) ∙ ap (λ (b : Bool). places t 0 us ++ cond b ((0 + length us + 1) ∷ []) []) (eq-eqb t t refl) ∙ ap (λ (k : ℕ). places t 0 us ++ k ∷ []) (omega arith)

pub places_push_other : (t u : ℕ) (us : List ℕ) → u ≢ t → places t 0 (us ++ u ∷ []) ≡ places t 0 us
places_push_other t u us ne =
    places-append t 0 us (u ∷ []) ∙ ap (λ (b : Bool). places t 0 us ++ cond b ((0 + length us + 1) ∷ []) []) (ne_eqb u t ne) ∙ append-nil (places t 0 us)

-- ---- a thread's versions with one more

abbrev version_of_set : ℕ → ℕ × ℕ → List ℕ
version_of_set set version = cond (eqb version.0 set) (version.1 ∷ []) []

pub versions_in-push : (set : ℕ) (versions : List (ℕ × ℕ)) (v : ℕ) → versions_in set (versions ++ (set, v) ∷ []) ≡ versions_in set versions ++ v ∷ []
versions_in-push set versions v =
    flat_map-append (version_of_set set) versions ((set, v) ∷ []) ∙ ap (λ (b : Bool). versions_in set versions ++ (cond b (v ∷ []) [] ++ [])) (eq-eqb set set refl)

pub versions_in-push_other : (set other : ℕ) (versions : List (ℕ × ℕ)) (v : ℕ) → other ≢ set → versions_in set (versions ++ (other, v) ∷ []) ≡ versions_in set versions
versions_in-push_other set other versions v ne =
    flat_map-append (version_of_set set) versions ((other, v) ∷ []) ∙ ap (λ (b : Bool). versions_in set versions ++ (cond b (v ∷ []) [] ++ [])) (ne_eqb other set ne) ∙ append-nil (versions_in set versions)

-- ---- what lines write

abbrev pub write_line : ℕ → ℕ → ℕ → Patch → Line
write_line at thread set patch = record { at = at; act = act.Write thread set patch }

pub log_after-write : (meta : MetaData) (set at thread : ℕ) (patch : Patch) (lines : List Line)
    → log_after meta set (write_line at thread set patch ∷ lines)
    ≡ log_after meta set lines ++ entry thread (patched_words meta.fields patch (row_after (log_after meta set lines))) ∷ []
log_after-write meta set at thread patch lines =
    let log = log_after meta set lines in
    ap (λ (b : Bool). cond b (log ++ entry thread (patched_words meta.fields patch (row_after log)) ∷ []) log) (eq-eqb set set refl)

pub log_after-write_other : (meta : MetaData) (set other at thread : ℕ) (patch : Patch) (lines : List Line) → other ≢ set
    → log_after meta set (write_line at thread other patch ∷ lines) ≡ log_after meta set lines
log_after-write_other meta set other at thread patch lines ne =
    let log = log_after meta set lines in
    ap (λ (b : Bool). cond b (log ++ entry thread (patched_words meta.fields patch (row_after log)) ∷ []) log) (ne_eqb other set ne)

-- ---- switches

enabled_step : (id : ℕ) (line : Act) (changes : List Change) → is_enabled_after (with_switch changes line) id ≡ enabled_by id (is_enabled_after changes id) line
enabled_step id (act.Write thread set patch) changes = refl
enabled_step id (act.Tick ms) changes = refl
enabled_step id (act.Enable other) changes = go (eqb other id) (is_enabled_after changes id)
  where
    go : (b on : Bool) → cond b true on ≡ (b || on)
    go true on = refl
    go false on = refl
enabled_step id (act.Disable other) changes = go (eqb other id) (is_enabled_after changes id)
  where
    go : (b on : Bool) → cond b false on ≡ (not b && on)
    go true on = refl
    go false on = refl
enabled_step id (act.Fated k fate) changes = refl
enabled_step id (act.Watch thread reader times) changes = refl
enabled_step id (act.Append set) changes = refl

-- a component is enabled behind lines where a tree of components says so behind their switches
pub enabled_behind : (id : ℕ) (lines : List Line) → is_enabled_after (switches_by lines) id ≡ is_enabled id (reverse lines)
enabled_behind id [] = refl
enabled_behind id (line ∷ lines) =
    enabled_step id line.act (switches_by lines) ∙ ap (λ (on : Bool). enabled_by id on line.act) (enabled_behind id lines)
    ∙ sym (fold_push (λ (on : Bool) (l : Line). enabled_by id on l.act) true (reverse lines) line)
    ∙ ap (λ (l : List Line). is_enabled id l) (sym (reverse-cons line lines))

-- ---- appends

pub appended-append : (xs ys : List Line) → appended_sets (xs ++ ys) ≡ appended_sets xs ++ appended_sets ys
appended-append xs ys = flat_map-append (λ (line : Line). appended_by line.act) xs ys

pub appended-cons : (line : Line) (lines : List Line) → appended_sets (reverse (line ∷ lines)) ≡ appended_sets (reverse lines) ++ appended_by line.act
appended-cons line lines =
    ap appended_sets (reverse-cons line lines) ∙ appended-append (reverse lines) (line ∷ [])
    ∙ ap (λ (l : List ℕ). appended_sets (reverse lines) ++ l) (append-nil (appended_by line.act))
