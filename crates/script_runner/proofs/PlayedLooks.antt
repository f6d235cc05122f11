-- The looks of a played script, thread by thread: they are those of its watches, and count ever more stores.
use Rattle.std.proofs.Common.{◌≡◌, ◌⊎◌, inl, inr, ℕ, zero, suc, ◌<◌, ◌≤◌, ◌==◌, Bool, true, false, cond, not, List, [], ◌∷◌, ◌++◌, length, map, replicate, reverse, get_or, refl, sym, ap, ◌∙◌, subst, arith, le_refl, eq-eqb, ne_eqb, Option, Some, None}
use Rattle.std.specs.Prelude.{All, slice_get}
use Rattle.std.specs.List.{AllZip, filter, flat_map, range_with_len}
use Rattle.std.specs.Option.{option_map_or}
use Rattle.std.proofs.lemmas.Bool.{cases_eq}
use Rattle.std.proofs.lemmas.List.{append-nil, length-replicate, map-append, reverse-reverse}
use Rattle.std.proofs.lemmas.List.Concat.{flat_map-append}
use Rattle.std.proofs.lemmas.List.Elements.{All-cons, All-nil, filter-append}
use Rattle.dataset_meta.specs.Rows.{cons_if}
use Rattle.ua_base.specs.Journal.{Entry as LinkEntry}
use Rattle.config_tables.specs.declared.words.NumberingWord.{NumberingWord}
use Rattle.app_threads.specs.declared.done.Looked.{Looked}
use Rattle.app_threads.specs.Looks.{Climbs, IsLooked, NeverFalls, counts_in, counts_of}
use Rattle.ps_report.specs.declared.closed.WatchEnd.{WatchEnd}
use Rattle.ps_script.specs.declared.script.Act.{Act}
use Rattle.ps_script.specs.declared.script.Act.TheVariants as act
use Rattle.ps_script.specs.declared.script.Line.{Line}
use Rattle.reader_group.specs.Members.{seat_at}
use Rattle.reader_group.specs.Settings.{setting_of}
use Rattle.writer_group.specs.declared.sampled.Sampled.{Sampled}
use Rattle.session_model.specs.Closing.{MemberPlace, reader_places}
use Rattle.session_model.specs.Events.{reader_at}
use Rattle.session_model.specs.Steps.{Plan, Step, Tick, Pump}
use Rattle.session_model.specs.Stores.{Store, held_by, is_same, stored_on, stores}
use Rattle.pubsub_engine.specs.Authored.{watch_of}
use Rattle.pubsub_engine.proofs.Pairing.{pairs-push}
use Rattle.script_player.specs.Playing.{IsLineBy, IsPlayed, look_at, samples_after, stores_at}
use Rattle.script_player.specs.Plays.{by_threads}
use Rattle.script_player.proofs.Lines.{reverse-cons}
use Rattle.script_runner.specs.Lists.{watch_by, watches_by}
use Rattle.script_runner.specs.Looks.{AreLooks}

-- ---- stores stay

longer-if : {A : Type 0} (b : Bool) (x : A) (xs : List A) → length xs ≤ length (cons_if b x xs)
longer-if true x xs = omega arith
longer-if false x xs = omega arith

stored-more : (numbering : NumberingWord) (before : List Store) (now : Option Store) → length before ≤ length (stored_on numbering before now)
stored-more numbering before None = omega arith
stored-more numbering [] (Some now) = omega arith
stored-more numbering (last ∷ before) (Some now) = longer-if (not (is_same numbering last now)) now (last ∷ before)

-- a number of each place that is there: where none is, both are none
at-most : {A : Type 0} (f g : A → ℕ) (place : Option A) → ((a : A) → f a ≤ g a) → option_map_or f place 0 ≤ option_map_or g place 0
at-most f g None all = omega arith
at-most f g (Some a) all = all a

pump-more : (p : Plan) (steps : List Step) (reader ms : ℕ) (closing : Bool) (samples : List Sampled) (done : List Bool) (entries : List LinkEntry)
    → stores_at p steps reader ≤ stores_at p (Pump entries ∷ Tick ms closing samples done ∷ steps) reader
pump-more p steps reader ms closing samples done entries =
    at-most (λ (place : MemberPlace). length (stores p.config place.0 place.1 steps))
    (λ (place : MemberPlace). length (stores p.config place.0 place.1 (Pump entries ∷ Tick ms closing samples done ∷ steps))) (slice_get (reader_places p.config) reader)
    (λ place.
    stored-more (seat_at (setting_of p.config place.0).seats place.1).part.numbering (stores p.config place.0 place.1 steps)
    (held_by (reader_at p.config place.0 place.1 (Pump entries ∷ Tick ms closing samples done ∷ steps))))

same-stores : (p : Plan) (earlier steps : List Step) (reader : ℕ) → steps ≡ earlier → stores_at p earlier reader ≤ stores_at p steps reader
same-stores p earlier steps reader same = subst (λ (s : List Step). stores_at p earlier reader ≤ stores_at p s reader) (sym same) (le_refl (stores_at p earlier reader))

line-more : (p : Plan) (before : List Line) (a : Act) (earlier steps : List Step) (looked looks : List WatchEnd) (reader : ℕ) → IsLineBy p before a earlier steps looked looks
    → stores_at p earlier reader ≤ stores_at p steps reader
line-more p before (act.Write thread set patch) earlier steps looked looks reader by = same-stores p earlier steps reader by.0
line-more p before (act.Tick ms) earlier steps looked looks reader ((done, entries, same), _) =
    subst (λ (s : List Step). stores_at p earlier reader ≤ stores_at p s reader) (sym same) (pump-more p earlier reader ms false (samples_after p.full before) done entries)
line-more p before (act.Enable id) earlier steps looked looks reader (same, _) =
    subst (λ (s : List Step). stores_at p earlier reader ≤ stores_at p s reader) (sym same) (le_refl (stores_at p earlier reader))
line-more p before (act.Disable id) earlier steps looked looks reader (same, _) =
    subst (λ (s : List Step). stores_at p earlier reader ≤ stores_at p s reader) (sym same) (le_refl (stores_at p earlier reader))
line-more p before (act.Fated k fate) earlier steps looked looks reader by = same-stores p earlier steps reader by.0
line-more p before (act.Watch thread other times) earlier steps looked looks reader by = same-stores p earlier steps reader by.0
line-more p before (act.Append set) earlier steps looked looks reader ((field, same), _) =
    subst (λ (s : List Step). stores_at p earlier reader ≤ stores_at p s reader) (sym same) (le_refl (stores_at p earlier reader))

-- ---- counts that climb

climbs-higher : (low : ℕ) (counts : List ℕ) (high higher : ℕ) → high ≤ higher → Climbs low counts high → Climbs low counts higher
climbs-higher low [] high higher le h = omega (arith, le, h)
climbs-higher low (n ∷ counts) high higher le h = (h.0, climbs-higher n counts high higher le h.1)

climbs-lower : (lower low : ℕ) (counts : List ℕ) (high : ℕ) → lower ≤ low → Climbs low counts high → Climbs lower counts high
climbs-lower lower low [] high le h = omega (arith, le, h)
climbs-lower lower low (n ∷ counts) high le h = ((let a = h.0 in omega (arith, le, a)), h.1)

climbs-append : (low : ℕ) (xs ys : List ℕ) (middle high : ℕ) → Climbs low xs middle → Climbs middle ys high → Climbs low (xs ++ ys) high
climbs-append low [] ys middle high first next = climbs-lower low middle ys high first next
climbs-append low (x ∷ xs) ys middle high first next = (first.0, climbs-append x xs ys middle high first.1 next)

climbs-level : (times n : ℕ) → Climbs n (replicate times n) n
climbs-level zero n = le_refl n
climbs-level (suc times) n = (le_refl n, climbs-level times n)

climbs-end : (low : ℕ) (counts : List ℕ) (high : ℕ) → Climbs low counts high → low ≤ high
climbs-end low [] high h = h
climbs-end low (n ∷ counts) high h = let a = climbs-end n counts high h.1 in let b = h.0 in omega (arith, a, b)

climbs-within : (low : ℕ) (counts : List ℕ) (high : ℕ) → Climbs low counts high → All (λ (count : ℕ). count ≤ high) counts
climbs-within low [] high h = All-nil (λ (count : ℕ). count ≤ high)
climbs-within low (n ∷ counts) high h = All-cons (λ (count : ℕ). count ≤ high) n counts (climbs-end n counts high h.1) (climbs-within n counts high h.1)

climbs-from : (low : ℕ) (counts : List ℕ) (high k : ℕ) → Climbs low counts high → k < length counts → low ≤ get_or counts k 0
climbs-from low [] high k h lt = absurd (omega (arith, lt))
climbs-from low (n ∷ counts) high zero h lt = h.0
climbs-from low (n ∷ counts) high (suc k) h lt = let a = climbs-from n counts high k h.1 (omega (arith, lt)) in let b = h.0 in omega (arith, a, b)

never-falls : (low : ℕ) (counts : List ℕ) (high : ℕ) → Climbs low counts high → NeverFalls counts
never-falls low [] high h j k le lt = absurd (omega (arith, lt))
never-falls low (n ∷ counts) high h zero zero le lt = le_refl n
never-falls low (n ∷ counts) high h zero (suc k) le lt = climbs-from n counts high k h.1 (omega (arith, lt))
never-falls low (n ∷ counts) high h (suc j) zero le lt = absurd (omega (arith, le))
never-falls low (n ∷ counts) high h (suc j) (suc k) le lt = never-falls n counts high h.1 j k (omega (arith, le)) (omega (arith, lt))

-- ---- the looks of a thread

abbrev looked_of : WatchEnd → Looked
looked_of end = record { reader = end.reader; counts = end.counts }

abbrev of-thread : ℕ → List WatchEnd → List Looked
of-thread thread looks = map looked_of (filter (λ (look : WatchEnd). look.thread == thread) looks)

of-thread-more : (thread : ℕ) (looks : List WatchEnd) (look : WatchEnd)
    → of-thread thread (looks ++ look ∷ []) ≡ of-thread thread looks ++ map looked_of (cond (look.thread == thread) (look ∷ []) [])
of-thread-more thread looks look =
    ap (map looked_of) (filter-append (λ (l : WatchEnd). l.thread == thread) looks (look ∷ []))
    ∙ map-append looked_of (filter (λ (l : WatchEnd). l.thread == thread) looks) (cond (look.thread == thread) (look ∷ []) [])

-- they are those of the thread's watches, and count ever more stores, up to as many as there are
record LookedSo (p : Plan) (steps : List Step) (lines : List Line) (thread : ℕ) (looks : List Looked) : Type 0 where
  watches : AllZip IsLooked (watches_by thread (reverse lines)) looks
  climbs : (reader : ℕ) → Climbs 0 (counts_in reader looks) (stores_at p steps reader)

watches-more : (thread : ℕ) (line : Line) (before : List Line) → watches_by thread (reverse (line ∷ before)) ≡ watches_by thread (reverse before) ++ watch_by thread line.act
watches-more thread line before =
    ap (watches_by thread) (reverse-cons line before) ∙ flat_map-append (λ (l : Line). watch_by thread l.act) (reverse before) (line ∷ [])
    ∙ ap (λ (w : List (ℕ × ℕ)). watches_by thread (reverse before) ++ w) (append-nil (watch_by thread line.act))

-- a line with no look of the thread
looked-on : (p : Plan) (earlier steps : List Step) (line : Line) (before : List Line) (thread : ℕ) (looks : List Looked) → watch_by thread line.act ≡ []
    → ((reader : ℕ) → stores_at p earlier reader ≤ stores_at p steps reader) → LookedSo p earlier before thread looks → LookedSo p steps (line ∷ before) thread looks
looked-on p earlier steps line before thread looks none more so = record {
  watches =
      subst (λ (w : List (ℕ × ℕ)). AllZip IsLooked w looks)
      (sym (watches-more thread line before ∙ ap (λ (w : List (ℕ × ℕ)). watches_by thread (reverse before) ++ w) none ∙ append-nil (watches_by thread (reverse before)))) so.watches;
  climbs = λ reader. climbs-higher 0 (counts_in reader looks) (stores_at p earlier reader) (stores_at p steps reader) (more reader) (so.climbs reader);
}

-- a look of the thread
module _ (p : Plan) (earlier : List Step) (line : Line) (thread reader times : ℕ) (before : List Line) (looked : List Looked) (is : line.act ≡ act.Watch thread reader times)
    (so : LookedSo p earlier before thread looked) where
  abbrev now : ℕ
  now = stores_at p earlier reader

  abbrev look : Looked
  look = record { reader = reader; counts = replicate times now }

  watches-one : watches_by thread (reverse (line ∷ before)) ≡ watches_by thread (reverse before) ++ (reader, times) ∷ []
  watches-one =
      watches-more thread line before
      ∙ ap (λ (a : Act). watches_by thread (reverse before) ++ watch_by thread a) is
      ∙ ap (λ (b : Bool). watches_by thread (reverse before) ++ cond b ((reader, times) ∷ []) []) (eq-eqb thread thread refl)

  counts-more : (other : ℕ) → counts_in other (looked ++ look ∷ []) ≡ counts_in other looked ++ cond (reader == other) (replicate times now) []
  counts-more other =
      flat_map-append (counts_of other) looked (look ∷ [])
      ∙ ap (λ (l : List ℕ). counts_in other looked ++ l) (append-nil (cond (reader == other) (replicate times now) []))

  climbs-one : (other : ℕ) → Climbs 0 (counts_in other looked ++ cond (reader == other) (replicate times now) []) (stores_at p earlier other)
  climbs-one other = go (cases_eq reader other)
    where
      go : (reader ≡ other) ⊎ (reader ≡ other → ⊥) → Climbs 0 (counts_in other looked ++ cond (reader == other) (replicate times now) []) (stores_at p earlier other)
      go (inl same) =
          subst (λ (r : ℕ). Climbs 0 (counts_in r looked ++ cond (reader == r) (replicate times now) []) (stores_at p earlier r)) same
          (subst (λ (b : Bool). Climbs 0 (counts_in reader looked ++ cond b (replicate times now) []) now) (sym (eq-eqb reader reader refl))
          (climbs-append 0 (counts_in reader looked) (replicate times now) now now (so.climbs reader) (climbs-level times now)))
      go (inr apart) =
          subst (λ (b : Bool). Climbs 0 (counts_in other looked ++ cond b (replicate times now) []) (stores_at p earlier other)) (sym (ne_eqb reader other apart))
          (subst (λ (l : List ℕ). Climbs 0 l (stores_at p earlier other)) (sym (append-nil (counts_in other looked))) (so.climbs other))

  looked-more : LookedSo p earlier (line ∷ before) thread (looked ++ look ∷ [])
  looked-more = record {
    watches =
        subst (λ (w : List (ℕ × ℕ)). AllZip IsLooked w (looked ++ look ∷ [])) (sym watches-one)
        (pairs-push IsLooked (watches_by thread (reverse before)) looked (reader, times) look so.watches (record { reader = refl; times = length-replicate times now }));
    climbs = λ other. subst (λ (l : List ℕ). Climbs 0 l (stores_at p earlier other)) (sym (counts-more other)) (climbs-one other);
  }

-- ---- one line more

module _ (p : Plan) (line : Line) (before : List Line) (earlier steps : List Step) (thread : ℕ) (looked looks : List WatchEnd) (so : LookedSo p earlier before thread (of-thread thread looked)) where
  unseen : watch_by thread line.act ≡ [] → of-thread thread looks ≡ of-thread thread looked → ((reader : ℕ) → stores_at p earlier reader ≤ stores_at p steps reader)
      → LookedSo p steps (line ∷ before) thread (of-thread thread looks)
  unseen none same more =
      subst (λ (l : List Looked). LookedSo p steps (line ∷ before) thread l) (sym same) (looked-on p earlier steps line before thread (of-thread thread looked) none more so)

  module _ (writer reader times : ℕ) (is : line.act ≡ act.Watch writer reader times) (still : steps ≡ earlier) (added : looks ≡ looked ++ look_at p earlier writer reader times ∷ []) where
    of-more : of-thread thread looks ≡ of-thread thread looked ++ map looked_of (cond (writer == thread) (look_at p earlier writer reader times ∷ []) [])
    of-more = ap (of-thread thread) added ∙ of-thread-more thread looked (look_at p earlier writer reader times)

    mine : writer ≡ thread → LookedSo p steps (line ∷ before) thread (of-thread thread looks)
    mine same =
        subst (λ (s : List Step). LookedSo p s (line ∷ before) thread (of-thread thread looks)) (sym still)
        (subst (λ (l : List Looked). LookedSo p earlier (line ∷ before) thread l)
        (sym (of-more ∙ ap (λ (b : Bool). of-thread thread looked ++ map looked_of (cond b (look_at p earlier writer reader times ∷ []) [])) (eq-eqb writer thread same)))
        (looked-more p earlier line thread reader times before (of-thread thread looked) (is ∙ ap (λ (w : ℕ). act.Watch w reader times) same) so))

    anothers : (writer ≡ thread → ⊥) → LookedSo p steps (line ∷ before) thread (of-thread thread looks)
    anothers apart =
        unseen (ap (watch_by thread) is ∙ ap (λ (b : Bool). cond b ((reader, times) ∷ []) []) (ne_eqb writer thread apart))
        (of-more ∙ ap (λ (b : Bool). of-thread thread looked ++ map looked_of (cond b (look_at p earlier writer reader times ∷ []) [])) (ne_eqb writer thread apart)
        ∙ append-nil (of-thread thread looked))
        (λ other. same-stores p earlier steps other still)

    watched : LookedSo p steps (line ∷ before) thread (of-thread thread looks)
    watched = go (cases_eq writer thread)
      where
        go : (writer ≡ thread) ⊎ (writer ≡ thread → ⊥) → LookedSo p steps (line ∷ before) thread (of-thread thread looks)
        go (inl same) = mine same
        go (inr apart) = anothers apart

  looked-line : (a : Act) → line.act ≡ a → IsLineBy p before a earlier steps looked looks → LookedSo p steps (line ∷ before) thread (of-thread thread looks)
  looked-line (act.Write writer set patch) is by =
      unseen (ap (watch_by thread) is) (ap (of-thread thread) by.1) (λ reader. line-more p before (act.Write writer set patch) earlier steps looked looks reader by)
  looked-line (act.Tick ms) is by =
      unseen (ap (watch_by thread) is) (ap (of-thread thread) by.1) (λ reader. line-more p before (act.Tick ms) earlier steps looked looks reader by)
  looked-line (act.Enable id) is by =
      unseen (ap (watch_by thread) is) (ap (of-thread thread) by.1) (λ reader. line-more p before (act.Enable id) earlier steps looked looks reader by)
  looked-line (act.Disable id) is by =
      unseen (ap (watch_by thread) is) (ap (of-thread thread) by.1) (λ reader. line-more p before (act.Disable id) earlier steps looked looks reader by)
  looked-line (act.Fated k fate) is by =
      unseen (ap (watch_by thread) is) (ap (of-thread thread) by.1) (λ reader. line-more p before (act.Fated k fate) earlier steps looked looks reader by)
  looked-line (act.Watch writer reader times) is by = watched writer reader times is by.0 by.1
  looked-line (act.Append set) is by =
      unseen (ap (watch_by thread) is) (ap (of-thread thread) by.1) (λ reader. line-more p before (act.Append set) earlier steps looked looks reader by)

looked-so : (p : Plan) (thread : ℕ) (lines : List Line) (steps : List Step) (looks : List WatchEnd) → IsPlayed p lines steps looks → LookedSo p steps lines thread (of-thread thread looks)
looked-so p thread [] steps looks (none, unlooked) =
    subst (λ (l : List WatchEnd). LookedSo p steps [] thread (of-thread thread l)) (sym unlooked) (record { watches = tt; climbs = λ reader. omega arith })
looked-so p thread (line ∷ before) steps looks (earlier, looked, played, by) =
    looked-line p line before earlier steps thread looked looks (looked-so p thread before earlier looked played) line.act refl by

-- ---- the looks of all threads

same-look : (thread : ℕ) (look : WatchEnd) → look.thread ≡ thread → watch_of thread (looked_of look) ≡ look
same-look thread look same = ap (λ (t : ℕ). record { thread = t; reader = look.reader; counts = look.counts }) (sym same)

told-more : (thread : ℕ) (look : WatchEnd) (rest : List WatchEnd) → (look.thread ≡ thread) ⊎ (look.thread ≡ thread → ⊥) → map (watch_of thread) (map looked_of rest) ≡ rest
    → map (watch_of thread) (map looked_of (cond (look.thread == thread) (look ∷ rest) rest)) ≡ cond (look.thread == thread) (look ∷ rest) rest
told-more thread look rest (inl same) later =
    subst (λ (b : Bool). map (watch_of thread) (map looked_of (cond b (look ∷ rest) rest)) ≡ cond b (look ∷ rest) rest) (sym (eq-eqb look.thread thread same))
    (ap (λ (l : WatchEnd). l ∷ map (watch_of thread) (map looked_of rest)) (same-look thread look same) ∙ ap (λ (l : List WatchEnd). look ∷ l) later)
told-more thread look rest (inr apart) later =
    subst (λ (b : Bool). map (watch_of thread) (map looked_of (cond b (look ∷ rest) rest)) ≡ cond b (look ∷ rest) rest) (sym (ne_eqb look.thread thread apart)) later

told-back : (thread : ℕ) (looks : List WatchEnd) → map (watch_of thread) (of-thread thread looks) ≡ filter (λ (look : WatchEnd). look.thread == thread) looks
told-back thread [] = refl
told-back thread (look ∷ looks) =
    told-more thread look (filter (λ (l : WatchEnd). l.thread == thread) looks) (cases_eq look.thread thread) (told-back thread looks)

pub are-looks : (p : Plan) (lines : List Line) (steps : List Step) (looks watches : List WatchEnd) → IsPlayed p (reverse lines) steps looks → watches ≡ by_threads looks
    → AreLooks p steps lines watches
are-looks p lines steps looks watches played told = record {
  looks = λ thread. of-thread thread looks;
  of_threads = λ thread lt.
      let so = looked-so p thread (reverse lines) steps looks played in
      record {
        watches = subst (λ (l : List Line). AllZip IsLooked (watches_by thread l) (of-thread thread looks)) (reverse-reverse lines) so.watches;
        rising = λ reader. never-falls 0 (counts_in reader (of-thread thread looks)) (stores_at p steps reader) (so.climbs reader);
        counted = λ reader. climbs-within 0 (counts_in reader (of-thread thread looks)) (stores_at p steps reader) (so.climbs reader);
      };
  told = told ∙ sym (ap (λ (g : ℕ → List WatchEnd). flat_map g (range_with_len 0 8)) (λ i thread. told-back thread looks i));
}
