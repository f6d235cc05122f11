-- What the lines of a script write, in their order, is a legal history.
use Rattle.std.proofs.Common.{◌≡◌, ◌⊎◌, inl, inr, ℕ, ◌+◌, ◌<◌, ◌≤◌, ◌==◌, ◌^◌, Bool, true, false, ◌&&◌, cond, List, [], ◌∷◌, ◌++◌, length, map, reverse, take, drop, get_or, refl, sym, ap, ◌∙◌, subst, arith, eq-eqb, ne_eqb, None}
use Rattle.std.specs.Prelude.{All, sum}
use Rattle.std.specs.List.{range_with_len}
use Rattle.std.proofs.lemmas.Bool.{cases_eq}
use Rattle.std.proofs.Math.Seq.{drop-append_seam}
use Rattle.std.proofs.lemmas.List.{append-nil, get_or_append_left, reverse-reverse}
use Rattle.std.proofs.lemmas.List.Concat.{flat_map-append}
use Rattle.std.proofs.lemmas.List.Elements.{All-append, All-cons, All-head, All-map, All-nil, All-push, All-tail}
use Rattle.std.proofs.lemmas.List.FromFn.{get_or-map-range_with_len, length-map-range_with_len}
use Rattle.std.proofs.lemmas.Option.{slice_get-get_or}
use Rattle.dataset_meta.specs.Metas.{MetaData, IsMeta, no_meta}
use Rattle.row_words.specs.declared.patch.Patch.{Patch}
use Rattle.row_words.specs.Patches.{IsPatchOf, patched_words}
use Rattle.row_words.specs.Shapes.{BelongsTo, shape_of}
use Rattle.version_cell.proofs.Logs.{last_words-push, own-push_other}
use Rattle.version_cell.specs.declared.rule.Entry.{Entry}
use Rattle.version_cell.specs.Cells.{CellData, terms_of}
use Rattle.version_cell.specs.Histories.{entry, opening_words, own, row_after}
use Rattle.version_cell.specs.Known.{Known, no_table}
use Rattle.version_cell.specs.Terms.{IsLawful, quota, shape_in}
use Rattle.app_threads.specs.Closing.{IsClosed}
use Rattle.app_threads.specs.Marks.{AreLaid, Mark, marks_of}
use Rattle.app_threads.proofs.Marking.{AreLaid-length, AreLaid-push, length-marks, marks_push, marks_same}
use Rattle.ps_config.specs.declared.parts.Config.{Config}
use Rattle.ps_script.specs.declared.script.Act.{Act}
use Rattle.ps_script.specs.declared.script.Act.TheVariants as act
use Rattle.ps_script.specs.declared.script.Line.{Line}
use Rattle.ps_script.specs.declared.script.Script.{Script}
use Rattle.ps_script.specs.Sessions.{patches_by, patches_of, writes_in}
use Rattle.ps_script.specs.Sound.{IsAct, IsScript}
use Rattle.session_model.specs.Sets.{meta_in}
use Rattle.script_player.specs.Playing.{log_after, with_write}
use Rattle.script_player.proofs.Headline.{script-meta}
use Rattle.script_player.proofs.Lines.{reverse-cons}
use Rattle.script_player.proofs.Quotas.{few-writes}
use Rattle.script_runner.specs.Legal.{IsLegalLog}
use Rattle.script_runner.proofs.Items.{patches-count}
use Rattle.script_runner.proofs.Legal.{ClosedHistoriesAreLegal}

-- ---- each thread's entries are its writes

patches-more : (t set : ℕ) (line : Line) (before : List Line) → patches_of t set (reverse (line ∷ before)) ≡ patches_of t set (reverse before) ++ patches_by t set line.act
patches-more t set line before =
    ap (patches_of t set) (reverse-cons line before) ∙ flat_map-append (λ (l : Line). patches_by t set l.act) (reverse before) (line ∷ [])
    ∙ ap (λ (ps : List Patch). patches_of t set (reverse before) ++ ps) (append-nil (patches_by t set line.act))

module _ (meta : MetaData) (set : ℕ) where
  abbrev Laid : ℕ → List Entry → List Patch → Type 0
  Laid t log patches = AreLaid meta.fields (marks_of t log) patches

  laid-none : (t : ℕ) (log : List Entry) (patches : List Patch) → Laid t log patches → Laid t log (patches ++ [])
  laid-none t log patches laid = subst (Laid t log) (sym (append-nil patches)) laid

  module _ (t writer other : ℕ) (patch : Patch) (log : List Entry) (patches : List Patch) (laid : Laid t log patches) where
    abbrev row : List ℕ
    row = patched_words meta.fields patch (row_after log)

    mine : Laid t (log ++ entry t row ∷ []) (patches ++ patch ∷ [])
    mine =
        subst (λ (marks : List Mark). AreLaid meta.fields marks (patches ++ patch ∷ [])) (sym (marks_push t log row))
        (AreLaid-push meta.fields (marks_of t log) patches (record { version = length log + 1; before = row_after log; after = row }) patch refl laid)

    anothers : (writer ≡ t → ⊥) → Laid t (log ++ entry writer row ∷ []) (patches ++ [])
    anothers apart =
        laid-none t (log ++ entry writer row ∷ []) patches
        (subst (λ (marks : List Mark). AreLaid meta.fields marks patches)
        (sym (marks_same t log (log ++ entry writer row ∷ []) (entry writer row ∷ [], refl) (own-push_other t writer log row apart))) laid)

    here : (writer ≡ t) ⊎ (writer ≡ t → ⊥) → Laid t (log ++ entry writer row ∷ []) (patches ++ cond ((writer == t) && true) (patch ∷ []) [])
    here (inl same) =
        subst (λ (b : Bool). Laid t (log ++ entry writer row ∷ []) (patches ++ cond (b && true) (patch ∷ []) [])) (sym (eq-eqb writer t same))
        (subst (λ (w : ℕ). Laid t (log ++ entry w row ∷ []) (patches ++ patch ∷ [])) (sym same) mine)
    here (inr apart) =
        subst (λ (b : Bool). Laid t (log ++ entry writer row ∷ []) (patches ++ cond (b && true) (patch ∷ []) [])) (sym (ne_eqb writer t apart)) (anothers apart)

    elsewhere : (b : Bool) → Laid t log (patches ++ cond (b && false) (patch ∷ []) [])
    elsewhere true = laid-none t log patches laid
    elsewhere false = laid-none t log patches laid

    written : (other ≡ set) ⊎ (other ≡ set → ⊥)
        → Laid t (cond (other == set) (log ++ entry writer row ∷ []) log) (patches ++ cond ((writer == t) && (other == set)) (patch ∷ []) [])
    written (inl same) =
        subst (λ (b : Bool). Laid t (cond b (log ++ entry writer row ∷ []) log) (patches ++ cond ((writer == t) && b) (patch ∷ []) [])) (sym (eq-eqb other set same))
        (here (cases_eq writer t))
    written (inr apart) =
        subst (λ (b : Bool). Laid t (cond b (log ++ entry writer row ∷ []) log) (patches ++ cond ((writer == t) && b) (patch ∷ []) [])) (sym (ne_eqb other set apart))
        (elsewhere (writer == t))

  laid-line : (t : ℕ) (log : List Entry) (patches : List Patch) (a : Act) → Laid t log patches → Laid t (with_write meta set log a) (patches ++ patches_by t set a)
  laid-line t log patches (act.Write writer other patch) laid = written t writer other patch log patches laid (cases_eq other set)
  laid-line t log patches (act.Tick ms) laid = laid-none t log patches laid
  laid-line t log patches (act.Enable id) laid = laid-none t log patches laid
  laid-line t log patches (act.Disable id) laid = laid-none t log patches laid
  laid-line t log patches (act.Fated k fate) laid = laid-none t log patches laid
  laid-line t log patches (act.Watch thread reader times) laid = laid-none t log patches laid
  laid-line t log patches (act.Append other) laid = laid-none t log patches laid

  laid-lines : (t : ℕ) (lines : List Line) → Laid t (log_after meta set lines) (patches_of t set (reverse lines))
  laid-lines t [] = tt
  laid-lines t (line ∷ before) =
      subst (Laid t (log_after meta set (line ∷ before))) (sym (patches-more t set line before))
      (laid-line t (log_after meta set before) (patches_of t set (reverse before)) line.act (laid-lines t before))

-- ---- each entry is of one of the eight threads, and its row is one of the data set

-- what the crate of rows says of the words of rows
pub record RowLaws : Type 0 where
  pub opening : (meta : MetaData) → IsMeta meta.fields → BelongsTo (shape_of meta) opening_words
  pub patched : (meta : MetaData) (patch : Patch) (words : List ℕ) → IsMeta meta.fields → IsPatchOf meta patch → BelongsTo (shape_of meta) words
      → BelongsTo (shape_of meta) (patched_words meta.fields patch words)

-- a line's write of the data set is by one of the eight, and a patch of it
abbrev Writes : MetaData → ℕ → Act → Type 0
Writes meta set (act.Write writer other patch) = (writer < 8) × (other ≡ set → IsPatchOf meta patch)
Writes meta set _ = Unit {0}

all-reversed : {A : Type 0} (P : A → Type 0) (xs : List A) → All P xs → All P (reverse xs)
all-reversed P [] all = All-nil P
all-reversed P (x ∷ xs) all =
    subst (All P) (sym (reverse-cons x xs)) (All-push P (reverse xs) x (all-reversed P xs (All-tail P x xs all)) (All-head P x xs all))

record LawfulSo (meta : MetaData) (log : List Entry) : Type 0 where
  each : All (λ (e : Entry). (e.author < 8) × BelongsTo (shape_of meta) e.row) log
  last : BelongsTo (shape_of meta) (row_after log)

module _ (laws : RowLaws) (meta : MetaData) (set : ℕ) (is : IsMeta meta.fields) where
  abbrev Fits : Line → Type 0
  Fits line = Writes meta set line.act

  abbrev row-with : List Entry → Patch → List ℕ
  row-with log patch = patched_words meta.fields patch (row_after log)

  lawful-line : (log : List Entry) (a : Act) → Writes meta set a → LawfulSo meta log → LawfulSo meta (with_write meta set log a)
  lawful-line log (act.Write writer other patch) fits so = go (cases_eq other set)
    where
      belongs : other ≡ set → BelongsTo (shape_of meta) (row-with log patch)
      belongs same = laws.patched meta patch (row_after log) is (fits.1 same) so.last

      go : (other ≡ set) ⊎ (other ≡ set → ⊥) → LawfulSo meta (cond (other == set) (log ++ entry writer (row-with log patch) ∷ []) log)
      go (inl same) =
          subst (λ (b : Bool). LawfulSo meta (cond b (log ++ entry writer (row-with log patch) ∷ []) log)) (sym (eq-eqb other set same))
          (record {
            each = All-push (λ (e : Entry). (e.author < 8) × BelongsTo (shape_of meta) e.row) log (entry writer (row-with log patch)) so.each (fits.0, belongs same);
            last = subst (BelongsTo (shape_of meta)) (sym (last_words-push opening_words log (entry writer (row-with log patch)))) (belongs same);
          })
      go (inr apart) = subst (λ (b : Bool). LawfulSo meta (cond b (log ++ entry writer (row-with log patch) ∷ []) log)) (sym (ne_eqb other set apart)) so
  lawful-line log (act.Tick ms) fits so = so
  lawful-line log (act.Enable id) fits so = so
  lawful-line log (act.Disable id) fits so = so
  lawful-line log (act.Fated k fate) fits so = so
  lawful-line log (act.Watch thread reader times) fits so = so
  lawful-line log (act.Append other) fits so = so

  lawful-lines : (lines : List Line) → All Fits lines → LawfulSo meta (log_after meta set lines)
  lawful-lines [] all = record { each = All-nil (λ (e : Entry). (e.author < 8) × BelongsTo (shape_of meta) e.row); last = laws.opening meta is }
  lawful-lines (line ∷ before) all =
      lawful-line (log_after meta set before) line.act (All-head Fits line before all) (lawful-lines before (All-tail Fits line before all))

  patches-line : (t : ℕ) (a : Act) → Writes meta set a → All (IsPatchOf meta) (patches_by t set a)
  patches-line t (act.Write writer other patch) fits = go (cases_eq other set)
    where
      all-if : (b : Bool) → IsPatchOf meta patch → All (IsPatchOf meta) (cond (b && true) (patch ∷ []) [])
      all-if true of = All-cons (IsPatchOf meta) patch [] of (All-nil (IsPatchOf meta))
      all-if false of = All-nil (IsPatchOf meta)

      none-if : (b : Bool) → All (IsPatchOf meta) (cond (b && false) (patch ∷ []) [])
      none-if true = All-nil (IsPatchOf meta)
      none-if false = All-nil (IsPatchOf meta)

      go : (other ≡ set) ⊎ (other ≡ set → ⊥) → All (IsPatchOf meta) (cond ((writer == t) && (other == set)) (patch ∷ []) [])
      go (inl same) = subst (λ (b : Bool). All (IsPatchOf meta) (cond ((writer == t) && b) (patch ∷ []) [])) (sym (eq-eqb other set same)) (all-if (writer == t) (fits.1 same))
      go (inr apart) = subst (λ (b : Bool). All (IsPatchOf meta) (cond ((writer == t) && b) (patch ∷ []) [])) (sym (ne_eqb other set apart)) (none-if (writer == t))
  patches-line t (act.Tick ms) fits = All-nil (IsPatchOf meta)
  patches-line t (act.Enable id) fits = All-nil (IsPatchOf meta)
  patches-line t (act.Disable id) fits = All-nil (IsPatchOf meta)
  patches-line t (act.Fated k fate) fits = All-nil (IsPatchOf meta)
  patches-line t (act.Watch thread reader times) fits = All-nil (IsPatchOf meta)
  patches-line t (act.Append other) fits = All-nil (IsPatchOf meta)

  patches-lines : (t : ℕ) (lines : List Line) → All Fits lines → All (IsPatchOf meta) (patches_of t set lines)
  patches-lines t [] all = All-nil (IsPatchOf meta)
  patches-lines t (line ∷ lines) all =
      All-append (IsPatchOf meta) (patches_by t set line.act) (patches_of t set lines) (patches-line t line.act (All-head Fits line lines all))
      (patches-lines t lines (All-tail Fits line lines all))

-- where there is no such data set, nobody writes
abbrev Spares : ℕ → Act → Type 0
Spares set (act.Write writer other patch) = other ≡ set → ⊥
Spares set _ = Unit {0}

spared-line : (meta : MetaData) (set : ℕ) (log : List Entry) (a : Act) → Spares set a → with_write meta set log a ≡ log
spared-line meta set log (act.Write writer other patch) apart =
    ap (λ (b : Bool). cond b (log ++ entry writer (patched_words meta.fields patch (row_after log)) ∷ []) log) (ne_eqb other set apart)
spared-line meta set log (act.Tick ms) spares = refl
spared-line meta set log (act.Enable id) spares = refl
spared-line meta set log (act.Disable id) spares = refl
spared-line meta set log (act.Fated k fate) spares = refl
spared-line meta set log (act.Watch thread reader times) spares = refl
spared-line meta set log (act.Append other) spares = refl

spared-lines : (meta : MetaData) (set : ℕ) (lines : List Line) → All (λ (line : Line). Spares set line.act) lines → log_after meta set lines ≡ []
spared-lines meta set [] all = refl
spared-lines meta set (line ∷ before) all =
    spared-line meta set (log_after meta set before) line.act (All-head (λ (l : Line). Spares set l.act) line before all)
    ∙ spared-lines meta set before (All-tail (λ (l : Line). Spares set l.act) line before all)

spares-act : (config : Config) (script : Script) (set : ℕ) (before : List Line) (a : Act) → length script.metas ≤ set → IsAct config script.metas before a → Spares set a
spares-act config script set before (act.Write writer other patch) past acts = λ same. let lt = acts.there in let no : ⊥ = omega (arith, past, lt, same) in no
spares-act config script set before (act.Tick ms) past acts = tt
spares-act config script set before (act.Enable id) past acts = tt
spares-act config script set before (act.Disable id) past acts = tt
spares-act config script set before (act.Fated k fate) past acts = tt
spares-act config script set before (act.Watch thread reader times) past acts = tt
spares-act config script set before (act.Append other) past acts = tt

pub past-none : (config : Config) (script : Script) (set : ℕ) → IsScript config script → length script.metas ≤ set
    → log_after (meta_in script.metas set) set (reverse script.lines) ≡ []
past-none config script set is past =
    spared-lines (meta_in script.metas set) set (reverse script.lines)
    (all-reversed (λ (line : Line). Spares set line.act) script.lines
    (λ k d lt. spares-act config script set (take k script.lines) (get_or script.lines k d).act past (is.acts k (get_or script.lines k d) (slice_get-get_or script.lines k d lt))))

-- ---- a data set of a script

module _ (config : Config) (script : Script) (is : IsScript config script) (laws : RowLaws) (set : ℕ) (there : set < length config.dataset) where
  abbrev meta : MetaData
  meta = meta_in script.metas set

  abbrev log : List Entry
  log = log_after meta set (reverse script.lines)

  abbrev cell : CellData
  cell = record { id = no_table; meta = meta; quotas = map (λ (thread : ℕ). writes_in thread set script.lines) (range_with_len 0 8) }

  abbrev pass : Known
  pass = record { cell = no_table; terms = terms_of cell.quotas meta; seen = log; author = None }

  abbrev lists : List (List Patch)
  lists = map (λ (thread : ℕ). patches_of thread set script.lines) (range_with_len 0 8)

  is-meta : IsMeta meta.fields
  is-meta = script-meta config script set is (let e = is.sets in omega (arith, e, there))

  fits-act : (before : List Line) (a : Act) → IsAct config script.metas before a → Writes meta set a
  fits-act before (act.Write writer other patch) acts =
      (acts.bound, λ same. subst (λ (s : ℕ). IsPatchOf (meta_in script.metas s) patch) same (acts.of no_meta))
  fits-act before (act.Tick ms) acts = tt
  fits-act before (act.Enable id) acts = tt
  fits-act before (act.Disable id) acts = tt
  fits-act before (act.Fated k fate) acts = tt
  fits-act before (act.Watch thread reader times) acts = tt
  fits-act before (act.Append other) acts = tt

  fits : All (λ (line : Line). Writes meta set line.act) script.lines
  fits k d lt = fits-act (take k script.lines) (get_or script.lines k d).act (is.acts k (get_or script.lines k d) (slice_get-get_or script.lines k d lt))

  eight : length cell.quotas ≡ 8
  eight = length-map-range_with_len (λ (thread : ℕ). writes_in thread set script.lines) 0 8

  shape-is : shape_in pass.terms ≡ shape_of meta
  shape-is = ap (λ (n : ℕ). drop n (cell.quotas ++ shape_of meta)) (sym eight) ∙ drop-append_seam cell.quotas (shape_of meta)

  laid : (t : ℕ) → AreLaid meta.fields (marks_of t log) (patches_of t set script.lines)
  laid t =
      subst (λ (l : List Line). AreLaid meta.fields (marks_of t log) (patches_of t set l)) (reverse-reverse script.lines) (laid-lines meta set t (reverse script.lines))

  made : (t : ℕ) → length (own t log) ≡ writes_in t set script.lines
  made t =
      sym (length-marks t 0 opening_words log) ∙ AreLaid-length meta.fields (marks_of t log) (patches_of t set script.lines) (laid t) ∙ patches-count t set script.lines

  quota-is : (t : ℕ) → t < 8 → quota t pass.terms ≡ writes_in t set script.lines
  quota-is t lt =
      get_or_append_left cell.quotas (shape_of meta) 0 t (let e = eight in omega (arith, e, lt))
      ∙ get_or-map-range_with_len (λ (thread : ℕ). writes_in thread set script.lines) 0 8 t t 0 lt (omega arith)

  small : sum cell.quotas < 2 ^ 63
  small =
      subst (λ (q : List ℕ). sum q < 2 ^ 63)
      (get_or-map-range_with_len (λ (s : ℕ). map (λ (thread : ℕ). writes_in thread s script.lines) (range_with_len 0 8)) 0 (length config.dataset) set set [] there (omega arith))
      (few-writes (length config.dataset) script.lines is.few set []
      (let e = length-map-range_with_len (λ (s : ℕ). map (λ (thread : ℕ). writes_in thread s script.lines) (range_with_len 0 8)) 0 (length config.dataset) in omega (arith, e, there)))

  lawful : IsLawful pass.terms log
  lawful = record {
    entries = λ k d lt.
        let one = (lawful-lines laws meta set is-meta (reverse script.lines) (all-reversed (λ (line : Line). Writes meta set line.act) script.lines fits)).each k d lt in
        record { author = one.0; row = subst (λ (s : List ℕ). BelongsTo s (get_or log k d).row) (sym shape-is) one.1 };
    within = λ t lt. let a = made t in let b = quota-is t lt in omega (arith, a, b);
  }

  closed : IsClosed cell pass lists
  closed = record {
    is_cell = record { eight = eight; small = small; meta = is-meta };
    own = record { name = refl; terms = refl };
    lawful = lawful;
    few = (let e = length-map-range_with_len (λ (thread : ℕ). patches_of thread set script.lines) 0 8 in omega (arith, e));
    patches =
        All-map (λ (list : List Patch). All (IsPatchOf meta) list) (λ (thread : ℕ). patches_of thread set script.lines) (range_with_len 0 8)
        (λ k d lt. patches-lines laws meta set is-meta (get_or (range_with_len 0 8) k d) script.lines fits);
    laid = λ t lt.
        subst (AreLaid meta.fields (marks_of t log)) (sym (get_or-map-range_with_len (λ (thread : ℕ). patches_of thread set script.lines) 0 8 t t [] lt (omega arith))) (laid t);
  }

  pub played-legal : ClosedHistoriesAreLegal → IsLegalLog script set log
  played-legal closed-laws = record { legal = closed-laws.legal cell pass lists closed; history = closed-laws.history cell pass lists closed }
