-- The patches that a thread writes to a data set, and the fates of datagrams.
use Rattle.std.proofs.Common.{◌≡◌, ℕ, zero, suc, ◌+◌, ◌==◌, Bool, true, false, ◌&&◌, cond, List, [], ◌∷◌, ◌++◌, length, take, Some, slice_get, refl, sym, ap, ◌∙◌, subst, arith, length-append}
use Rattle.std.specs.Prelude.{All}
use Rattle.std.specs.List.{HoldsAt}
use Rattle.std.proofs.lemmas.Bool.{and_parts, eqb-true, eq-eqb, false≢true}
use Rattle.std.proofs.lemmas.List.{append-nil}
use Rattle.std.proofs.lemmas.List.Concat.{flat_map-append}
use Rattle.std.proofs.lemmas.List.Elements.{All-append}
use Rattle.std.proofs.lemmas.List.Sums.{sum_by-cons}
use Rattle.std.proofs.lemmas.Option.{get_or_from_slice_get}
use Rattle.dataset_meta.specs.Metas.{MetaData}
use Rattle.row_words.specs.declared.patch.Patch.{Patch}
use Rattle.row_words.specs.Patches.{IsPatchOf}
use Rattle.ua_base.specs.declared.link.Fate.{Fate}
use Rattle.ps_config.specs.declared.parts.Config.{Config}
use Rattle.ps_script.specs.declared.script.Line.{Line}
use Rattle.ps_script.specs.declared.script.Act.{Act}
use Rattle.ps_script.specs.declared.script.Act.TheVariants as act
use Rattle.ps_script.specs.declared.script.Script.{Script}
use Rattle.ps_script.specs.Sessions.{is_write, writes_in, patches_by, patches_of, gives_fate, fates_by, fates_of}
use Rattle.ps_script.specs.Sound.{IsAct, IsScript}

-- a line's patch is one of the data set that it names
abbrev FitsAct : List MetaData → Act → Type 0
FitsAct metas (act.Write thread set patch) = HoldsAt (λ (meta : MetaData). IsPatchOf meta patch) metas set
FitsAct metas _ = Unit {0}

fits_act : (config : Config) (full : List MetaData) (before : List Line) (a : Act) → IsAct config full before a → FitsAct full a
fits_act config full before (act.Write thread set patch) is = is.of
fits_act config full before (act.Tick ms) is = tt
fits_act config full before (act.Enable id) is = tt
fits_act config full before (act.Disable id) is = tt
fits_act config full before (act.Fated number fate) is = tt
fits_act config full before (act.Watch thread reader times) is = tt
fits_act config full before (act.Append set) is = tt

all_of_none : {X : Type 0} (P : X → Type 0) → All P []
all_of_none P k d lt = absurd (omega arith)

all_of_one : {X : Type 0} (P : X → Type 0) (x : X) → P x → All P (x ∷ [])
all_of_one P x is zero d lt = is
all_of_one P x is (suc k) d lt = absurd (omega arith)

chosen : (metas : List MetaData) (set other : ℕ) (full : MetaData) (patch : Patch) (theirs : Bool) (b : Bool) → slice_get metas set ≡ Some full → HoldsAt (λ (meta : MetaData). IsPatchOf meta patch) metas other
    → (theirs && other == set) ≡ b → All (IsPatchOf full) (cond b (patch ∷ []) [])
chosen metas set other full patch theirs true there fits e =
    let same : other ≡ set = eqb-true other set (and_parts theirs (other == set) e).1 in
    let here : HoldsAt (λ (meta : MetaData). IsPatchOf meta patch) metas set = subst (λ (k : ℕ). HoldsAt (λ (meta : MetaData). IsPatchOf meta patch) metas k) same fits in
    all_of_one (IsPatchOf full) patch (subst (λ (meta : MetaData). IsPatchOf meta patch) (get_or_from_slice_get metas set full full there) (here full))
chosen metas set other full patch theirs false there fits e = all_of_none (IsPatchOf full)

fit_patch : (metas : List MetaData) (thread set : ℕ) (full : MetaData) → slice_get metas set ≡ Some full → (a : Act) → FitsAct metas a → All (IsPatchOf full) (patches_by thread set a)
fit_patch metas thread set full there (act.Write writer other patch) fits = chosen metas set other full patch (writer == thread) (writer == thread && other == set) there fits refl
fit_patch metas thread set full there (act.Tick ms) fits = all_of_none (IsPatchOf full)
fit_patch metas thread set full there (act.Enable id) fits = all_of_none (IsPatchOf full)
fit_patch metas thread set full there (act.Disable id) fits = all_of_none (IsPatchOf full)
fit_patch metas thread set full there (act.Fated number fate) fits = all_of_none (IsPatchOf full)
fit_patch metas thread set full there (act.Watch other reader times) fits = all_of_none (IsPatchOf full)
fit_patch metas thread set full there (act.Append other) fits = all_of_none (IsPatchOf full)

fit_lines : (metas : List MetaData) (thread set : ℕ) (full : MetaData) → slice_get metas set ≡ Some full → (lines : List Line) → ((k : ℕ) (line : Line) → slice_get lines k ≡ Some line → FitsAct metas line.act)
    → All (IsPatchOf full) (patches_of thread set lines)
fit_lines metas thread set full there [] each = all_of_none (IsPatchOf full)
fit_lines metas thread set full there (line ∷ lines) each =
    All-append (IsPatchOf full) (patches_by thread set line.act) (patches_of thread set lines) (fit_patch metas thread set full there line.act (each zero line refl))
    (fit_lines metas thread set full there lines (λ k l found. each (suc k) l found))

pub each_patch : (config : Config) (script : Script) (thread set : ℕ) (full : MetaData) → IsScript config script → slice_get script.metas set ≡ Some full → All (IsPatchOf full) (patches_of thread set script.lines)
each_patch config script thread set full is there =
    fit_lines script.metas thread set full there script.lines (λ k line found. fits_act config script.metas (take k script.lines) line.act (is.acts k line found))

count_chosen : (b : Bool) (patch : Patch) → length (cond b (patch ∷ []) []) ≡ cond b 1 0
count_chosen true patch = refl
count_chosen false patch = refl

count_by_act : (thread set : ℕ) (a : Act) → length (patches_by thread set a) ≡ cond (is_write thread set a) 1 0
count_by_act thread set (act.Write writer other patch) = count_chosen (writer == thread && other == set) patch
count_by_act thread set (act.Tick ms) = refl
count_by_act thread set (act.Enable id) = refl
count_by_act thread set (act.Disable id) = refl
count_by_act thread set (act.Fated number fate) = refl
count_by_act thread set (act.Watch other reader times) = refl
count_by_act thread set (act.Append other) = refl

pub patch_count : (thread set : ℕ) (lines : List Line) → length (patches_of thread set lines) ≡ writes_in thread set lines
patch_count thread set [] = refl
patch_count thread set (line ∷ lines) =
    length-append (patches_by thread set line.act) (patches_of thread set lines)
    ∙ ap (λ (n : ℕ). n + length (patches_of thread set lines)) (count_by_act thread set line.act)
    ∙ ap (λ (n : ℕ). cond (is_write thread set line.act) 1 0 + n) (patch_count thread set lines)
    ∙ sym (sum_by-cons (λ (l : Line). cond (is_write thread set l.act) 1 0) line lines)

-- ---- one line more

one_more : (thread set : ℕ) (lines : List Line) (line : Line) → patches_of thread set (lines ++ line ∷ []) ≡ patches_of thread set lines ++ patches_by thread set line.act
one_more thread set lines line =
    flat_map-append (λ (l : Line). patches_by thread set l.act) lines (line ∷ [])
    ∙ ap (λ (ps : List Patch). patches_of thread set lines ++ ps) (append-nil (patches_by thread set line.act))

their_own : (thread set : ℕ) (patch : Patch) → patches_by thread set (act.Write thread set patch) ≡ patch ∷ []
their_own thread set patch =
    ap (λ (b : Bool). cond (b && set == set) (patch ∷ []) []) (eq-eqb thread thread refl)
    ∙ ap (λ (b : Bool). cond (true && b) (patch ∷ []) []) (eq-eqb set set refl)

pub patch_more : (thread set at : ℕ) (patch : Patch) (lines : List Line)
    → patches_of thread set (lines ++ record { at = at; act = act.Write thread set patch } ∷ []) ≡ patches_of thread set lines ++ patch ∷ []
patch_more thread set at patch lines =
    one_more thread set lines (record { at = at; act = act.Write thread set patch })
    ∙ ap (λ (ps : List Patch). patches_of thread set lines ++ ps) (their_own thread set patch)

none_by : (thread set : ℕ) (a : Act) → is_write thread set a ≡ false → patches_by thread set a ≡ []
none_by thread set (act.Write writer other patch) e = ap (λ (b : Bool). cond b (patch ∷ []) []) e
none_by thread set (act.Tick ms) e = refl
none_by thread set (act.Enable id) e = refl
none_by thread set (act.Disable id) e = refl
none_by thread set (act.Fated number fate) e = refl
none_by thread set (act.Watch other reader times) e = refl
none_by thread set (act.Append other) e = refl

pub no_patch_more : (thread set : ℕ) (lines : List Line) (line : Line) → is_write thread set line.act ≡ false → patches_of thread set (lines ++ line ∷ []) ≡ patches_of thread set lines
no_patch_more thread set lines line e =
    one_more thread set lines line
    ∙ ap (λ (ps : List Patch). patches_of thread set lines ++ ps) (none_by thread set line.act e)
    ∙ append-nil (patches_of thread set lines)

more_fates : (lines : List Line) (line : Line) → fates_of (lines ++ line ∷ []) ≡ fates_of lines ++ fates_by line.act
more_fates lines line =
    flat_map-append (λ (l : Line). fates_by l.act) lines (line ∷ [])
    ∙ ap (λ (fs : List (ℕ × Fate)). fates_of lines ++ fs) (append-nil (fates_by line.act))

pub fate_more : (number at : ℕ) (fate : Fate) (lines : List Line)
    → fates_of (lines ++ record { at = at; act = act.Fated number fate } ∷ []) ≡ fates_of lines ++ (number, fate) ∷ []
fate_more number at fate lines = more_fates lines (record { at = at; act = act.Fated number fate })

none_given : (a : Act) → gives_fate a ≡ false → fates_by a ≡ []
none_given (act.Fated number fate) e = absurd (false≢true (sym e))
none_given (act.Write thread set patch) e = refl
none_given (act.Tick ms) e = refl
none_given (act.Enable id) e = refl
none_given (act.Disable id) e = refl
none_given (act.Watch thread reader times) e = refl
none_given (act.Append set) e = refl

pub no_fate_more : (lines : List Line) (line : Line) → gives_fate line.act ≡ false → fates_of (lines ++ line ∷ []) ≡ fates_of lines
no_fate_more lines line e =
    more_fates lines line ∙ ap (λ (fs : List (ℕ × Fate)). fates_of lines ++ fs) (none_given line.act e) ∙ append-nil (fates_of lines)
