-- The faults of a line, one after another.
use Rattle.std.proofs.Common.{◌≡◌, ◌≢◌, ℕ, zero, suc, ◌+◌, ◌<◌, Bool, true, false, cond, List, [], ◌∷◌, ◌++◌, length, drop, get_or, Option, Some, None, find, refl, sym, ap, ◌∙◌, subst, arith, lit<}
use Rattle.std.specs.List.{list_all}
use Rattle.std.proofs.lemmas.List.{at_drop_more}
use Rattle.std.proofs.lemmas.Bool.{false≢true, and_parts}
use Rattle.ps_config.specs.declared.parts.Config.{Config}
use Rattle.ps_script.specs.declared.fault.ScriptFault.{ScriptFault}
use Rattle.ps_script.specs.declared.fault.ScriptFault.TheVariants.{TooMany, BadAppend}
use Rattle.ps_script.specs.Values.{ValueReader}
use Rattle.ps_script.specs.Verbs.{verb_of}
use Rattle.ps_script.specs.Past.{Done}
use Rattle.ps_script.specs.Faults.{is_past_limit, is_bad_append}
use Rattle.ps_script.specs.Scripts.{Steps, Passes}
use Rattle.ps_script.specs.Refusals.{stands, early_faults, first_of, fault_of}

abbrev is_early : ScriptFault → Bool
is_early BadAppend = false
is_early _ = true

all_early : list_all is_early early_faults ≡ true
unfolding early_faults
all_early = refl

early_at : (fs : List ScriptFault) (k : ℕ) (d : ScriptFault) → list_all is_early fs ≡ true → k < length fs → is_early (get_or fs k d) ≡ true
early_at [] k d all within = absurd (omega arith)
early_at (f ∷ fs) zero d all within = (and_parts (is_early f) (list_all is_early fs) all).0
early_at (f ∷ fs) (suc k) d all within = early_at fs k d (and_parts (is_early f) (list_all is_early fs) all).1 (omega arith)

-- the last fault isn't among the early ones
pub not_the_last : (fs : List ScriptFault) (k : ℕ) (d : ScriptFault) → fs ≡ early_faults → k < length fs → get_or fs k d ≢ BadAppend
not_the_last fs k d same within last =
    false≢true (subst (λ (g : ScriptFault). is_early g ≡ true) last (early_at fs k d (ap (list_all is_early) same ∙ all_early) within))

found_step : (v : Bool) (x f : ScriptFault) (rest more : Option ScriptFault) → (rest ≡ Some f → more ≡ Some f) → cond v (Some x) rest ≡ Some f → cond v (Some x) more ≡ Some f
found_step true x f rest more later e = e
found_step false x f rest more later e = later e

found_early : (p : ScriptFault → Bool) (xs ys : List ScriptFault) (f : ScriptFault) → find p xs ≡ Some f → find p (xs ++ ys) ≡ Some f
found_early p [] ys f e = let bad : ⊥ = cc in absurd bad
found_early p (x ∷ xs) ys f e = found_step (p x) x f (find p xs) (find p (xs ++ ys)) (λ later. found_early p xs ys f later) e

pub none_step : (v : Bool) (x : ScriptFault) (rest : Option ScriptFault) → cond v (Some x) rest ≡ None → (v ≡ false) × (rest ≡ None)
none_step true x rest e = let bad : ⊥ = cc in absurd bad
none_step false x rest e = (refl, e)

found_late : (p : ScriptFault → Bool) (xs ys : List ScriptFault) → find p xs ≡ None → find p (xs ++ ys) ≡ find p ys
found_late p [] ys e = refl
found_late p (x ∷ xs) ys e =
    let s = none_step (p x) x (find p xs) e in
    ap (λ (v : Bool). cond v (Some x) (find p (xs ++ ys))) s.0 ∙ found_late p xs ys s.1

-- an early fault is the line's
pub early_is_told : (reader : ValueReader) (config : Config) (takes_fates : Bool) (done : Done) (line : List ℕ) (fault : ScriptFault) → Some fault ≡ first_of reader early_faults config takes_fates done line → fault_of reader config takes_fates done line ≡ Some fault
early_is_told reader config takes_fates done line fault e = found_early (λ f. stands reader f config takes_fates done line) early_faults (BadAppend ∷ []) fault (sym e)

last_decides : (reader : ValueReader) (config : Config) (takes_fates : Bool) (done : Done) (line : List ℕ) → None ≡ first_of reader early_faults config takes_fates done line → fault_of reader config takes_fates done line ≡ cond (is_bad_append config done line (verb_of line)) (Some BadAppend) None
unfolding stands
last_decides reader config takes_fates done line e = found_late (λ f. stands reader f config takes_fates done line) early_faults (BadAppend ∷ []) (sym e)

-- without an early fault the last is the line's where it stands
pub last_is_told : (reader : ValueReader) (config : Config) (takes_fates : Bool) (done : Done) (line : List ℕ) → None ≡ first_of reader early_faults config takes_fates done line → is_bad_append config done line (verb_of line) ≡ true → fault_of reader config takes_fates done line ≡ Some BadAppend
last_is_told reader config takes_fates done line e bad = last_decides reader config takes_fates done line e ∙ ap (λ (v : Bool). cond v (Some BadAppend) None) bad

pub none_is_told : (reader : ValueReader) (config : Config) (takes_fates : Bool) (done : Done) (line : List ℕ) → None ≡ first_of reader early_faults config takes_fates done line → is_bad_append config done line (verb_of line) ≡ false → fault_of reader config takes_fates done line ≡ None
none_is_told reader config takes_fates done line e good = last_decides reader config takes_fates done line e ∙ ap (λ (v : Bool). cond v (Some BadAppend) None) good

-- none of them stands
pub none_at : (p : ScriptFault → Bool) (xs : List ScriptFault) (k : ℕ) (d : ScriptFault) → find p xs ≡ None → k < length xs → p (get_or xs k d) ≡ false
none_at p [] k d e lt = absurd (omega arith)
none_at p (x ∷ xs) zero d e lt = (none_step (p x) x (find p xs) e).0
none_at p (x ∷ xs) (suc k) d e lt = none_at p xs k d (none_step (p x) x (find p xs) e).1 (omega arith)

tenth : (p : ScriptFault → Bool) → find p early_faults ≡ None → p TooMany ≡ false
unfolding early_faults
tenth p e = none_at p early_faults 9 TooMany e (lit< tt)

-- without an early fault no limit is passed
pub within_limit : (reader : ValueReader) (config : Config) (takes_fates : Bool) (done : Done) (line : List ℕ) → None ≡ first_of reader early_faults config takes_fates done line → is_past_limit done (verb_of line) ≡ false
unfolding stands
within_limit reader config takes_fates done line e = tenth (λ f. stands reader f config takes_fates done line) (sym e)

-- a line without an early fault is judged by the last
pub passed : (reader : ValueReader) (config : Config) (takes_fates : Bool) (done next : Done) (line : List ℕ) (r : Option ScriptFault) → None ≡ first_of reader early_faults config takes_fates done line → Passes config done next line r → Steps reader config takes_fates done next line r
passed reader config takes_fates done next line (Some fault) e p = last_is_told reader config takes_fates done line e p.1 ∙ ap Some (sym p.0)
passed reader config takes_fates done next line None e p = (none_is_told reader config takes_fates done line e p.0, p.1)

-- the fault at this place among others: where it stands, it is the first from there on
pub first_next : (reader : ValueReader) (config : Config) (takes_fates : Bool) (done : Done) (line : List ℕ) (fs : List ScriptFault) (i : ℕ) (f : ScriptFault) → i < length fs → f ≡ get_or fs i f → stands reader f config takes_fates done line ≡ false → first_of reader (drop (i + 1) fs) config takes_fates done line ≡ first_of reader (drop i fs) config takes_fates done line
first_next reader config takes_fates done line fs i f lt is free =
    sym (at_drop_more (λ (gs : List ScriptFault). first_of reader gs config takes_fates done line) fs i f lt
    ∙ ap (λ (v : Bool). cond v (Some (get_or fs i f)) (first_of reader (drop (i + 1) fs) config takes_fates done line)) (ap (λ (g : ScriptFault). stands reader g config takes_fates done line) (sym is) ∙ free))

pub first_here : (reader : ValueReader) (config : Config) (takes_fates : Bool) (done : Done) (line : List ℕ) (fs : List ScriptFault) (i : ℕ) (f : ScriptFault) → i < length fs → f ≡ get_or fs i f → stands reader f config takes_fates done line ≡ true → first_of reader (drop i fs) config takes_fates done line ≡ Some f
first_here reader config takes_fates done line fs i f lt is yes_ =
    at_drop_more (λ (gs : List ScriptFault). first_of reader gs config takes_fates done line) fs i f lt
    ∙ ap (λ (v : Bool). cond v (Some (get_or fs i f)) (first_of reader (drop (i + 1) fs) config takes_fates done line)) (ap (λ (g : ScriptFault). stands reader g config takes_fates done line) (sym is) ∙ yes_)
    ∙ ap Some (sym is)

pub next_at : (reader : ValueReader) (config : Config) (takes_fates : Bool) (done : Done) (line : List ℕ) (fs : List ScriptFault) (i : ℕ) (d : ScriptFault) → i < length fs → stands reader (get_or fs i d) config takes_fates done line ≡ false → first_of reader (drop (i + 1) fs) config takes_fates done line ≡ first_of reader (drop i fs) config takes_fates done line
next_at reader config takes_fates done line fs i d lt free =
    sym (at_drop_more (λ (gs : List ScriptFault). first_of reader gs config takes_fates done line) fs i d lt
    ∙ ap (λ (v : Bool). cond v (Some (get_or fs i d)) (first_of reader (drop (i + 1) fs) config takes_fates done line)) free)
