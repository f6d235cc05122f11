-- The first line that has a fault, and the first of its faults.
use Rattle.std.proofs.Common.{◌≡◌, ℕ, ◌+◌, Bool, true, false, cond, List, [], ◌∷◌, ◌++◌, length, Option, Some, None, find, Result, Ok, Err, refl, sym, ap, ◌∙◌, subst, arith}
use Rattle.std.specs.Prelude.{IsOk}
use Rattle.std.specs.List.{fold, AllByRecursion}
use Rattle.ps_config.specs.declared.parts.Config.{Config}
use Rattle.ps_script.specs.declared.fault.ScriptFault.{ScriptFault}
use Rattle.ps_script.specs.declared.script.Script.{Script}
use Rattle.ps_script.specs.Texts.{lines_of}
use Rattle.ps_script.specs.Values.{ValueReader}
use Rattle.ps_script.specs.Past.{Done, nothing_done, after}
use Rattle.ps_script.specs.Refusals.{stands, faults, fault_of}
use Rattle.ps_script.specs.Acts.{next_number}
use Rattle.ps_script.specs.Scripts.{judged, judged_from, refused_or, script, script_by}
use Rattle.ps_script.specs.Meaning.{IsRefusedBy, IsAccepted}
use Rattle.ps_script.proofs.Finding.{none_step}

-- ---- the first fault of a line

record Found (p : ScriptFault → Bool) (fs : List ScriptFault) (fault : ScriptFault) : Type 0 where
  front : List ScriptFault
  back : List ScriptFault
  order : fs ≡ front ++ fault ∷ back
  here : p fault ≡ true
  none_before : AllByRecursion (λ other. p other ≡ false) front

found : (p : ScriptFault → Bool) (fs : List ScriptFault) (fault : ScriptFault) → find p fs ≡ Some fault → Found p fs fault
found p [] fault e = let bad : ⊥ = cc in absurd bad
found p (f ∷ fs) fault e = go (p f) refl e (found p fs fault)
  where
    go : (b : Bool) → p f ≡ b → cond b (Some f) (find p fs) ≡ Some fault → (find p fs ≡ Some fault → Found p fs fault) → Found p (f ∷ fs) fault
    go true is e rest =
        let same : f ≡ fault = cc in
        subst (λ (g : ScriptFault). Found p (f ∷ fs) g) same (record { front = []; back = fs; order = refl; here = is; none_before = tt })
    go false is e rest =
        let there = rest e in
        record {
          front = f ∷ there.front;
          back = there.back;
          order = ap (λ (l : List ScriptFault). f ∷ l) there.order;
          here = there.here;
          none_before = (is, there.none_before);
        }

found_told : (p : ScriptFault → Bool) (front back : List ScriptFault) (fault : ScriptFault) → p fault ≡ true → AllByRecursion (λ other. p other ≡ false) front → find p (front ++ fault ∷ back) ≡ Some fault
found_told p [] back fault here none = ap (λ (b : Bool). cond b (Some fault) (find p back)) here
found_told p (f ∷ front) back fault here none =
    ap (λ (b : Bool). cond b (Some f) (find p (front ++ fault ∷ back))) none.0 ∙ found_told p front back fault here none.1

none_found : (p : ScriptFault → Bool) (fs : List ScriptFault) → find p fs ≡ None → AllByRecursion (λ fault. p fault ≡ false) fs
none_found p [] e = tt
none_found p (f ∷ fs) e = let s = none_step (p f) f (find p fs) e in (s.0, none_found p fs s.1)

none_told : (p : ScriptFault → Bool) (fs : List ScriptFault) → AllByRecursion (λ fault. p fault ≡ false) fs → find p fs ≡ None
none_told p [] none = refl
none_told p (f ∷ fs) none = ap (λ (b : Bool). cond b (Some f) (find p fs)) none.0 ∙ none_told p fs none.1

-- ---- the first line with a fault

next_twice : (passed : ℕ) → next_number (next_number passed) ≡ next_number (passed + 1)
next_twice passed = omega arith

no_split : (front : List (List ℕ)) (line : List ℕ) (back : List (List ℕ)) → [] ≡ front ++ line ∷ back → ⊥
no_split [] line back e = cc
no_split (x ∷ front) line back e = cc

-- so many lines were passed before these
record RefusedFrom (reader : ValueReader) (config : Config) (takes_fates : Bool) (start : Done) (passed : ℕ) (lines : List (List ℕ)) (number : ℕ) (fault : ScriptFault) : Type 0 where
  before : List (List ℕ)
  line : List ℕ
  behind : List (List ℕ)
  whole : lines ≡ before ++ line ∷ behind
  number_is : number ≡ next_number (passed + length before)
  first : fault_of reader config takes_fates (fold (after config) start before) line ≡ Some fault
  none_before : (front : List (List ℕ)) (other : List ℕ) (back : List (List ℕ)) → before ≡ front ++ other ∷ back → fault_of reader config takes_fates (fold (after config) start front) other ≡ None

none_so_far : (reader : ValueReader) (config : Config) (takes_fates : Bool) (start : Done) (line : List ℕ) (before : List (List ℕ)) → fault_of reader config takes_fates start line ≡ None
    → ((front : List (List ℕ)) (other : List ℕ) (back : List (List ℕ)) → before ≡ front ++ other ∷ back → fault_of reader config takes_fates (fold (after config) (after config start line) front) other ≡ None)
    → (front : List (List ℕ)) (other : List ℕ) (back : List (List ℕ)) → line ∷ before ≡ front ++ other ∷ back → fault_of reader config takes_fates (fold (after config) start front) other ≡ None
none_so_far reader config takes_fates start line before fails none [] other back is =
    let same : line ≡ other = cc in subst (λ (l : List ℕ). fault_of reader config takes_fates start l ≡ None) same fails
none_so_far reader config takes_fates start line before fails none (x ∷ front) other back is =
    let same : line ≡ x = cc in
    let rest : before ≡ front ++ other ∷ back = cc in
    subst (λ (l : List ℕ). fault_of reader config takes_fates (fold (after config) (after config start l) front) other ≡ None) same (none front other back rest)

none_passed : (passed : ℕ) → passed ≡ passed + 0
none_passed passed = omega arith

later : (reader : ValueReader) (config : Config) (takes_fates : Bool) (start : Done) (passed : ℕ) (line : List ℕ) (lines : List (List ℕ)) (number : ℕ) (fault : ScriptFault) → fault_of reader config takes_fates start line ≡ None
    → RefusedFrom reader config takes_fates (after config start line) (passed + 1) lines number fault → RefusedFrom reader config takes_fates start passed (line ∷ lines) number fault
later reader config takes_fates start passed line lines number fault none there = record {
  before = line ∷ there.before;
  line = there.line;
  behind = there.behind;
  whole = ap (λ (ls : List (List ℕ)). line ∷ ls) there.whole;
  number_is = there.number_is ∙ ap next_number (omega arith);
  first = there.first;
  none_before = none_so_far reader config takes_fates start line there.before none there.none_before;
}

refused_from : (reader : ValueReader) (config : Config) (takes_fates : Bool) (start : Done) (passed : ℕ) (lines : List (List ℕ)) (number : ℕ) (fault : ScriptFault) → judged_from reader config takes_fates start (next_number passed) lines ≡ Err (number, fault)
    → RefusedFrom reader config takes_fates start passed lines number fault
refused_from reader config takes_fates start passed [] number fault e = let bad : ⊥ = cc in absurd bad
refused_from reader config takes_fates start passed (line ∷ lines) number fault e =
    go (fault_of reader config takes_fates start line) refl e (refused_from reader config takes_fates (after config start line) (passed + 1) lines number fault)
  where
    go : (o : Option ScriptFault) → fault_of reader config takes_fates start line ≡ o
        → refused_or (next_number passed) o (judged_from reader config takes_fates (after config start line) (next_number (next_number passed)) lines) ≡ Err (number, fault)
        → (judged_from reader config takes_fates (after config start line) (next_number (passed + 1)) lines ≡ Err (number, fault) → RefusedFrom reader config takes_fates (after config start line) (passed + 1) lines number fault)
        → RefusedFrom reader config takes_fates start passed (line ∷ lines) number fault
    go (Some told) is e rest =
        let pair : (next_number passed, told) ≡ (number, fault) = cc in
        let numbers : next_number passed ≡ number = ap (λ (q : ℕ × ScriptFault). q.0) pair in
        let same : told ≡ fault = ap (λ (q : ℕ × ScriptFault). q.1) pair in
        record {
          before = [];
          line = line;
          behind = lines;
          whole = refl;
          number_is = sym numbers ∙ ap next_number (none_passed passed);
          first = is ∙ ap Some same;
          none_before = λ front other back split. absurd (no_split front other back split);
        }
    go None is e rest =
        later reader config takes_fates start passed line lines number fault is
        (rest (ap (λ (n : ℕ). judged_from reader config takes_fates (after config start line) n lines) (sym (next_twice passed)) ∙ e))

told_from : (reader : ValueReader) (config : Config) (takes_fates : Bool) (start : Done) (passed : ℕ) (before : List (List ℕ)) (line : List ℕ) (behind : List (List ℕ)) (fault : ScriptFault)
    → fault_of reader config takes_fates (fold (after config) start before) line ≡ Some fault
    → ((front : List (List ℕ)) (other : List ℕ) (back : List (List ℕ)) → before ≡ front ++ other ∷ back → fault_of reader config takes_fates (fold (after config) start front) other ≡ None)
    → judged_from reader config takes_fates start (next_number passed) (before ++ line ∷ behind) ≡ Err (next_number (passed + length before), fault)
told_from reader config takes_fates start passed [] line behind fault first none =
    ap (λ (o : Option ScriptFault). refused_or (next_number passed) o (judged_from reader config takes_fates (after config start line) (next_number (next_number passed)) behind)) first
    ∙ ap (λ (n : ℕ). Err (next_number n, fault)) (none_passed passed)
told_from reader config takes_fates start passed (x ∷ before) line behind fault first none =
    ap (λ (o : Option ScriptFault). refused_or (next_number passed) o (judged_from reader config takes_fates (after config start x) (next_number (next_number passed)) (before ++ line ∷ behind))) (none [] x before refl)
    ∙ ap (λ (n : ℕ). judged_from reader config takes_fates (after config start x) n (before ++ line ∷ behind)) (next_twice passed)
    ∙ told_from reader config takes_fates (after config start x) (passed + 1) before line behind fault first (λ front other back split. none (x ∷ front) other back (ap (λ (ls : List (List ℕ)). x ∷ ls) split))
    ∙ ap (λ (n : ℕ). Err (next_number n, fault)) (omega arith)

-- ---- no line with a fault

passed_step : (number : ℕ) (o : Option ScriptFault) (rest : Result Done (ℕ × ScriptFault)) (done : Done) → refused_or number o rest ≡ Ok done → (o ≡ None) × (rest ≡ Ok done)
passed_step number None rest done e = (refl, e)
passed_step number (Some fault) rest done e = let bad : ⊥ = cc in absurd bad

passed_from : (reader : ValueReader) (config : Config) (takes_fates : Bool) (start done : Done) (number : ℕ) (lines : List (List ℕ)) → judged_from reader config takes_fates start number lines ≡ Ok done
    → (before : List (List ℕ)) (line : List ℕ) (behind : List (List ℕ)) → lines ≡ before ++ line ∷ behind → fault_of reader config takes_fates (fold (after config) start before) line ≡ None
passed_from reader config takes_fates start done number [] e before line behind split = absurd (no_split before line behind split)
passed_from reader config takes_fates start done number (x ∷ lines) e before line behind split =
    let s = passed_step number (fault_of reader config takes_fates start x) (judged_from reader config takes_fates (after config start x) (next_number number) lines) done e in
    none_so_far reader config takes_fates start x lines s.0 (passed_from reader config takes_fates (after config start x) done (next_number number) lines s.1) before line behind split

none_refused : (reader : ValueReader) (config : Config) (takes_fates : Bool) (start : Done) (number : ℕ) (lines : List (List ℕ))
    → ((before : List (List ℕ)) (line : List ℕ) (behind : List (List ℕ)) → lines ≡ before ++ line ∷ behind → fault_of reader config takes_fates (fold (after config) start before) line ≡ None)
    → IsOk (judged_from reader config takes_fates start number lines)
none_refused reader config takes_fates start number [] none = refl
none_refused reader config takes_fates start number (x ∷ lines) none =
    subst (λ (o : Option ScriptFault). IsOk (refused_or number o (judged_from reader config takes_fates (after config start x) (next_number number) lines))) (sym (none [] x lines refl))
    (none_refused reader config takes_fates (after config start x) (next_number number) lines (λ before line behind split. none (x ∷ before) line behind (ap (λ (ls : List (List ℕ)). x ∷ ls) split)))

-- ---- the script

script_refused : (reader : ValueReader) (config : Config) (bytes : List ℕ) (judgement : Result Done (ℕ × ScriptFault)) (number : ℕ) (fault : ScriptFault) → script_by reader config bytes judgement ≡ Err (number, fault) → judgement ≡ Err (number, fault)
script_refused reader config bytes (Ok done) number fault e = let bad : ⊥ = cc in absurd bad
script_refused reader config bytes (Err end) number fault e = let same : end ≡ (number, fault) = cc in ap Err same

pub refused_by : (reader : ValueReader) (config : Config) (bytes : List ℕ) (takes_fates : Bool) (number : ℕ) (fault : ScriptFault) → script reader config bytes takes_fates ≡ Err (number, fault) → IsRefusedBy reader config takes_fates bytes number fault
unfolding judged
refused_by reader config bytes takes_fates number fault e =
    let r = refused_from reader config takes_fates (nothing_done config) 0 (lines_of bytes) number fault (script_refused reader config bytes (judged reader config takes_fates bytes) number fault e) in
    let first = found (λ (f : ScriptFault). stands reader f config takes_fates (fold (after config) (nothing_done config) r.before) r.line) faults fault r.first in
    record {
      before = r.before;
      line = r.line;
      behind = r.behind;
      whole = r.whole;
      number_is = r.number_is ∙ ap next_number (omega arith);
      first = record { front = first.front; back = first.back; order = first.order; here = first.here; none_before = first.none_before };
      none_before = λ front other back split.
          none_found (λ (f : ScriptFault). stands reader f config takes_fates (fold (after config) (nothing_done config) front) other) faults (r.none_before front other back split);
    }

pub told : (reader : ValueReader) (config : Config) (bytes : List ℕ) (takes_fates : Bool) (number : ℕ) (fault : ScriptFault) → IsRefusedBy reader config takes_fates bytes number fault → script reader config bytes takes_fates ≡ Err (number, fault)
unfolding judged
told reader config bytes takes_fates number fault r =
    let here = λ (before : List (List ℕ)) (line : List ℕ) (f : ScriptFault). stands reader f config takes_fates (fold (after config) (nothing_done config) before) line in
    let first : fault_of reader config takes_fates (fold (after config) (nothing_done config) r.before) r.line ≡ Some fault =
    ap (find (here r.before r.line)) r.first.order ∙ found_told (here r.before r.line) r.first.front r.first.back fault r.first.here r.first.none_before in
    let numbers : next_number (0 + length r.before) ≡ number = ap next_number (omega arith) ∙ sym r.number_is in
    ap (script_by reader config bytes)
    (ap (judged_from reader config takes_fates (nothing_done config) 1) r.whole
    ∙ told_from reader config takes_fates (nothing_done config) 0 r.before r.line r.behind fault first (λ front other back split. none_told (here front other) faults (r.none_before front other back split))
    ∙ ap (λ (n : ℕ). Err (n, fault)) numbers)

script_accepted : (reader : ValueReader) (config : Config) (bytes : List ℕ) (judgement : Result Done (ℕ × ScriptFault)) (found : Script) → script_by reader config bytes judgement ≡ Ok found → (done : Done) × (judgement ≡ Ok done)
script_accepted reader config bytes (Ok done) found e = (done, refl)
script_accepted reader config bytes (Err end) found e = let bad : ⊥ = cc in absurd bad

pub accepted : (reader : ValueReader) (config : Config) (bytes : List ℕ) (takes_fates : Bool) (found : Script) → script reader config bytes takes_fates ≡ Ok found → IsAccepted reader config takes_fates bytes
unfolding judged
accepted reader config bytes takes_fates found e before line behind split =
    let a = script_accepted reader config bytes (judged reader config takes_fates bytes) found e in
    none_found (λ (f : ScriptFault). stands reader f config takes_fates (fold (after config) (nothing_done config) before) line) faults
    (passed_from reader config takes_fates (nothing_done config) a.0 1 (lines_of bytes) a.1 before line behind split)

script_by_ok : (reader : ValueReader) (config : Config) (bytes : List ℕ) (judgement : Result Done (ℕ × ScriptFault)) → IsOk judgement → IsOk (script_by reader config bytes judgement)
script_by_ok reader config bytes (Ok done) ok = refl
script_by_ok reader config bytes (Err end) ok = ok

pub untold : (reader : ValueReader) (config : Config) (bytes : List ℕ) (takes_fates : Bool) → IsAccepted reader config takes_fates bytes → IsOk (script reader config bytes takes_fates)
unfolding judged
untold reader config bytes takes_fates none =
    script_by_ok reader config bytes (judged reader config takes_fates bytes)
    (none_refused reader config takes_fates (nothing_done config) 1 (lines_of bytes)
    (λ before line behind split. none_told (λ (f : ScriptFault). stands reader f config takes_fates (fold (after config) (nothing_done config) before) line) faults (none before line behind split)))
