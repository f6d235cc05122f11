-- One line after another.
use Rattle.std.proofs.Common.{◌≡◌, ℕ, ◌<◌, Bool, List, [], ◌∷◌, ◌++◌, length, Option, Some, None, Result, Ok, Err, refl, sym, ap, ◌∙◌, append_assoc, subst, arith}
use Rattle.dataset_meta.specs.Metas.{MetaData}
use Rattle.ps_config.specs.declared.parts.Config.{Config}
use Rattle.ps_script.specs.declared.fault.ScriptFault.{ScriptFault}
use Rattle.ps_script.specs.declared.script.Line.{Line}
use Rattle.ps_script.specs.declared.script.Act.{Act}
use Rattle.ps_script.specs.Texts.{until, behind, lines_of}
use Rattle.ps_script.specs.Values.{ValueReader}
use Rattle.ps_script.specs.declared.verbs.Verb.{Verb}
use Rattle.ps_script.specs.declared.verbs.Verb.TheVariants as verb
use Rattle.ps_script.specs.Verbs.{verb_of}
use Rattle.ps_script.specs.Past.{Done, done_with, after}
use Rattle.ps_script.specs.Refusals.{fault_of}
use Rattle.ps_script.specs.Acts.{next_number, with_act, act_of, acts_from}
use Rattle.ps_script.specs.Scripts.{judged_from, refused_or}
use Rattle.ps_script.proofs.Pieces.{pieces_cut, pieces_none}

pub line_first : (rest front back : List ℕ) → 0 < length rest → front ≡ until 10 rest → back ≡ behind 10 rest → lines_of rest ≡ front ∷ lines_of back
line_first rest front back some is_front is_back =
    pieces_cut 10 rest some ∙ ap (λ (line : List ℕ). line ∷ lines_of (behind 10 rest)) (sym is_front)
    ∙ ap (λ (bytes : List ℕ). front ∷ lines_of bytes) (sym is_back)

-- what is judged at a line without a fault is judged behind it
pub judged_next : (reader : ValueReader) (config : Config) (takes_fates : Bool) (done next : Done) (number more : ℕ) (rest front back : List ℕ) (all : Result Done (ℕ × ScriptFault)) → judged_from reader config takes_fates done number (lines_of rest) ≡ all → 0 < length rest → front ≡ until 10 rest → back ≡ behind 10 rest → fault_of reader config takes_fates done front ≡ None → next ≡ after config done front → more ≡ next_number number → judged_from reader config takes_fates next more (lines_of back) ≡ all
judged_next reader config takes_fates done next number more rest front back all judged some is_front is_back none is is_more =
    ap (λ (d : Done). judged_from reader config takes_fates d more (lines_of back)) is
    ∙ ap (λ (n : ℕ). judged_from reader config takes_fates (after config done front) n (lines_of back)) is_more
    ∙ sym (ap (λ (o : Option ScriptFault). refused_or number o (judged_from reader config takes_fates (after config done front) (next_number number) (lines_of back))) none)
    ∙ sym (ap (judged_from reader config takes_fates done number) (line_first rest front back some is_front is_back))
    ∙ judged

-- a line with a fault is what is told
pub judged_fault : (reader : ValueReader) (config : Config) (takes_fates : Bool) (done : Done) (number : ℕ) (rest front back : List ℕ) (fault : ScriptFault) (all : Result Done (ℕ × ScriptFault)) → judged_from reader config takes_fates done number (lines_of rest) ≡ all → 0 < length rest → front ≡ until 10 rest → back ≡ behind 10 rest → fault_of reader config takes_fates done front ≡ Some fault → all ≡ Err (number, fault)
judged_fault reader config takes_fates done number rest front back fault all judged some is_front is_back found =
    sym judged ∙ ap (judged_from reader config takes_fates done number) (line_first rest front back some is_front is_back)
    ∙ ap (λ (o : Option ScriptFault). refused_or number o (judged_from reader config takes_fates (after config done front) (next_number number) (lines_of back))) found

-- behind the last line nothing is refused
pub judged_end : (reader : ValueReader) (config : Config) (takes_fates : Bool) (done : Done) (number : ℕ) (rest : List ℕ) (all : Result Done (ℕ × ScriptFault)) → judged_from reader config takes_fates done number (lines_of rest) ≡ all → length rest ≡ 0 → all ≡ Ok done
judged_end reader config takes_fates done number rest all judged none =
    sym judged ∙ ap (judged_from reader config takes_fates done number) (pieces_none 10 rest none)

acts_cut : (reader : ValueReader) (config : Config) (metas : List MetaData) (number more : ℕ) (rest front back : List ℕ) → 0 < length rest → front ≡ until 10 rest → back ≡ behind 10 rest → more ≡ next_number number → acts_from reader config metas number (lines_of rest) ≡ with_act number (act_of reader config metas front) (acts_from reader config metas more (lines_of back))
acts_cut reader config metas number more rest front back some is_front is_back is_more =
    ap (acts_from reader config metas number) (line_first rest front back some is_front is_back)
    ∙ ap (λ (n : ℕ). with_act number (act_of reader config metas front) (acts_from reader config metas n (lines_of back))) (sym is_more)

pub acts_end : (reader : ValueReader) (config : Config) (metas : List MetaData) (number : ℕ) (rest : List ℕ) (before all : List Line) → before ++ acts_from reader config metas number (lines_of rest) ≡ all → length rest ≡ 0 → before ++ [] ≡ all
acts_end reader config metas number rest before all so_far none =
    sym (ap (λ (ls : List Line). before ++ ls) (ap (acts_from reader config metas number) (pieces_none 10 rest none))) ∙ so_far

with_one : (number : ℕ) (found : Option Act) (lines : List Line) → with_act number found lines ≡ with_act number found [] ++ lines
with_one number None lines = refl
with_one number (Some act) lines = refl

-- a line, whether it does something or not
pub acts_step : (reader : ValueReader) (config : Config) (metas : List MetaData) (number more : ℕ) (rest front back : List ℕ) (before new all : List Line) (found : Option Act) → before ++ acts_from reader config metas number (lines_of rest) ≡ all → 0 < length rest → front ≡ until 10 rest → back ≡ behind 10 rest → more ≡ next_number number → found ≡ act_of reader config metas front → new ≡ before ++ with_act number found [] → new ++ acts_from reader config metas more (lines_of back) ≡ all
acts_step reader config metas number more rest front back before new all found so_far some is_front is_back is_more is_found is_new =
    ap (λ (ls : List Line). ls ++ acts_from reader config metas more (lines_of back)) is_new
    ∙ append_assoc before (with_act number found []) (acts_from reader config metas more (lines_of back))
    ∙ ap (λ (ls : List Line). before ++ ls) (sym (with_one number found (acts_from reader config metas more (lines_of back)))
    ∙ ap (λ (o : Option Act). with_act number o (acts_from reader config metas more (lines_of back))) is_found
    ∙ sym (acts_cut reader config metas number more rest front back some is_front is_back is_more))
    ∙ so_far

-- ---- lines that append nothing

unappended : (config : Config) (done : Done) (line : List ℕ) (v : Option Verb) → (done_with config done line v).appends ≡ 0 → (done.appends ≡ 0) × ((done_with config done line v).metas ≡ done.metas)
unappended config done line None none = (none, refl)
unappended config done line (Some verb.Write) none = (none, refl)
unappended config done line (Some verb.Tick) none = (none, refl)
unappended config done line (Some verb.Enable) none = (none, refl)
unappended config done line (Some verb.Disable) none = (none, refl)
unappended config done line (Some verb.Append) none = absurd (omega arith)
unappended config done line (Some verb.Fate) none = (none, refl)
unappended config done line (Some verb.Watch) none = (none, refl)

-- where nothing is appended behind a line, nothing was before it, and the data sets are the same
pub none_appended : (config : Config) (done next : Done) (line : List ℕ) → next ≡ after config done line → next.appends ≡ 0 → (done.appends ≡ 0) × (next.metas ≡ done.metas)
unfolding after
none_appended config done next line is none =
    let n : (after config done line).appends ≡ 0 = subst (λ (d : Done). d.appends ≡ 0) is none in
    let u = unappended config done line (verb_of line) n in
    (u.0, ap (λ (d : Done). d.metas) is ∙ u.1)

-- a line that appends nothing, read by the data sets that there are behind it
pub read_step : (reader : ValueReader) (config : Config) (done next : Done) (sets : List MetaData) (number more : ℕ) (rest front back : List ℕ) (before new all : List Line) → next ≡ after config done front → next.appends ≡ 0 → (done.appends ≡ 0 → done.metas ≡ sets) → (done.appends ≡ 0 → before ++ acts_from reader config sets number (lines_of rest) ≡ all) → 0 < length rest → front ≡ until 10 rest → back ≡ behind 10 rest → more ≡ next_number number → new ≡ before ++ with_act number (act_of reader config next.metas front) [] → new ++ acts_from reader config sets more (lines_of back) ≡ all
read_step reader config done next sets number more rest front back before new all is none same so_far some is_front is_back is_more is_new =
    let u = none_appended config done next front is none in
    let metas : next.metas ≡ sets = u.1 ∙ same u.0 in
    acts_step reader config sets number more rest front back before new all (act_of reader config next.metas front) (so_far u.0) some is_front is_back is_more
    (ap (λ (ms : List MetaData). act_of reader config ms front) metas) is_new
