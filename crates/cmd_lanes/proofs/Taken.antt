-- Scripts that lanes take.
use Rattle.std.proofs.Common.{◌≡◌, ℕ, zero, suc, ◌<◌, Bool, true, false, cond, not, List, [], ◌∷◌, length, get_or, refl, sym, ap, ◌∙◌, arith, Some, None}
use Rattle.std.specs.Prelude.{find, option_map}
use Rattle.std.proofs.lemmas.List.{ext_get_or, take_all}
use Rattle.std.proofs.lemmas.Option.{slice_get-get_or}
use Rattle.dataset_meta.specs.Metas.{MetaData, no_meta}
use Rattle.ps_config.specs.declared.parts.Config.{Config}
use Rattle.ps_script.specs.declared.script.Act.{Act}
use Rattle.ps_script.specs.declared.script.Act.TheVariants as act
use Rattle.ps_script.specs.declared.script.Line.{Line}
use Rattle.ps_script.specs.declared.script.Script.{Script}
use Rattle.ps_script.specs.Sessions.{appends_in, is_append}
use Rattle.ps_script.specs.Sound.{IsGrown, IsScript}
use Rattle.script_player.proofs.Lines.{count_by-cons}
use Rattle.cmd_lanes.specs.Scripts.{is_taken, refusal}

-- each line is taken
abbrev pub AreTaken : List Line → Type 0
AreTaken [] = Unit {0}
AreTaken (line ∷ lines) = (is_taken line.act ≡ true) × AreTaken lines

found : (n : ℕ) → Some n ≡ None → ⊥
found n e = cc

-- where the search for one that isn't finds none
pub taken-all : (lines : List Line) → option_map (λ (line : Line). line.at) (find (λ (line : Line). not (is_taken line.act)) lines) ≡ None → AreTaken lines
taken-all [] none = tt
taken-all (line ∷ lines) none = by_case (is_taken line.act) refl (taken-all lines)
  where
    by_case : (b : Bool) → is_taken line.act ≡ b
        → (option_map (λ (line : Line). line.at) (find (λ (line : Line). not (is_taken line.act)) lines) ≡ None → AreTaken lines) → AreTaken (line ∷ lines)
    by_case true e later =
        (e, later (ap (λ (b : Bool). option_map (λ (l : Line). l.at) (cond (not b) (Some line) (find (λ (l : Line). not (is_taken l.act)) lines))) (sym e) ∙ none))
    by_case false e later = absurd (found line.at (ap (λ (b : Bool). option_map (λ (l : Line). l.at) (cond (not b) (Some line) (find (λ (l : Line). not (is_taken l.act)) lines))) (sym e) ∙ none))

pub taken-at : (lines : List Line) (k : ℕ) (d : Line) → AreTaken lines → k < length lines → is_taken (get_or lines k d).act ≡ true
taken-at [] k d are low = absurd (omega (arith, low))
taken-at (line ∷ lines) zero d are low = are.0
taken-at (line ∷ lines) (suc k) d are low = taken-at lines k d are.1 (omega (arith, low))

-- ---- no data set grows

no-append : (index : ℕ) (what : Act) → is_taken what ≡ true → is_append index what ≡ false
no-append index (act.Write thread set patch) taken = refl
no-append index (act.Tick ms) taken = refl
no-append index (act.Enable id) taken = refl
no-append index (act.Disable id) taken = refl
no-append index (act.Fated number fate) taken = refl
no-append index (act.Watch thread reader times) taken = refl
no-append index (act.Append set) taken = cc

no-appends : (index : ℕ) (lines : List Line) → AreTaken lines → appends_in index lines ≡ 0
no-appends index [] are = refl
no-appends index (line ∷ lines) are =
    let none = ap {B = ℕ} (λ (b : Bool). cond b 1 0) (no-append index line.act are.0) in
    omega (arith, none, no-appends index lines are.1, count_by-cons (λ (l : Line). is_append index l.act) line lines)

meta-same : (a b : MetaData) → a.name ≡ b.name → a.fields ≡ b.fields → a.major ≡ b.major → a.minor ≡ b.minor → a.quality ≡ b.quality → a ≡ b
meta-same a b name fields major minor quality = λ i. record { name = name i; fields = fields i; major = major i; minor = minor i; quality = quality i }

grown-same : (index : ℕ) (lines : List Line) (configured full : MetaData) → IsGrown index lines configured full → appends_in index lines ≡ 0 → full ≡ configured
grown-same index lines configured full is none =
    meta-same full configured is.name
    (sym (is.grown.fields ∙ take_all (length configured.fields) full.fields (let c = is.count in omega (arith, c, none))))
    is.major (let m = is.minor in omega (arith, m, none)) (sym is.grown.quality)

pub same-metas : (config : Config) (script : Script) → IsScript config script → refusal script ≡ None → script.metas ≡ config.dataset
same-metas config script is taken =
    ext_get_or no_meta script.metas config.dataset is.sets
    (λ k low.
    let there : k < length config.dataset = omega (arith, low, is.sets) in
    grown-same k script.lines (get_or config.dataset k no_meta) (get_or script.metas k no_meta)
    (is.metas k (get_or config.dataset k no_meta) (get_or script.metas k no_meta) (slice_get-get_or config.dataset k no_meta there) (slice_get-get_or script.metas k no_meta low))
    (no-appends k script.lines (taken-all script.lines taken)))
