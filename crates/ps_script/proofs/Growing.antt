-- The data sets behind the first lines of a script.
use Rattle.std.proofs.Common.{◌≡◌, ℕ, zero, suc, ◌+◌, ◌<◌, ◌≤◌, Bool, false, cond, List, [], ◌∷◌, ◌++◌, length, take, Some, slice_get, refl, sym, ap, ◌∙◌, arith}
use Rattle.std.proofs.lemmas.Bool.{eq-eqb}
use Rattle.std.proofs.lemmas.List.{take_all, take_more}
use Rattle.std.proofs.lemmas.List.Sums.{sum_by_more, sum_by-take-le}
use Rattle.std.proofs.lemmas.Option.{same_Some, none-some, slice_get_within, get_or_from_slice_get}
use Rattle.dataset_meta.specs.declared.field.Field.{Field}
use Rattle.dataset_meta.specs.Metas.{MetaData, meta_of, grown}
use Rattle.ps_config.specs.declared.parts.Config.{Config}
use Rattle.ps_script.specs.declared.script.Line.{Line}
use Rattle.ps_script.specs.declared.script.Act.{Act}
use Rattle.ps_script.specs.declared.script.Act.TheVariants as act
use Rattle.ps_script.specs.declared.script.Script.{Script}
use Rattle.ps_script.specs.Sessions.{is_append, appends_in, meta_behind, metas_from, metas_behind}
use Rattle.ps_script.specs.Sound.{IsGrown, IsSetOf}

same_meta : (name other_name : List ℕ) (fields other_fields : List Field) (major other_major minor other_minor : ℕ) (quality other_quality : Bool) → name ≡ other_name → fields ≡ other_fields → major ≡ other_major
    → minor ≡ other_minor → quality ≡ other_quality → meta_of name fields major minor quality ≡ meta_of other_name other_fields other_major other_minor other_quality
same_meta name other_name fields other_fields major other_major minor other_minor quality other_quality names field_lists majors minors qualities =
    ap (λ (n : List ℕ). meta_of n fields major minor quality) names
    ∙ ap (λ (fs : List Field). meta_of other_name fs major minor quality) field_lists
    ∙ ap (λ (k : ℕ). meta_of other_name other_fields k minor quality) majors
    ∙ ap (λ (k : ℕ). meta_of other_name other_fields other_major k quality) minors
    ∙ ap (λ (q : Bool). meta_of other_name other_fields other_major other_minor q) qualities

none_more : (n : ℕ) → n + 0 ≡ n
none_more n = omega arith

pub first_behind : (config : Config) (script : Script) (set : ℕ) (configured full : MetaData) → IsSetOf config script set configured full → meta_behind set configured full [] ≡ configured
first_behind config script set configured full is =
    let g : IsGrown set script.lines configured full = is.is_script.metas set configured full is.first is.last in
    same_meta full.name configured.name (take (length configured.fields + 0) full.fields) configured.fields full.major configured.major (configured.minor + 0) configured.minor full.quality configured.quality
    g.name (ap (λ (n : ℕ). take n full.fields) (none_more (length configured.fields)) ∙ sym g.grown.fields) g.major (none_more configured.minor) (sym g.grown.quality)

pub last_behind : (config : Config) (script : Script) (set : ℕ) (configured full : MetaData) → IsSetOf config script set configured full → meta_behind set configured full script.lines ≡ full
last_behind config script set configured full is =
    let g : IsGrown set script.lines configured full = is.is_script.metas set configured full is.first is.last in
    let count : ℕ = length configured.fields + appends_in set script.lines in
    let all : length full.fields ≤ count = omega (arith, g.count) in
    same_meta full.name full.name (take count full.fields) full.fields full.major full.major (configured.minor + appends_in set script.lines) full.minor full.quality full.quality
    refl (take_all count full.fields all) refl (sym g.minor) refl

-- a data set behind these lines, among all; the first has this number
behind_at : (first : ℕ) (configured full : List MetaData) (lines : List Line) (k set : ℕ) (here there : MetaData) → first + k ≡ set → slice_get configured k ≡ Some here → slice_get full k ≡ Some there
    → slice_get (metas_from first configured full lines) k ≡ Some (meta_behind set here there lines)
behind_at first [] full lines k set here there e found whole = absurd (none-some here found)
behind_at first (x ∷ configured) [] lines k set here there e found whole = absurd (none-some there whole)
behind_at first (x ∷ configured) (y ∷ full) lines zero set here there e found whole =
    let same : first ≡ set = omega (arith, e) in
    ap (λ (m : MetaData). Some (meta_behind first m y lines)) (same_Some x here found)
    ∙ ap (λ (m : MetaData). Some (meta_behind first here m lines)) (same_Some y there whole)
    ∙ ap (λ (n : ℕ). Some (meta_behind n here there lines)) same
behind_at first (x ∷ configured) (y ∷ full) lines (suc k) set here there e found whole =
    let next : first + 1 + k ≡ set = omega (arith, e) in behind_at (first + 1) configured full lines k set here there next found whole

none_before : (n : ℕ) → 0 + n ≡ n
none_before n = omega arith

pub each_behind : (config : Config) (script : Script) (set : ℕ) (configured full : MetaData) (lines : List Line) → IsSetOf config script set configured full
    → slice_get (metas_behind config.dataset script.metas lines) set ≡ Some (meta_behind set configured full lines)
each_behind config script set configured full lines is = behind_at 0 config.dataset script.metas lines set set configured full (none_before set) is.first is.last

appends_more : (set k : ℕ) (lines : List Line) (line : Line) → slice_get lines k ≡ Some line → appends_in set (take (k + 1) lines) ≡ appends_in set (take k lines) + cond (is_append set line.act) 1 0
appends_more set k lines line found =
    sum_by_more (λ (l : Line). cond (is_append set l.act) 1 0) lines k line (slice_get_within lines k line found)
    ∙ ap (λ (l : Line). appends_in set (take k lines) + cond (is_append set l.act) 1 0) (get_or_from_slice_get lines k line line found)

one_more : (set k : ℕ) (lines : List Line) (line : Line) → slice_get lines k ≡ Some line → line.act ≡ act.Append set → appends_in set (take (k + 1) lines) ≡ appends_in set (take k lines) + 1
one_more set k lines line found is =
    appends_more set k lines line found
    ∙ ap (λ (a : Act). appends_in set (take k lines) + cond (is_append set a) 1 0) is
    ∙ ap (λ (v : Bool). appends_in set (take k lines) + cond v 1 0) (eq-eqb set set refl)

pub field_there : (config : Config) (script : Script) (set k : ℕ) (configured full : MetaData) (line : Line) → IsSetOf config script set configured full → slice_get script.lines k ≡ Some line → line.act ≡ act.Append set
    → length configured.fields + appends_in set (take k script.lines) < length full.fields
field_there config script set k configured full line is found append =
    let g : IsGrown set script.lines configured full = is.is_script.metas set configured full is.first is.last in
    let one = one_more set k script.lines line found append in
    let most : appends_in set (take (k + 1) script.lines) ≤ appends_in set script.lines = sum_by-take-le (λ (l : Line). cond (is_append set l.act) 1 0) script.lines (k + 1) in
    omega (arith, g.count, one, most)

pub behind_append : (set k : ℕ) (configured full : MetaData) (lines : List Line) (line : Line) (field : Field) → slice_get lines k ≡ Some line → line.act ≡ act.Append set
    → slice_get full.fields (length configured.fields + appends_in set (take k lines)) ≡ Some field
    → meta_behind set configured full (take (k + 1) lines) ≡ grown (meta_behind set configured full (take k lines)) field
behind_append set k configured full lines line field found append there =
    let n : ℕ = appends_in set (take k lines) in
    let one : appends_in set (take (k + 1) lines) ≡ n + 1 = one_more set k lines line found append in
    let at : ℕ = length configured.fields + n in
    let count : length configured.fields + (n + 1) ≡ at + 1 = omega arith in
    let minor : configured.minor + (n + 1) ≡ configured.minor + n + 1 = omega arith in
    let more : take (at + 1) full.fields ≡ take at full.fields ++ field ∷ [] =
    take_more full.fields at field (slice_get_within full.fields at field there)
    ∙ ap (λ (f : Field). take at full.fields ++ f ∷ []) (get_or_from_slice_get full.fields at field field there) in
    same_meta full.name full.name (take (length configured.fields + appends_in set (take (k + 1) lines)) full.fields) (take at full.fields ++ field ∷ []) full.major full.major
    (configured.minor + appends_in set (take (k + 1) lines)) (configured.minor + n + 1) full.quality full.quality
    refl (ap (λ (m : ℕ). take (length configured.fields + m) full.fields) one ∙ ap (λ (m : ℕ). take m full.fields) count ∙ more) refl
    (ap (λ (m : ℕ). configured.minor + m) one ∙ minor) refl

pub behind_other : (set k : ℕ) (configured full : MetaData) (lines : List Line) (line : Line) → slice_get lines k ≡ Some line → is_append set line.act ≡ false
    → meta_behind set configured full (take (k + 1) lines) ≡ meta_behind set configured full (take k lines)
behind_other set k configured full lines line found other =
    let same : appends_in set (take (k + 1) lines) ≡ appends_in set (take k lines) =
    appends_more set k lines line found ∙ ap (λ (v : Bool). appends_in set (take k lines) + cond v 1 0) other ∙ none_more (appends_in set (take k lines)) in
    ap (λ (n : ℕ). meta_of full.name (take (length configured.fields + n) full.fields) full.major (configured.minor + n) full.quality) same
