-- What the lines of a script append: each append is allowed, and together they make the script's data sets.
use Rattle.std.proofs.Common.{◌≡◌, refl, sym, ap, ◌∙◌, subst, arith, ℕ, ◌+◌, ◌<◌, ◌≤◌, ◌^◌, ◌==◌, ◌⊎◌, inl, inr, false, cond, List, [], ◌∷◌, ◌++◌, length, length-append, take, get_or, set, slice_get, Some, count_by, append-nil, ext_get_or, get_or-set_same, get_or-set_other}
use Rattle.std.proofs.lemmas.Bool.{cases_eq, ne_eqb}
use Rattle.std.proofs.lemmas.List.{length-set, length-map, map_push, take_more, flat_map_more}
use Rattle.std.proofs.lemmas.List.Folds.{fold-map}
use Rattle.std.proofs.lemmas.List.Sums.{sum_by-append, sum_by-cons, sum_by_more, sum_by-take-le}
use Rattle.std.proofs.lemmas.Option.{slice_get-get_or, slice_get_within, get_or_from_slice_get}
use Rattle.dataset_meta.specs.Metas.{MetaData, grown, no_meta}
use Rattle.ps_config.specs.declared.parts.Config.{Config}
use Rattle.ps_script.specs.declared.script.Act.{Act}
use Rattle.ps_script.specs.declared.script.Act.TheVariants as act
use Rattle.ps_script.specs.declared.script.Line.{Line}
use Rattle.ps_script.specs.declared.script.Script.{Script}
use Rattle.ps_script.specs.Sessions.{appends_in, is_append, meta_behind, metas_behind, metas_from}
use Rattle.ps_script.specs.Sound.{IsAct, IsAppend, IsGrown, IsScript, IsSetOf, is_some_append}
use Rattle.ps_script.proofs.Growing.{behind_append, behind_other, each_behind, field_there, first_behind, last_behind}
use Rattle.ps_script.proofs.Mute.{none_mute_tell}
use Rattle.session_model.specs.Sets.{MayAppend, meta_in}
use Rattle.pubsub_engine.specs.declared.size.Append.{Append}
use Rattle.pubsub_engine.specs.Holding.{AreAppends, full_of, grown_by}
use Rattle.script_player.specs.Sizes.{AppendsBy, HasNext, IsNext, appended_by, appended_sets, appends_to, next_field}

-- ---- all data sets behind some lines

length-from : (first : ℕ) (configured full : List MetaData) (lines : List Line) → length full ≡ length configured → length (metas_from first configured full lines) ≡ length configured
length-from first [] full lines same = refl
length-from first (meta ∷ configured) [] lines same = absurd (omega (arith, same))
length-from first (meta ∷ configured) (whole ∷ full) lines same =
    let later = length-from (first + 1) configured full lines (omega (arith, same)) in omega arith

length-behind : (config : Config) (script : Script) (lines : List Line) → IsScript config script → length (metas_behind config.dataset script.metas lines) ≡ length config.dataset
length-behind config script lines is = length-from 0 config.dataset script.metas lines is.sets

set-of : (config : Config) (script : Script) (index : ℕ) → IsScript config script → index < length config.dataset
    → IsSetOf config script index (meta_in config.dataset index) (meta_in script.metas index)
set-of config script index is there = record {
  is_script = is;
  first = slice_get-get_or config.dataset index no_meta there;
  last = slice_get-get_or script.metas index no_meta (omega (arith, is.sets));
}

meta-behind : (config : Config) (script : Script) (lines : List Line) (index : ℕ) → IsScript config script → index < length config.dataset
    → get_or (metas_behind config.dataset script.metas lines) index no_meta ≡ meta_behind index (meta_in config.dataset index) (meta_in script.metas index) lines
meta-behind config script lines index is there =
    get_or_from_slice_get (metas_behind config.dataset script.metas lines) index (meta_behind index (meta_in config.dataset index) (meta_in script.metas index) lines) no_meta
    (each_behind config script index (meta_in config.dataset index) (meta_in script.metas index) lines (set-of config script index is there))

-- the data sets behind some lines are these, if each of them is
are-behind : (config : Config) (script : Script) (lines : List Line) (metas : List MetaData) → IsScript config script → length metas ≡ length config.dataset
    → ((index : ℕ) → index < length config.dataset → get_or metas index no_meta ≡ meta_behind index (meta_in config.dataset index) (meta_in script.metas index) lines)
    → metas ≡ metas_behind config.dataset script.metas lines
are-behind config script lines metas is count each =
    ext_get_or no_meta metas (metas_behind config.dataset script.metas lines) (count ∙ sym (length-behind config script lines is))
    (λ index within.
    let there : index < length config.dataset = omega (arith, count) in
    each index there ∙ sym (meta-behind config script lines index is there))

first-metas : (config : Config) (script : Script) → IsScript config script → config.dataset ≡ metas_behind config.dataset script.metas []
first-metas config script is =
    are-behind config script [] config.dataset is refl
    (λ index there. sym (first_behind config script index (meta_in config.dataset index) (meta_in script.metas index) (set-of config script index is there)))

last-metas : (config : Config) (script : Script) → IsScript config script → script.metas ≡ metas_behind config.dataset script.metas script.lines
last-metas config script is =
    are-behind config script script.lines script.metas is is.sets
    (λ index there. sym (last_behind config script index (meta_in config.dataset index) (meta_in script.metas index) (set-of config script index is there)))

-- ---- the next line

no-append : (index : ℕ) (a : Act) → ((other : ℕ) → a ≡ act.Append other → ⊥) → is_append index a ≡ false
no-append index (act.Write thread other patch) none = refl
no-append index (act.Tick ms) none = refl
no-append index (act.Enable id) none = refl
no-append index (act.Disable id) none = refl
no-append index (act.Fated k fate) none = refl
no-append index (act.Watch thread reader times) none = refl
no-append index (act.Append other) none = absurd (none other refl)

none-appended : (a : Act) → ((other : ℕ) → a ≡ act.Append other → ⊥) → appended_by a ≡ []
none-appended (act.Write thread other patch) none = refl
none-appended (act.Tick ms) none = refl
none-appended (act.Enable id) none = refl
none-appended (act.Disable id) none = refl
none-appended (act.Fated k fate) none = refl
none-appended (act.Watch thread reader times) none = refl
none-appended (act.Append other) none = absurd (none other refl)

appended-more : (lines : List Line) (k : ℕ) (line : Line) → slice_get lines k ≡ Some line → appended_sets (take (k + 1) lines) ≡ appended_sets (take k lines) ++ appended_by line.act
appended-more lines k line found =
    ap (λ (ls : List Line). appended_sets ls) (take_more lines k line (slice_get_within lines k line found))
    ∙ ap (λ (l : Line). appended_sets (take k lines ++ l ∷ [])) (get_or_from_slice_get lines k line line found)
    ∙ sym (flat_map_more (λ (l : Line). appended_by l.act) [] (take k lines) line)

-- another line than an append changes no data set
metas-other : (config : Config) (script : Script) (k : ℕ) (line : Line) → IsScript config script → slice_get script.lines k ≡ Some line → ((other : ℕ) → line.act ≡ act.Append other → ⊥)
    → metas_behind config.dataset script.metas (take k script.lines) ≡ metas_behind config.dataset script.metas (take (k + 1) script.lines)
metas-other config script k line is found none =
    are-behind config script (take (k + 1) script.lines) (metas_behind config.dataset script.metas (take k script.lines)) is (length-behind config script (take k script.lines) is)
    (λ index there.
    meta-behind config script (take k script.lines) index is there
    ∙ sym (behind_other index k (meta_in config.dataset index) (meta_in script.metas index) script.lines line found (no-append index line.act none)))

pub appends-other : (config : Config) (script : Script) (k : ℕ) (line : Line) (appends : List Append) → IsScript config script → slice_get script.lines k ≡ Some line
    → ((other : ℕ) → line.act ≡ act.Append other → ⊥) → AppendsBy config script (take k script.lines) appends → AppendsBy config script (take (k + 1) script.lines) appends
appends-other config script k line appends is found none by = record {
  allowed = by.allowed;
  sets =
      by.sets ∙ sym (append-nil (appended_sets (take k script.lines)))
      ∙ ap (λ (ns : List ℕ). appended_sets (take k script.lines) ++ ns) (sym (none-appended line.act none)) ∙ sym (appended-more script.lines k line found);
  full = by.full ∙ metas-other config script k line is found none;
}

-- ---- an append

-- what a line `append` makes of all data sets
metas-append : (config : Config) (script : Script) (k : ℕ) (line : Line) (append : Append) → IsScript config script → slice_get script.lines k ≡ Some line → line.act ≡ act.Append append.set
    → append.set < length config.dataset
    → slice_get (meta_in script.metas append.set).fields (length (meta_in config.dataset append.set).fields + appends_in append.set (take k script.lines)) ≡ Some append.field
    → grown_by (metas_behind config.dataset script.metas (take k script.lines)) append ≡ metas_behind config.dataset script.metas (take (k + 1) script.lines)
metas-append config script k line append is found appends here field =
    are-behind config script (take (k + 1) script.lines) (grown_by old append) is
    (length-set old append.set more ∙ length-behind config script (take k script.lines) is)
    (λ index there. go index there (cases_eq index append.set))
  where
    old : List MetaData
    old = metas_behind config.dataset script.metas (take k script.lines)

    more : MetaData
    more = grown (meta_in old append.set) append.field

    next : (index : ℕ) → MetaData
    next index = meta_behind index (meta_in config.dataset index) (meta_in script.metas index) (take (k + 1) script.lines)

    mine : get_or (set old append.set more) append.set no_meta ≡ next append.set
    mine =
        get_or-set_same old append.set more no_meta (omega (arith, length-behind config script (take k script.lines) is))
        ∙ ap (λ (meta : MetaData). grown meta append.field) (meta-behind config script (take k script.lines) append.set is here)
        ∙ sym (behind_append append.set k (meta_in config.dataset append.set) (meta_in script.metas append.set) script.lines line append.field found appends field)

    go : (index : ℕ) → index < length config.dataset → (index ≡ append.set) ⊎ (index ≡ append.set → ⊥) → get_or (set old append.set more) index no_meta ≡ next index
    go index there (inl same) = subst (λ (i : ℕ). get_or (set old append.set more) i no_meta ≡ next i) (sym same) mine
    go index there (inr apart) =
        get_or-set_other old append.set index more no_meta apart
        ∙ meta-behind config script (take k script.lines) index is there
        ∙ sym (behind_other index k (meta_in config.dataset index) (meta_in script.metas index) script.lines line found
        (ap (is_append index) appends ∙ ne_eqb append.set index (λ same. apart (sym same))))

is-append : (config : Config) (script : Script) (k : ℕ) (line : Line) (index : ℕ) → IsScript config script → slice_get script.lines k ≡ Some line → line.act ≡ act.Append index
    → IsAppend config script.metas index
is-append config script k line index is found appends = subst (IsAct config script.metas (take k script.lines)) appends (is.acts k line found)

may-append : (config : Config) (script : Script) (k : ℕ) (line : Line) (index : ℕ) → IsScript config script → slice_get script.lines k ≡ Some line → line.act ≡ act.Append index
    → (meta_in script.metas index).minor < 2 ^ 32
    → MayAppend config (metas_behind config.dataset script.metas (take k script.lines)) index (metas_behind config.dataset script.metas (take (k + 1) script.lines))
may-append config script k line index is found appends minor =
    let one : IsAppend config script.metas index = is-append config script k line index is found appends in
    let there : index < length config.dataset = omega (arith, one.there, is.sets) in
    let behind : (meta_in (metas_behind config.dataset script.metas (take (k + 1) script.lines)) index).minor ≡ (meta_in config.dataset index).minor + appends_in index (take (k + 1) script.lines) =
    ap (λ (meta : MetaData). meta.minor) (meta-behind config script (take (k + 1) script.lines) index is there) in
    let of : IsSetOf config script index (meta_in config.dataset index) (meta_in script.metas index) = set-of config script index is there in
    let grown_to : IsGrown index script.lines (meta_in config.dataset index) (meta_in script.metas index) = is.metas index (meta_in config.dataset index) (meta_in script.metas index) of.first of.last in
    let most : appends_in index (take (k + 1) script.lines) ≤ appends_in index script.lines = sum_by-take-le (λ (l : Line). cond (is_append index l.act) 1 0) script.lines (k + 1) in
    record {
      there = omega (arith, there, length-behind config script (take k script.lines) is);
      told = none_mute_tell index config.group one.told;
      minor = omega (arith, behind, grown_to.minor, most, minor);
      fit = record { each = (is.behind (k + 1)).each; room = (is.behind (k + 1)).room };
    }

full-more : (metas : List MetaData) (appends : List Append) (append : Append) → full_of metas (appends ++ append ∷ []) ≡ grown_by (full_of metas appends) append
full-more metas [] append = refl
full-more metas (first ∷ appends) append = full-more (grown_by metas first) appends append

allowed-more : (config : Config) (metas : List MetaData) (appends : List Append) (append : Append) → AreAppends config metas appends
    → MayAppend config (full_of metas appends) append.set (grown_by (full_of metas appends) append) → AreAppends config metas (appends ++ append ∷ [])
allowed-more config metas [] append are may = (may, tt)
allowed-more config metas (first ∷ appends) append are may = (are.0, allowed-more config (grown_by metas first) appends append are.1 may)

-- ---- how many appends there were

appends-of-act : (index : ℕ) (a : Act) → count_by (λ (n : ℕ). n == index) (appended_by a) ≡ cond (is_append index a) 1 0
appends-of-act index (act.Write thread other patch) = refl
appends-of-act index (act.Tick ms) = refl
appends-of-act index (act.Enable id) = refl
appends-of-act index (act.Disable id) = refl
appends-of-act index (act.Fated k fate) = refl
appends-of-act index (act.Watch thread reader times) = refl
appends-of-act index (act.Append other) = omega arith

appends-of-lines : (index : ℕ) (lines : List Line) → count_by (λ (n : ℕ). n == index) (appended_sets lines) ≡ appends_in index lines
appends-of-lines index [] = refl
appends-of-lines index (line ∷ lines) =
    let all = sum_by-append (λ (n : ℕ). cond (n == index) 1 0) (appended_by line.act) (appended_sets lines) in
    let here = appends-of-act index line.act in
    let later = appends-of-lines index lines in
    let other = sum_by-cons (λ (l : Line). cond (is_append index l.act) 1 0) line lines in
    omega arith

counted : (config : Config) (script : Script) (lines : List Line) (appends : List Append) (index : ℕ) → AppendsBy config script lines appends → appends_to index appends ≡ appends_in index lines
counted config script lines appends index by =
    sym (fold-map (λ (n set : ℕ). n + cond (set == index) 1 0) (λ (append : Append). append.set) 0 appends)
    ∙ ap (λ (ns : List ℕ). count_by (λ (n : ℕ). n == index) ns) by.sets ∙ appends-of-lines index lines

length-of-act : (a : Act) → length (appended_by a) ≡ cond (is_some_append a) 1 0
length-of-act (act.Write thread other patch) = refl
length-of-act (act.Tick ms) = refl
length-of-act (act.Enable id) = refl
length-of-act (act.Disable id) = refl
length-of-act (act.Fated k fate) = refl
length-of-act (act.Watch thread reader times) = refl
length-of-act (act.Append other) = refl

length-of-lines : (lines : List Line) → length (appended_sets lines) ≡ count_by (λ (line : Line). is_some_append line.act) lines
length-of-lines [] = refl
length-of-lines (line ∷ lines) =
    let all = length-append (appended_by line.act) (appended_sets lines) in
    let here = length-of-act line.act in
    let later = length-of-lines lines in
    let other = sum_by-cons (λ (l : Line). cond (is_some_append l.act) 1 0) line lines in
    omega arith

-- ---- what the loop asks for and keeps

pub none-yet : (config : Config) (script : Script) → IsScript config script → AppendsBy config script [] []
none-yet config script is = record { allowed = tt; sets = refl; full = first-metas config script is }

pub has-next : (config : Config) (script : Script) (k : ℕ) (line : Line) (index : ℕ) (appends : List Append) → IsScript config script → slice_get script.lines k ≡ Some line
    → line.act ≡ act.Append index → AppendsBy config script (take k script.lines) appends → HasNext config.dataset script.metas index appends
has-next config script k line index appends is found appending by =
    let one : IsAppend config script.metas index = is-append config script k line index is found appending in
    let there : index < length config.dataset = omega (arith, one.there, is.sets) in
    let field = field_there config script index k (meta_in config.dataset index) (meta_in script.metas index) line (set-of config script index is there) found appending in
    record { there = there; whole = one.there; next = omega (arith, field, counted config script (take k script.lines) appends index by) }

pub has-room : (config : Config) (script : Script) (k : ℕ) (line : Line) (index : ℕ) (appends : List Append) → IsScript config script → slice_get script.lines k ≡ Some line
    → line.act ≡ act.Append index → AppendsBy config script (take k script.lines) appends → length appends < 16
has-room config script k line index appends is found appending by =
    let same : length appends ≡ length (appended_sets (take k script.lines)) = sym (length-map appends (λ (append : Append). append.set)) ∙ ap (λ (ns : List ℕ). length ns) by.sets in
    let count = length-of-lines (take k script.lines) in
    let more = sum_by_more (λ (l : Line). cond (is_some_append l.act) 1 0) script.lines k line (slice_get_within script.lines k line found) in
    let here : cond {A = ℕ} (is_some_append (get_or script.lines k line).act) 1 0 ≡ 1 =
    ap {B = ℕ} (λ (l : Line). cond {A = ℕ} (is_some_append l.act) 1 0) (get_or_from_slice_get script.lines k line line found)
    ∙ ap {B = ℕ} (λ (a : Act). cond {A = ℕ} (is_some_append a) 1 0) appending in
    let most = sum_by-take-le (λ (l : Line). cond (is_some_append l.act) 1 0) script.lines (k + 1) in
    let few = is.few.appends in
    omega arith

pub appends-more : (config : Config) (script : Script) (k : ℕ) (line : Line) (index : ℕ) (appends : List Append) (append : Append) → IsScript config script
    → slice_get script.lines k ≡ Some line → line.act ≡ act.Append index → AppendsBy config script (take k script.lines) appends
    → IsNext config.dataset script.metas index appends append → AppendsBy config script (take (k + 1) script.lines) (appends ++ append ∷ [])
appends-more config script k line index appends append is found appending by next =
    subst (λ (i : ℕ). line.act ≡ act.Append i → IsNext config.dataset script.metas i appends append → AppendsBy config script (take (k + 1) script.lines) (appends ++ append ∷ []))
    next.of go appending next
  where
    old : List MetaData
    old = metas_behind config.dataset script.metas (take k script.lines)

    go : line.act ≡ act.Append append.set → IsNext config.dataset script.metas append.set appends append → AppendsBy config script (take (k + 1) script.lines) (appends ++ append ∷ [])
    go here is_next =
        let has : HasNext config.dataset script.metas append.set appends = has-next config script k line append.set appends is found here by in
        let place : next_field config.dataset append.set appends ≡ length (meta_in config.dataset append.set).fields + appends_in append.set (take k script.lines) =
        ap (λ (n : ℕ). length (meta_in config.dataset append.set).fields + n) (counted config script (take k script.lines) appends append.set by) in
        let grows : grown_by old append ≡ metas_behind config.dataset script.metas (take (k + 1) script.lines) =
        metas-append config script k line append is found here has.there (ap (slice_get (meta_in script.metas append.set).fields) (sym place) ∙ is_next.field) in
        record {
          allowed =
              allowed-more config config.dataset appends append by.allowed
              (subst (λ (metas : List MetaData). MayAppend config metas append.set (grown_by metas append)) (sym by.full)
              (subst (MayAppend config old append.set) (sym grows) (may-append config script k line append.set is found here is_next.minor)));
          sets =
              map_push (λ (a : Append). a.set) appends append ∙ ap (λ (ns : List ℕ). ns ++ append.set ∷ []) by.sets
              ∙ ap (λ (a : Act). appended_sets (take k script.lines) ++ appended_by a) (sym here) ∙ sym (appended-more script.lines k line found);
          full = full-more config.dataset appends append ∙ ap (λ (metas : List MetaData). grown_by metas append) by.full ∙ grows;
        }

pub full-behind : (config : Config) (script : Script) (appends : List Append) → IsScript config script → AppendsBy config script script.lines appends
    → full_of config.dataset appends ≡ script.metas
full-behind config script appends is by = by.full ∙ sym (last-metas config script is)
