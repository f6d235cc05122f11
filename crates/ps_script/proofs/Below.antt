-- Data sets by a line, and what they grow to.
use Rattle.std.proofs.Common.{◌≡◌, ℕ, zero, suc, ◌+◌, ◌<◌, Bool, true, false, not, cond, List, [], ◌∷◌, ◌++◌, length, Option, Some, None, Result, Ok, slice_get, nat_lt, eqb, refl, sym, ap, ◌∙◌, subst, arith, length-append}
use Rattle.std.specs.Prelude.{position}
use Rattle.std.specs.List.{AllZip, prefix_len, position_or_len}
use Rattle.std.specs.Str.{bytes_eq}
use Rattle.std.proofs.Math.ListN.{set}
use Rattle.std.proofs.lemmas.Bool.{lt-ltb, ltb-true, ne_eqb}
use Rattle.std.proofs.lemmas.List.{append-nil, append_assoc}
use Rattle.std.proofs.lemmas.List.Folds.{prefix_len-append}
use Rattle.std.proofs.lemmas.Option.{same_Some, none-some, cond_some}
use Rattle.dataset_meta.specs.declared.field.Field.{Field}
use Rattle.dataset_meta.specs.Metas.{MetaData, grown}
use Rattle.ps_config.specs.declared.parts.Config.{Config}
use Rattle.ps_script.specs.declared.fault.ScriptFault.{ScriptFault}
use Rattle.ps_script.specs.declared.verbs.Verb.{Verb}
use Rattle.ps_script.specs.declared.verbs.Verb.TheVariants as verb
use Rattle.ps_script.specs.Texts.{word}
use Rattle.ps_script.specs.Verbs.{verb_of}
use Rattle.ps_script.specs.Names.{set_named}
use Rattle.ps_script.specs.Values.{ValueReader}
use Rattle.ps_script.specs.Past.{Done, field_of, grown_at, grown_by, metas_after, done_with, after}
use Rattle.ps_script.specs.Refusals.{fault_of}
use Rattle.ps_script.specs.Acts.{next_number}
use Rattle.ps_script.specs.Scripts.{judged_from, refused_or}

-- ---- places in lists

pub slice_get_append : {X : Type 0} (xs ys : List X) (i : ℕ) → i < length xs → slice_get (xs ++ ys) i ≡ slice_get xs i
slice_get_append [] ys i lt = absurd (omega arith)
slice_get_append (x ∷ xs) ys zero lt = refl
slice_get_append (x ∷ xs) ys (suc i) lt = slice_get_append xs ys i (omega arith)

-- the first element that passes is one of the list
pub position_within : {X : Type 0} (p : X → Bool) (xs : List X) (i : ℕ) → position p xs ≡ Some i → i < length xs
position_within p xs i e =
    let s = cond_some (nat_lt (position_or_len p xs) (length xs)) (position_or_len p xs) i e in
    subst (λ (k : ℕ). k < length xs) s.1 (ltb-true (position_or_len p xs) (length xs) s.0)

-- and stays the first where more follow
pub position_append : {X : Type 0} (p : X → Bool) (xs ys : List X) (i : ℕ) → position p xs ≡ Some i → position p (xs ++ ys) ≡ Some i
position_append {X} p xs ys i e =
    let n : ℕ = position_or_len p xs in
    let s = cond_some (nat_lt n (length xs)) n i e in
    let lt : n < length xs = ltb-true n (length xs) s.0 in
    let apart : eqb n (length xs) ≡ false = ne_eqb n (length xs) (λ same. absurd (omega arith)) in
    let first : position_or_len p (xs ++ ys) ≡ n =
    prefix_len-append (λ (x : X). not (p x)) xs ys
    ∙ ap (λ (v : Bool). cond v (length xs + prefix_len (λ (x : X). not (p x)) ys) n) apart in
    let within : nat_lt n (length (xs ++ ys)) ≡ true = lt-ltb n (length (xs ++ ys)) (omega (arith, length-append xs ys)) in
    ap (λ (k : ℕ). cond (nat_lt k (length (xs ++ ys))) (Some k) None) first
    ∙ ap (λ (v : Bool). cond v (Some n) None) within ∙ ap Some s.1

-- ---- data sets

-- its first fields stay, and of all else but the minor version nothing changes
pub record Below (meta whole : MetaData) : Type 0 where
  pub name : whole.name ≡ meta.name
  pub major : whole.major ≡ meta.major
  pub quality : whole.quality ≡ meta.quality
  pub more : List Field
  pub fields : whole.fields ≡ meta.fields ++ more

pub below_same : (meta : MetaData) → Below meta meta
below_same meta = record { name = refl; major = refl; quality = refl; more = []; fields = sym (append-nil meta.fields) }

below_grown : (meta whole : MetaData) (field : Field) → Below (grown meta field) whole → Below meta whole
below_grown meta whole field b = record {
  name = b.name;
  major = b.major;
  quality = b.quality;
  more = field ∷ b.more;
  fields = b.fields ∙ append_assoc meta.fields (field ∷ []) b.more;
}

pub each_same : (metas : List MetaData) → AllZip Below metas metas
each_same [] = tt
each_same (meta ∷ metas) = (below_same meta, each_same metas)

pub same_length : (metas full : List MetaData) → AllZip Below metas full → length full ≡ length metas
same_length [] [] z = refl
same_length [] (whole ∷ full) z = absurd z
same_length (meta ∷ metas) [] z = absurd z
same_length (meta ∷ metas) (whole ∷ full) z = ap suc (same_length metas full z.1)

-- what a data set grows to
pub record Whole (full : List MetaData) (at : ℕ) (meta : MetaData) : Type 0 where
  pub whole : MetaData
  pub found : slice_get full at ≡ Some whole
  pub below : Below meta whole

pub whole_at : (metas full : List MetaData) (at : ℕ) (meta : MetaData) → AllZip Below metas full → slice_get metas at ≡ Some meta → Whole full at meta
whole_at [] full at meta z found = absurd (none-some meta found)
whole_at (x ∷ metas) [] at meta z found = absurd z
whole_at (x ∷ metas) (whole ∷ full) zero meta z found =
    record { whole = whole; found = refl; below = subst (λ (m : MetaData). Below m whole) (same_Some x meta found) z.0 }
whole_at (x ∷ metas) (whole ∷ full) (suc at) meta z found =
    let rest = whole_at metas full at meta z.1 found in record { whole = rest.whole; found = rest.found; below = rest.below }

-- a name finds the same data set
same_place : (name : List ℕ) (metas full : List MetaData) → AllZip Below metas full
    → position_or_len (λ (m : MetaData). bytes_eq m.name name) full ≡ position_or_len (λ (m : MetaData). bytes_eq m.name name) metas
same_place name [] [] z = refl
same_place name [] (whole ∷ full) z = absurd z
same_place name (meta ∷ metas) [] z = absurd z
same_place name (meta ∷ metas) (whole ∷ full) z =
    ap (λ (n : List ℕ). cond (not (bytes_eq n name)) (1 + position_or_len (λ (m : MetaData). bytes_eq m.name name) full) 0) z.0.name
    ∙ ap (λ (k : ℕ). cond (not (bytes_eq meta.name name)) (1 + k) 0) (same_place name metas full z.1)

pub same_named : (name : List ℕ) (metas full : List MetaData) → AllZip Below metas full → set_named full name ≡ set_named metas name
same_named name metas full z =
    ap (λ (k : ℕ). cond (nat_lt k (length full)) (Some k) None) (same_place name metas full z)
    ∙ ap (λ (n : ℕ). cond (nat_lt (position_or_len (λ (m : MetaData). bytes_eq m.name name) metas) n) (Some (position_or_len (λ (m : MetaData). bytes_eq m.name name) metas)) None)
    (same_length metas full z)

-- ---- one line after another

zip_back : (metas full : List MetaData) (at : ℕ) (meta : MetaData) (field : Field) → slice_get metas at ≡ Some meta
    → AllZip Below (set metas at (grown meta field)) full → AllZip Below metas full
zip_back [] full at meta field found z = z
zip_back (x ∷ metas) [] zero meta field found z = z
zip_back (x ∷ metas) [] (suc at) meta field found z = z
zip_back (x ∷ metas) (whole ∷ full) zero meta field found z =
    (below_grown x whole field (subst (λ (m : MetaData). Below (grown m field) whole) (sym (same_Some x meta found)) z.0), z.1)
zip_back (x ∷ metas) (whole ∷ full) (suc at) meta field found z = (z.0, zip_back metas full at meta field found z.1)

back_at : (metas full : List MetaData) (at : ℕ) (field : Field) (found : Option MetaData) → slice_get metas at ≡ found
    → AllZip Below (grown_at metas at field found) full → AllZip Below metas full
back_at metas full at field None e z = z
back_at metas full at field (Some meta) e z = zip_back metas full at meta field e z

back_by : (metas full : List MetaData) (field : Field) (at : Option ℕ) → AllZip Below (grown_by metas field at) full → AllZip Below metas full
back_by metas full field None z = z
back_by metas full field (Some at) z = back_at metas full at field (slice_get metas at) refl z

back_metas : (metas full : List MetaData) (line : List ℕ) → AllZip Below (metas_after metas line) full → AllZip Below metas full
unfolding metas_after
back_metas metas full line z = back_by metas full (field_of line) (set_named metas (word 1 line)) z

back_with : (config : Config) (done : Done) (full : List MetaData) (line : List ℕ) (v : Option Verb)
    → AllZip Below (done_with config done line v).metas full → AllZip Below done.metas full
back_with config done full line None z = z
back_with config done full line (Some verb.Write) z = z
back_with config done full line (Some verb.Tick) z = z
back_with config done full line (Some verb.Enable) z = z
back_with config done full line (Some verb.Disable) z = z
back_with config done full line (Some verb.Append) z = back_metas done.metas full line z
back_with config done full line (Some verb.Fate) z = z
back_with config done full line (Some verb.Watch) z = z

back_after : (config : Config) (done : Done) (full : List MetaData) (line : List ℕ)
    → AllZip Below (after config done line).metas full → AllZip Below done.metas full
unfolding after
back_after config done full line z = back_with config done full line (verb_of line) z

-- an accepted line has no fault, and those behind it are accepted
pub passes : (number : ℕ) (fault : Option ScriptFault) (rest : Result Done (ℕ × ScriptFault)) (last : Done) → refused_or number fault rest ≡ Ok last
    → (fault ≡ None) × (rest ≡ Ok last)
passes number None rest last e = (refl, e)
passes number (Some fault) rest last e = let bad : ⊥ = cc in absurd bad

pub same_last : (done last : Done) → ◌≡◌ {A = Result Done (ℕ × ScriptFault)} (Ok done) (Ok last) → done ≡ last
same_last done last e = cc

-- the data sets by a line grow to those behind the last
pub grow : (reader : ValueReader) (config : Config) (takes_fates : Bool) (done last : Done) (number : ℕ) (lines : List (List ℕ))
    → judged_from reader config takes_fates done number lines ≡ Ok last → AllZip Below done.metas last.metas
grow reader config takes_fates done last number [] e =
    subst (λ (d : Done). AllZip Below done.metas d.metas) (same_last done last e) (each_same done.metas)
grow reader config takes_fates done last number (line ∷ lines) e =
    let p = passes number (fault_of reader config takes_fates done line) (judged_from reader config takes_fates (after config done line) (next_number number) lines) last e in
    back_after config done last.metas line (grow reader config takes_fates (after config done line) last (next_number number) lines p.1)
