-- References of accepted tables, and how many tables there are.
use Rattle.std.proofs.Common.{◌≡◌, ℕ, ◌<◌, ◌≤◌, Bool, true, false, cond, nat_lt, nat_le, List, [], ◌∷◌, ◌++◌, length, filter, count_by, Option, Some, None, is_none, is_some, unwrap_or, option_and_then, IfSome, refl, sym, ap, ◌∙◌, subst, arith, append_assoc, append-nil, length-append}
use Rattle.std.specs.List.{position_or_len}
use Rattle.std.specs.Str.{bytes_eq}
use Rattle.std.proofs.lemmas.Bool.{false≢true}
use Rattle.std.proofs.lemmas.Bool.Decides.{nat_tests}
use Rattle.std.proofs.lemmas.List.Elements.{filter-append}
use Rattle.std.proofs.lemmas.List.Sums.{length-filter}
use Rattle.toml.specs.Data.{Data, string, integer, float, boolean, datetime, array, table, Members, as_str}
use Rattle.config_tables.specs.declared.fault.Fault.TheVariants.{WrongType}
use Rattle.config_tables.specs.declared.grammar.Form.TheVariants.{Text}
use Rattle.config_tables.specs.declared.grammar.Spelling.TheVariants.{Reference}
use Rattle.config_tables.specs.declared.place.Part.{Part}
use Rattle.config_tables.specs.Tables.{Located}
use Rattle.config_tables.specs.Values.{at_most, value_fault}
use Rattle.ps_config.specs.Faults.{is_fault, index_named, names_nothing}
use Rattle.ps_config.specs.Fields.{name_of, outer_tables}

abbrev Test : Type 0
Test = Located → Bool

few_from : (p : Test) (limit : ℕ) (before rest : List Located) → length (filter p before) ≤ limit
    → ((front : List Located) (t : Located) (back : List Located) → rest ≡ front ++ t ∷ back → p t ≡ true → count_by p (before ++ front) < limit) → length (filter p (before ++ rest)) ≤ limit
few_from p limit before [] so each = subst (λ (l : List Located). length (filter p l) ≤ limit) (sym (append-nil before)) so
few_from p limit before (t ∷ rest) so each =
    let more : length (filter p (before ++ t ∷ [])) ≤ limit = go (p t) refl in
    subst (λ (l : List Located). length (filter p l) ≤ limit) (append_assoc before (t ∷ []) rest)
    (few_from p limit (before ++ t ∷ []) rest more
    (λ front s back is passes. subst (λ (l : List Located). count_by p l < limit) (sym (append_assoc before (t ∷ []) front)) (each (t ∷ front) s back (ap (λ l. t ∷ l) is) passes)))
  where
    go : (b : Bool) → p t ≡ b → length (filter p (before ++ t ∷ [])) ≤ limit
    go true is =
        let room : count_by p before < limit = subst (λ (l : List Located). count_by p l < limit) (append-nil before) (each [] t rest refl is) in
        let parts : filter p (before ++ t ∷ []) ≡ filter p before ++ t ∷ [] = filter-append p before (t ∷ []) ∙ ap (λ b. filter p before ++ cond b (t ∷ []) []) is in
        omega (arith, ap length parts, length-append (filter p before) (t ∷ []), length-filter p before)
    go false is =
        let parts : filter p (before ++ t ∷ []) ≡ filter p before ++ [] = filter-append p before (t ∷ []) ∙ ap (λ b. filter p before ++ cond b (t ∷ []) []) is in
        omega (arith, so, ap length parts, length-append (filter p before) [])

-- where few come before each that passes, few pass
pub few : (p : Test) (limit : ℕ) (ts : List Located)
    → ((front : List Located) (t : Located) (back : List Located) → ts ≡ front ++ t ∷ back → p t ≡ true → count_by p front < limit) → length (filter p ts) ≤ limit
few p limit ts each = few_from p limit [] ts (omega arith) each

-- an index that is there, below a length of at most 255
pub record IsThere (most : ℕ) (o : Option Data) (found : Option ℕ) : Type 0 where
  pub same : is_some o ≡ is_some found
  pub below : IfSome found (λ index. index < most)

pub short : (n most : ℕ) (b : Bool) → nat_le n 255 ≡ b → n < most → most ≤ 255 → cond b (Some n) None ≡ Some n
short n most true e lt le = refl
short n most false e lt le = let not : nat_le n 255 ≡ true = grind (arith, nat_tests) in absurd (false≢true (sym e ∙ not))

position_there : (n most : ℕ) (b : Bool) (d : Data) → nat_lt n most ≡ b → is_none (cond b (Some n) None) ≡ false → most ≤ 255 → IsThere most (Some d) (option_and_then (at_most 255) (cond b (Some n) None))
position_there n most true d e h le =
    let lt : n < most = grind (arith, nat_tests) in
    subst (IsThere most (Some d)) (sym (short n most (nat_le n 255) refl lt le)) (record { same = refl; below = lt })
position_there n most false d e h le = absurd (false≢true (sym h))

-- a name that is given names an element
pub named_there : (ts : List Located) (part : Part) (outer : Members) (o : Option Data) → length (outer_tables part ts) ≤ 255
    → is_fault WrongType (option_and_then (value_fault outer (Text (Reference part))) o) ≡ false → names_nothing ts (Some part) (option_and_then as_str o) ≡ false
    → IsThere (length (outer_tables part ts)) o (option_and_then (at_most 255) (option_and_then (λ name. index_named part name ts) (option_and_then as_str o)))
named_there ts part outer None le b c = record { same = refl; below = tt }
named_there ts part outer (Some (string s)) le b c =
    position_there (position_or_len (λ t. bytes_eq s (name_of t)) (outer_tables part ts)) (length (outer_tables part ts)) _ (string s) refl c le
named_there ts part outer (Some (integer z)) le b c = absurd (false≢true (sym b))
named_there ts part outer (Some (float x)) le b c = absurd (false≢true (sym b))
named_there ts part outer (Some (boolean x)) le b c = absurd (false≢true (sym b))
named_there ts part outer (Some (datetime x)) le b c = absurd (false≢true (sym b))
named_there ts part outer (Some (array x)) le b c = absurd (false≢true (sym b))
named_there ts part outer (Some (table x)) le b c = absurd (false≢true (sym b))

-- one that has to be given is an index of an element
pub index_there : (most : ℕ) (o : Option Data) (found : Option ℕ) → is_none o ≡ false → IsThere most o found → unwrap_or found 0 < most
index_there most None found there h = absurd (false≢true (sym there))
index_there most (Some d) None there h = absurd (false≢true (sym h.same))
index_there most (Some d) (Some n) there h = h.below
