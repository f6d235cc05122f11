-- From the faults that stand nowhere to the fields of a meta.
use Rattle.std.proofs.Common.{◌≡◌, ℕ, ◌<◌, ◌≤◌, Bool, true, false, ◌&&◌, ◌||◌, ◌==◌, not, cond, nat_le, nat_lt, pos, negsuc, List, [], ◌∷◌, ◌++◌, length, filter, count_by, codes, Option, Some, None, is_some, is_none, unwrap_or, option_and_then, refl, sym, ap, ◌∙◌, subst, arith, int_le}
use Rattle.std.specs.Bool.{beq}
use Rattle.std.specs.List.{list_any}
use Rattle.std.specs.Str.{bytes_eq}
use Rattle.std.proofs.lemmas.Bool.{false≢true, and_parts, or_parts}
use Rattle.std.proofs.lemmas.Bool.Decides.{nat_tests}
use Rattle.std.proofs.lemmas.List.Elements.{All-from_recursion}
use Rattle.std.proofs.lemmas.List.{length-map}
use Rattle.toml.specs.Data.{Data, string, integer, float, boolean, datetime, array, table, Members, as_str, as_integer}
use Rattle.dataset_meta.specs.Names.{is_name}
use Rattle.dataset_meta.specs.Fields.{is_sized, has_cap}
use Rattle.dataset_meta.specs.Metas.{IsMeta, words_of}
use Rattle.dataset_meta.specs.declared.field.Field.{Field}
use Rattle.config_tables.specs.declared.fault.Fault.TheVariants.{WrongType, BadName, BadNumber}
use Rattle.config_tables.specs.declared.grammar.Form.TheVariants.{Text}
use Rattle.config_tables.specs.declared.grammar.Spelling.TheVariants as spelling
use Rattle.config_tables.specs.declared.key.Key.TheVariants as key
use Rattle.config_tables.specs.declared.place.Part.TheVariants.{DataSet}
use Rattle.config_tables.specs.declared.place.Place.{Place}
use Rattle.config_tables.specs.declared.place.Place.TheVariants.{Outer, Inner}
use Rattle.ps_config.specs.Faults.{lacks, has_missing_key, is_fault, has_value_fault, is_past_limit, has_double_name, is_reserved, is_bad_field}
use Rattle.ps_config.specs.Fields.{name_of, kind_of, field_of, fields_of}
use Rattle.config_tables.specs.Grammar.{rows_of, number}
use Rattle.ps_config.specs.Meaning.{PassTables}
use Rattle.config_tables.specs.Places.{is_outer, is_inner, is_inner_of, index_of, is_component, shares_names, counts_with, limit_of}
use Rattle.config_tables.specs.Tables.{Located}
use Rattle.config_tables.specs.Values.{value_at, text_at, natural, at_most, unless, value_fault, row_fault}
use Rattle.ps_config.proofs.Clean.{IsClean, clean}
use Rattle.ps_config.proofs.Passing.{inner_place}
use Rattle.ps_config.proofs.MetaLists.{IsFieldAfter, AreFields, all_fields}

few_before : (i j : ℕ) (before : List Located) (t : Located) → t.place ≡ Inner DataSet i j → is_past_limit before t ≡ false → count_by (λ s. is_inner_of DataSet i s.place) before < 64
few_before i j before t e h =
    let at : nat_le 64 (count_by (λ s. is_inner_of DataSet i s.place) before) ≡ false = subst (λ (q : Place). nat_le (limit_of q) (count_by (λ s. counts_with q s.place) before) ≡ false) e h in
    grind (arith, nat_tests)

fresh_before : (i j : ℕ) (before : List Located) (t : Located) → t.place ≡ Inner DataSet i j → has_double_name before t ≡ false
    → list_any (λ s. is_inner_of DataSet i s.place && bytes_eq (name_of t) (name_of s)) before ≡ false
fresh_before i j before t e h =
    subst (λ (q : Place). list_any (λ s. shares_names q s.place && bytes_eq (name_of t) (name_of s)) before ≡ false) e
    (or_parts (list_any (λ s. shares_names t.place s.place && bytes_eq (name_of t) (name_of s)) before) (is_component t.place && is_reserved (name_of t)) h).0

name_unless : (b : Bool) → is_fault BadName (unless b BadName) ≡ false → b ≡ true
name_unless true h = refl
name_unless false h = sym h

-- the name that has to be there, where no fault stands at it
pub name_ok : (outer : Members) (o : Option Data) → is_none o ≡ false → is_fault WrongType (option_and_then (value_fault outer (Text spelling.Name)) o) ≡ false
    → is_fault BadName (option_and_then (value_fault outer (Text spelling.Name)) o) ≡ false → is_name (unwrap_or (option_and_then as_str o) []) ≡ true
name_ok outer None a b c = absurd (false≢true (sym a))
name_ok outer (Some (string s)) a b c = name_unless (is_name s) c
name_ok outer (Some (integer z)) a b c = absurd (false≢true (sym b))
name_ok outer (Some (float x)) a b c = absurd (false≢true (sym b))
name_ok outer (Some (boolean x)) a b c = absurd (false≢true (sym b))
name_ok outer (Some (datetime x)) a b c = absurd (false≢true (sym b))
name_ok outer (Some (array x)) a b c = absurd (false≢true (sym b))
name_ok outer (Some (table x)) a b c = absurd (false≢true (sym b))

number_unless : (b : Bool) → is_fault BadNumber (unless b BadNumber) ≡ false → b ≡ true
number_unless true h = refl
number_unless false h = sym h

abbrev cap_of : Option Data → ℕ
cap_of o = unwrap_or (option_and_then (at_most 256) (option_and_then natural (option_and_then as_integer o))) 0

within_cap : (n : ℕ) → (int_le (pos 1) (pos n) && int_le (pos n) (pos 256)) ≡ true
    → (nat_le 1 (cap_of (Some (integer (pos n)))) && nat_le (cap_of (Some (integer (pos n)))) 256) ≡ true
within_cap n h =
    let both = and_parts (nat_le 1 n) (nat_le n 256) h in
    rw (both.1) (rw (both.0, both.1) refl)

cap_ok : (outer : Members) (o : Option Data) → is_fault WrongType (option_and_then (value_fault outer (number 1 256)) o) ≡ false
    → is_fault BadNumber (option_and_then (value_fault outer (number 1 256)) o) ≡ false
    → cond (is_some o) (nat_le 1 (cap_of o) && nat_le (cap_of o) 256) (cap_of o == 0) ≡ true
cap_ok outer None b c = refl
cap_ok outer (Some (integer (pos n))) b c = within_cap n (number_unless (int_le (pos 1) (pos n) && int_le (pos n) (pos 256)) c)
cap_ok outer (Some (integer (negsuc n))) b c = absurd (false≢true (sym c))
cap_ok outer (Some (string x)) b c = absurd (false≢true (sym b))
cap_ok outer (Some (float x)) b c = absurd (false≢true (sym b))
cap_ok outer (Some (boolean x)) b c = absurd (false≢true (sym b))
cap_ok outer (Some (datetime x)) b c = absurd (false≢true (sym b))
cap_ok outer (Some (array x)) b c = absurd (false≢true (sym b))
cap_ok outer (Some (table x)) b c = absurd (false≢true (sym b))

beq_same : (a b : Bool) → not (beq a b) ≡ false → a ≡ b
beq_same true true h = refl
beq_same false false h = refl
beq_same true false h = absurd (false≢true (sym h))
beq_same false true h = absurd (false≢true (sym h))

-- the faults of a field's three keys
record KeyFaults (t : Located) : Type 0 where
  there : is_none (value_at key.Name t.members) ≡ false
  text : is_fault WrongType (option_and_then (value_fault t.outer (Text spelling.Name)) (value_at key.Name t.members)) ≡ false
  name : is_fault BadName (option_and_then (value_fault t.outer (Text spelling.Name)) (value_at key.Name t.members)) ≡ false
  integer_cap : is_fault WrongType (option_and_then (value_fault t.outer (number 1 256)) (value_at key.Cap t.members)) ≡ false
  cap : is_fault BadNumber (option_and_then (value_fault t.outer (number 1 256)) (value_at key.Cap t.members)) ≡ false
  sized : is_sized (kind_of t) ≡ is_some (value_at key.Cap t.members)

named : (t : Located) → KeyFaults t → (field_of t).name ≡ name_of t
named t k = ap (λ b. cond b (text_at key.Name t.members) (codes "none")) (name_ok t.outer (value_at key.Name t.members) k.there k.text k.name)

fits : (t : Located) → KeyFaults t → has_cap (field_of t) ≡ true
fits t k =
    ap (λ b. cond b (nat_le 1 (cap_of (value_at key.Cap t.members)) && nat_le (cap_of (value_at key.Cap t.members)) 256) (cap_of (value_at key.Cap t.members) == 0)) k.sized
    ∙ cap_ok t.outer (value_at key.Cap t.members) k.integer_cap k.cap

key_faults : (i j : ℕ) (t : Located) → t.place ≡ Inner DataSet i j → has_missing_key t ≡ false → has_value_fault WrongType t ≡ false → has_value_fault BadName t ≡ false
    → has_value_fault BadNumber t ≡ false → is_bad_field t ≡ false → KeyFaults t
key_faults i j t e missing wrong bad_name bad_number bad_field =
    let lacking = subst (λ (q : Place). list_any (lacks t) (rows_of q) ≡ false) e missing in
    let types = subst (λ (q : Place). list_any (λ row. is_fault WrongType (row_fault t row)) (rows_of q) ≡ false) e wrong in
    let names = subst (λ (q : Place). list_any (λ row. is_fault BadName (row_fault t row)) (rows_of q) ≡ false) e bad_name in
    let numbers = subst (λ (q : Place). list_any (λ row. is_fault BadNumber (row_fault t row)) (rows_of q) ≡ false) e bad_number in
    let field = subst (λ (q : Place). (is_inner DataSet q && not (beq (is_sized (kind_of t)) (is_some (value_at key.Cap t.members)))) ≡ false) e bad_field in
    record {
      there = (or_parts _ _ lacking).0;
      text = (or_parts _ _ types).0;
      name = (or_parts _ _ names).0;
      integer_cap = (or_parts _ _ (or_parts _ _ (or_parts _ _ types).1).1).0;
      cap = (or_parts _ _ (or_parts _ _ (or_parts _ _ numbers).1).1).0;
      sized = beq_same (is_sized (kind_of t)) (is_some (value_at key.Cap t.members)) field;
    }

field_after : (i : ℕ) (ts before : List Located) (t : Located) → IsClean ts before t → is_inner_of DataSet i t.place ≡ true → IsFieldAfter (λ s. is_inner_of DataSet i s.place) before t
field_after i ts before t f passes =
    let at = inner_place DataSet i t.place passes in
    let k = key_faults i at.0 t at.1 f.missing f.wrong f.bad_name f.bad_number f.bad_field in
    record { few = few_before i at.0 before t at.1 f.many; fresh = fresh_before i at.0 before t at.1 f.double_name; named = named t k; fits = fits t k }

some_pass : (p : Located → Bool) (ts : List Located) → list_any p ts ≡ true → 1 ≤ length (filter p ts)
some_pass p [] h = absurd (false≢true h)
some_pass p (t ∷ ts) h = go (p t) h (some_pass p ts)
  where
    go : (b : Bool) → (b || list_any p ts) ≡ true → (list_any p ts ≡ true → 1 ≤ length (filter p ts)) → 1 ≤ length (cond b (t ∷ filter p ts) (filter p ts))
    go true h rest = omega arith
    go false h rest = rest h

is_not : (b : Bool) → not b ≡ false → b ≡ true
is_not true h = refl
is_not false h = sym h

not_above : (n : ℕ) → nat_lt 125 n ≡ false → n ≤ 125
not_above n h = grind (arith, nat_tests)

-- the fields of each data set of accepted tables make a meta
pub accepted_meta : (ts : List Located) → PassTables ts → (before : List Located) (t : Located) (after : List Located) → ts ≡ before ++ t ∷ after
    → (index : ℕ) → t.place ≡ Outer DataSet index → IsMeta (fields_of ts index)
accepted_meta ts h before t after is index e =
    let p = λ (s : Located). is_inner_of DataSet index s.place in
    let f = clean ts h before t after is in
    let so : AreFields p ts = all_fields p ts (λ front s back split passes. field_after index ts front s (clean ts h front s back split) passes) in
    let some : list_any p ts ≡ true = is_not (list_any p ts) (subst (λ (q : Place). (is_outer DataSet q && not (list_any (λ s. is_inner_of DataSet (index_of q) s.place) ts)) ≡ false) e f.no_fields) in
    let narrow : nat_lt 125 (words_of (fields_of ts index)) ≡ false = subst (λ (q : Place). (is_outer DataSet q && nat_lt 125 (words_of (fields_of ts (index_of q)))) ≡ false) e f.wide in
    let least : 1 ≤ length (filter p ts) = some_pass p ts some in
    record {
      count = (omega (arith, length-map (filter p ts) field_of), so.few);
      distinct = so.distinct;
      capped = All-from_recursion (λ (g : Field). has_cap g ≡ true) (fields_of ts index) so.capped;
      narrow = not_above (words_of (fields_of ts index)) narrow;
    }
