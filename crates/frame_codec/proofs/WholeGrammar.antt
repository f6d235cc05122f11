-- A key frame is read of exactly what spells it.
use Rattle.std.proofs.Common.{◌≡◌, ℕ, suc, ◌+◌, ◌-◌, ◌<◌, ◌≤◌, ◌^◌, Bool, true, false, List, [], ◌∷◌, ◌++◌, length, Ok, Err, refl, sym, ap, ◌∙◌, subst, append-nil, length-append, arith}
use Rattle.std.specs.Prelude.{◌==◌, ◌&&◌, ◌||◌, nat_lt, if◌then◌else◌}
use Rattle.std.specs.Int.{w16, to_le_bytes}
use Rattle.std.proofs.lemmas.Bool.{eqb-true, eq-eqb, ltb-true, lt-ltb}
use Rattle.std.proofs.lemmas.Grind.{flat_map-append}
use Rattle.ua_binary.specs.Reading.{◌>>=◌, number_at}
use Rattle.ua_binary.proofs.Grammar.{IsGrammar, Joined, then_grammar, Done, done_grammar, Never, refused_grammar, same_grammar, alone}
use Rattle.ua_binary.proofs.Parts.{IsNumber, number_grammar, coded16}
use Rattle.dataset_meta.specs.declared.field.Field.{Field}
use Rattle.dataset_meta.specs.DataValues.{DataValue}
use Rattle.dataset_meta.specs.Metas.{MetaData}
use Rattle.frame_codec.specs.declared.fault.FrameFault.{FrameFault}
use Rattle.frame_codec.specs.declared.fault.FrameFault.TheVariants.{Short, WrongCount}
use Rattle.frame_codec.specs.Contents.{row_at, surpluses_at, is_count, counted_at, whole_at}
use Rattle.frame_codec.specs.Wire.{WireField, field_bytes, wire_values_bytes, AreValues, value_read, row_read}
use Rattle.frame_codec.proofs.Grammars.{Choice, either_grammar}
use Rattle.frame_codec.proofs.ContentGrammar.{SpellsRow, row_grammar, SpellsSurpluses, surpluses_grammar}

pub record SpellsWhole (meta : MetaData) (newer : Bool) (encoding : ℕ) (row : List DataValue) (text : List ℕ) : Type 0 where
  pub values : List WireField
  pub few : length values < 2 ^ 16
  pub are : AreValues newer encoding meta.fields values
  pub meaning : row_read meta.quality meta.fields values ≡ row
  pub spelled : text ≡ to_le_bytes w16 (length values) ++ wire_values_bytes values

-- the values of the fields, and the surplus ones
record Apart (newer : Bool) (encoding : ℕ) (fields : List Field) (values : List WireField) : Type 0 where
  front : List WireField
  back : List WireField
  front_are : AreValues false encoding fields front
  back_are : AreValues newer encoding [] back
  whole : values ≡ front ++ back

pub length_are : (encoding : ℕ) (fields : List Field) (values : List WireField) → AreValues false encoding fields values → length values ≡ length fields
length_are encoding [] [] are = refl
length_are encoding [] (wire ∷ values) are = absurd (let e : Path Bool false true = are.0.grown in cc)
length_are encoding (field ∷ fields) [] are = absurd are
length_are encoding (field ∷ fields) (wire ∷ values) are = ap suc (length_are encoding fields values are.1)

pub join_values : (newer : Bool) (encoding : ℕ) (fields : List Field) (front back : List WireField) → AreValues false encoding fields front → AreValues newer encoding [] back → AreValues newer encoding fields (front ++ back)
join_values newer encoding [] [] back are more = more
join_values newer encoding [] (wire ∷ front) back are more = absurd (let e : Path Bool false true = are.0.grown in cc)
join_values newer encoding (field ∷ fields) [] back are more = absurd are
join_values newer encoding (field ∷ fields) (wire ∷ front) back are more = (are.0, join_values newer encoding fields front back are.1 more)

pub row-joined : (quality : Bool) (encoding : ℕ) (fields : List Field) (front back : List WireField) → AreValues false encoding fields front → row_read quality fields (front ++ back) ≡ row_read quality fields front
row-joined quality encoding [] front back are = refl
row-joined quality encoding (field ∷ fields) [] back are = absurd are
row-joined quality encoding (field ∷ fields) (wire ∷ front) back are = ap (λ (row : List DataValue). value_read quality field wire ∷ row) (row-joined quality encoding fields front back are.1)

split_values : (newer : Bool) (encoding : ℕ) (fields : List Field) (values : List WireField) → AreValues newer encoding fields values → Apart newer encoding fields values
split_values newer encoding [] values are = record { front = []; back = values; front_are = tt; back_are = are; whole = refl }
split_values newer encoding (field ∷ fields) [] are = absurd are
split_values newer encoding (field ∷ fields) (wire ∷ values) are =
    let rest = split_values newer encoding fields values are.1 in
    record { front = wire ∷ rest.front; back = rest.back; front_are = (are.0, rest.front_are); back_are = rest.back_are; whole = ap (λ (l : List WireField). wire ∷ l) rest.whole }

-- surplus values are those of a newer sender
grown : (newer : Bool) (encoding : ℕ) (values : List WireField) → newer ≡ true → AreValues true encoding [] values → AreValues newer encoding [] values
grown newer encoding values is are = subst (λ (b : Bool). AreValues b encoding [] values) (sym is) are

any : (newer : Bool) (encoding : ℕ) (values : List WireField) → AreValues newer encoding [] values → AreValues true encoding [] values
any newer encoding [] are = tt
any newer encoding (wire ∷ values) are = (record { grown = refl; is_wire = are.0.is_wire; present = are.0.present }, any newer encoding values are.1)

none_left : (values : List WireField) → length values ≡ 0 → values ≡ []
none_left [] none = refl
none_left (wire ∷ values) none = absurd (omega (arith, none))

-- what a count tells
record Counts (newer : Bool) (fields count : ℕ) : Type 0 where
  enough : fields ≤ count
  exact : newer ≡ false → count ≡ fields

count_tells : (newer : Bool) (fields count : ℕ) → is_count newer fields count ≡ true → Counts newer fields count
count_tells newer fields count is = by_test newer (count == fields) (nat_lt fields count) refl refl is
  where
    by_test : (grown same more : Bool) → (count == fields) ≡ same → nat_lt fields count ≡ more → (same || (grown && more)) ≡ true → Counts grown fields count
    by_test grown true more e f is = record { enough = omega (arith, eqb-true count fields e); exact = λ _. eqb-true count fields e }
    by_test true false true e f is = record { enough = omega (arith, ltb-true fields count f); exact = λ no. absurd cc }
    by_test true false false e f is = absurd cc
    by_test false false more e f is = absurd cc

surplus_are : (newer : Bool) (encoding fields count : ℕ) (values : List WireField) → Counts newer fields count → length values ≡ count - fields → AreValues true encoding [] values → AreValues newer encoding [] values
surplus_are true encoding fields count values counts len are = are
surplus_are false encoding fields count values counts len are =
    subst (λ (l : List WireField). AreValues false encoding [] l) (sym (none_left values (omega (arith, len, counts.exact refl)))) tt

counted : (newer : Bool) (encoding fields : ℕ) (back : List WireField) → AreValues newer encoding [] back → is_count newer fields (fields + length back) ≡ true
counted newer encoding fields [] are = rw (eq-eqb (fields + 0) fields (omega arith)) refl
counted newer encoding fields (wire ∷ back) are =
    let more : nat_lt fields (fields + length (wire ∷ back)) ≡ true = lt-ltb fields (fields + length (wire ∷ back)) (omega arith) in
    rw (are.0.grown, more) (either (fields + length (wire ∷ back) == fields))
  where
    either : (b : Bool) → (b || (true && true)) ≡ true
    either true = refl
    either false = refl

RowRest : MetaData → ℕ → ℕ → List DataValue → List DataValue → List ℕ → Type 0
RowRest meta encoding count row = Joined (Unit {0}) (List DataValue) (SpellsSurpluses encoding (count - length meta.fields)) (λ _. Done row)

Counted : MetaData → ℕ → ℕ → List DataValue → List ℕ → Type 0
Counted meta encoding count = Joined (List DataValue) (List DataValue) (SpellsRow meta.quality encoding meta.fields) (RowRest meta encoding count)

counted_grammar : (meta : MetaData) (encoding count : ℕ) → IsGrammar (List DataValue) FrameFault Short (Counted meta encoding count) (counted_at meta.quality encoding meta.fields count)
unfolding Counted RowRest
counted_grammar meta encoding count =
    then_grammar (List DataValue) (List DataValue) FrameFault Short (SpellsRow meta.quality encoding meta.fields) (RowRest meta encoding count) (row_at meta.quality encoding meta.fields)
    (λ row rest. surpluses_at encoding (count - length meta.fields) rest >>= λ left. Ok (row, left.1)) (row_grammar meta.quality encoding meta.fields)
    (λ row _ _. then_grammar (Unit {0}) (List DataValue) FrameFault Short (SpellsSurpluses encoding (count - length meta.fields)) (λ _. Done row) (surpluses_at encoding (count - length meta.fields)) (λ _ left. Ok (row, left))
    (surpluses_grammar encoding (count - length meta.fields)) (λ _ _ _. done_grammar (List DataValue) FrameFault Short row))

Judged : MetaData → Bool → ℕ → ℕ → List DataValue → List ℕ → Type 0
Judged meta newer encoding count row text = Choice (is_count newer (length meta.fields) count) (Counted meta encoding count row text) ⊥

WholeJoined : MetaData → Bool → ℕ → List DataValue → List ℕ → Type 0
WholeJoined meta newer encoding = Joined ℕ (List DataValue) (IsNumber w16 16) (Judged meta newer encoding)

pub whole_grammar : (meta : MetaData) (newer : Bool) (encoding : ℕ) → IsGrammar (List DataValue) FrameFault Short (SpellsWhole meta newer encoding) (whole_at meta newer encoding)
unfolding whole_at WholeJoined Judged Counted RowRest
whole_grammar meta newer encoding =
    same_grammar (List DataValue) FrameFault Short (WholeJoined meta newer encoding) (SpellsWhole meta newer encoding) (whole_at meta newer encoding) there (λ row text s. here row text s (split_values newer encoding meta.fields s.values s.are))
    (then_grammar ℕ (List DataValue) FrameFault Short (IsNumber w16 16) (Judged meta newer encoding) (number_at Short w16)
    (λ count rest. if is_count newer (length meta.fields) count then counted_at meta.quality encoding meta.fields count rest else Err (WrongCount count)) (number_grammar FrameFault Short w16 16 coded16)
    (λ count _ _. either_grammar (List DataValue) FrameFault Short (Counted meta encoding count) Never (is_count newer (length meta.fields) count) (λ rest. counted_at meta.quality encoding meta.fields count rest) (λ rest. Err (WrongCount count))
    (λ _. counted_grammar meta encoding count) (λ _. refused_grammar (List DataValue) FrameFault Short (WrongCount count))))
  where
    from_counted : (row : List DataValue) (text front back : List ℕ) (count : ℕ) → IsNumber w16 16 count front → text ≡ front ++ back → is_count newer (length meta.fields) count ≡ true → Counted meta encoding count row back → SpellsWhole meta newer encoding row text
    from_counted row text front back count number split is c =
        let r = c.spells_first in
        let s = c.spells.spells_first in
        let counts = count_tells newer (length meta.fields) count is in
        let long : length (r.values ++ s.values) ≡ count = omega (arith, length-append r.values s.values, length_are encoding meta.fields r.values r.are, s.counted, counts.enough) in
        let behind : c.back ≡ wire_values_bytes s.values = sym (alone c.spells.front c.spells.back c.back c.spells.split c.spells.spells.1) ∙ s.spelled in
        record {
          values = r.values ++ s.values;
          few = omega (arith, long, number.0);
          are = join_values newer encoding meta.fields r.values s.values r.are (surplus_are newer encoding (length meta.fields) count s.values counts s.counted s.are);
          meaning = row-joined meta.quality encoding meta.fields r.values s.values r.are ∙ r.meaning ∙ sym c.spells.spells.0;
          spelled = split ∙ ap (λ (l : List ℕ). l ++ back) number.1 ∙ ap (λ (l : List ℕ). to_le_bytes w16 count ++ l) (c.split ∙ ap (λ (l : List ℕ). l ++ c.back) r.spelled ∙ ap (λ (l : List ℕ). wire_values_bytes r.values ++ l) behind ∙ sym (flat_map-append field_bytes r.values s.values))
              ∙ ap (λ (n : ℕ). to_le_bytes w16 n ++ wire_values_bytes (r.values ++ s.values)) (sym long);
        }

    by_count : (row : List DataValue) (text front back : List ℕ) (count : ℕ) → IsNumber w16 16 count front → text ≡ front ++ back → (b : Bool) → is_count newer (length meta.fields) count ≡ b → Choice b (Counted meta encoding count row back) ⊥ → SpellsWhole meta newer encoding row text
    by_count row text front back count number split true is c = from_counted row text front back count number split is c
    by_count row text front back count number split false is c = absurd c

    there : (row : List DataValue) (text : List ℕ) → WholeJoined meta newer encoding row text → SpellsWhole meta newer encoding row text
    there row text j = by_count row text j.front j.back j.first j.spells_first j.split (is_count newer (length meta.fields) j.first) refl j.spells

    here : (row : List DataValue) (text : List ℕ) (s : SpellsWhole meta newer encoding row text) → Apart newer encoding meta.fields s.values → WholeJoined meta newer encoding row text
    here row text s a =
        let count = length s.values in
        let long : count ≡ length meta.fields + length a.back = omega (arith, ap length a.whole, length-append a.front a.back, length_are encoding meta.fields a.front a.front_are) in
        let is : is_count newer (length meta.fields) count ≡ true = rw long (counted newer encoding (length meta.fields) a.back a.back_are) in
        let row_is : row_read meta.quality meta.fields a.front ≡ row = sym (row-joined meta.quality encoding meta.fields a.front a.back a.front_are) ∙ ap (row_read meta.quality meta.fields) (sym a.whole) ∙ s.meaning in
        record {
          first = count;
          front = to_le_bytes w16 count;
          back = wire_values_bytes s.values;
          spells_first = (s.few, refl);
          spells = subst (λ (b : Bool). Choice b (Counted meta encoding count row (wire_values_bytes s.values)) ⊥) (sym is) (record {
            first = row_read meta.quality meta.fields a.front;
            front = wire_values_bytes a.front;
            back = wire_values_bytes a.back;
            spells_first = record { values = a.front; are = a.front_are; meaning = refl; spelled = refl };
            spells = record {
              first = tt;
              front = wire_values_bytes a.back;
              back = [];
              spells_first = record { values = a.back; counted = omega (arith, long); are = any newer encoding a.back a.back_are; spelled = refl };
              spells = (sym row_is, refl);
              split = sym (append-nil (wire_values_bytes a.back));
            };
            split = ap wire_values_bytes a.whole ∙ flat_map-append field_bytes a.front a.back;
          });
          split = s.spelled;
        }
