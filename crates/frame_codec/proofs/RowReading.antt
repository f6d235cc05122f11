-- One value after another, in front of those that are still to be read.
use Rattle.std.proofs.Common.{◌≡◌, ℕ, zero, suc, ◌+◌, ◌-◌, ◌<◌, ◌≤◌, Bool, List, [], ◌∷◌, ◌++◌, length, take, drop, get_or, Result, Ok, Err, refl, sym, ap, ◌∙◌, append_assoc, arith}
use Rattle.std.proofs.lemmas.List.{drop_more, take_more_set, drop_all, take_all, append-nil}
use Rattle.std.specs.Prelude.{slice_set}
use Rattle.dataset_meta.specs.declared.field.Field.{Field}
use Rattle.dataset_meta.specs.DataValues.{DataValue}
use Rattle.ua_binary.specs.Reading.{◌>>=◌}
use Rattle.frame_codec.specs.declared.fault.FrameFault.{FrameFault}
use Rattle.frame_codec.specs.Calls.{set_at}
use Rattle.frame_codec.specs.Contents.{field_at, row_at, surplus_at, surpluses_at, change_at, changes_at}
use Rattle.dataset_meta.specs.Metas.{MetaData}

-- the first values of a row, in front of what is read behind them
abbrev pub behind : ℕ → List DataValue → Result (List DataValue × List ℕ) FrameFault → Result (List DataValue × List ℕ) FrameFault
behind index row read = read >>= λ rest. Ok (take index row ++ rest.0, rest.1)

pub behind-none : (row : List DataValue) (read : Result (List DataValue × List ℕ) FrameFault) → behind 0 row read ≡ read
behind-none row (Ok rest) = refl
behind-none row (Err fault) = refl

then_set : ℕ → List DataValue → Result (DataValue × List ℕ) FrameFault → Result (List DataValue × List ℕ) FrameFault
then_set index row read = read >>= λ x. Ok (slice_set row index x.0, x.1)

-- a value that was set was read
pub record SetRead (quality : Bool) (encoding : ℕ) (field : Field) (index : ℕ) (row new : List DataValue) (bytes rest : List ℕ) : Type 0 where
  pub value : DataValue
  pub is_read : field_at quality encoding field bytes ≡ Ok (value, rest)
  pub set : new ≡ slice_set row index value

pub set_ok : (quality : Bool) (encoding : ℕ) (field : Field) (index : ℕ) (row new : List DataValue) (bytes rest : List ℕ) → set_at quality encoding field index row bytes ≡ Ok (new, rest) → SetRead quality encoding field index row new bytes rest
unfolding set_at then_set
set_ok quality encoding field index row new bytes rest e = by_read (field_at quality encoding field bytes) refl e
  where
    by_read : (r : Result (DataValue × List ℕ) FrameFault) → field_at quality encoding field bytes ≡ r → then_set index row r ≡ Ok (new, rest) → SetRead quality encoding field index row new bytes rest
    by_read (Ok x) is e =
        let pair : Path (List DataValue × List ℕ) (slice_set row index x.0, x.1) (new, rest) = cc in
        record { value = x.0; is_read = is ∙ ap (λ (l : List ℕ). Ok (x.0, l)) (ap (λ (p : List DataValue × List ℕ). p.1) pair); set = sym (ap (λ (p : List DataValue × List ℕ). p.0) pair) }
    by_read (Err fault) is e = absurd (let no : Path (Result (List DataValue × List ℕ) FrameFault) (Err fault) (Ok (new, rest)) = e in cc)

pub set_err : (quality : Bool) (encoding : ℕ) (field : Field) (index : ℕ) (row : List DataValue) (bytes : List ℕ) (fault : FrameFault) → set_at quality encoding field index row bytes ≡ Err fault → field_at quality encoding field bytes ≡ Err fault
unfolding set_at then_set
set_err quality encoding field index row bytes fault e = by_read (field_at quality encoding field bytes) e
  where
    by_read : (r : Result (DataValue × List ℕ) FrameFault) → then_set index row r ≡ Err fault → r ≡ Err fault
    by_read (Ok x) e = absurd (let no : Path (Result (List DataValue × List ℕ) FrameFault) (Ok (slice_set row index x.0, x.1)) (Err fault) = e in cc)
    by_read (Err other) e = cc

-- one value more
behind_more : (quality : Bool) (encoding index : ℕ) (fields : List Field) (field : Field) (row : List DataValue) (value : DataValue) (bytes rest : List ℕ) → index < length fields → index < length row
    → field ≡ get_or fields index field → field_at quality encoding field bytes ≡ Ok (value, rest)
    → behind index row (row_at quality encoding (drop index fields) bytes) ≡ behind (index + 1) (slice_set row index value) (row_at quality encoding (drop (index + 1) fields) rest)
behind_more quality encoding index fields field row value bytes rest within room at read =
    ap (λ (left : List Field). behind index row (row_at quality encoding left bytes)) (drop_more fields index field within ∙ ap (λ (f : Field). f ∷ drop (index + 1) fields) (sym at))
    ∙ ap (λ (first : Result (DataValue × List ℕ) FrameFault). behind index row (first >>= λ v. row_at quality encoding (drop (index + 1) fields) v.1 >>= λ r. Ok (v.0 ∷ r.0, r.1))) read
    ∙ joined (row_at quality encoding (drop (index + 1) fields) rest)
  where
    joined : (read : Result (List DataValue × List ℕ) FrameFault) → behind index row (read >>= λ r. Ok (value ∷ r.0, r.1)) ≡ behind (index + 1) (slice_set row index value) read
    joined (Ok r) = ap (λ (front : List DataValue). Ok (front, r.1))
        (sym (append_assoc (take index row) (value ∷ []) r.0) ∙ ap (λ (front : List DataValue). front ++ r.0) (sym (take_more_set row index value room)))
    joined (Err fault) = refl

pub some_field : (fields : List Field) (index : ℕ) → index < length fields → (field : Field) × (field ≡ get_or fields index field)
some_field [] index within = absurd (omega arith)
some_field (field ∷ fields) zero within = (field, refl)
some_field (field ∷ fields) (suc index) within = some_field fields index (omega arith)

pub behind-set : (quality : Bool) (encoding index : ℕ) (fields : List Field) (row new : List DataValue) (bytes rest : List ℕ) → index < length fields → index < length row
    → ((d : Field) → set_at quality encoding (get_or fields index d) index row bytes ≡ Ok (new, rest))
    → behind index row (row_at quality encoding (drop index fields) bytes) ≡ behind (index + 1) new (row_at quality encoding (drop (index + 1) fields) rest)
behind-set quality encoding index fields row new bytes rest within room read =
    let some = some_field fields index within in
    let done = set_ok quality encoding some.0 index row new bytes rest (ap (λ (f : Field). set_at quality encoding f index row bytes) some.1 ∙ read some.0) in
    behind_more quality encoding index fields some.0 row done.value bytes rest within room some.1 done.is_read
    ∙ ap (λ (r : List DataValue). behind (index + 1) r (row_at quality encoding (drop (index + 1) fields) rest)) (sym done.set)

-- a value that is refused refuses the row
pub behind-refused : (quality : Bool) (encoding index : ℕ) (fields : List Field) (row : List DataValue) (bytes : List ℕ) (fault : FrameFault) → index < length fields
    → ((d : Field) → set_at quality encoding (get_or fields index d) index row bytes ≡ Err fault) → behind index row (row_at quality encoding (drop index fields) bytes) ≡ Err fault
behind-refused quality encoding index fields row bytes fault within read =
    let some = some_field fields index within in
    let refused = set_err quality encoding some.0 index row bytes fault (ap (λ (f : Field). set_at quality encoding f index row bytes) some.1 ∙ read some.0) in
    ap (λ (left : List Field). behind index row (row_at quality encoding left bytes)) (drop_more fields index some.0 within ∙ ap (λ (f : Field). f ∷ drop (index + 1) fields) (sym some.1))
    ∙ ap (λ (first : Result (DataValue × List ℕ) FrameFault). behind index row (first >>= λ v. row_at quality encoding (drop (index + 1) fields) v.1 >>= λ r. Ok (v.0 ∷ r.0, r.1))) refused

-- no value is left to be read
pub behind-all : (quality : Bool) (encoding index : ℕ) (fields : List Field) (row : List DataValue) (bytes : List ℕ) → length fields ≤ index → length row ≤ index
    → behind index row (row_at quality encoding (drop index fields) bytes) ≡ Ok (row, bytes)
behind-all quality encoding index fields row bytes all whole =
    rw (drop_all index fields all, take_all index row whole, append-nil row) refl

-- the first of the surplus values that are left
first_surplus : (encoding count counter : ℕ) (bytes : List ℕ) (read : Result (Unit {0} × List ℕ) FrameFault) → counter < count → surplus_at encoding bytes ≡ read
    → surpluses_at encoding (count - counter) bytes ≡ (read >>= λ value. surpluses_at encoding (count - (counter + 1)) value.1)
first_surplus encoding count counter bytes read within is =
    let left : count - counter ≡ suc (count - (counter + 1)) = omega (arith, within) in
    ap (λ (n : ℕ). surpluses_at encoding n bytes) left ∙ ap (λ (r : Result (Unit {0} × List ℕ) FrameFault). r >>= λ value. surpluses_at encoding (count - (counter + 1)) value.1) is

pub surpluses_more : (encoding count counter : ℕ) (done : Unit {0}) (bytes rest : List ℕ) → counter < count → surplus_at encoding bytes ≡ Ok (done, rest) → surpluses_at encoding (count - counter) bytes ≡ surpluses_at encoding (count - (counter + 1)) rest
surpluses_more encoding count counter done bytes rest within is = first_surplus encoding count counter bytes (Ok (done, rest)) within is

pub surpluses_refused : (encoding count counter : ℕ) (bytes : List ℕ) (fault : FrameFault) → counter < count → surplus_at encoding bytes ≡ Err fault → surpluses_at encoding (count - counter) bytes ≡ Err fault
surpluses_refused encoding count counter bytes fault within is = first_surplus encoding count counter bytes (Err fault) within is

-- the first of the changes that are left
first_change : (meta : MetaData) (newer : Bool) (encoding count counter : ℕ) (patch : List (ℕ × DataValue)) (bytes : List ℕ) (read : Result (List (ℕ × DataValue) × List ℕ) FrameFault) → counter < count
    → change_at meta newer encoding patch bytes ≡ read
    → changes_at meta newer encoding (count - counter) patch bytes ≡ (read >>= λ change. changes_at meta newer encoding (count - (counter + 1)) change.0 change.1)
first_change meta newer encoding count counter patch bytes read within is =
    let left : count - counter ≡ suc (count - (counter + 1)) = omega (arith, within) in
    ap (λ (n : ℕ). changes_at meta newer encoding n patch bytes) left
    ∙ ap (λ (r : Result (List (ℕ × DataValue) × List ℕ) FrameFault). r >>= λ change. changes_at meta newer encoding (count - (counter + 1)) change.0 change.1) is

pub changes_more : (meta : MetaData) (newer : Bool) (encoding count counter : ℕ) (patch next : List (ℕ × DataValue)) (bytes rest : List ℕ) → counter < count → change_at meta newer encoding patch bytes ≡ Ok (next, rest)
    → changes_at meta newer encoding (count - counter) patch bytes ≡ changes_at meta newer encoding (count - (counter + 1)) next rest
changes_more meta newer encoding count counter patch next bytes rest within is = first_change meta newer encoding count counter patch bytes (Ok (next, rest)) within is

pub changes_refused : (meta : MetaData) (newer : Bool) (encoding count counter : ℕ) (patch : List (ℕ × DataValue)) (bytes : List ℕ) (fault : FrameFault) → counter < count → change_at meta newer encoding patch bytes ≡ Err fault
    → changes_at meta newer encoding (count - counter) patch bytes ≡ Err fault
changes_refused meta newer encoding count counter patch bytes fault within is = first_change meta newer encoding count counter patch bytes (Err fault) within is
