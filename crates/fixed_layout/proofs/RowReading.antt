-- One value after another, in front of those that are still to be read.
use Rattle.std.proofs.Common.{◌≡◌, ℕ, ◌+◌, ◌<◌, ◌≤◌, List, [], ◌∷◌, ◌++◌, length, take, drop, get_or, Result, Ok, Err, refl, sym, ap, ◌∙◌, append_assoc}
use Rattle.std.specs.Prelude.{slice_set}
use Rattle.std.proofs.lemmas.List.{drop_more, take_more_set, drop_all, take_all, append-nil}
use Rattle.ua_values.specs.declared.value.Value.{Value}
use Rattle.ua_binary.specs.Reading.{◌>>=◌}
use Rattle.dataset_meta.specs.declared.field.Field.{Field}
use Rattle.dataset_meta.specs.DataValues.{DataValue}
use Rattle.fixed_layout.specs.declared.fault.RawFault.{RawFault}
use Rattle.fixed_layout.specs.Calls.{set_at}
use Rattle.fixed_layout.specs.Reading.{raw_value_at, raw_field_at, raw_row_at}
use Rattle.fixed_layout.specs.Spelling.{good}
use Rattle.fixed_layout.proofs.Laying.{Stands, stands}

-- the first values of a row, in front of what is read behind them
abbrev pub behind : ℕ → List DataValue → Result (List DataValue × List ℕ) RawFault → Result (List DataValue × List ℕ) RawFault
behind index row read = read >>= λ rest. Ok (take index row ++ rest.0, rest.1)

pub behind-none : (row : List DataValue) (read : Result (List DataValue × List ℕ) RawFault) → behind 0 row read ≡ read
behind-none row (Ok rest) = refl
behind-none row (Err fault) = refl

-- a value that is read, and set
abbrev then_good : Result (Value × List ℕ) RawFault → Result (DataValue × List ℕ) RawFault
then_good read = read >>= λ v. Ok (good v.0, v.1)

abbrev then_set : ℕ → List DataValue → Result (DataValue × List ℕ) RawFault → Result (List DataValue × List ℕ) RawFault
then_set index row read = read >>= λ x. Ok (slice_set row index x.0, x.1)

pub value_set : (field : Field) (index : ℕ) (row : List DataValue) (value : Value) (bytes rest : List ℕ) → raw_value_at field.kind field.cap bytes ≡ Ok (value, rest) → set_at field index row bytes ≡ Ok (slice_set row index (good value), rest)
unfolding set_at raw_field_at
value_set field index row value bytes rest read = ap (λ (r : Result (Value × List ℕ) RawFault). then_set index row (then_good r)) read

pub value_refused : (field : Field) (index : ℕ) (row : List DataValue) (bytes : List ℕ) (fault : RawFault) → raw_value_at field.kind field.cap bytes ≡ Err fault → set_at field index row bytes ≡ Err fault
unfolding set_at raw_field_at
value_refused field index row bytes fault read = ap (λ (r : Result (Value × List ℕ) RawFault). then_set index row (then_good r)) read

-- a value that was set was read
record SetRead (field : Field) (index : ℕ) (row new : List DataValue) (bytes rest : List ℕ) : Type 0 where
  pub value : DataValue
  pub is_read : raw_field_at field bytes ≡ Ok (value, rest)
  pub set : new ≡ slice_set row index value

set_ok : (field : Field) (index : ℕ) (row new : List DataValue) (bytes rest : List ℕ) → set_at field index row bytes ≡ Ok (new, rest) → SetRead field index row new bytes rest
unfolding set_at
set_ok field index row new bytes rest e = by_read (raw_field_at field bytes) refl e
  where
    by_read : (r : Result (DataValue × List ℕ) RawFault) → raw_field_at field bytes ≡ r → then_set index row r ≡ Ok (new, rest) → SetRead field index row new bytes rest
    by_read (Ok x) is e =
        let pair : Path (List DataValue × List ℕ) (slice_set row index x.0, x.1) (new, rest) = cc in
        record { value = x.0; is_read = is ∙ ap (λ (l : List ℕ). Ok (x.0, l)) (ap (λ (p : List DataValue × List ℕ). p.1) pair); set = sym (ap (λ (p : List DataValue × List ℕ). p.0) pair) }
    by_read (Err fault) is e = absurd (let no : Path (Result (List DataValue × List ℕ) RawFault) (Err fault) (Ok (new, rest)) = e in cc)

set_err : (field : Field) (index : ℕ) (row : List DataValue) (bytes : List ℕ) (fault : RawFault) → set_at field index row bytes ≡ Err fault → raw_field_at field bytes ≡ Err fault
unfolding set_at
set_err field index row bytes fault e = by_read (raw_field_at field bytes) e
  where
    by_read : (r : Result (DataValue × List ℕ) RawFault) → then_set index row r ≡ Err fault → r ≡ Err fault
    by_read (Ok x) e = absurd (let no : Path (Result (List DataValue × List ℕ) RawFault) (Ok (slice_set row index x.0, x.1)) (Err fault) = e in cc)
    by_read (Err other) e = cc

abbrev rest_at : List Field → ℕ → Field → List ℕ → Result (List DataValue × List ℕ) RawFault
rest_at fields index field bytes = raw_field_at field bytes >>= λ v. raw_row_at (drop (index + 1) fields) v.1 >>= λ r. Ok (v.0 ∷ r.0, r.1)

first_left : (fields : List Field) (index : ℕ) (s : Stands fields index) (bytes : List ℕ) → index < length fields → raw_row_at (drop index fields) bytes ≡ rest_at fields index s.x bytes
first_left fields index s bytes within =
    ap (λ (left : List Field). raw_row_at left bytes) (drop_more fields index s.x within ∙ ap (λ (f : Field). f ∷ drop (index + 1) fields) (s.at s.x))

-- one value more
behind_more : (index : ℕ) (fields : List Field) (s : Stands fields index) (row : List DataValue) (value : DataValue) (bytes rest : List ℕ) → index < length fields → index < length row
    → raw_field_at s.x bytes ≡ Ok (value, rest)
    → behind index row (raw_row_at (drop index fields) bytes) ≡ behind (index + 1) (slice_set row index value) (raw_row_at (drop (index + 1) fields) rest)
behind_more index fields s row value bytes rest within room read =
    ap (behind index row) (first_left fields index s bytes within)
    ∙ ap (λ (first : Result (DataValue × List ℕ) RawFault). behind index row (first >>= λ v. raw_row_at (drop (index + 1) fields) v.1 >>= λ r. Ok (v.0 ∷ r.0, r.1))) read
    ∙ joined (raw_row_at (drop (index + 1) fields) rest)
  where
    joined : (read : Result (List DataValue × List ℕ) RawFault) → behind index row (read >>= λ r. Ok (value ∷ r.0, r.1)) ≡ behind (index + 1) (slice_set row index value) read
    joined (Ok r) = ap (λ (front : List DataValue). Ok (front, r.1))
        (sym (append_assoc (take index row) (value ∷ []) r.0) ∙ ap (λ (front : List DataValue). front ++ r.0) (sym (take_more_set row index value room)))
    joined (Err fault) = refl

pub behind-set : (index : ℕ) (fields : List Field) (row new : List DataValue) (bytes rest : List ℕ) → index < length fields → index < length row
    → ((d : Field) → set_at (get_or fields index d) index row bytes ≡ Ok (new, rest))
    → behind index row (raw_row_at (drop index fields) bytes) ≡ behind (index + 1) new (raw_row_at (drop (index + 1) fields) rest)
behind-set index fields row new bytes rest within room read =
    let s = stands fields index within in
    let done = set_ok s.x index row new bytes rest (ap (λ (f : Field). set_at f index row bytes) (sym (s.at s.x)) ∙ read s.x) in
    behind_more index fields s row done.value bytes rest within room done.is_read
    ∙ ap (λ (r : List DataValue). behind (index + 1) r (raw_row_at (drop (index + 1) fields) rest)) (sym done.set)

-- a value that is refused refuses the row
pub behind-refused : (index : ℕ) (fields : List Field) (row : List DataValue) (bytes : List ℕ) (fault : RawFault) → index < length fields
    → ((d : Field) → set_at (get_or fields index d) index row bytes ≡ Err fault) → behind index row (raw_row_at (drop index fields) bytes) ≡ Err fault
behind-refused index fields row bytes fault within read =
    let s = stands fields index within in
    let refused = set_err s.x index row bytes fault (ap (λ (f : Field). set_at f index row bytes) (sym (s.at s.x)) ∙ read s.x) in
    ap (behind index row) (first_left fields index s bytes within)
    ∙ ap (λ (first : Result (DataValue × List ℕ) RawFault). behind index row (first >>= λ v. raw_row_at (drop (index + 1) fields) v.1 >>= λ r. Ok (v.0 ∷ r.0, r.1))) refused

-- no value is left to be read
pub behind-all : (index : ℕ) (fields : List Field) (row : List DataValue) (bytes : List ℕ) → length fields ≤ index → length row ≤ index → behind index row (raw_row_at (drop index fields) bytes) ≡ Ok (row, bytes)
behind-all index fields row bytes all whole = rw (drop_all index fields all, take_all index row whole, append-nil row) refl
