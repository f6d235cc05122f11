-- One value after another, of a message whose faulty field is sought.
use Rattle.std.proofs.Common.{◌≡◌, ℕ, suc, ◌+◌, ◌-◌, ◌<◌, ◌≤◌, Bool, List, length, drop, get_or, Option, Some, Result, Ok, Err, refl, sym, ap, ◌∙◌, subst, arith}
use Rattle.std.specs.Prelude.{slice_get}
use Rattle.std.proofs.lemmas.List.{drop_more, drop_all}
use Rattle.ua_binary.specs.declared.cursor.Cursor.{Cursor}
use Rattle.ua_binary.specs.Reading.{◌>>=◌, ReadsAhead, skipped}
use Rattle.dataset_meta.specs.declared.field.Field.{Field}
use Rattle.dataset_meta.specs.Metas.{MetaData}
use Rattle.frame_codec.specs.declared.fault.FrameFault.{FrameFault}
use Rattle.frame_codec.specs.declared.faulty.FieldFault.{FieldFault}
use Rattle.frame_codec.specs.Contents.{field_at, surplus_at}
use Rattle.frame_codec.specs.FieldFaults.{judged_at, value_past, values_past, surpluses_past, change_past, changes_past}
use Rattle.frame_codec.proofs.RowReading.{some_field}
use Rattle.frame_codec.proofs.Setting.{get_there, get_past}

-- the value of a field, and one that is no field's
pub judged_field : (quality : Bool) (encoding : ℕ) (fields : List Field) (index : ℕ) (field : Field) (old new : Cursor) (r : Result (Unit {0}) FrameFault) → index < length fields → field ≡ get_or fields index field
    → ReadsAhead r old new (skipped (field_at quality encoding field)) → ReadsAhead r old new (judged_at quality encoding (slice_get fields index))
judged_field quality encoding fields index field old new r within at read =
    subst (λ (found : Option Field). ReadsAhead r old new (judged_at quality encoding found)) (ap (λ (f : Field). Some f) at ∙ sym (get_there fields index within field)) read

pub judged_surplus : (quality : Bool) (encoding : ℕ) (fields : List Field) (index : ℕ) (old new : Cursor) (r : Result (Unit {0}) FrameFault) → length fields ≤ index
    → ReadsAhead r old new (surplus_at encoding) → ReadsAhead r old new (judged_at quality encoding (slice_get fields index))
judged_surplus quality encoding fields index old new r past read =
    subst (λ (found : Option Field). ReadsAhead r old new (judged_at quality encoding found)) (sym (get_past fields index past)) read

-- the first of the values that are left
first_value : (quality : Bool) (encoding : ℕ) (fields : List Field) (index : ℕ) (bytes : List ℕ) (read : Result (Unit {0} × List ℕ) (Option FieldFault)) → index < length fields → value_past quality encoding index (slice_get fields index) bytes ≡ read
    → values_past quality encoding index (drop index fields) bytes ≡ (read >>= λ value. values_past quality encoding (index + 1) (drop (index + 1) fields) value.1)
first_value quality encoding fields index bytes read within is =
    let some = some_field fields index within in
    let found : slice_get fields index ≡ Some (get_or fields index some.0) = get_there fields index within some.0 in
    ap (λ (left : List Field). values_past quality encoding index left bytes) (drop_more fields index some.0 within)
    ∙ ap (λ (r : Result (Unit {0} × List ℕ) (Option FieldFault)). r >>= λ value. values_past quality encoding (index + 1) (drop (index + 1) fields) value.1)
    (ap (λ (o : Option Field). value_past quality encoding index o bytes) (sym found) ∙ is)

pub values_more : (quality : Bool) (encoding : ℕ) (fields : List Field) (index : ℕ) (done : Unit {0}) (bytes rest : List ℕ) → index < length fields → value_past quality encoding index (slice_get fields index) bytes ≡ Ok (done, rest)
    → values_past quality encoding index (drop index fields) bytes ≡ values_past quality encoding (index + 1) (drop (index + 1) fields) rest
values_more quality encoding fields index done bytes rest within is = first_value quality encoding fields index bytes (Ok (done, rest)) within is

pub values_refused : (quality : Bool) (encoding : ℕ) (fields : List Field) (index : ℕ) (bytes : List ℕ) (fault : Option FieldFault) → index < length fields → value_past quality encoding index (slice_get fields index) bytes ≡ Err fault
    → values_past quality encoding index (drop index fields) bytes ≡ Err fault
values_refused quality encoding fields index bytes fault within is = first_value quality encoding fields index bytes (Err fault) within is

pub values_all : (quality : Bool) (encoding : ℕ) (fields : List Field) (index : ℕ) (bytes : List ℕ) → length fields ≤ index → values_past quality encoding index (drop index fields) bytes ≡ Ok (tt, bytes)
values_all quality encoding fields index bytes all = rw (drop_all index fields all) refl

-- the first of the surplus values that are left
first_surplus : (quality : Bool) (encoding : ℕ) (fields : List Field) (count index : ℕ) (bytes : List ℕ) (read : Result (Unit {0} × List ℕ) (Option FieldFault)) → length fields ≤ index → index < count → value_past quality encoding index (slice_get fields index) bytes ≡ read
    → surpluses_past quality encoding index (count - index) bytes ≡ (read >>= λ value. surpluses_past quality encoding (index + 1) (count - (index + 1)) value.1)
first_surplus quality encoding fields count index bytes read past within is =
    let left : count - index ≡ suc (count - (index + 1)) = omega (arith, within) in
    ap (λ (n : ℕ). surpluses_past quality encoding index n bytes) left
    ∙ ap (λ (r : Result (Unit {0} × List ℕ) (Option FieldFault)). r >>= λ value. surpluses_past quality encoding (index + 1) (count - (index + 1)) value.1)
    (ap (λ (o : Option Field). value_past quality encoding index o bytes) (sym (get_past fields index past)) ∙ is)

pub surpluses_more : (quality : Bool) (encoding : ℕ) (fields : List Field) (count index : ℕ) (done : Unit {0}) (bytes rest : List ℕ) → length fields ≤ index → index < count → value_past quality encoding index (slice_get fields index) bytes ≡ Ok (done, rest)
    → surpluses_past quality encoding index (count - index) bytes ≡ surpluses_past quality encoding (index + 1) (count - (index + 1)) rest
surpluses_more quality encoding fields count index done bytes rest past within is = first_surplus quality encoding fields count index bytes (Ok (done, rest)) past within is

pub surpluses_refused : (quality : Bool) (encoding : ℕ) (fields : List Field) (count index : ℕ) (bytes : List ℕ) (fault : Option FieldFault) → length fields ≤ index → index < count → value_past quality encoding index (slice_get fields index) bytes ≡ Err fault
    → surpluses_past quality encoding index (count - index) bytes ≡ Err fault
surpluses_refused quality encoding fields count index bytes fault past within is = first_surplus quality encoding fields count index bytes (Err fault) past within is

-- the first of the changes that are left
first_change : (meta : MetaData) (newer : Bool) (encoding count counter : ℕ) (bytes : List ℕ) (read : Result (Unit {0} × List ℕ) (Option FieldFault)) → counter < count → change_past meta newer encoding bytes ≡ read
    → changes_past meta newer encoding (count - counter) bytes ≡ (read >>= λ change. changes_past meta newer encoding (count - (counter + 1)) change.1)
first_change meta newer encoding count counter bytes read within is =
    let left : count - counter ≡ suc (count - (counter + 1)) = omega (arith, within) in
    ap (λ (n : ℕ). changes_past meta newer encoding n bytes) left
    ∙ ap (λ (r : Result (Unit {0} × List ℕ) (Option FieldFault)). r >>= λ change. changes_past meta newer encoding (count - (counter + 1)) change.1) is

pub changes_more : (meta : MetaData) (newer : Bool) (encoding count counter : ℕ) (done : Unit {0}) (bytes rest : List ℕ) → counter < count → change_past meta newer encoding bytes ≡ Ok (done, rest)
    → changes_past meta newer encoding (count - counter) bytes ≡ changes_past meta newer encoding (count - (counter + 1)) rest
changes_more meta newer encoding count counter done bytes rest within is = first_change meta newer encoding count counter bytes (Ok (done, rest)) within is

pub changes_refused : (meta : MetaData) (newer : Bool) (encoding count counter : ℕ) (bytes : List ℕ) (fault : Option FieldFault) → counter < count → change_past meta newer encoding bytes ≡ Err fault
    → changes_past meta newer encoding (count - counter) bytes ≡ Err fault
changes_refused meta newer encoding count counter bytes fault within is = first_change meta newer encoding count counter bytes (Err fault) within is
