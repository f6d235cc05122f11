-- What is set in a row, or put into a patch, once it is read.
use Rattle.std.proofs.Common.{◌≡◌, ℕ, zero, suc, ◌<◌, ◌≤◌, Bool, true, false, List, [], ◌∷◌, length, get_or, Option, Some, None, Result, Ok, Err, refl, sym, ap, ◌∙◌, arith}
use Rattle.std.specs.Prelude.{slice_get, slice_set, if◌then◌else◌}
use Rattle.std.specs.Int.{w16}
use Rattle.ua_values.specs.declared.value.Value.{Value}
use Rattle.ua_binary.specs.declared.cursor.Cursor.{Cursor}
use Rattle.ua_binary.specs.declared.cursor.Short.{Short as NoBytes}
use Rattle.ua_binary.specs.declared.data_value.Measured.{Measured}
use Rattle.ua_binary.specs.Reading.{◌>>=◌, number_at, HasRead, ReadsAhead, rest_of}
use Rattle.dataset_meta.specs.declared.field.Field.{Field}
use Rattle.dataset_meta.specs.DataValues.{DataValue}
use Rattle.dataset_meta.specs.Metas.{MetaData}
use Rattle.dataset_meta.specs.Rows.{IsRow, put_in}
use Rattle.row_words.specs.Words.{IsWordOf, scalar_in}
use Rattle.row_words.specs.Setting.{with_value, with_status}
use Rattle.row_words.proofs.ScalarLaws.{FitsIn-scalar_in}
use Rattle.row_words.proofs.SettingLaws.{both_set, set_good}
use Rattle.frame_codec.specs.declared.fault.FrameFault.{FrameFault}
use Rattle.frame_codec.specs.declared.fault.FrameFault.TheVariants.{Short, BadIndex}
use Rattle.frame_codec.specs.Calls.{leaving, measured_in, set_at}
use Rattle.frame_codec.specs.Contents.{value_at, kept, given, field_at, surplus_at, put_at, change_at}
use Rattle.frame_codec.proofs.ContentGrammar.{given_fits}
use Rattle.frame_codec.proofs.ScalarLaws.{number_other}

pub set_both : (quality : Bool) (row mid new : List DataValue) (index : ℕ) (value : Value) (status : ℕ) → quality ≡ true → mid ≡ with_value row index value → new ≡ with_status mid index status
    → new ≡ slice_set row index (kept quality value status)
set_both quality row mid new index value status is first second =
    second ∙ ap (λ (r : List DataValue). with_status r index status) first ∙ both_set row index value status ∙ ap (λ (q : Bool). slice_set row index (kept q value status)) (sym is)

pub set_dropped : (meta : MetaData) (row new : List DataValue) (index : ℕ) (value : Value) (status : ℕ) → IsRow meta row → meta.quality ≡ false → new ≡ with_value row index value
    → new ≡ slice_set row index (kept meta.quality value status)
set_dropped meta row new index value status is_row is set =
    set ∙ set_good meta row index value is_row is ∙ ap (λ (q : Bool). slice_set row index (kept q value status)) (sym is)

same_at : (fields : List Field) (index : ℕ) (d e : Field) → index < length fields → get_or fields index d ≡ get_or fields index e
same_at [] index d e within = absurd (omega arith)
same_at (field ∷ fields) zero d e within = refl
same_at (field ∷ fields) (suc index) d e within = same_at fields index d e (omega arith)

own_field : (quality : Bool) (encoding : ℕ) (field : Field) (word status : ℕ) (bytes rest : List ℕ) → IsWordOf field.kind word → value_at encoding bytes ≡ Ok (measured_in field.kind word status, rest)
    → field_at quality encoding field bytes ≡ Ok (kept quality (scalar_in field.kind word) status, rest)
unfolding field_at
own_field quality encoding field word status bytes rest is read =
    ap (λ (r : Result (Measured × List ℕ) FrameFault). r >>= λ x. given quality field x.0.value x.0.status >>= λ v. Ok (v, x.1)) read
    ∙ ap (λ (r : Result DataValue FrameFault). r >>= λ v. Ok (v, rest)) (given_fits quality field (Some (scalar_in field.kind word)) status (FitsIn-scalar_in field word is).fits)

own_read : (quality : Bool) (encoding : ℕ) (field : Field) (index : ℕ) (row : List DataValue) (word status : ℕ) (bytes rest : List ℕ) → IsWordOf field.kind word → value_at encoding bytes ≡ Ok (measured_in field.kind word status, rest)
    → set_at quality encoding field index row bytes ≡ Ok (slice_set row index (kept quality (scalar_in field.kind word) status), rest)
unfolding set_at
own_read quality encoding field index row word status bytes rest is read =
    ap (λ (r : Result (DataValue × List ℕ) FrameFault). r >>= λ x. Ok (slice_set row index x.0, x.1)) (own_field quality encoding field word status bytes rest is read)

pub own_set : (quality : Bool) (encoding : ℕ) (fields : List Field) (index : ℕ) (field : Field) (row new : List DataValue) (word status : ℕ) (bytes rest : List ℕ) → index < length fields → field ≡ get_or fields index field
    → IsWordOf field.kind word → value_at encoding bytes ≡ Ok (measured_in field.kind word status, rest)
    → ((d : Field) → new ≡ slice_set row index (kept quality (scalar_in (get_or fields index d).kind word) status))
    → (d : Field) → set_at quality encoding (get_or fields index d) index row bytes ≡ Ok (new, rest)
own_set quality encoding fields index field row new word status bytes rest within at is read set d =
    let here : get_or fields index d ≡ field = same_at fields index d field within ∙ sym at in
    ap (λ (f : Field). set_at quality encoding f index row bytes) here
    ∙ own_read quality encoding field index row word status bytes rest is read
    ∙ ap (λ (r : List DataValue). Ok (r, rest)) (ap (λ (f : Field). slice_set row index (kept quality (scalar_in f.kind word) status)) (sym here) ∙ sym (set d))

pub own_put : (quality : Bool) (encoding : ℕ) (fields : List Field) (index : ℕ) (field : Field) (patch new : List (ℕ × DataValue)) (word status : ℕ) (bytes rest : List ℕ) → index < length fields → field ≡ get_or fields index field
    → IsWordOf field.kind word → value_at encoding bytes ≡ Ok (measured_in field.kind word status, rest)
    → ((d : Field) → new ≡ put_in patch index (kept quality (scalar_in (get_or fields index d).kind word) status))
    → (d : Field) → put_at quality false encoding patch index (Some (get_or fields index d)) bytes ≡ Ok (new, rest)
own_put quality encoding fields index field patch new word status bytes rest within at is read set d =
    let here : get_or fields index d ≡ field = same_at fields index d field within ∙ sym at in
    ap (λ (f : Field). put_at quality false encoding patch index (Some f) bytes) here
    ∙ ap (λ (r : Result (DataValue × List ℕ) FrameFault). r >>= λ x. Ok (put_in patch index x.0, x.1)) (own_field quality encoding field word status bytes rest is read)
    ∙ ap (λ (p : List (ℕ × DataValue)). Ok (p, rest)) (ap (λ (f : Field). put_in patch index (kept quality (scalar_in f.kind word) status)) (sym here) ∙ sym (set d))

-- an index among the fields, or past them
pub get_there : (fields : List Field) (index : ℕ) → index < length fields → (d : Field) → slice_get fields index ≡ Some (get_or fields index d)
get_there [] index within d = absurd (omega arith)
get_there (field ∷ fields) zero within d = refl
get_there (field ∷ fields) (suc index) within d = get_there fields index (omega arith) d

pub get_past : (fields : List Field) (index : ℕ) → length fields ≤ index → slice_get fields index ≡ None
get_past [] index past = refl
get_past (field ∷ fields) zero past = absurd (omega arith)
get_past (field ∷ fields) (suc index) past = get_past fields index (omega arith)

pub some_field : (fields : List Field) (index : ℕ) → index < length fields → Field
some_field [] index within = absurd (omega arith)
some_field (field ∷ fields) index within = field

indexed : (meta : MetaData) (newer : Bool) (encoding index : ℕ) (patch : List (ℕ × DataValue)) (found : Option Field) (bytes rest : List ℕ) (short : NoBytes) → number_at short w16 bytes ≡ Ok (index, rest) → slice_get meta.fields index ≡ found
    → change_at meta newer encoding patch bytes ≡ put_at meta.quality newer encoding patch index found rest
unfolding change_at
indexed meta newer encoding index patch found bytes rest short read at =
    ap (λ (r : Result (ℕ × List ℕ) FrameFault). r >>= λ i. put_at meta.quality newer encoding patch i.0 (slice_get meta.fields i.0) i.1) (number_other short Short w16 bytes (index, rest) read)
    ∙ ap (λ (o : Option Field). put_at meta.quality newer encoding patch index o rest) at

pub change_put : (meta : MetaData) (newer : Bool) (encoding index : ℕ) (patch next : List (ℕ × DataValue)) (short : NoBytes) (old mid new : Cursor) (r : Result (Unit {0}) FrameFault) → HasRead index old mid (number_at short w16) → index < length meta.fields
    → ((d : Field) → ReadsAhead (leaving r next) mid new (put_at meta.quality false encoding patch index (Some (get_or meta.fields index d)))) → ReadsAhead (leaving r next) old new (change_at meta newer encoding patch)
change_put meta newer encoding index patch next short old mid new (Ok done) number within put =
    let d = some_field meta.fields index within in
    record { answer = indexed meta newer encoding index patch (Some (get_or meta.fields index d)) _ _ short number.answer (get_there meta.fields index within d) ∙ (put d).answer; same_bytes = (put d).same_bytes ∙ number.same_bytes }
change_put meta newer encoding index patch next short old mid new (Err fault) number within put =
    let d = some_field meta.fields index within in
    indexed meta newer encoding index patch (Some (get_or meta.fields index d)) _ _ short number.answer (get_there meta.fields index within d) ∙ put d

pub change_surplus : (meta : MetaData) (newer : Bool) (encoding index : ℕ) (patch : List (ℕ × DataValue)) (short : NoBytes) (old mid new : Cursor) (r : Result (Unit {0}) FrameFault) → HasRead index old mid (number_at short w16) → length meta.fields ≤ index
    → newer ≡ true → ReadsAhead r mid new (surplus_at encoding) → ReadsAhead (leaving r patch) old new (change_at meta newer encoding patch)
change_surplus meta newer encoding index patch short old mid new (Ok done) number past grown read =
    record {
      answer = indexed meta newer encoding index patch None _ _ short number.answer (get_past meta.fields index past)
          ∙ ap (λ (b : Bool). if b then (surplus_at encoding (rest_of mid) >>= λ value. Ok (patch, value.1)) else Err (BadIndex index)) grown
          ∙ ap (λ (r : Result (Unit {0} × List ℕ) FrameFault). r >>= λ value. Ok (patch, value.1)) read.answer;
      same_bytes = read.same_bytes ∙ number.same_bytes;
    }
change_surplus meta newer encoding index patch short old mid new (Err fault) number past grown read =
    indexed meta newer encoding index patch None _ _ short number.answer (get_past meta.fields index past)
    ∙ ap (λ (b : Bool). if b then (surplus_at encoding (rest_of mid) >>= λ value. Ok (patch, value.1)) else Err (BadIndex index)) grown
    ∙ ap (λ (r : Result (Unit {0} × List ℕ) FrameFault). r >>= λ value. Ok (patch, value.1)) read

pub change_past : (meta : MetaData) (newer : Bool) (encoding index : ℕ) (patch : List (ℕ × DataValue)) (short : NoBytes) (old mid : Cursor) → HasRead index old mid (number_at short w16) → length meta.fields ≤ index
    → newer ≡ false → change_at meta newer encoding patch (rest_of old) ≡ Err (BadIndex index)
change_past meta newer encoding index patch short old mid number past same =
    indexed meta newer encoding index patch None _ _ short number.answer (get_past meta.fields index past)
    ∙ ap (λ (b : Bool). if b then (surplus_at encoding (rest_of mid) >>= λ value. Ok (patch, value.1)) else Err (BadIndex index)) same
