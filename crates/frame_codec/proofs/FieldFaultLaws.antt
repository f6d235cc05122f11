-- Which field a refused message names, and which fault it is refused for.
use Rattle.std.proofs.Common.{◌≡◌, ℕ, zero, suc, ◌+◌, ◌-◌, ◌<◌, ◌^◌, Bool, true, false, List, [], ◌∷◌, ◌++◌, length, take, drop, Option, Some, None, Result, Ok, Err, refl, sym, ap, ◌∙◌, subst, append_assoc, arith}
use Rattle.std.specs.Prelude.{⊤, ◌||◌, ◌&&◌, ◌==◌, not, nat_lt, slice_get, if◌then◌else◌}
use Rattle.std.proofs.lemmas.Bool.{ltb-true, ltb-false}
use Rattle.std.specs.Int.{w16, w32, byte_len, from_le_bytes, to_le_bytes}
use Rattle.ua_binary.specs.declared.fault.ValueFault.{ValueFault}
use Rattle.ua_binary.specs.declared.fault.ValueFault.TheVariants as values
use Rattle.ua_binary.specs.Reading.{◌>>=◌, number_at, bytes_at, byte_at, part_at, skipped}
use Rattle.ua_binary.specs.ReadingValues.{has, variant_at, data_value_at}
use Rattle.ua_values.specs.declared.value.Value.{Value}
use Rattle.ua_binary.proofs.Parts.{number_grammar, coded16}
use Rattle.dataset_meta.specs.declared.field.Field.{Field}
use Rattle.dataset_meta.specs.DataValues.{DataValue}
use Rattle.dataset_meta.specs.Metas.{MetaData}
use Rattle.dataset_meta.specs.Rows.{put_in}
use Rattle.frame_codec.specs.declared.fault.FrameFault.{FrameFault}
use Rattle.frame_codec.specs.declared.fault.FrameFault.TheVariants as faults
use Rattle.frame_codec.specs.declared.faulty.FieldFault.{FieldFault}
use Rattle.frame_codec.specs.declared.front.Front.{Front}
use Rattle.frame_codec.specs.Frames.{Whole, Change, Frame}
use Rattle.frame_codec.specs.Fronts.{encoding_in, kind_in, is_encoding, fault_in_flags1, fault_in_flags2, passing, flags1_at, flags2_at, times_past, parts_at, front_at}
use Rattle.frame_codec.specs.Contents.{in_frame, good, value_at, suits, kept, given, field_at, present, surplus_at, row_at, surpluses_at, is_newer, is_count, counted_at, whole_at, put_at, change_at, changes_at, patch_at, content_at}
use Rattle.frame_codec.specs.Reading.{frame_with, behind_front, message_at, are_zero, ended, frame_at}
use Rattle.frame_codec.specs.FieldFaults.{fault_at, naming, judged_at, value_past, values_past, surpluses_past, counted_past, whole_past, change_past, changes_past, patch_past, content_past, message_past, named, field_fault, IsOfValue, IsOfValueAlone}
use Rattle.frame_codec.specs.Wire.{WireFront, IsWireFront, wire_front_bytes, front_read, WireField, field_bytes, wire_values_bytes, wire_change_bytes, wire_changes_bytes, AreValues, AreChanges, value_read, row_read, put_read}
use Rattle.frame_codec.proofs.FrontLaws.{front_grammar}
use Rattle.frame_codec.proofs.ContentGrammar.{field_grammar, surplus_grammar, row_grammar}
use Rattle.frame_codec.proofs.PatchGrammar.{change_grammar}
use Rattle.frame_codec.proofs.Setting.{get_there, get_past, some_field}

-- what a value is refused for
abbrev OfValue : {A : Type 0} → Result A FrameFault → Type 0
OfValue (Ok x) = ⊤
OfValue (Err fault) = IsOfValue fault

of_then : {A B : Type 0} (r : Result A FrameFault) (next : A → Result B FrameFault) → OfValue r → ((x : A) → OfValue (next x)) → OfValue (r >>= next)
of_then (Ok x) next is more = more x
of_then (Err fault) next is more = is

of_own : {A : Type 0} (r : Result A ValueFault) → OfValue (in_frame r)
of_own (Ok x) = tt
of_own (Err values.Short) = tt
of_own (Err values.KindOut) = tt
of_own (Err values.BadUtf8) = tt
of_own (Err values.BadLength) = tt

of_value : (encoding : ℕ) (bytes : List ℕ) → OfValue (value_at encoding bytes)
of_value encoding bytes = by_encoding (encoding == 0)
  where
    by_encoding : (b : Bool) → OfValue (if b then (in_frame (variant_at bytes) >>= λ value. Ok (good value.0, value.1)) else in_frame (data_value_at bytes))
    by_encoding true = of_then (in_frame (variant_at bytes)) (λ value. Ok (good value.0, value.1)) (of_own (variant_at bytes)) (λ x. tt)
    by_encoding false = of_own (data_value_at bytes)

of_given : (quality : Bool) (field : Field) (value : Option Value) (status : ℕ) → OfValue (given quality field value status)
of_given quality field None status = tt
of_given quality field (Some value) status = by_suits (suits field value)
  where
    by_suits : (b : Bool) → OfValue (if b then Ok (kept quality value status) else Err faults.BadValue)
    by_suits true = tt
    by_suits false = tt

of_field : (quality : Bool) (encoding : ℕ) (field : Field) (bytes : List ℕ) → OfValue (field_at quality encoding field bytes)
unfolding field_at
of_field quality encoding field bytes =
    of_then (value_at encoding bytes) (λ x. given quality field x.0.value x.0.status >>= λ value. Ok (value, x.1)) (of_value encoding bytes)
    (λ x. of_then (given quality field x.0.value x.0.status) (λ value. Ok (value, x.1)) (of_given quality field x.0.value x.0.status) (λ value. tt))

of_present : (value : Option Value) → OfValue (present value)
of_present None = tt
of_present (Some value) = tt

of_surplus : (encoding : ℕ) (bytes : List ℕ) → OfValue (surplus_at encoding bytes)
unfolding surplus_at
of_surplus encoding bytes =
    of_then (value_at encoding bytes) (λ x. present x.0.value >>= λ done. Ok (done, x.1)) (of_value encoding bytes)
    (λ x. of_then (present x.0.value) (λ done. Ok (done, x.1)) (of_present x.0.value) (λ done. tt))

-- what a front is refused for
abbrev OfFront : {A : Type 0} → Result A FrameFault → Type 0
OfFront (Ok x) = ⊤
OfFront (Err fault) = ¬ IsOfValueAlone fault

front_then : {A B : Type 0} (r : Result A FrameFault) (next : A → Result B FrameFault) → OfFront r → ((x : A) → OfFront (next x)) → OfFront (r >>= next)
front_then (Ok x) next is more = more x
front_then (Err fault) next is more = is

front_byte : (bytes : List ℕ) → OfFront (byte_at faults.Short bytes)
front_byte [] = λ alone. alone
front_byte (byte ∷ rest) = tt

front_bytes : (n : ℕ) (bytes : List ℕ) → OfFront (bytes_at faults.Short n bytes)
front_bytes n bytes = by_room (nat_lt (length bytes) n)
  where
    by_room : (b : Bool) → (let read : Result (List ℕ × List ℕ) FrameFault = if b then Err faults.Short else Ok (take n bytes, drop n bytes) in OfFront read)
    by_room true = λ alone. alone
    by_room false = tt

front_part : {A : Type 0} (flag : Bool) (read : List ℕ → Result (A × List ℕ) FrameFault) (bytes : List ℕ) → OfFront (read bytes) → OfFront (part_at flag read bytes)
front_part true read bytes is = front_then (read bytes) (λ part. Ok (Some part.0, part.1)) is (λ x. tt)
front_part false read bytes is = tt

front_number16 : (flag : Bool) (bytes : List ℕ) → OfFront (part_at flag (number_at faults.Short w16) bytes)
front_number16 flag bytes = front_part flag (number_at faults.Short w16) bytes (front_then (bytes_at faults.Short (byte_len w16) bytes) (λ n. Ok (from_le_bytes w16 n.0, n.1)) (front_bytes (byte_len w16) bytes) (λ x. tt))

front_number32 : (flag : Bool) (bytes : List ℕ) → OfFront (part_at flag (number_at faults.Short w32) bytes)
front_number32 flag bytes = front_part flag (number_at faults.Short w32) bytes (front_then (bytes_at faults.Short (byte_len w32) bytes) (λ n. Ok (from_le_bytes w32 n.0, n.1)) (front_bytes (byte_len w32) bytes) (λ x. tt))

front_skipped : (flag : Bool) (n : ℕ) (bytes : List ℕ) → OfFront (skipped (part_at flag (bytes_at faults.Short n)) bytes)
front_skipped flag n bytes =
    front_then (part_at flag (bytes_at faults.Short n) bytes) (λ part. Ok (tt, part.1)) (front_part flag (bytes_at faults.Short n) bytes (front_bytes n bytes)) (λ x. tt)

front_flags1 : (fixed : Bool) (flags : ℕ) (x : ℕ × List ℕ) → OfFront (passing (fault_in_flags1 fixed flags) x)
front_flags1 fixed flags x = by_tests (not (has flags 0x01)) (is_encoding fixed (encoding_in flags))
  where
    by_tests : (b c : Bool) → OfFront (passing (if b then Some faults.NotValid else if c then None else Some faults.BadEncoding) x)
    by_tests true c = λ alone. alone
    by_tests false true = tt
    by_tests false false = λ alone. alone

front_flags2 : (encoding extended : ℕ) (x : ℕ × List ℕ) → OfFront (passing (fault_in_flags2 encoding extended) x)
front_flags2 encoding extended x = by_tests (encoding == 1 && kind_in extended == 1) (kind_in extended == 2) (nat_lt 3 (kind_in extended) || has extended 0xc0)
  where
    by_tests : (b c d : Bool) → OfFront (passing (if b then Some faults.BadEncoding else if c then Some faults.EventOut else if d then Some faults.ReservedBits else None) x)
    by_tests true c d = λ alone. alone
    by_tests false true d = λ alone. alone
    by_tests false false true = λ alone. alone
    by_tests false false false = tt

front_flags2_at : (flags : ℕ) (bytes : List ℕ) → OfFront (flags2_at flags bytes)
unfolding flags2_at
front_flags2_at flags bytes = by_flag (has flags 0x80)
  where
    by_flag : (b : Bool) → OfFront (if b then (byte_at faults.Short bytes >>= λ extended. passing (fault_in_flags2 (encoding_in flags) extended.0) extended) else Ok (0, bytes))
    by_flag true = front_then (byte_at faults.Short bytes) (λ extended. passing (fault_in_flags2 (encoding_in flags) extended.0) extended) (front_byte bytes) (λ x. front_flags2 (encoding_in flags) x.0 x)
    by_flag false = tt

front_times : (flags extended : ℕ) (bytes : List ℕ) → OfFront (times_past flags extended bytes)
unfolding times_past
front_times flags extended bytes =
    front_then (skipped (part_at (has extended 0x10) (bytes_at faults.Short 8)) bytes) _ (front_skipped (has extended 0x10) 8 bytes)
    (λ timestamp. front_then (skipped (part_at (has extended 0x20) (bytes_at faults.Short 2)) timestamp.1) _ (front_skipped (has extended 0x20) 2 timestamp.1)
    (λ picoseconds. front_skipped (has flags 0x10) 2 picoseconds.1))

front_parts : (flags extended : ℕ) (bytes : List ℕ) → OfFront (parts_at flags extended bytes)
unfolding parts_at
front_parts flags extended bytes =
    front_then (part_at (has flags 0x08) (number_at faults.Short w16) bytes) _ (front_number16 (has flags 0x08) bytes)
    (λ number. front_then (times_past flags extended number.1) _ (front_times flags extended number.1)
    (λ times. front_then (part_at (has flags 0x20) (number_at faults.Short w32) times.1) _ (front_number32 (has flags 0x20) times.1)
    (λ major. front_then (part_at (has flags 0x40) (number_at faults.Short w32) major.1) _ (front_number32 (has flags 0x40) major.1)
    (λ minor. tt))))

front_refused : (fixed : Bool) (bytes : List ℕ) → OfFront (front_at fixed bytes)
unfolding front_at flags1_at
front_refused fixed bytes =
    front_then (byte_at faults.Short bytes >>= λ flags. passing (fault_in_flags1 fixed flags.0) flags) (λ flags. flags2_at flags.0 flags.1 >>= λ extended. parts_at flags.0 extended.0 extended.1)
    (front_then (byte_at faults.Short bytes) (λ flags. passing (fault_in_flags1 fixed flags.0) flags) (front_byte bytes) (λ flags. front_flags1 fixed flags.0 flags))
    (λ flags. front_then (flags2_at flags.0 flags.1) (λ extended. parts_at flags.0 extended.0 extended.1) (front_flags2_at flags.0 flags.1) (λ extended. front_parts flags.0 extended.0 extended.1))

-- both read, up to the same byte, or both refuse: a named field is a value's fault, and no named one none of a value alone
abbrev Agree : {A B : Type 0} → Result (A × List ℕ) FrameFault → Result (B × List ℕ) (Option FieldFault) → Type 0
Agree (Ok x) (Ok y) = x.1 ≡ y.1
Agree (Ok x) (Err field) = ⊥
Agree (Err fault) (Ok y) = ⊥
Agree (Err fault) (Err (Some field)) = IsOfValue fault
Agree (Err fault) (Err None) = ¬ IsOfValueAlone fault

agree_then : {A B C D : Type 0} (r : Result (A × List ℕ) FrameFault) (s : Result (B × List ℕ) (Option FieldFault)) (f : A × List ℕ → Result (C × List ℕ) FrameFault) (g : B × List ℕ → Result (D × List ℕ) (Option FieldFault)) → Agree r s
    → ((x : A × List ℕ) (y : B × List ℕ) → x.1 ≡ y.1 → Agree (f x) (g y)) → Agree (r >>= f) (s >>= g)
agree_then (Ok x) (Ok y) f g is more = more x y is
agree_then (Ok x) (Err field) f g is more = absurd is
agree_then (Err fault) (Ok y) f g is more = absurd is
agree_then (Err fault) (Err (Some field)) f g is more = is
agree_then (Err fault) (Err None) f g is more = is

agree_kept : {A B C : Type 0} (r : Result (A × List ℕ) FrameFault) (s : Result (B × List ℕ) (Option FieldFault)) (h : A × List ℕ → C) → Agree r s → Agree (r >>= λ x. Ok (h x, x.1)) s
agree_kept (Ok x) (Ok y) h is = is
agree_kept (Ok x) (Err field) h is = absurd is
agree_kept (Err fault) (Ok y) h is = absurd is
agree_kept (Err fault) (Err (Some field)) h is = is
agree_kept (Err fault) (Err None) h is = is

agree_number : {C D : Type 0} (bytes : List ℕ) (f : ℕ × List ℕ → Result (C × List ℕ) FrameFault) (g : ℕ × List ℕ → Result (D × List ℕ) (Option FieldFault)) → ((x : ℕ × List ℕ) → Agree (f x) (g x))
    → Agree (number_at faults.Short w16 bytes >>= f) (number_at None w16 bytes >>= g)
agree_number bytes f g more = by_room (nat_lt (length bytes) (byte_len w16))
  where
    by_room : (b : Bool)
        → (let read : Result (List ℕ × List ℕ) FrameFault = if b then Err faults.Short else Ok (take (byte_len w16) bytes, drop (byte_len w16) bytes) in
        let past : Result (List ℕ × List ℕ) (Option FieldFault) = if b then Err None else Ok (take (byte_len w16) bytes, drop (byte_len w16) bytes) in
        Agree ((read >>= λ n. Ok (from_le_bytes w16 n.0, n.1)) >>= f) ((past >>= λ n. Ok (from_le_bytes w16 n.0, n.1)) >>= g))
    by_room true = λ alone. alone
    by_room false = more (from_le_bytes w16 (take (byte_len w16) bytes), drop (byte_len w16) bytes)

abbrev passed : {A : Type 0} → Result (A × List ℕ) FrameFault → Result (Unit {0} × List ℕ) FrameFault
passed read = read >>= λ part. Ok (tt, part.1)

agree_skipped : {A : Type 0} (field : FieldFault) (r : Result (A × List ℕ) FrameFault) → OfValue r → Agree r (naming (Some field) (passed r))
agree_skipped field (Ok x) is = refl
agree_skipped field (Err fault) is = is

agree_same : {A : Type 0} (field : FieldFault) (r : Result (A × List ℕ) FrameFault) → OfValue r → Agree r (naming (Some field) r)
agree_same field (Ok x) is = refl
agree_same field (Err fault) is = is

agree_field : (quality : Bool) (encoding index : ℕ) (field : Field) (bytes : List ℕ) → Agree (field_at quality encoding field bytes) (value_past quality encoding index (Some field) bytes)
agree_field quality encoding index field bytes = agree_skipped (fault_at encoding index bytes) (field_at quality encoding field bytes) (of_field quality encoding field bytes)

agree_surplus : (quality : Bool) (encoding index : ℕ) (bytes : List ℕ) → Agree (surplus_at encoding bytes) (value_past quality encoding index None bytes)
agree_surplus quality encoding index bytes = agree_same (fault_at encoding index bytes) (surplus_at encoding bytes) (of_surplus encoding bytes)

agree_row : (quality : Bool) (encoding index : ℕ) (fields : List Field) (bytes : List ℕ) → Agree (row_at quality encoding fields bytes) (values_past quality encoding index fields bytes)
agree_row quality encoding index [] bytes = refl
agree_row quality encoding index (field ∷ fields) bytes =
    agree_then (field_at quality encoding field bytes) (value_past quality encoding index (Some field) bytes) (λ value. row_at quality encoding fields value.1 >>= λ row. Ok (value.0 ∷ row.0, row.1)) (λ value. values_past quality encoding (index + 1) fields value.1)
    (agree_field quality encoding index field bytes)
    (λ x y same. agree_kept (row_at quality encoding fields x.1) (values_past quality encoding (index + 1) fields y.1) (λ row. x.0 ∷ row.0)
    (subst (λ (rest : List ℕ). Agree (row_at quality encoding fields x.1) (values_past quality encoding (index + 1) fields rest)) same (agree_row quality encoding (index + 1) fields x.1)))

agree_surpluses : (quality : Bool) (encoding index count : ℕ) (bytes : List ℕ) → Agree (surpluses_at encoding count bytes) (surpluses_past quality encoding index count bytes)
agree_surpluses quality encoding index zero bytes = refl
agree_surpluses quality encoding index (suc count) bytes =
    agree_then (surplus_at encoding bytes) (value_past quality encoding index None bytes) (λ value. surpluses_at encoding count value.1) (λ value. surpluses_past quality encoding (index + 1) count value.1)
    (agree_surplus quality encoding index bytes)
    (λ x y same. subst (λ (rest : List ℕ). Agree (surpluses_at encoding count x.1) (surpluses_past quality encoding (index + 1) count rest)) same (agree_surpluses quality encoding (index + 1) count x.1))

agree_counted : (meta : MetaData) (encoding count : ℕ) (bytes : List ℕ) → Agree (counted_at meta.quality encoding meta.fields count bytes) (counted_past meta encoding count bytes)
agree_counted meta encoding count bytes =
    let quality = meta.quality in
    let fields = length meta.fields in
    agree_then (row_at quality encoding meta.fields bytes) (values_past quality encoding 0 meta.fields bytes) (λ row. surpluses_at encoding (count - fields) row.1 >>= λ rest. Ok (row.0, rest.1)) (λ row. surpluses_past quality encoding fields (count - fields) row.1)
    (agree_row quality encoding 0 meta.fields bytes)
    (λ x y same. agree_kept (surpluses_at encoding (count - fields) x.1) (surpluses_past quality encoding fields (count - fields) y.1) (λ rest. x.0)
    (subst (λ (rest : List ℕ). Agree (surpluses_at encoding (count - fields) x.1) (surpluses_past quality encoding fields (count - fields) rest)) same (agree_surpluses quality encoding fields (count - fields) x.1)))

agree_whole : (meta : MetaData) (newer : Bool) (encoding : ℕ) (bytes : List ℕ) → Agree (whole_at meta newer encoding bytes) (whole_past meta newer encoding bytes)
unfolding whole_at whole_past
agree_whole meta newer encoding bytes = agree_number bytes _ _ (λ count. by_count count (is_count newer (length meta.fields) count.0))
  where
    by_count : (count : ℕ × List ℕ) (b : Bool)
        → Agree (if b then counted_at meta.quality encoding meta.fields count.0 count.1 else Err (faults.WrongCount count.0)) (if b then counted_past meta encoding count.0 count.1 else Err None)
    by_count count true = agree_counted meta encoding count.0 count.1
    by_count count false = λ alone. alone

agree_change : (meta : MetaData) (newer : Bool) (encoding : ℕ) (patch : List (ℕ × DataValue)) (bytes : List ℕ) → Agree (change_at meta newer encoding patch bytes) (change_past meta newer encoding bytes)
unfolding change_at change_past
agree_change meta newer encoding patch bytes = agree_number bytes _ _ (λ index. by_index index.0 index.1 (nat_lt index.0 (length meta.fields)) refl)
  where
    surplus : (index : ℕ) (rest : List ℕ) (b : Bool)
        → Agree (if b then (surplus_at encoding rest >>= λ value. Ok (patch, value.1)) else Err (faults.BadIndex index)) (if b || false then value_past meta.quality encoding index None rest else Err None)
    surplus index rest true = agree_kept (surplus_at encoding rest) (value_past meta.quality encoding index None rest) (λ value. patch) (agree_surplus meta.quality encoding index rest)
    surplus index rest false = λ alone. alone

    put : (index : ℕ) (field : Field) (rest : List ℕ) (b : Bool)
        → Agree (put_at meta.quality newer encoding patch index (Some field) rest) (if b || true then value_past meta.quality encoding index (Some field) rest else Err None)
    put index field rest true = agree_kept (field_at meta.quality encoding field rest) (value_past meta.quality encoding index (Some field) rest) (λ value. put_in patch index value.0) (agree_field meta.quality encoding index field rest)
    put index field rest false = agree_kept (field_at meta.quality encoding field rest) (value_past meta.quality encoding index (Some field) rest) (λ value. put_in patch index value.0) (agree_field meta.quality encoding index field rest)

    by_index : (index : ℕ) (rest : List ℕ) (b : Bool) → nat_lt index (length meta.fields) ≡ b
        → Agree (put_at meta.quality newer encoding patch index (slice_get meta.fields index) rest) (if newer || b then value_past meta.quality encoding index (slice_get meta.fields index) rest else Err None)
    by_index index rest true is =
        let within : index < length meta.fields = ltb-true index (length meta.fields) is in
        let at = get_there meta.fields index within (some_field meta.fields index within) in
        subst (λ (found : Option Field). Agree (put_at meta.quality newer encoding patch index found rest) (if newer || true then value_past meta.quality encoding index found rest else Err None)) (sym at) (put index _ rest newer)
    by_index index rest false is =
        let at = get_past meta.fields index (ltb-false index (length meta.fields) is) in
        subst (λ (found : Option Field). Agree (put_at meta.quality newer encoding patch index found rest) (if newer || false then value_past meta.quality encoding index found rest else Err None)) (sym at) (surplus index rest newer)

agree_changes : (meta : MetaData) (newer : Bool) (encoding count : ℕ) (patch : List (ℕ × DataValue)) (bytes : List ℕ) → Agree (changes_at meta newer encoding count patch bytes) (changes_past meta newer encoding count bytes)
agree_changes meta newer encoding zero patch bytes = refl
agree_changes meta newer encoding (suc count) patch bytes =
    agree_then (change_at meta newer encoding patch bytes) (change_past meta newer encoding bytes) (λ change. changes_at meta newer encoding count change.0 change.1) (λ change. changes_past meta newer encoding count change.1)
    (agree_change meta newer encoding patch bytes)
    (λ x y same. subst (λ (rest : List ℕ). Agree (changes_at meta newer encoding count x.0 x.1) (changes_past meta newer encoding count rest)) same (agree_changes meta newer encoding count x.0 x.1))

agree_patch : (meta : MetaData) (newer : Bool) (encoding : ℕ) (bytes : List ℕ) → Agree (patch_at meta newer encoding bytes) (patch_past meta newer encoding bytes)
unfolding patch_at patch_past
agree_patch meta newer encoding bytes = agree_number bytes (λ count. changes_at meta newer encoding count.0 [] count.1) (λ count. changes_past meta newer encoding count.0 count.1) (λ count. agree_changes meta newer encoding count.0 [] count.1)

agree_content : (meta : MetaData) (newer : Bool) (encoding kind : ℕ) (bytes : List ℕ) → Agree (content_at meta newer encoding kind bytes) (content_past meta newer encoding kind bytes)
unfolding content_at content_past
agree_content meta newer encoding zero bytes = agree_kept (whole_at meta newer encoding bytes) (whole_past meta newer encoding bytes) (λ row. Whole row.0) (agree_whole meta newer encoding bytes)
agree_content meta newer encoding (suc zero) bytes = agree_kept (patch_at meta newer encoding bytes) (patch_past meta newer encoding bytes) (λ patch. Change patch.0) (agree_patch meta newer encoding bytes)
agree_content meta newer encoding (suc (suc kind)) bytes = refl

agree_message : (meta : MetaData) (bytes : List ℕ) → Agree (message_at meta bytes) (message_past meta bytes)
unfolding message_at message_past behind_front
agree_message meta bytes = by_front (front_at false bytes) (front_refused false bytes)
  where
    by_front : (r : Result (Front × List ℕ) FrameFault) → OfFront r
        → Agree (r >>= λ front. content_at meta (is_newer meta front.0.minor) front.0.encoding front.0.kind front.1 >>= λ content. Ok (frame_with front.0 content.0, content.1))
        (naming None r >>= λ front. content_past meta (is_newer meta front.0.minor) front.0.encoding front.0.kind front.1)
    by_front (Ok front) is = agree_kept (content_at meta (is_newer meta front.0.minor) front.0.encoding front.0.kind front.1) (content_past meta (is_newer meta front.0.minor) front.0.encoding front.0.kind front.1) (λ content. frame_with front.0 content.0)
        (agree_content meta (is_newer meta front.0.minor) front.0.encoding front.0.kind front.1)
    by_front (Err fault) is = is

-- a named field is one whose value has a fault, and each fault of a value alone names one
pub named_refused : (meta : MetaData) (bytes : List ℕ) (field : FieldFault) → field_fault meta bytes ≡ Some field → (fault : FrameFault) × (frame_at meta bytes ≡ Err fault) × IsOfValue fault
unfolding field_fault frame_at
named_refused meta bytes field is = by_both (message_at meta bytes) (message_past meta bytes) (agree_message meta bytes) is
  where
    by_both : (r : Result (Frame × List ℕ) FrameFault) (s : Result (Unit {0} × List ℕ) (Option FieldFault)) → Agree r s → named s ≡ Some field → (fault : FrameFault) × ((r >>= ended) ≡ Err fault) × IsOfValue fault
    by_both r (Ok y) agree is = absurd (let no : Path (Option FieldFault) None (Some field) = is in cc)
    by_both r (Err None) agree is = absurd (let no : Path (Option FieldFault) None (Some field) = is in cc)
    by_both (Ok x) (Err (Some other)) agree is = absurd agree
    by_both (Err fault) (Err (Some other)) agree is = (fault, refl, agree)

pub refused_named : (meta : MetaData) (bytes : List ℕ) (fault : FrameFault) → frame_at meta bytes ≡ Err fault → IsOfValueAlone fault → (field : FieldFault) × (field_fault meta bytes ≡ Some field)
unfolding field_fault frame_at
refused_named meta bytes fault is alone = by_both (message_at meta bytes) (message_past meta bytes) (agree_message meta bytes) is
  where
    not_trailing : (b : Bool) (frame : Frame) → (if b then Ok frame else Err faults.Trailing) ≡ Err fault → ⊥
    not_trailing true frame is = let no : Path (Result Frame FrameFault) (Ok frame) (Err fault) = is in cc
    not_trailing false frame is = subst IsOfValueAlone (let same : Path (Result Frame FrameFault) (Err faults.Trailing) (Err fault) = is in let e : fault ≡ faults.Trailing = cc in e) alone

    by_both : (r : Result (Frame × List ℕ) FrameFault) (s : Result (Unit {0} × List ℕ) (Option FieldFault)) → Agree r s → (r >>= ended) ≡ Err fault → (field : FieldFault) × (named s ≡ Some field)
    by_both (Ok x) s agree is = absurd (not_trailing (are_zero x.1) x.0 is)
    by_both (Err other) (Ok y) agree is = absurd agree
    by_both (Err other) (Err (Some field)) agree is = (field, refl)
    by_both (Err other) (Err None) agree is = absurd (agree (subst IsOfValueAlone (let same : Path (Result Frame FrameFault) (Err other) (Err fault) = is in let e : fault ≡ other = cc in e) alone))

-- where the field stands
content_named : (meta : MetaData) (wire : WireFront) (rest : List ℕ) (field : Option FieldFault) → IsWireFront false wire → content_past meta (is_newer meta wire.minor) wire.encoding wire.kind rest ≡ Err field
    → field_fault meta (wire_front_bytes wire ++ rest) ≡ field
unfolding field_fault message_past
content_named meta wire rest field is refused =
    let front : front_at false (wire_front_bytes wire ++ rest) ≡ Ok (front_read wire, rest) = (front_grammar false).again (front_read wire) (wire_front_bytes wire) rest (record { wire = wire; is_wire = is; tells = refl; split = refl }) in
    rw (front, refused) refl

abbrev past_number : List ℕ → Result (ℕ × List ℕ) (Option FieldFault)
past_number bytes = number_at None w16 bytes

number_past : (number : ℕ) (rest : List ℕ) → number < 2 ^ 16 → past_number (to_le_bytes w16 number ++ rest) ≡ Ok (number, rest)
number_past number rest few = (number_grammar (Option FieldFault) None w16 16 coded16).again number (to_le_bytes w16 number) rest (few, refl)

key_past : (meta : MetaData) (newer : Bool) (encoding kind count : ℕ) (rest : List ℕ) (field : Option FieldFault) → kind ≡ 0 → count < 2 ^ 16 → is_count newer (length meta.fields) count ≡ true → counted_past meta encoding count rest ≡ Err field
    → content_past meta newer encoding kind (to_le_bytes w16 count ++ rest) ≡ Err field
unfolding content_past whole_past
key_past meta newer encoding zero count rest field is few right refused = rw (number_past count rest few, right) refused
key_past meta newer encoding (suc kind) count rest field is few right refused = absurd (omega (arith, is))

delta_past : (meta : MetaData) (newer : Bool) (encoding kind count : ℕ) (rest : List ℕ) (field : Option FieldFault) → kind ≡ 1 → count < 2 ^ 16 → changes_past meta newer encoding count rest ≡ Err field
    → content_past meta newer encoding kind (to_le_bytes w16 count ++ rest) ≡ Err field
unfolding content_past patch_past
delta_past meta newer encoding zero count rest field is few refused = absurd (omega (arith, is))
delta_past meta newer encoding (suc zero) count rest field is few refused = rw (number_past count rest few) refused
delta_past meta newer encoding (suc (suc kind)) count rest field is few refused = absurd (omega (arith, is))

-- what agrees with a reading that is read is read
agree_ok : {A : Type 0} (r : Result (A × List ℕ) FrameFault) (s : Result (Unit {0} × List ℕ) (Option FieldFault)) (x : A × List ℕ) → Agree r s → r ≡ Ok x → s ≡ Ok (tt, x.1)
agree_ok {A = A} r s x agree is = by_read s (subst (λ (read : Result (A × List ℕ) FrameFault). Agree read s) is agree)
  where
    by_read : (s : Result (Unit {0} × List ℕ) (Option FieldFault)) → Agree (Ok x) s → s ≡ Ok (tt, x.1)
    by_read (Ok y) same = ap (λ (rest : List ℕ). Ok (y.0, rest)) (sym same)
    by_read (Err field) never = absurd never

value_named : (quality : Bool) (encoding index : ℕ) (field : Option Field) (bytes : List ℕ) (fault : FrameFault) → judged_at quality encoding field bytes ≡ Err fault → value_past quality encoding index field bytes ≡ Err (Some (fault_at encoding index bytes))
value_named quality encoding index field bytes fault is = ap (naming (Some (fault_at encoding index bytes))) is

values_named : (quality : Bool) (encoding index : ℕ) (before after : List Field) (field : Field) (values : List WireField) (rest : List ℕ) (fault : FrameFault) → AreValues false encoding before values → field_at quality encoding field rest ≡ Err fault
    → values_past quality encoding index (before ++ field ∷ after) (wire_values_bytes values ++ rest) ≡ Err (Some (fault_at encoding (index + length before) rest))
values_named quality encoding index [] after field [] rest fault are refused =
    let at : index + 0 ≡ index = omega arith in
    ap (λ (r : Result (Unit {0} × List ℕ) (Option FieldFault)). r >>= λ value. values_past quality encoding (index + 1) after value.1)
    (value_named quality encoding index (Some field) rest fault (ap (λ (r : Result (DataValue × List ℕ) FrameFault). passed r) refused))
    ∙ ap (λ (n : ℕ). Err (Some (fault_at encoding n rest))) (sym at)
values_named quality encoding index [] after field (wire ∷ values) rest fault are refused = absurd (let e : Path Bool false true = are.0.grown in cc)
values_named quality encoding index (first ∷ before) after field [] rest fault are refused = absurd are
values_named quality encoding index (first ∷ before) after field (wire ∷ values) rest fault are refused =
    let at : index + 1 + length before ≡ index + suc (length before) = omega arith in
    ap (values_past quality encoding index (first ∷ (before ++ field ∷ after))) (append_assoc (field_bytes wire) (wire_values_bytes values) rest)
    ∙ ap (λ (r : Result (Unit {0} × List ℕ) (Option FieldFault)). r >>= λ value. values_past quality encoding (index + 1) (before ++ field ∷ after) value.1)
    (agree_ok (field_at quality encoding first (field_bytes wire ++ (wire_values_bytes values ++ rest))) (value_past quality encoding index (Some first) (field_bytes wire ++ (wire_values_bytes values ++ rest))) (value_read quality first wire, wire_values_bytes values ++ rest)
    (agree_field quality encoding index first (field_bytes wire ++ (wire_values_bytes values ++ rest)))
    ((field_grammar quality encoding first).again (value_read quality first wire) (field_bytes wire) (wire_values_bytes values ++ rest) (record { wire = wire; is_for = are.0; meaning = refl; spelled = refl })))
    ∙ values_named quality encoding (index + 1) before after field values rest fault are.1 refused
    ∙ ap (λ (n : ℕ). Err (Some (fault_at encoding n rest))) at

surpluses_named : (quality : Bool) (encoding index count : ℕ) (values : List WireField) (rest : List ℕ) (fault : FrameFault) → AreValues true encoding [] values → length values < count → surplus_at encoding rest ≡ Err fault
    → surpluses_past quality encoding index count (wire_values_bytes values ++ rest) ≡ Err (Some (fault_at encoding (index + length values) rest))
surpluses_named quality encoding index zero values rest fault are few refused = absurd (omega (arith, few))
surpluses_named quality encoding index (suc count) [] rest fault are few refused =
    let at : index + 0 ≡ index = omega arith in
    ap (λ (r : Result (Unit {0} × List ℕ) (Option FieldFault)). r >>= λ value. surpluses_past quality encoding (index + 1) count value.1) (value_named quality encoding index None rest fault refused)
    ∙ ap (λ (n : ℕ). Err (Some (fault_at encoding n rest))) (sym at)
surpluses_named quality encoding index (suc count) (wire ∷ values) rest fault are few refused =
    let at : index + 1 + length values ≡ index + suc (length values) = omega arith in
    ap (surpluses_past quality encoding index (suc count)) (append_assoc (field_bytes wire) (wire_values_bytes values) rest)
    ∙ ap (λ (r : Result (Unit {0} × List ℕ) (Option FieldFault)). r >>= λ value. surpluses_past quality encoding (index + 1) count value.1)
    (agree_ok (surplus_at encoding (field_bytes wire ++ (wire_values_bytes values ++ rest))) (value_past quality encoding index None (field_bytes wire ++ (wire_values_bytes values ++ rest))) (tt, wire_values_bytes values ++ rest)
    (agree_surplus quality encoding index (field_bytes wire ++ (wire_values_bytes values ++ rest)))
    ((surplus_grammar encoding).again tt (field_bytes wire) (wire_values_bytes values ++ rest) (record { wire = wire; is_wire = are.0.is_wire; present = are.0.present; spelled = refl })))
    ∙ surpluses_named quality encoding (index + 1) count values rest fault are.1 (omega (arith, few)) refused
    ∙ ap (λ (n : ℕ). Err (Some (fault_at encoding n rest))) at

changes_named : (meta : MetaData) (newer : Bool) (encoding count : ℕ) (changes : List (ℕ × WireField)) (rest : List ℕ) (field : Option FieldFault) → AreChanges newer encoding meta.fields changes → length changes < count → change_past meta newer encoding rest ≡ Err field
    → changes_past meta newer encoding count (wire_changes_bytes changes ++ rest) ≡ Err field
changes_named meta newer encoding zero changes rest field are few refused = absurd (omega (arith, few))
changes_named meta newer encoding (suc count) [] rest field are few refused = ap (λ (r : Result (Unit {0} × List ℕ) (Option FieldFault)). r >>= λ change. changes_past meta newer encoding count change.1) refused
changes_named meta newer encoding (suc count) (change ∷ changes) rest field are few refused =
    let text = wire_change_bytes change ++ (wire_changes_bytes changes ++ rest) in
    let found = put_read meta.quality [] change.0 (slice_get meta.fields change.0) change.1 in
    ap (changes_past meta newer encoding (suc count)) (append_assoc (wire_change_bytes change) (wire_changes_bytes changes) rest)
    ∙ ap (λ (r : Result (Unit {0} × List ℕ) (Option FieldFault)). r >>= λ read. changes_past meta newer encoding count read.1)
    (agree_ok (change_at meta newer encoding [] text) (change_past meta newer encoding text) (found, wire_changes_bytes changes ++ rest) (agree_change meta newer encoding [] text)
    ((change_grammar meta newer encoding []).again found (wire_change_bytes change) (wire_changes_bytes changes ++ rest) (record { index = change.0; wire = change.1; small = are.0; is_for = are.1; meaning = refl; spelled = refl })))
    ∙ changes_named meta newer encoding count changes rest field are.2 (omega (arith, few)) refused

change_named : (meta : MetaData) (newer : Bool) (encoding index : ℕ) (rest : List ℕ) (fault : FrameFault) → index < 2 ^ 16 → (newer || nat_lt index (length meta.fields)) ≡ true → judged_at meta.quality encoding (slice_get meta.fields index) rest ≡ Err fault
    → change_past meta newer encoding (to_le_bytes w16 index ++ rest) ≡ Err (Some (fault_at encoding index rest))
unfolding change_past
change_named meta newer encoding index rest fault few there refused =
    let value : value_past meta.quality encoding index (slice_get meta.fields index) rest ≡ Err (Some (fault_at encoding index rest)) = value_named meta.quality encoding index (slice_get meta.fields index) rest fault refused in
    ap (λ (r : Result (ℕ × List ℕ) (Option FieldFault)). r >>= λ at. if newer || nat_lt at.0 (length meta.fields) then value_past meta.quality encoding at.0 (slice_get meta.fields at.0) at.1 else Err None) (number_past index rest few)
    ∙ ap (λ (b : Bool). if b then value_past meta.quality encoding index (slice_get meta.fields index) rest else Err None) there
    ∙ value

-- the laws, of whole messages
pub value-named : (meta : MetaData) (wire : WireFront) (count : ℕ) (before after : List Field) (field : Field) (values : List WireField) (rest : List ℕ) (fault : FrameFault) → IsWireFront false wire → wire.kind ≡ 0 → count < 2 ^ 16
    → is_count (is_newer meta wire.minor) (length meta.fields) count ≡ true → meta.fields ≡ before ++ field ∷ after → AreValues false wire.encoding before values → field_at meta.quality wire.encoding field rest ≡ Err fault
    → field_fault meta (wire_front_bytes wire ++ (to_le_bytes w16 count ++ (wire_values_bytes values ++ rest))) ≡ Some (fault_at wire.encoding (length before) rest)
value-named meta wire count before after field values rest fault is key few right whole are refused =
    content_named meta wire _ (Some (fault_at wire.encoding (length before) rest)) is (key_past meta (is_newer meta wire.minor) wire.encoding wire.kind count _ (Some (fault_at wire.encoding (length before) rest)) key few right
    (ap (λ (r : Result (Unit {0} × List ℕ) (Option FieldFault)). r >>= λ row. surpluses_past meta.quality wire.encoding (length meta.fields) (count - length meta.fields) row.1)
    (ap (λ (fields : List Field). values_past meta.quality wire.encoding 0 fields (wire_values_bytes values ++ rest)) whole ∙ values_named meta.quality wire.encoding 0 before after field values rest fault are refused ∙ ap (λ (n : ℕ). Err (Some (fault_at wire.encoding n rest))) (first (length before)))))
  where
    first : (n : ℕ) → 0 + n ≡ n
    first n = omega arith

pub surplus-named : (meta : MetaData) (wire : WireFront) (count : ℕ) (values more : List WireField) (rest : List ℕ) (fault : FrameFault) → IsWireFront false wire → wire.kind ≡ 0 → count < 2 ^ 16
    → is_count (is_newer meta wire.minor) (length meta.fields) count ≡ true → AreValues false wire.encoding meta.fields values → AreValues true wire.encoding [] more → length more < count - length meta.fields → surplus_at wire.encoding rest ≡ Err fault
    → field_fault meta (wire_front_bytes wire ++ (to_le_bytes w16 count ++ (wire_values_bytes values ++ (wire_values_bytes more ++ rest)))) ≡ Some (fault_at wire.encoding (length meta.fields + length more) rest)
surplus-named meta wire count values more rest fault is key few right are more_are within refused =
    let text = wire_values_bytes values ++ (wire_values_bytes more ++ rest) in
    let field = Some (fault_at wire.encoding (length meta.fields + length more) rest) in
    content_named meta wire _ field is (key_past meta (is_newer meta wire.minor) wire.encoding wire.kind count _ field key few right
    (ap (λ (r : Result (Unit {0} × List ℕ) (Option FieldFault)). r >>= λ row. surpluses_past meta.quality wire.encoding (length meta.fields) (count - length meta.fields) row.1)
    (agree_ok (row_at meta.quality wire.encoding meta.fields text) (values_past meta.quality wire.encoding 0 meta.fields text) (row_read meta.quality meta.fields values, wire_values_bytes more ++ rest) (agree_row meta.quality wire.encoding 0 meta.fields text)
    ((row_grammar meta.quality wire.encoding meta.fields).again (row_read meta.quality meta.fields values) (wire_values_bytes values) (wire_values_bytes more ++ rest) (record { values = values; are = are; meaning = refl; spelled = refl })))
    ∙ surpluses_named meta.quality wire.encoding (length meta.fields) (count - length meta.fields) more rest fault more_are within refused))

pub change-named : (meta : MetaData) (wire : WireFront) (count index : ℕ) (changes : List (ℕ × WireField)) (rest : List ℕ) (fault : FrameFault) → IsWireFront false wire → wire.kind ≡ 1 → count < 2 ^ 16
    → AreChanges (is_newer meta wire.minor) wire.encoding meta.fields changes → length changes < count → index < 2 ^ 16 → (is_newer meta wire.minor || nat_lt index (length meta.fields)) ≡ true
    → judged_at meta.quality wire.encoding (slice_get meta.fields index) rest ≡ Err fault
    → field_fault meta (wire_front_bytes wire ++ (to_le_bytes w16 count ++ (wire_changes_bytes changes ++ (to_le_bytes w16 index ++ rest)))) ≡ Some (fault_at wire.encoding index rest)
change-named meta wire count index changes rest fault is delta few are within small there refused =
    let field = Some (fault_at wire.encoding index rest) in
    content_named meta wire _ field is (delta_past meta (is_newer meta wire.minor) wire.encoding wire.kind count _ field delta few
    (changes_named meta (is_newer meta wire.minor) wire.encoding count changes (to_le_bytes w16 index ++ rest) field are within
    (change_named meta (is_newer meta wire.minor) wire.encoding index rest fault small there refused)))
