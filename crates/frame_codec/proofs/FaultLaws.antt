-- Each fault is named at the first part that has it.
use Rattle.std.proofs.Common.{◌≡◌, ℕ, zero, suc, ◌-◌, ◌<◌, ◌^◌, Bool, true, false, List, [], ◌∷◌, ◌++◌, length, replicate, Some, None, Result, Ok, Err, refl, ap, ◌∙◌, append_assoc, arith}
use Rattle.std.specs.Prelude.{slice_get, if◌then◌else◌}
use Rattle.std.specs.Int.{w16, to_le_bytes}
use Rattle.ua_binary.specs.Reading.{◌>>=◌, number_at}
use Rattle.ua_binary.specs.ReadingValues.{has}
use Rattle.ua_binary.proofs.Parts.{number_grammar, coded16}
use Rattle.dataset_meta.specs.declared.field.Field.{Field}
use Rattle.dataset_meta.specs.DataValues.{DataValue}
use Rattle.dataset_meta.specs.Metas.{MetaData}
use Rattle.frame_codec.specs.declared.fault.FrameFault.{FrameFault}
use Rattle.frame_codec.specs.declared.fault.FrameFault.TheVariants.{Short, WrongCount, Trailing, NotValid}
use Rattle.frame_codec.specs.declared.front.Front.{Front}
use Rattle.frame_codec.specs.Frames.{Content, Whole, Change, Frame}
use Rattle.frame_codec.specs.Fronts.{encoding_in, fault_in_flags1, fault_in_flags2, flags1_at, flags2_at, front_at}
use Rattle.frame_codec.specs.Contents.{field_at, surplus_at, row_at, surpluses_at, is_newer, is_count, counted_at, whole_at, change_at, changes_at, patch_at, content_at}
use Rattle.frame_codec.specs.Reading.{frame_with, behind_front, message_at, are_zero, ended, frame_at}
use Rattle.frame_codec.specs.Wire.{WireFront, IsWireFront, wire_front_bytes, front_read, WireField, field_bytes, wire_values_bytes, wire_change_bytes, wire_changes_bytes, AreValues, AreChanges, value_read, row_read, put_read, patch_read, WireFrame, IsWireFrame, wire_bytes, frame_read}
use Rattle.frame_codec.proofs.FrontLaws.{front_grammar}
use Rattle.frame_codec.proofs.ContentGrammar.{field_grammar, surplus_grammar, row_grammar}
use Rattle.frame_codec.proofs.PatchGrammar.{change_grammar}
use Rattle.frame_codec.proofs.FrameGrammar.{message_grammar}

-- flags
pub flags1-refused : (fixed : Bool) (flags : ℕ) (rest : List ℕ) (fault : FrameFault) → fault_in_flags1 fixed flags ≡ Some fault → front_at fixed (flags ∷ rest) ≡ Err fault
unfolding front_at flags1_at
flags1-refused fixed flags rest fault is = rw is refl

pub flags2-refused : (fixed : Bool) (flags extended : ℕ) (rest : List ℕ) (fault : FrameFault) → fault_in_flags1 fixed flags ≡ None → has flags 0x80 ≡ true → fault_in_flags2 (encoding_in flags) extended ≡ Some fault
    → front_at fixed (flags ∷ extended ∷ rest) ≡ Err fault
unfolding front_at flags1_at flags2_at
flags2-refused fixed flags extended rest fault passes there is = rw (passes, there, is) refl

-- a front's fault is the frame's
pub front-refused : (meta : MetaData) (bytes : List ℕ) (fault : FrameFault) → front_at false bytes ≡ Err fault → frame_at meta bytes ≡ Err fault
unfolding frame_at message_at
front-refused meta bytes fault is = rw is refl

-- what stands behind a front
content_in_frame : MetaData → Front → Result (Content × List ℕ) FrameFault → Result Frame FrameFault
content_in_frame meta front read =
    let message : Result (Frame × List ℕ) FrameFault = read >>= λ content. Ok (frame_with front content.0, content.1) in
    message >>= ended

behind : (meta : MetaData) (wire : WireFront) (rest : List ℕ) → IsWireFront false wire
    → frame_at meta (wire_front_bytes wire ++ rest) ≡ content_in_frame meta (front_read wire) (content_at meta (is_newer meta wire.minor) wire.encoding wire.kind rest)
unfolding frame_at message_at behind_front content_in_frame
behind meta wire rest is =
    let front : front_at false (wire_front_bytes wire ++ rest) ≡ Ok (front_read wire, rest) = (front_grammar false).again (front_read wire) (wire_front_bytes wire) rest (record { wire = wire; is_wire = is; tells = refl; split = refl }) in
    rw front refl

pub content-refused : (meta : MetaData) (wire : WireFront) (rest : List ℕ) (fault : FrameFault) → IsWireFront false wire → content_at meta (is_newer meta wire.minor) wire.encoding wire.kind rest ≡ Err fault
    → frame_at meta (wire_front_bytes wire ++ rest) ≡ Err fault
unfolding content_in_frame
content-refused meta wire rest fault is refused = behind meta wire rest is ∙ ap (content_in_frame meta (front_read wire)) refused

pub count_read : (count : ℕ) (rest : List ℕ) → count < 2 ^ 16 → number_at Short w16 (to_le_bytes w16 count ++ rest) ≡ Ok (count, rest)
count_read count rest few = (number_grammar FrameFault Short w16 16 coded16).again count (to_le_bytes w16 count) rest (few, refl)

key_content : (meta : MetaData) (newer : Bool) (encoding kind : ℕ) (rest : List ℕ) (fault : FrameFault) → kind ≡ 0 → whole_at meta newer encoding rest ≡ Err fault → content_at meta newer encoding kind rest ≡ Err fault
unfolding content_at
key_content meta newer encoding zero rest fault is refused = ap (λ (r : Result (List DataValue × List ℕ) FrameFault). r >>= λ row. Ok (Whole row.0, row.1)) refused
key_content meta newer encoding (suc kind) rest fault is refused = absurd (omega (arith, is))

delta_content : (meta : MetaData) (newer : Bool) (encoding kind : ℕ) (rest : List ℕ) (fault : FrameFault) → kind ≡ 1 → patch_at meta newer encoding rest ≡ Err fault → content_at meta newer encoding kind rest ≡ Err fault
unfolding content_at
delta_content meta newer encoding zero rest fault is refused = absurd (omega (arith, is))
delta_content meta newer encoding (suc zero) rest fault is refused = ap (λ (r : Result (List (ℕ × DataValue) × List ℕ) FrameFault). r >>= λ patch. Ok (Change patch.0, patch.1)) refused
delta_content meta newer encoding (suc (suc kind)) rest fault is refused = absurd (omega (arith, is))

wrong_count : (meta : MetaData) (newer : Bool) (encoding count : ℕ) (rest : List ℕ) → count < 2 ^ 16 → is_count newer (length meta.fields) count ≡ false → whole_at meta newer encoding (to_le_bytes w16 count ++ rest) ≡ Err (WrongCount count)
unfolding whole_at
wrong_count meta newer encoding count rest few wrong = rw (count_read count rest few, wrong) refl

whole_refused : (meta : MetaData) (newer : Bool) (encoding count : ℕ) (rest : List ℕ) (fault : FrameFault) → count < 2 ^ 16 → is_count newer (length meta.fields) count ≡ true
    → counted_at meta.quality encoding meta.fields count rest ≡ Err fault → whole_at meta newer encoding (to_le_bytes w16 count ++ rest) ≡ Err fault
unfolding whole_at
whole_refused meta newer encoding count rest fault few right refused = rw (count_read count rest few, right) refused

-- a value behind those of the fields before its own
row_refused : (quality : Bool) (encoding : ℕ) (before after : List Field) (field : Field) (values : List WireField) (rest : List ℕ) (fault : FrameFault) → AreValues false encoding before values
    → field_at quality encoding field rest ≡ Err fault → row_at quality encoding (before ++ field ∷ after) (wire_values_bytes values ++ rest) ≡ Err fault
row_refused quality encoding [] after field [] rest fault are refused =
    ap (λ (r : Result (DataValue × List ℕ) FrameFault). r >>= λ value. row_at quality encoding after value.1 >>= λ row. Ok (value.0 ∷ row.0, row.1)) refused
row_refused quality encoding [] after field (wire ∷ values) rest fault are refused = absurd (let e : Path Bool false true = are.0.grown in cc)
row_refused quality encoding (first ∷ before) after field [] rest fault are refused = absurd are
row_refused quality encoding (first ∷ before) after field (wire ∷ values) rest fault are refused =
    ap (row_at quality encoding (first ∷ (before ++ field ∷ after))) (append_assoc (field_bytes wire) (wire_values_bytes values) rest)
    ∙ ap (λ (r : Result (DataValue × List ℕ) FrameFault). r >>= λ value. row_at quality encoding (before ++ field ∷ after) value.1 >>= λ row. Ok (value.0 ∷ row.0, row.1))
    ((field_grammar quality encoding first).again (value_read quality first wire) (field_bytes wire) (wire_values_bytes values ++ rest) (record { wire = wire; is_for = are.0; meaning = refl; spelled = refl }))
    ∙ ap (λ (r : Result (List DataValue × List ℕ) FrameFault). r >>= λ row. Ok (value_read quality first wire ∷ row.0, row.1)) (row_refused quality encoding before after field values rest fault are.1 refused)

counted_refused : (quality : Bool) (encoding : ℕ) (fields : List Field) (count : ℕ) (bytes : List ℕ) (fault : FrameFault) → row_at quality encoding fields bytes ≡ Err fault → counted_at quality encoding fields count bytes ≡ Err fault
counted_refused quality encoding fields count bytes fault refused =
    ap (λ (r : Result (List DataValue × List ℕ) FrameFault). r >>= λ row. surpluses_at encoding (count - length fields) row.1 >>= λ rest. Ok (row.0, rest.1)) refused

-- a surplus value behind others
surpluses_refused : (encoding count : ℕ) (values : List WireField) (rest : List ℕ) (fault : FrameFault) → AreValues true encoding [] values → length values < count → surplus_at encoding rest ≡ Err fault
    → surpluses_at encoding count (wire_values_bytes values ++ rest) ≡ Err fault
surpluses_refused encoding zero values rest fault are few refused = absurd (omega (arith, few))
surpluses_refused encoding (suc count) [] rest fault are few refused = ap (λ (r : Result (Unit {0} × List ℕ) FrameFault). r >>= λ value. surpluses_at encoding count value.1) refused
surpluses_refused encoding (suc count) (wire ∷ values) rest fault are few refused =
    ap (surpluses_at encoding (suc count)) (append_assoc (field_bytes wire) (wire_values_bytes values) rest)
    ∙ ap (λ (r : Result (Unit {0} × List ℕ) FrameFault). r >>= λ value. surpluses_at encoding count value.1)
    ((surplus_grammar encoding).again tt (field_bytes wire) (wire_values_bytes values ++ rest) (record { wire = wire; is_wire = are.0.is_wire; present = are.0.present; spelled = refl }))
    ∙ surpluses_refused encoding count values rest fault are.1 (omega (arith, few)) refused

counted_surplus : (quality : Bool) (encoding : ℕ) (fields : List Field) (count : ℕ) (values more : List WireField) (rest : List ℕ) (fault : FrameFault) → AreValues false encoding fields values → AreValues true encoding [] more
    → length more < count - length fields → surplus_at encoding rest ≡ Err fault → counted_at quality encoding fields count (wire_values_bytes values ++ (wire_values_bytes more ++ rest)) ≡ Err fault
counted_surplus quality encoding fields count values more rest fault are more_are few refused =
    ap (λ (r : Result (List DataValue × List ℕ) FrameFault). r >>= λ row. surpluses_at encoding (count - length fields) row.1 >>= λ rest. Ok (row.0, rest.1))
    ((row_grammar quality encoding fields).again (row_read quality fields values) (wire_values_bytes values) (wire_values_bytes more ++ rest) (record { values = values; are = are; meaning = refl; spelled = refl }))
    ∙ ap (λ (r : Result (Unit {0} × List ℕ) FrameFault). r >>= λ left. Ok (row_read quality fields values, left.1)) (surpluses_refused encoding (count - length fields) more rest fault more_are few refused)

-- a change behind others
changes_refused : (meta : MetaData) (newer : Bool) (encoding count : ℕ) (patch : List (ℕ × DataValue)) (changes : List (ℕ × WireField)) (rest : List ℕ) (fault : FrameFault) → AreChanges newer encoding meta.fields changes → length changes < count
    → change_at meta newer encoding (patch_read meta.quality meta.fields patch changes) rest ≡ Err fault → changes_at meta newer encoding count patch (wire_changes_bytes changes ++ rest) ≡ Err fault
changes_refused meta newer encoding zero patch changes rest fault are few refused = absurd (omega (arith, few))
changes_refused meta newer encoding (suc count) patch [] rest fault are few refused =
    ap (λ (r : Result (List (ℕ × DataValue) × List ℕ) FrameFault). r >>= λ change. changes_at meta newer encoding count change.0 change.1) refused
changes_refused meta newer encoding (suc count) patch (change ∷ changes) rest fault are few refused =
    ap (changes_at meta newer encoding (suc count) patch) (append_assoc (wire_change_bytes change) (wire_changes_bytes changes) rest)
    ∙ ap (λ (r : Result (List (ℕ × DataValue) × List ℕ) FrameFault). r >>= λ read. changes_at meta newer encoding count read.0 read.1)
    ((change_grammar meta newer encoding patch).again (put_read meta.quality patch change.0 (slice_get meta.fields change.0) change.1) (wire_change_bytes change) (wire_changes_bytes changes ++ rest)
    (record { index = change.0; wire = change.1; small = are.0; is_for = are.1; meaning = refl; spelled = refl }))
    ∙ changes_refused meta newer encoding count _ changes rest fault are.2 (omega (arith, few)) refused

patch_refused : (meta : MetaData) (newer : Bool) (encoding count : ℕ) (rest : List ℕ) (fault : FrameFault) → count < 2 ^ 16 → changes_at meta newer encoding count [] rest ≡ Err fault → patch_at meta newer encoding (to_le_bytes w16 count ++ rest) ≡ Err fault
unfolding patch_at
patch_refused meta newer encoding count rest fault few refused = rw (count_read count rest few) refused

-- the laws, of whole messages
pub count-refused : (meta : MetaData) (wire : WireFront) (count : ℕ) (rest : List ℕ) → IsWireFront false wire → wire.kind ≡ 0 → count < 2 ^ 16 → is_count (is_newer meta wire.minor) (length meta.fields) count ≡ false
    → frame_at meta (wire_front_bytes wire ++ (to_le_bytes w16 count ++ rest)) ≡ Err (WrongCount count)
count-refused meta wire count rest is key few wrong =
    content-refused meta wire _ (WrongCount count) is (key_content meta (is_newer meta wire.minor) wire.encoding wire.kind _ (WrongCount count) key (wrong_count meta (is_newer meta wire.minor) wire.encoding count rest few wrong))

pub value-refused : (meta : MetaData) (wire : WireFront) (count : ℕ) (before after : List Field) (field : Field) (values : List WireField) (rest : List ℕ) (fault : FrameFault) → IsWireFront false wire → wire.kind ≡ 0 → count < 2 ^ 16
    → is_count (is_newer meta wire.minor) (length meta.fields) count ≡ true → meta.fields ≡ before ++ field ∷ after → AreValues false wire.encoding before values → field_at meta.quality wire.encoding field rest ≡ Err fault
    → frame_at meta (wire_front_bytes wire ++ (to_le_bytes w16 count ++ (wire_values_bytes values ++ rest))) ≡ Err fault
value-refused meta wire count before after field values rest fault is key few right whole are refused =
    content-refused meta wire _ fault is (key_content meta (is_newer meta wire.minor) wire.encoding wire.kind _ fault key (whole_refused meta (is_newer meta wire.minor) wire.encoding count _ fault few right
    (counted_refused meta.quality wire.encoding meta.fields count _ fault (ap (λ (fields : List Field). row_at meta.quality wire.encoding fields (wire_values_bytes values ++ rest)) whole ∙ row_refused meta.quality wire.encoding before after field values rest fault are refused))))

pub surplus-refused : (meta : MetaData) (wire : WireFront) (count : ℕ) (values more : List WireField) (rest : List ℕ) (fault : FrameFault) → IsWireFront false wire → wire.kind ≡ 0 → count < 2 ^ 16
    → is_count (is_newer meta wire.minor) (length meta.fields) count ≡ true → AreValues false wire.encoding meta.fields values → AreValues true wire.encoding [] more → length more < count - length meta.fields → surplus_at wire.encoding rest ≡ Err fault
    → frame_at meta (wire_front_bytes wire ++ (to_le_bytes w16 count ++ (wire_values_bytes values ++ (wire_values_bytes more ++ rest)))) ≡ Err fault
surplus-refused meta wire count values more rest fault is key few right are more_are left refused =
    content-refused meta wire _ fault is (key_content meta (is_newer meta wire.minor) wire.encoding wire.kind _ fault key (whole_refused meta (is_newer meta wire.minor) wire.encoding count _ fault few right
    (counted_surplus meta.quality wire.encoding meta.fields count values more rest fault are more_are left refused)))

pub change-refused : (meta : MetaData) (wire : WireFront) (count : ℕ) (changes : List (ℕ × WireField)) (rest : List ℕ) (fault : FrameFault) → IsWireFront false wire → wire.kind ≡ 1 → count < 2 ^ 16
    → AreChanges (is_newer meta wire.minor) wire.encoding meta.fields changes → length changes < count
    → change_at meta (is_newer meta wire.minor) wire.encoding (patch_read meta.quality meta.fields [] changes) rest ≡ Err fault
    → frame_at meta (wire_front_bytes wire ++ (to_le_bytes w16 count ++ (wire_changes_bytes changes ++ rest))) ≡ Err fault
change-refused meta wire count changes rest fault is delta few are left refused =
    content-refused meta wire _ fault is (delta_content meta (is_newer meta wire.minor) wire.encoding wire.kind _ fault delta (patch_refused meta (is_newer meta wire.minor) wire.encoding count _ fault few
    (changes_refused meta (is_newer meta wire.minor) wire.encoding count [] changes rest fault are left refused)))

pub trailing-refused : (meta : MetaData) (wire : WireFrame) (rest : List ℕ) → IsWireFrame meta wire → are_zero rest ≡ false → frame_at meta (wire_bytes wire ++ rest) ≡ Err Trailing
unfolding frame_at
trailing-refused meta wire rest is left =
    ap (λ (r : Result (Frame × List ℕ) FrameFault). r >>= ended) ((message_grammar meta).again (frame_read meta wire) (wire_bytes wire) rest (record { wire = wire; is_wire = is; meaning = refl; spelled = refl }))
    ∙ ap (λ (b : Bool). if b then Ok (frame_read meta wire) else Err Trailing) left

pub zeros-refused : (meta : MetaData) (count : ℕ) (frame : Frame) → frame_at meta (replicate count 0) ≡ Ok frame → ⊥
unfolding frame_at message_at front_at flags1_at
zeros-refused meta zero frame e = absurd (let no : Path (Result Frame FrameFault) (Err Short) (Ok frame) = e in cc)
zeros-refused meta (suc count) frame e = absurd (let no : Path (Result Frame FrameFault) (Err NotValid) (Ok frame) = e in cc)
