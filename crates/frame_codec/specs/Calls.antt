-- What private steps of reading and writing say: scalars as words, and values that are set where they stand.
use Rattle.std.specs.Prelude.{◌≡◌, ℕ, Bool, true, false, List, ◌∷◌, slice_set, Some, Result, Ok, Err}
use Rattle.std.specs.List.{HoldsAt}
use Rattle.ua_values.specs.declared.kind.Kind.{Kind}
use Rattle.ua_values.specs.declared.kind.Kind.TheVariants as kinds
use Rattle.ua_values.specs.declared.value.Value.{Value}
use Rattle.ua_binary.specs.declared.data_value.Measured.{Measured}
use Rattle.ua_binary.specs.declared.cursor.Cursor.{Cursor}
use Rattle.ua_binary.specs.Reading.{ReadsAhead, ◌>>=◌}
use Rattle.ua_binary.specs.ReadingValues.{variant_at, data_value_at}
use Rattle.dataset_meta.specs.declared.field.Field.{Field}
use Rattle.dataset_meta.specs.DataValues.{DataValue}
use Rattle.dataset_meta.specs.Metas.{MetaData}
use Rattle.row_words.specs.Belonging.{row_in}
use Rattle.row_words.specs.Words.{scalar_in}
use Rattle.frame_codec.specs.declared.fault.FrameFault.{FrameFault}
use Rattle.row_words.specs.declared.patch.Patch.{Patch}
use Rattle.row_words.specs.Patches.{patch_in}
use Rattle.frame_codec.specs.declared.frame.FrameKind.{FrameKind}
use Rattle.frame_codec.specs.Frames.{Content}
use Rattle.frame_codec.specs.Contents.{kept, field_at, put_at}
use Rattle.frame_codec.specs.Words.{content_in}

-- the answer of a call that leaves it in place of another
abbrev pub leaving : {A F : Type 0} → Result (Unit {0}) F → A → Result A F
leaving (Ok done) x = Ok x
leaving (Err fault) x = Err fault

-- the content that an answered one stands for
abbrev pub meaning : List Field → Result FrameKind FrameFault → Result Content FrameFault
meaning fields (Ok kind) = Ok (content_in fields kind)
meaning fields (Err fault) = Err fault

abbrev pub patch_meaning : List Field → Result Patch FrameFault
    → Result (List (ℕ × DataValue)) FrameFault
patch_meaning fields (Ok patch) = Ok (patch_in fields patch)
patch_meaning fields (Err fault) = Err fault

-- an answered value with this status
abbrev pub kept_if : Bool → Result Value FrameFault → ℕ → Result DataValue FrameFault
kept_if quality (Ok value) status = Ok (kept quality value status)
kept_if quality (Err fault) status = Err fault

-- the value of a field, set at an index of a row
unfoldable pub set_at : Bool → ℕ → Field → ℕ → List DataValue → List ℕ
    → Result (List DataValue × List ℕ) FrameFault
set_at quality encoding field index row bytes =
    field_at quality encoding field bytes >>= λ x. Ok (slice_set row index x.0, x.1)

-- a value is read from the cursor on, and set at the index of a row of the meta
abbrev pub ReadsField : MetaData → ℕ → ℕ → List ℕ → List ℕ → Cursor → Cursor → Result (Unit {0}) FrameFault → Type 0
ReadsField meta encoding index old new before after result = HoldsAt (λ field. ReadsAhead (leaving result (row_in meta.fields new)) before after
    (set_at meta.quality encoding field index (row_in meta.fields old))) meta.fields index

-- a value is read from the cursor on, and put into a patch of the meta as the change at the index
abbrev pub ReadsChange : MetaData → ℕ → ℕ → Patch → Patch → Cursor → Cursor → Result (Unit {0}) FrameFault → Type 0
ReadsChange meta encoding index old new before after result = HoldsAt (λ field. ReadsAhead (leaving result (patch_in meta.fields new)) before after
    (put_at meta.quality false encoding (patch_in meta.fields old) index (Some field))) meta.fields index

-- a scalar with this word, and this status
abbrev pub measured_in : Kind → ℕ → ℕ → Measured
measured_in kind word status = record { value = Some (scalar_in kind word); status = status }

-- a DataValue with this mask, whose value ends here, has this status, and ends there
abbrev pub EndsDataValue : ℕ → ℕ → List ℕ → List ℕ → Type 0
EndsDataValue mask status here there =
    (value : Value) (bytes : List ℕ) → variant_at bytes ≡ Ok (value, here)
    → data_value_at (mask ∷ bytes) ≡ Ok (record { value = Some value; status = status }, there)

-- the scalars of which scalar_bytes has four bytes
abbrev pub has_four_bytes : Kind → Bool
has_four_bytes kinds.Int32 = true
has_four_bytes kinds.UInt32 = true
has_four_bytes kinds.Float = true
has_four_bytes kinds.StatusCode = true
has_four_bytes _ = false

-- and those of which it has eight
abbrev pub has_eight_bytes : Kind → Bool
has_eight_bytes kinds.Int64 = true
has_eight_bytes kinds.UInt64 = true
has_eight_bytes kinds.Double = true
has_eight_bytes kinds.DateTime = true
has_eight_bytes _ = false
