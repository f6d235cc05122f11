-- How a row of RawData is read, from left to right: the values and the bytes behind them, or the first fault.
use Rattle.std.specs.Prelude.{ℕ, ◌-◌, ℤ, zero, suc, pos, negsuc, nat_lt, List, [], ◌∷◌, length, Result, Ok, Err, if◌then◌else◌}
use Rattle.std.specs.Int.{w32, cast_signed}
use Rattle.std.specs.Str.{is_utf8}
use Rattle.ua_values.specs.declared.kind.Kind.{Kind}
use Rattle.ua_values.specs.declared.kind.Kind.TheVariants as kinds
use Rattle.ua_values.specs.declared.value.Value.{Value}
use Rattle.ua_values.specs.declared.value.Value.TheVariants.{String, ByteString}
use Rattle.ua_binary.specs.declared.fault.ValueFault.{ValueFault}
use Rattle.ua_binary.specs.Reading.{◌>>=◌, bytes_at, number_at}
use Rattle.ua_binary.specs.ReadingValues.{plain_at}
use Rattle.dataset_meta.specs.declared.field.Field.{Field}
use Rattle.dataset_meta.specs.DataValues.{DataValue}
use Rattle.fixed_layout.specs.declared.fault.RawFault.{RawFault}
use Rattle.fixed_layout.specs.declared.fault.RawFault.TheVariants.{Short, BadLength, BadUtf8}
use Rattle.fixed_layout.specs.Spelling.{good}

-- a length field: -1 is the null text or blob, which is empty here
abbrev pub length_within : ℕ → ℤ → Result ℕ RawFault
length_within cap (pos n) = if nat_lt cap n then Err BadLength else Ok n
length_within cap (negsuc zero) = Ok 0
length_within cap (negsuc (suc n)) = Err BadLength

-- an Int32 length and that many bytes
unfoldable pub raw_block_at : ℕ → List ℕ → Result (List ℕ × List ℕ) RawFault
raw_block_at cap bytes = do
  field ← number_at Short w32 bytes
  len ← length_within cap (cast_signed w32 field.0)
  bytes_at Short len field.1

-- a text is judged before what fills it up
unfoldable pub raw_text_at : ℕ → List ℕ → Result (List ℕ × List ℕ) RawFault
raw_text_at cap bytes = do
  text ← raw_block_at cap bytes
  if is_utf8 text.0 then Ok text else Err BadUtf8

-- and what fills it up to the cap, which is not looked at
unfoldable pub filled_at : ℕ → List ℕ × List ℕ → Result (List ℕ × List ℕ) RawFault
filled_at cap text = do
  filling ← bytes_at Short (cap - length text.0) text.1
  Ok (text.0, filling.1)

-- the only fault of a scalar or a Guid is that the bytes end before it does
abbrev pub or_short : Result (Value × List ℕ) ValueFault → Result (Value × List ℕ) RawFault
or_short (Ok value) = Ok value
or_short (Err fault) = Err Short

-- a value of this kind, in a field of this cap
abbrev pub raw_value_at : Kind → ℕ → List ℕ → Result (Value × List ℕ) RawFault
raw_value_at kinds.String cap bytes = raw_text_at cap bytes >>= filled_at cap >>= λ text. Ok (String text.0, text.1)
raw_value_at kinds.ByteString cap bytes = raw_block_at cap bytes >>= filled_at cap >>= λ text. Ok (ByteString text.0, text.1)
raw_value_at kind cap bytes = or_short (plain_at kind bytes)

unfoldable pub raw_field_at : Field → List ℕ → Result (DataValue × List ℕ) RawFault
raw_field_at field bytes = do
  value ← raw_value_at field.kind field.cap bytes
  Ok (good value.0, value.1)

-- one value for each field
abbrev pub raw_row_at : List Field → List ℕ → Result (List DataValue × List ℕ) RawFault
raw_row_at [] bytes = Ok ([], bytes)
raw_row_at (field ∷ fields) bytes = do
  value ← raw_field_at field bytes
  row ← raw_row_at fields value.1
  Ok (value.0 ∷ row.0, row.1)
