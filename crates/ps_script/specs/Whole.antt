-- Numbers without a sign, as values.
use Rattle.std.specs.Prelude.{ℕ, ◌^◌, Bool, true, false, nat_lt, Option, Some, None, if◌then◌else◌}
use Rattle.ua_values.specs.declared.kind.Kind.{Kind}
use Rattle.ua_values.specs.declared.kind.Kind.TheVariants as kinds
use Rattle.ua_values.specs.declared.value.Value.{Value}
use Rattle.ua_values.specs.declared.value.Value.TheVariants as values

abbrev pub is_whole : Kind → Bool
is_whole kinds.Byte = true
is_whole kinds.UInt16 = true
is_whole kinds.UInt32 = true
is_whole kinds.UInt64 = true
is_whole _ = false

-- the value of a kind of numbers without a sign, where the number is in its range
abbrev pub whole_value : Kind → ℕ → Option Value
whole_value kinds.Byte number = if nat_lt number (2 ^ 8) then Some (values.Byte number) else None
whole_value kinds.UInt16 number = if nat_lt number (2 ^ 16) then Some (values.UInt16 number) else None
whole_value kinds.UInt32 number = if nat_lt number (2 ^ 32) then Some (values.UInt32 number) else None
whole_value kinds.UInt64 number = Some (values.UInt64 number)
whole_value _ number = None
