-- What faults say of themselves.
use Rattle.std.specs.Prelude.{ℕ, List, codes}
use Rattle.ua_binary.specs.declared.fault.ValueFault.{ValueFault}
use Rattle.ua_binary.specs.declared.fault.ValueFault.TheVariants as value_faults

abbrev pub value_fault : ValueFault → List ℕ
value_fault value_faults.Short =
    codes "the bytes end before the value does: give the rest too"
value_fault value_faults.KindOut =
    codes "the type byte is of no kind that a field can have: arrays, structures and null are out"
value_fault value_faults.BadUtf8 =
    codes "a String isn't UTF-8"
value_fault value_faults.BadLength =
    codes "the length of a String or a ByteString is below -1 or over 256"

abbrev pub room : List ℕ
room = codes "there is no room for what is to be written: give more bytes"

abbrev pub short : List ℕ
short = codes "the bytes end too early: give the rest too"
