-- What faults say of themselves.
use Rattle.std.specs.Prelude.{ℕ, List, ◌++◌, codes}
use Rattle.std.specs.Fmt.{decimal}
use Rattle.fixed_layout.specs.declared.fault.RawFault.{RawFault}
use Rattle.fixed_layout.specs.declared.fault.RawFault.TheVariants as raw_faults
use Rattle.fixed_layout.specs.declared.slot_fault.SlotFault.{SlotFault}
use Rattle.fixed_layout.specs.declared.slot_fault.SlotFault.TheVariants as slot_faults

abbrev pub raw_fault : RawFault → List ℕ
raw_fault raw_faults.Short =
    codes "the bytes end before the row does"
raw_fault raw_faults.BadLength =
    codes "the length of a text or a ByteString is below -1 or over its field's cap"
raw_fault raw_faults.BadUtf8 =
    codes "a text isn't UTF-8"

abbrev pub slot_fault : SlotFault → List ℕ
slot_fault (slot_faults.Clash index) =
    codes "slot " ++ decimal index ++ codes " shares a byte with the header or an earlier slot: move it"
slot_fault (slot_faults.Small index) =
    codes "slot " ++ decimal index ++ codes " is smaller than what it is for: enlarge it"
slot_fault (slot_faults.Past index) =
    codes "slot " ++ decimal index ++ codes " ends past the limit: move or shrink it"
