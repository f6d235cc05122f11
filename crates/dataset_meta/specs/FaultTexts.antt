-- What faults say of themselves.
use Rattle.std.specs.Prelude.{ℕ, List, ◌++◌, codes}
use Rattle.std.specs.Fmt.{decimal}
use Rattle.dataset_meta.specs.declared.meta_fault.MetaFault.{MetaFault}
use Rattle.dataset_meta.specs.declared.meta_fault.MetaFault.TheVariants.{NoFields, TooMany, DoubleName, BadCap, TooWide}

abbrev pub meta_fault : MetaFault → List ℕ
meta_fault NoFields = codes "the data set has no fields: give it one"
meta_fault TooMany = codes "the data set has more than 64 fields: split it"
meta_fault (DoubleName index) =
    codes "field " ++ decimal index ++ codes " has the name of an earlier one: rename it"
meta_fault (BadCap index) =
    codes "field " ++ decimal index
    ++ codes " has a bad cap: a text or a ByteString wants 1 to 256, another kind 0"
meta_fault (TooWide words) =
    codes "a row takes " ++ decimal words
    ++ codes " words of 64 bits, and 125 are the most: lower caps or split the data set"
