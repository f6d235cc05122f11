-- What a field word gives a field, as the code has it.
use Rattle.std.specs.Prelude.{ℕ}
use Rattle.dataset_meta.specs.DataValues.{DataValue}
use Rattle.ps_script.specs.declared.changes.Change.{Change}
use Rattle.ps_script.specs.Fields.{data_value}

abbrev pub change_by : Change → ℕ × DataValue
change_by change = (change.index, data_value change.value change.status)
