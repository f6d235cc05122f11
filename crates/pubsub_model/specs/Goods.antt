-- Values that are Good, as all of a data set without quality are.
use Rattle.std.specs.Prelude.{List, map}
use Rattle.ua_values.specs.declared.value.Value.{Value}
use Rattle.dataset_meta.specs.DataValues.{DataValue}

abbrev pub good : Value → DataValue
good value = record { value = value; status = 0 }

abbrev pub good_row : List Value → List DataValue
good_row values = map good values
