-- That words are those of a row has one proof at most.
use Rattle.std.specs.Prelude.{ℕ, Bool, true, false, List, [], ◌∷◌}
use Rattle.std.specs.Coded.{×_prop, Unit-prop}
use Rattle.std.proofs.Props.{props}
use Rattle.ua_values.specs.declared.value.Value.{Value}
use Rattle.ua_values.specs.declared.value.Value.TheVariants as values
use Rattle.ua_values.specs.Values.{IsValue}
use Rattle.dataset_meta.specs.declared.field.Field.{Field}
use Rattle.dataset_meta.specs.DataValues.{DataValue, IsStatus, FitsField}
use Rattle.dataset_meta.specs.Metas.{MetaData}
use Rattle.dataset_meta.specs.Rows.{IsRowOf}
use Rattle.row_words.specs.Belonging.{Belongs}

IsStatus-prop : (quality : Bool) (status : ℕ) → IsProp (IsStatus quality status)
IsStatus-prop true status = hlevel props
IsStatus-prop false status = hlevel props

IsValue-prop : (value : Value) → IsProp (IsValue value)
IsValue-prop (values.Boolean b) = hlevel props
IsValue-prop (values.SByte n) = hlevel props
IsValue-prop (values.Byte n) = hlevel props
IsValue-prop (values.Int16 n) = hlevel props
IsValue-prop (values.UInt16 n) = hlevel props
IsValue-prop (values.Int32 n) = hlevel props
IsValue-prop (values.UInt32 n) = hlevel props
IsValue-prop (values.Int64 n) = hlevel props
IsValue-prop (values.UInt64 n) = hlevel props
IsValue-prop (values.Float bits) = hlevel props
IsValue-prop (values.Double bits) = hlevel props
IsValue-prop (values.String text) = hlevel props
IsValue-prop (values.DateTime steps) = hlevel props
IsValue-prop (values.Guid bytes) = hlevel props
IsValue-prop (values.ByteString bytes) = hlevel props
IsValue-prop (values.StatusCode code) = hlevel props

FitsField-prop : (quality : Bool) (field : Field) (x : DataValue) → IsProp (FitsField quality field x)
FitsField-prop quality field x = hlevel (IsStatus-prop, IsValue-prop, props)

IsRow-prop : (quality : Bool) (fields : List Field) (row : List DataValue) → IsProp (IsRowOf quality fields row)
IsRow-prop quality [] [] = Unit-prop
IsRow-prop quality [] (x ∷ row) = hlevel props
IsRow-prop quality (field ∷ fields) [] = hlevel props
IsRow-prop quality (field ∷ fields) (x ∷ row) = ×_prop (FitsField-prop quality field x) (IsRow-prop quality fields row)

pub Belongs-prop : (meta : MetaData) (words : List ℕ) → IsProp (Belongs meta words)
Belongs-prop meta words = hlevel (IsRow-prop, props)
