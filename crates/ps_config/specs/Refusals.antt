-- What refuses a document's tables, and where.
use Rattle.std.specs.Prelude.{Bool, List, [], ◌∷◌, ◌++◌, Option, Some, None, option_map, if◌then◌else◌}
use Rattle.std.specs.Option.{option_or}
use Rattle.config_tables.specs.declared.place.Place.{Place}
use Rattle.config_tables.specs.declared.fault.Fault.{Fault}
use Rattle.config_tables.specs.declared.fault.Fault.TheVariants as fault
use Rattle.config_tables.specs.Tables.{Located}
use Rattle.ps_config.specs.Faults.{has_unknown_key, has_missing_key, has_value_fault, is_past_limit, has_double_name, is_bad_field, has_no_fields, has_unknown_ref, has_double_id, has_key_fault, is_keep_alive_short, is_too_wide, has_no_order}
use Rattle.ps_config.specs.Slots.{is_not_for_fixed, has_slot_clash, is_slot_small, is_slot_past}
use Rattle.ps_config.specs.Messages.{is_message_large}

-- the fault stands at this table, with these before it
unfoldable pub stands : Fault → List Located → List Located → Located → Bool
stands fault.UnknownKey ts before t = has_unknown_key t
stands fault.MissingKey ts before t = has_missing_key t
stands fault.TooMany ts before t = is_past_limit before t
stands fault.DoubleName ts before t = has_double_name before t
stands fault.BadField ts before t = is_bad_field t
stands fault.NoFields ts before t = has_no_fields ts t
stands fault.TooWide ts before t = is_too_wide ts t
stands fault.KeyOrder ts before t = has_no_order ts t
stands fault.UnknownRef ts before t = has_unknown_ref ts t
stands fault.DoubleId ts before t = has_double_id before t
stands fault.KeyNeeded ts before t = has_key_fault t
stands fault.KeepAliveShort ts before t = is_keep_alive_short t
stands fault.FixedOnlyKeys ts before t = is_not_for_fixed ts t
stands fault.SlotClash ts before t = has_slot_clash ts before t
stands fault.SlotSmall ts before t = is_slot_small ts t
stands fault.SlotPast ts before t = is_slot_past t
stands fault.FrameLarge ts before t = is_message_large ts t
-- WrongType, BadName, BadPublisher, BadNumber, BadChoice, BadUuid and BadHex; BadToml stands at no table
stands fault ts before t = has_value_fault fault t

-- the faults that tables have, in the order in which they are judged, up to the last
unfoldable pub table_faults : List Fault
table_faults =
    fault.UnknownKey ∷ fault.MissingKey ∷ fault.WrongType ∷ fault.TooMany ∷ fault.BadName ∷ fault.DoubleName ∷ fault.BadPublisher
    ∷ fault.BadNumber ∷ fault.BadChoice ∷ fault.BadUuid ∷ fault.BadHex ∷ fault.BadField ∷ fault.NoFields ∷ fault.TooWide
    ∷ fault.KeyOrder ∷ fault.UnknownRef ∷ fault.DoubleId ∷ fault.KeyNeeded ∷ fault.KeepAliveShort ∷ fault.FixedOnlyKeys
    ∷ fault.SlotClash ∷ fault.SlotSmall ∷ fault.SlotPast ∷ []

-- all of them: the last is judged by the groups and data sets that the tables are
abbrev pub faults : List Fault
faults = table_faults ++ fault.FrameLarge ∷ []

-- the first table that fails the test, which is given the tables before it
abbrev pub first_from : (List Located → Located → Bool) → List Located → List Located → Option Place
first_from test before [] = None
first_from test before (t ∷ ts) = if test before t then Some t.place else first_from test (before ++ t ∷ []) ts

abbrev pub first_at : Fault → List Located → Option Place
first_at fault ts = first_from (stands fault ts) [] ts

-- the first of the faults that stands anywhere, at the first table where it stands
abbrev pub refusal_by : List Fault → List Located → Option (Fault × Place)
refusal_by [] ts = None
refusal_by (fault ∷ faults) ts = option_or (option_map (λ place. (fault, place)) (first_at fault ts)) (refusal_by faults ts)

abbrev pub refusal : List Located → Option (Fault × Place)
refusal ts = refusal_by faults ts
