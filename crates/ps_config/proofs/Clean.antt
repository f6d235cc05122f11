-- A table at which no fault stands: each by its own name.
use Rattle.std.proofs.Common.{◌≡◌, false, List, ◌∷◌, ◌++◌}
use Rattle.config_tables.specs.declared.fault.Fault.TheVariants.{WrongType, BadName, BadNumber, BadChoice, BadHex}
use Rattle.config_tables.specs.Tables.{Located}
use Rattle.ps_config.specs.Faults.{has_missing_key, has_value_fault, is_past_limit, has_double_name, is_bad_field, has_no_fields, has_unknown_ref, has_double_id, has_key_fault, is_keep_alive_short, is_too_wide, has_no_order}
use Rattle.ps_config.specs.Meaning.{PassTables}
use Rattle.ps_config.specs.Refusals.{stands, table_faults}
use Rattle.ps_config.specs.Slots.{is_not_for_fixed, has_slot_clash, is_slot_small, is_slot_past}

pub record IsClean (ts before : List Located) (t : Located) : Type 0 where
  pub missing : has_missing_key t ≡ false
  pub wrong : has_value_fault WrongType t ≡ false
  pub many : is_past_limit before t ≡ false
  pub bad_name : has_value_fault BadName t ≡ false
  pub double_name : has_double_name before t ≡ false
  pub bad_number : has_value_fault BadNumber t ≡ false
  pub bad_choice : has_value_fault BadChoice t ≡ false
  pub bad_hex : has_value_fault BadHex t ≡ false
  pub bad_field : is_bad_field t ≡ false
  pub no_fields : has_no_fields ts t ≡ false
  pub wide : is_too_wide ts t ≡ false
  pub key_order : has_no_order ts t ≡ false
  pub unknown_ref : has_unknown_ref ts t ≡ false
  pub double_id : has_double_id before t ≡ false
  pub key_needed : has_key_fault t ≡ false
  pub keep_alive : is_keep_alive_short t ≡ false
  pub fixed_only : is_not_for_fixed ts t ≡ false
  pub slot_clash : has_slot_clash ts before t ≡ false
  pub slot_small : is_slot_small ts t ≡ false
  pub slot_past : is_slot_past t ≡ false

pub clean : (ts : List Located) → PassTables ts → (before : List Located) (t : Located) (after : List Located) → ts ≡ before ++ t ∷ after → IsClean ts before t
unfolding table_faults stands
clean ts h before t after is = record {
  missing = h.1.0 before t after is;
  wrong = h.1.1.0 before t after is;
  many = h.1.1.1.0 before t after is;
  bad_name = h.1.1.1.1.0 before t after is;
  double_name = h.1.1.1.1.1.0 before t after is;
  bad_number = h.1.1.1.1.1.1.1.0 before t after is;
  bad_choice = h.1.1.1.1.1.1.1.1.0 before t after is;
  bad_hex = h.1.1.1.1.1.1.1.1.1.1.0 before t after is;
  bad_field = h.1.1.1.1.1.1.1.1.1.1.1.0 before t after is;
  no_fields = h.1.1.1.1.1.1.1.1.1.1.1.1.0 before t after is;
  wide = h.1.1.1.1.1.1.1.1.1.1.1.1.1.0 before t after is;
  key_order = h.1.1.1.1.1.1.1.1.1.1.1.1.1.1.0 before t after is;
  unknown_ref = h.1.1.1.1.1.1.1.1.1.1.1.1.1.1.1.0 before t after is;
  double_id = h.1.1.1.1.1.1.1.1.1.1.1.1.1.1.1.1.0 before t after is;
  key_needed = h.1.1.1.1.1.1.1.1.1.1.1.1.1.1.1.1.1.0 before t after is;
  keep_alive = h.1.1.1.1.1.1.1.1.1.1.1.1.1.1.1.1.1.1.0 before t after is;
  fixed_only = h.1.1.1.1.1.1.1.1.1.1.1.1.1.1.1.1.1.1.1.0 before t after is;
  slot_clash = h.1.1.1.1.1.1.1.1.1.1.1.1.1.1.1.1.1.1.1.1.0 before t after is;
  slot_small = h.1.1.1.1.1.1.1.1.1.1.1.1.1.1.1.1.1.1.1.1.1.0 before t after is;
  slot_past = h.1.1.1.1.1.1.1.1.1.1.1.1.1.1.1.1.1.1.1.1.1.1.0 before t after is;
}
