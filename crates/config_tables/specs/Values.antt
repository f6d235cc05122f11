-- What stands at a table's keys, and what is wrong with it.
use Rattle.std.specs.Prelude.{ℕ, ◌==◌, Bool, true, false, ◌&&◌, nat_le, if◌then◌else◌, int_le, ℤ, pos, negsuc, List, [], length, codes, Option, Some, None, is_some, option_and_then, unwrap_or}
use Rattle.std.specs.List.{list_all}
use Rattle.std.specs.Str.{bytes_eq}
use Rattle.std.specs.Char.{is_ascii_hexdigit}
use Rattle.toml.specs.Data.{Data, Items, no_items, item, Members, get_member, as_str, as_integer, as_bool, as_array, as_table}
use Rattle.dataset_meta.specs.Names.{is_name}
use Rattle.config_tables.specs.declared.fault.Fault.{Fault}
use Rattle.config_tables.specs.declared.fault.Fault.TheVariants.{WrongType, BadName, BadPublisher, BadNumber, BadChoice, BadUuid, BadHex}
use Rattle.config_tables.specs.declared.grammar.Choice.{Choice}
use Rattle.config_tables.specs.declared.grammar.Choice.TheVariants as choice
use Rattle.config_tables.specs.declared.grammar.Spelling.{Spelling}
use Rattle.config_tables.specs.declared.grammar.Spelling.TheVariants as spelling
use Rattle.config_tables.specs.declared.grammar.Form.{Form}
use Rattle.config_tables.specs.declared.grammar.Form.TheVariants as form
use Rattle.config_tables.specs.declared.grammar.Row.{Row}
use Rattle.config_tables.specs.declared.key.Key.{Key}
use Rattle.config_tables.specs.declared.key.Key.TheVariants as key
use Rattle.config_tables.specs.Keys.{key_text}
use Rattle.config_tables.specs.Words.{kind_named, policy_named, layout_named, security_named, numbering_named}
use Rattle.config_tables.specs.Tables.{Located}
use Rattle.config_tables.specs.Texts.{publisher_named, guid_spelled}

-- the value at a key
abbrev pub value_at : Key → Members → Option Data
value_at key members = get_member (key_text key) members

-- the text at a key, else the default
abbrev pub text_or : List ℕ → Key → Members → List ℕ
text_or default key members = unwrap_or (option_and_then as_str (value_at key members)) default

abbrev pub text_at : Key → Members → List ℕ
text_at key members = text_or [] key members

abbrev pub natural : ℤ → Option ℕ
natural (pos n) = Some n
natural (negsuc n) = None

abbrev pub at_most : ℕ → ℕ → Option ℕ
at_most most n = if nat_le n most then Some n else None

-- the number at a key where it is at most this, else the default
abbrev pub number_at : Key → ℕ → ℕ → Members → ℕ
number_at key most default members =
    unwrap_or
    (option_and_then (at_most most) (option_and_then natural (option_and_then as_integer (value_at key members))))
    default

-- the truth value at a key, else the default
abbrev pub truth_at : Key → Bool → Members → Bool
truth_at key default members = unwrap_or (option_and_then as_bool (value_at key members)) default

-- the fault where the test fails
abbrev pub unless : Bool → Fault → Option Fault
unless true fault = None
unless false fault = Some fault

-- what is wrong with a value of the wanted type; another value is of the wrong type
abbrev pub judged : {X : Type 0} → Option X → (X → Option Fault) → Option Fault
judged None judge = Some WrongType
judged (Some x) judge = judge x

abbrev pub is_within : ℤ → ℤ → ℤ → Bool
is_within least most n = int_le least n && int_le n most

abbrev pub is_word : Choice → List ℕ → Bool
is_word choice.Kind word = is_some (kind_named word)
is_word choice.Policy word = is_some (policy_named word)
is_word choice.Layout word = is_some (layout_named word)
is_word choice.Security word = is_some (security_named word)
is_word choice.Numbering word = is_some (numbering_named word)

-- this many hexadecimal digits, in either case
abbrev pub is_hex : ℕ → List ℕ → Bool
is_hex count text = (length text == count) && list_all is_ascii_hexdigit text

-- the digits of an encrypting key, by the key group's policy
abbrev pub key_digits : Members → ℕ
key_digits keygroup = if bytes_eq (text_at key.Policy keygroup) (codes "aes256") then 64 else 32

abbrev pub are_tables : Items → Bool
are_tables no_items = true
are_tables (item d ds) = is_some (as_table d) && are_tables ds

-- what is wrong with a text; that a reference names something is judged by itself
abbrev pub text_fault : Members → Spelling → List ℕ → Option Fault
text_fault outer spelling.Name text = unless (is_name text) BadName
text_fault outer (spelling.Reference part) text = None
text_fault outer spelling.Publisher text = unless (is_some (publisher_named text)) BadPublisher
text_fault outer (spelling.Word choice) text = unless (is_word choice text) BadChoice
text_fault outer spelling.Guid text = unless (is_some (guid_spelled text)) BadUuid
text_fault outer (spelling.Hex count) text = unless (is_hex count text) BadHex
text_fault outer spelling.KeyHex text = unless (is_hex (key_digits outer) text) BadHex

-- what is wrong with a value that stands where such a form is wanted
abbrev pub value_fault : Members → Form → Data → Option Fault
value_fault outer form.Truth value = judged (as_bool value) (λ _. None)
value_fault outer (form.Number least most) value = judged (as_integer value) (λ n. unless (is_within least most n) BadNumber)
value_fault outer (form.Text spelling) value = judged (as_str value) (text_fault outer spelling)
value_fault outer form.Table value = judged (as_table value) (λ _. None)
value_fault outer form.Tables value = judged (as_array value) (λ items. unless (are_tables items) WrongType)

-- what is wrong with the value at a row's key
abbrev pub row_fault : Located → Row → Option Fault
row_fault t row = option_and_then (value_fault t.outer row.form) (value_at row.key t.members)
