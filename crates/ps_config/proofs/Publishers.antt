-- A publisher's id as it is spelled is short.
use Rattle.std.proofs.Common.{◌≡◌, ℕ, ◌≤◌, Bool, true, false, ◌&&◌, cond, nat_lt, nat_le, List, length, codes, Option, Some, None, Ok, Err, IfSome, option_map, option_and_then, unwrap_or, refl, arith}
use Rattle.std.specs.List.{list_all}
use Rattle.std.specs.Option.{option_or}
use Rattle.std.specs.Str.{is_utf8}
use Rattle.std.proofs.lemmas.Bool.{and_parts}
use Rattle.std.proofs.lemmas.Bool.Decides.{nat_tests}
use Rattle.toml.specs.Data.{Members}
use Rattle.ua_values.specs.declared.text.TextFault.TheVariants.{TooLong, BadUtf8}
use Rattle.config_tables.specs.declared.key.Key.{Key}
use Rattle.config_tables.specs.declared.publisher.Publisher.{Publisher}
use Rattle.config_tables.specs.declared.publisher.Publisher.TheVariants.{U8, U16, U32, U64, Text}
use Rattle.config_tables.specs.Texts.{after, number_after, is_printable, is_id, if_ok, id_spelled, publisher_named}
use Rattle.config_tables.specs.Values.{text_at}
use Rattle.ps_config.specs.Headers.{IsShortId}
use Rattle.ps_config.specs.Settings.{publisher_at}

if_either : {X : Type 0} (P : X → Type 0) (a b : Option X) → IfSome a P → IfSome b P → IfSome (option_or a b) P
if_either P None b one other = other
if_either P (Some x) b one other = one

if_map : {X Y : Type 0} (P : Y → Type 0) (f : X → Y) (o : Option X) → ((x : X) → P (f x)) → IfSome (option_map f o) P
if_map P f None each = tt
if_map P f (Some x) each = each x

short_text : (text : List ℕ) → is_id text ≡ true → IsShortId (Text text)
short_text text is =
    let rest = and_parts (nat_le 1 (length text)) (nat_le (length text) 64 && list_all is_printable text) is in
    let few = and_parts (nat_le (length text) 64) (list_all is_printable text) rest.1 in
    let most : length text ≤ 64 = grind (arith, nat_tests, few.0) in
    omega (arith, most)

spelled : (text : List ℕ) → IfSome (option_map Text (id_spelled text)) IsShortId
spelled text = go (is_id text) (nat_lt 256 (length text)) (is_utf8 text) refl
  where
    go : (id long utf8 : Bool) → is_id text ≡ id
        → IfSome (option_map Text (cond id (if_ok (cond long (Err TooLong) (cond utf8 (Ok text) (Err BadUtf8)))) None)) IsShortId
    go false long utf8 is = tt
    go true true utf8 is = tt
    go true false false is = tt
    go true false true is = short_text text is

rest_spelled : (o : Option (List ℕ)) → IfSome (option_map Text (option_and_then id_spelled o)) IsShortId
rest_spelled None = tt
rest_spelled (Some text) = spelled text

named : (text : List ℕ) → IfSome (publisher_named text) IsShortId
named text =
    if_either IsShortId _ _ (if_map IsShortId U8 (number_after (codes "u8:") 255 text) (λ n. omega arith))
    (if_either IsShortId _ _ (if_map IsShortId U16 (number_after (codes "u16:") 65535 text) (λ n. omega arith))
    (if_either IsShortId _ _ (if_map IsShortId U32 (number_after (codes "u32:") 4294967295 text) (λ n. omega arith))
    (if_either IsShortId _ _ (if_map IsShortId U64 (number_after (codes "u64:") 18446744073709551615 text) (λ n. omega arith))
    (rest_spelled (after (codes "text:") text)))))

else_short : (o : Option Publisher) → IfSome o IsShortId → IsShortId (unwrap_or o (U8 0))
else_short None h = omega arith
else_short (Some publisher) h = h

-- whatever text stands there
pub short_at : (key : Key) (members : Members) → IsShortId (publisher_at key members)
short_at key members = else_short (publisher_named (text_at key members)) (named (text_at key members))
