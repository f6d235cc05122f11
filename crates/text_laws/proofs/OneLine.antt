-- The line of a message is one line: what JSON is written with is a space or above, and texts escape what is below.
use Rattle.std.proofs.Common.{◌≡◌, ℕ, zero, suc, ◌<◌, ◌≤◌, Bool, true, false, ◌&&◌, pos, negsuc, List, [], ◌∷◌, ◌++◌, refl, sym, subst, inl, inr, decimal, le-leb, leb-true, arith}
use Rattle.std.specs.Prelude.{nat_le}
use Rattle.std.specs.Char.{is_ascii_digit}
use Rattle.std.specs.List.{list_all, flat_map, AllByRecursion}
use Rattle.std.proofs.lemmas.Bool.{and_parts, cases_lt, cases_eq}
use Rattle.std.proofs.lemmas.Bool.Decides.{nat_tests}
use Rattle.std.proofs.lemmas.List.Elements.{All-from_recursion}
use Rattle.json.specs.Print.{escape_byte, quoted, token_text}
use Rattle.json.specs.Token.{Token}
use Rattle.json.proofs.Printed.Strings.{escape_byte_plain}
use Rattle.serde_json.specs.Data.{Num, unsigned, negative, float, Data, null, boolean, number, string, array, object, Items, no_items, item, Members, no_members, member}
use Rattle.serde_json.specs.Written.{comma_if, compact_text, items_text, members_text, number_text}
use Rattle.ps_config.specs.declared.parts.Config.{Config}
use Rattle.report_laws.proofs.Cutting.{all_join, all_weaker}
use Rattle.report_laws.proofs.Entries.{decimal_digits}
use Rattle.json_frames.specs.Written.{message_json}
use Rattle.json_tap.specs.Transcoding.{Message, line}
use Rattle.text_laws.specs.Lines.{IsOneLine}

-- a space or above
abbrev pub is_ink : ℕ → Bool
is_ink byte = nat_le 32 byte

-- ---- texts

-- what stands for the bytes below n
abbrev escapes_below : ℕ → Bool
escapes_below zero = true
escapes_below (suc n) = list_all is_ink (escape_byte n) && escapes_below n

escape_below : (n : ℕ) → escapes_below n ≡ true → (x : ℕ) → x < n → list_all is_ink (escape_byte x) ≡ true
escape_below zero e x h = absurd (omega arith)
escape_below (suc n) e x h =
    let p = and_parts (list_all is_ink (escape_byte n)) (escapes_below n) e in
    elim (cases_eq x n) [ inl same ↦ rw same p.0 | inr other ↦ escape_below n p.1 x (omega arith) ]

all_ink : escapes_below 128 ≡ true
unfolding escape_byte
all_ink = refl

high_ink : (x : ℕ) → 128 ≤ x → is_ink x ≡ true
high_ink x high = le-leb 32 x (omega arith)

escape_high : (x : ℕ) → 128 ≤ x → list_all is_ink (escape_byte x) ≡ true
escape_high x high =
    subst (λ (l : List ℕ). list_all is_ink l ≡ true) (sym (escape_byte_plain x (λ e. omega arith) (λ e. omega arith) (omega arith))) (rw (high_ink x high) refl)

escape_ink : (x : ℕ) → list_all is_ink (escape_byte x) ≡ true
escape_ink x = elim (cases_lt x 128) [ inl small ↦ escape_below 128 all_ink x small | inr big ↦ escape_high x big ]

text_ink : (s : List ℕ) → list_all is_ink (flat_map escape_byte s) ≡ true
text_ink [] = refl
text_ink (x ∷ s) = all_join is_ink (escape_byte x) (flat_map escape_byte s) (escape_ink x) (text_ink s)

quoted_ink : (s : List ℕ) → list_all is_ink (quoted s) ≡ true
quoted_ink s = all_join is_ink (flat_map escape_byte s) (34 ∷ []) (text_ink s) refl

-- ---- numbers and words

digit_ink : (byte : ℕ) → is_ascii_digit byte ≡ true → is_ink byte ≡ true
digit_ink byte is = grind (arith, nat_tests)

decimal_ink : (n : ℕ) → list_all is_ink (decimal n) ≡ true
decimal_ink n = all_weaker is_ascii_digit is_ink digit_ink (decimal n) (decimal_digits n)

number_ink : (n : Num) → list_all is_ink (number_text n) ≡ true
number_ink (unsigned n) = decimal_ink n
number_ink (negative (pos n)) = decimal_ink n
number_ink (negative (negsuc n)) = decimal_ink (suc n)
number_ink (float x) = refl

boolean_ink : (b : Bool) → list_all is_ink (token_text (Token.boolean b)) ≡ true
boolean_ink true = refl
boolean_ink false = refl

comma_ink : (later : Bool) → list_all is_ink (comma_if later) ≡ true
comma_ink true = refl
comma_ink false = refl

-- ---- values

mutual
  pub value_ink : (d : Data) → list_all is_ink (compact_text d) ≡ true
  value_ink null = refl
  value_ink (boolean b) = boolean_ink b
  value_ink (number n) = number_ink n
  value_ink (string s) = quoted_ink s
  value_ink (array ds) = items_ink false ds
  value_ink (object ms) = members_ink false ms

  items_ink : (later : Bool) (ds : Items) → list_all is_ink (items_text later ds) ≡ true
  items_ink later no_items = refl
  items_ink later (item d ds) =
      all_join is_ink (comma_if later) (compact_text d ++ items_text true ds) (comma_ink later)
      (all_join is_ink (compact_text d) (items_text true ds) (value_ink d) (items_ink true ds))

  members_ink : (later : Bool) (ms : Members) → list_all is_ink (members_text later ms) ≡ true
  members_ink later no_members = refl
  members_ink later (member k d ms) =
      all_join is_ink (comma_if later) (quoted k ++ 58 ∷ (compact_text d ++ members_text true ms)) (comma_ink later)
      (all_join is_ink (quoted k) (58 ∷ (compact_text d ++ members_text true ms)) (quoted_ink k)
      (all_join is_ink (compact_text d) (members_text true ms) (value_ink d) (members_ink true ms)))

-- ---- lines

pub line_ink : (config : Config) (n : ℕ) (message : Message) → list_all is_ink (line config n message) ≡ true
line_ink config n message = value_ink (message_json config.dataset n message.publisher message.parts)

low : (byte : ℕ) → is_ink byte ≡ true → 32 ≤ byte
low byte is = leb-true 32 byte is

each_low : (bytes : List ℕ) → list_all is_ink bytes ≡ true → AllByRecursion (λ byte. 32 ≤ byte) bytes
each_low [] is = tt
each_low (byte ∷ bytes) is =
    let parts = and_parts (is_ink byte) (list_all is_ink bytes) is in
    (low byte parts.0, each_low bytes parts.1)

pub one_line : (config : Config) (n : ℕ) (message : Message) → IsOneLine (line config n message)
one_line config n message = All-from_recursion (λ byte. 32 ≤ byte) (line config n message) (each_low (line config n message) (line_ink config n message))
