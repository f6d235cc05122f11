-- Texts of numbers without a sign.
use Rattle.std.proofs.Common.{◌≡◌, ◌≢◌, ℕ, ◌^◌, ◌<◌, Bool, true, false, cond, nat_lt, List, Some, None, IfSome, refl, sym, ap, ◌∙◌, subst, arith, lt-ltb}
use Rattle.std.specs.Fmt.{decimal}
use Rattle.std.specs.Str.Parse.{digits_value}
use Rattle.std.proofs.lemmas.Bool.{false≢true}
use Rattle.std.proofs.lemmas.Fmt.{decimal_is_IsNumeral}
use Rattle.ua_values.specs.declared.kind.Kind.{Kind}
use Rattle.ua_values.specs.declared.kind.Kind.TheVariants as kinds
use Rattle.ua_values.specs.declared.value.Value.{Value}
use Rattle.ua_values.specs.declared.value.Value.TheVariants as values
use Rattle.ua_values.specs.Values.{kind_of, IsValue}
use Rattle.value_texts.specs.Texts.{value_text_of}
use Rattle.value_texts.specs.Spelling.{IsTextOf}
use Rattle.ps_script.specs.Whole.{is_whole, whole_value}

text_if : (word : List ℕ) (value : Value) (b : Bool) → IsTextOf word value → IfSome (cond b (Some value) None) (IsTextOf word)
text_if word value true is = is
text_if word value false is = tt

-- a number's value has its digits as text
pub whole_text : (kind : Kind) (word : List ℕ) (n : ℕ) → word ≡ decimal n → IfSome (whole_value kind n) (IsTextOf word)
unfolding value_text_of
whole_text kinds.Byte word n is = text_if word (values.Byte n) (nat_lt n (2 ^ 8)) is
whole_text kinds.UInt16 word n is = text_if word (values.UInt16 n) (nat_lt n (2 ^ 16)) is
whole_text kinds.UInt32 word n is = text_if word (values.UInt32 n) (nat_lt n (2 ^ 32)) is
whole_text kinds.UInt64 word n is = is
whole_text kinds.Boolean word n is = tt
whole_text kinds.SByte word n is = tt
whole_text kinds.Int16 word n is = tt
whole_text kinds.Int32 word n is = tt
whole_text kinds.Int64 word n is = tt
whole_text kinds.Float word n is = tt
whole_text kinds.Double word n is = tt
whole_text kinds.String word n is = tt
whole_text kinds.DateTime word n is = tt
whole_text kinds.Guid word n is = tt
whole_text kinds.ByteString word n is = tt
whole_text kinds.StatusCode word n is = tt

-- a value of such a kind, by its number
record IsNumber (kind : Kind) (word : List ℕ) (value : Value) : Type 0 where
  number : ℕ
  below : number < 2 ^ 64
  text : word ≡ decimal number
  gives : whole_value kind number ≡ Some value

in_range : (n limit : ℕ) (value : Value) → n < limit → cond (nat_lt n limit) (Some value) None ≡ Some value
in_range n limit value low = ap (λ (b : Bool). cond b (Some value) None) (lt-ltb n limit low)

of_kind : (kind other : Kind) (word : List ℕ) (value : Value) (n : ℕ) → kind ≡ other → n < 2 ^ 64 → word ≡ decimal n → whole_value kind n ≡ Some value → IsNumber other word value
of_kind kind other word value n same low is gives = record {
  number = n;
  below = low;
  text = is;
  gives = subst (λ (k : Kind). whole_value k n ≡ Some value) same gives;
}

other_kind : (kind other : Kind) (word : List ℕ) (value : Value) → is_whole kind ≡ false → kind ≡ other → is_whole other ≡ true → IsNumber other word value
other_kind kind other word value signed same whole = absurd (false≢true (sym signed ∙ (ap is_whole same ∙ whole)))

number_of : (kind : Kind) (word : List ℕ) (value : Value) → is_whole kind ≡ true → IsValue value → kind_of value ≡ kind → IsTextOf word value → IsNumber kind word value
unfolding value_text_of
number_of kind word (values.Byte n) whole low same is = of_kind kinds.Byte kind word (values.Byte n) n same (omega arith) is (in_range n (2 ^ 8) (values.Byte n) low)
number_of kind word (values.UInt16 n) whole low same is = of_kind kinds.UInt16 kind word (values.UInt16 n) n same (omega arith) is (in_range n (2 ^ 16) (values.UInt16 n) low)
number_of kind word (values.UInt32 n) whole low same is = of_kind kinds.UInt32 kind word (values.UInt32 n) n same (omega arith) is (in_range n (2 ^ 32) (values.UInt32 n) low)
number_of kind word (values.UInt64 n) whole low same is = of_kind kinds.UInt64 kind word (values.UInt64 n) n same low is refl
number_of kind word (values.Boolean x) whole low same is = other_kind kinds.Boolean kind word (values.Boolean x) refl same whole
number_of kind word (values.SByte x) whole low same is = other_kind kinds.SByte kind word (values.SByte x) refl same whole
number_of kind word (values.Int16 x) whole low same is = other_kind kinds.Int16 kind word (values.Int16 x) refl same whole
number_of kind word (values.Int32 x) whole low same is = other_kind kinds.Int32 kind word (values.Int32 x) refl same whole
number_of kind word (values.Int64 x) whole low same is = other_kind kinds.Int64 kind word (values.Int64 x) refl same whole
number_of kind word (values.Float x) whole low same is = other_kind kinds.Float kind word (values.Float x) refl same whole
number_of kind word (values.Double x) whole low same is = other_kind kinds.Double kind word (values.Double x) refl same whole
number_of kind word (values.String x) whole low same is = other_kind kinds.String kind word (values.String x) refl same whole
number_of kind word (values.DateTime x) whole low same is = other_kind kinds.DateTime kind word (values.DateTime x) refl same whole
number_of kind word (values.Guid x) whole low same is = other_kind kinds.Guid kind word (values.Guid x) refl same whole
number_of kind word (values.ByteString x) whole low same is = other_kind kinds.ByteString kind word (values.ByteString x) refl same whole
number_of kind word (values.StatusCode x) whole low same is = other_kind kinds.StatusCode kind word (values.StatusCode x) refl same whole

-- what isn't the text of a number is no text of such a value
pub no_number : (kind : Kind) (word : List ℕ) (value : Value) → is_whole kind ≡ true → ((n : ℕ) → n < 2 ^ 64 → word ≢ decimal n) → IsValue value → kind_of value ≡ kind → IsTextOf word value → ⊥
no_number kind word value whole none valid same is =
    let k = number_of kind word value whole valid same is in none k.number k.below k.text

same_number : (word : List ℕ) (n m : ℕ) → n < 2 ^ 64 → m < 2 ^ 64 → word ≡ decimal n → word ≡ decimal m → n ≡ m
same_number word n m low below is other =
    sym (decimal_is_IsNumeral n low).1 ∙ (ap (digits_value 10) (sym is ∙ other) ∙ (decimal_is_IsNumeral m below).1)

-- a number's text is one of no other value of the kind
pub one_number : (kind : Kind) (word : List ℕ) (n : ℕ) (value : Value) → is_whole kind ≡ true → n < 2 ^ 64 → word ≡ decimal n → IsValue value → kind_of value ≡ kind → IsTextOf word value → whole_value kind n ≡ Some value
one_number kind word n value whole low is valid same text =
    let k = number_of kind word value whole valid same text in
    ap (whole_value kind) (same_number word n k.number low k.below is k.text) ∙ k.gives
