-- Values that stand in JSON as their texts.
use Rattle.std.proofs.Common.{◌≡◌, ℕ, List, Bool, true, false, Option, Some, None, IfSome, sym, ap, ◌∙◌}
use Rattle.std.proofs.lemmas.Bool.{false≢true}
use Rattle.serde_json.specs.Data.{Data}
use Rattle.serde_json.specs.Find.{as_str}
use Rattle.ua_values.specs.declared.kind.Kind.{Kind}
use Rattle.ua_values.specs.declared.value.Value.{Value}
use Rattle.ua_values.specs.declared.value.Value.TheVariants as values
use Rattle.ua_values.specs.Values.{kind_of, Fits}
use Rattle.value_texts.specs.Texts.{value_text_of}
use Rattle.value_texts.specs.Spelling.{IsTextOf}
use Rattle.json_values.specs.Reading.{is_spelled, StandsFor}
use Rattle.std.proofs.lemmas.Option.{same_Some}

other : (b : Bool) → b ≡ true → false ≡ b → ⊥
other b one none = false≢true (none ∙ one)

-- what is read of the text
pub spelled_found : (d : Data) (word : List ℕ) (kind : Kind) (value : Value) → is_spelled kind ≡ true → kind_of value ≡ kind → as_str d ≡ Some word
    → IsTextOf word value → StandsFor d value
unfolding value_text_of
spelled_found d word kind (values.Int64 n) spelled same text is = text ∙ ap Some is
spelled_found d word kind (values.UInt64 n) spelled same text is = text ∙ ap Some is
spelled_found d word kind (values.Float bits) spelled same text is = text ∙ ap Some is
spelled_found d word kind (values.Double bits) spelled same text is = text ∙ ap Some is
spelled_found d word kind (values.DateTime n) spelled same text is = text ∙ ap Some is
spelled_found d word kind (values.Guid bytes) spelled same text is = text ∙ ap Some is
spelled_found d word kind (values.Boolean b) spelled same text is = absurd (other _ spelled (ap is_spelled same))
spelled_found d word kind (values.SByte b) spelled same text is = absurd (other _ spelled (ap is_spelled same))
spelled_found d word kind (values.Byte b) spelled same text is = absurd (other _ spelled (ap is_spelled same))
spelled_found d word kind (values.Int16 b) spelled same text is = absurd (other _ spelled (ap is_spelled same))
spelled_found d word kind (values.UInt16 b) spelled same text is = absurd (other _ spelled (ap is_spelled same))
spelled_found d word kind (values.Int32 b) spelled same text is = absurd (other _ spelled (ap is_spelled same))
spelled_found d word kind (values.UInt32 b) spelled same text is = absurd (other _ spelled (ap is_spelled same))
spelled_found d word kind (values.String b) spelled same text is = absurd (other _ spelled (ap is_spelled same))
spelled_found d word kind (values.ByteString b) spelled same text is = absurd (other _ spelled (ap is_spelled same))
spelled_found d word kind (values.StatusCode b) spelled same text is = absurd (other _ spelled (ap is_spelled same))

text_is : (d : Data) (word text : List ℕ) → as_str d ≡ Some word → as_str d ≡ Some text → word ≡ text
text_is d word text at is = same_Some word text (sym at ∙ is)

-- what stands for the value is its text
pub spelled_every : (d : Data) (word : List ℕ) (kind : Kind) (value : Value) → is_spelled kind ≡ true → kind_of value ≡ kind → as_str d ≡ Some word
    → StandsFor d value → IsTextOf word value
unfolding value_text_of
spelled_every d word kind (values.Int64 n) spelled same text is = text_is d word _ text is
spelled_every d word kind (values.UInt64 n) spelled same text is = text_is d word _ text is
spelled_every d word kind (values.Float bits) spelled same text is = text_is d word _ text is
spelled_every d word kind (values.Double bits) spelled same text is = text_is d word _ text is
spelled_every d word kind (values.DateTime n) spelled same text is = text_is d word _ text is
spelled_every d word kind (values.Guid bytes) spelled same text is = text_is d word _ text is
spelled_every d word kind (values.Boolean b) spelled same text is = absurd (other _ spelled (ap is_spelled same))
spelled_every d word kind (values.SByte b) spelled same text is = absurd (other _ spelled (ap is_spelled same))
spelled_every d word kind (values.Byte b) spelled same text is = absurd (other _ spelled (ap is_spelled same))
spelled_every d word kind (values.Int16 b) spelled same text is = absurd (other _ spelled (ap is_spelled same))
spelled_every d word kind (values.UInt16 b) spelled same text is = absurd (other _ spelled (ap is_spelled same))
spelled_every d word kind (values.Int32 b) spelled same text is = absurd (other _ spelled (ap is_spelled same))
spelled_every d word kind (values.UInt32 b) spelled same text is = absurd (other _ spelled (ap is_spelled same))
spelled_every d word kind (values.String b) spelled same text is = absurd (other _ spelled (ap is_spelled same))
spelled_every d word kind (values.ByteString b) spelled same text is = absurd (other _ spelled (ap is_spelled same))
spelled_every d word kind (values.StatusCode b) spelled same text is = absurd (other _ spelled (ap is_spelled same))

-- what is read of the text, where anything is
pub spelled_answer : (r : Option Value) (d : Data) (word : List ℕ) (kind : Kind) (cap : ℕ) → is_spelled kind ≡ true → as_str d ≡ Some word
    → IfSome r (IsTextOf word) → IfSome r (λ value. Fits value kind cap) → IfSome r (StandsFor d)
spelled_answer None d word kind cap spelled text found fits = tt
spelled_answer (Some value) d word kind cap spelled text found fits = spelled_found d word kind value spelled fits.same_kind text found
