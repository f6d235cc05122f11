-- The JSON value of bytes, and a publisher's text.
use Rattle.std.proofs.Common.{◌≡◌, ℕ, List, length, cond, Bool, true, false, Some, None, Ok, Err, refl, sym, ap, ◌∙◌}
use Rattle.std.specs.Prelude.{nat_lt}
use Rattle.std.specs.Str.{IsUtf8, is_utf8}
use Rattle.std.proofs.lemmas.Str.{IsUtf8-from_is_utf8, is_utf8-from_IsUtf8}
use Rattle.serde_json.specs.Data.{Data}
use Rattle.serde_json.specs.Read.{read}
use Rattle.ua_values.specs.Texts.{text_of}
use Rattle.ua_values.specs.declared.text.TextFault.{TextFault}
use Rattle.json_frames.specs.Documents.{value_of, short_text}

pub a_value : (bytes : List ℕ) (d : Data) → IsUtf8 bytes → read bytes ≡ Some d → value_of bytes ≡ Some d
a_value bytes d utf8 is = ap (λ (b : Bool). cond b (read bytes) None) (is_utf8-from_IsUtf8 bytes utf8) ∙ is

not_read : (bytes : List ℕ) (b : Bool) → is_utf8 bytes ≡ b → (IsUtf8 bytes → read bytes ≡ None) → cond b (read bytes) None ≡ None
not_read bytes true e none = none (IsUtf8-from_is_utf8 bytes e)
not_read bytes false e none = refl

pub no_value_of : (bytes : List ℕ) → (IsUtf8 bytes → read bytes ≡ None) → value_of bytes ≡ None
no_value_of bytes none = not_read bytes (is_utf8 bytes) refl none

too_long : (text : List ℕ) (b : Bool) (e : TextFault) → IsUtf8 text → nat_lt 256 (length text) ≡ b → text_of text ≡ Err e → cond b None (Some text) ≡ None
too_long text true e utf8 is err = refl
too_long text false e utf8 is err =
    let ok : text_of text ≡ Ok text = rw (is, is_utf8-from_IsUtf8 text utf8) refl in
    let same : Err e ≡ Ok text = sym err ∙ ok in
    absurd cc

pub no_publisher : (text : List ℕ) (e : TextFault) → IsUtf8 text → text_of text ≡ Err e → short_text text ≡ None
no_publisher text e utf8 err = too_long text (nat_lt 256 (length text)) e utf8 refl err
