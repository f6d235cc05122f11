-- What std's check of a text answers.
use Rattle.std.proofs.Common.{◌≡◌, ℕ, Bool, true, false, List, Some, None, Ok, Err, refl}
use Rattle.std.specs.Prelude.{if◌then◌else◌}
use Rattle.std.specs.Str.{IsUtf8, is_utf8}
use Rattle.std.proofs.lemmas.Str.{IsUtf8-from_is_utf8, is_utf8-from_IsUtf8}
use Rattle.uadp_header.specs.declared.fault.HeaderFault.TheVariants.{BadId}
use Rattle.uadp_header.specs.Formats.{passing}
use Rattle.uadp_header.specs.Steps.{as_text}

-- a text
pub utf8_text : (bytes : List ℕ) → IsUtf8 bytes → Ok bytes ≡ as_text bytes
utf8_text bytes utf8 = rw (is_utf8-from_IsUtf8 bytes utf8) refl

bad_or : (bytes : List ℕ) (b : Bool) → is_utf8 bytes ≡ b → ¬ (IsUtf8 bytes) → Err BadId ≡ passing (if b then None else Some BadId) (Ok bytes)
bad_or bytes true is isnt = absurd (isnt (IsUtf8-from_is_utf8 bytes is))
bad_or bytes false is isnt = refl

-- and no text
pub bad_text : (bytes : List ℕ) → ¬ (IsUtf8 bytes) → Err BadId ≡ as_text bytes
bad_text bytes isnt = bad_or bytes (is_utf8 bytes) refl isnt
