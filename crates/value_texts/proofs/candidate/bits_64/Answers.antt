use Rattle.std.proofs.Common.{◌≡◌, Some, refl, ap, ◌∙◌, sym}
use Rattle.std.proofs.lemmas.Option.{none-some, same_Some}
use Rattle.std.specs.Int.{w64, to_be_bytes, from_be_bytes}
use Rattle.std.proofs.lemmas.Nat.{from_be_bytes-to_be_bytes_8}
use Rattle.value_texts.proofs.TextLaws.{small_64}
use Rattle.value_texts.proofs.candidate.bits_64.Goals as goal

pub returns-in_err-bytes : goal.returns-in_err-bytes
returns-in_err-bytes c = λ bits low is.
    let e : c.fixed_bytes.result ≡ Some (to_be_bytes w64 bits) = c.fixed_bytes.ensures (to_be_bytes w64 bits) refl (small_64 bits) is in
    absurd (none-some (to_be_bytes w64 bits) (sym c.in_err-bytes.was ∙ e))

pub returns : goal.returns
returns c = λ bits low is.
    let e : c.fixed_bytes.result ≡ Some (to_be_bytes w64 bits) = c.fixed_bytes.ensures (to_be_bytes w64 bits) refl (small_64 bits) is in
    let b : c.in_ok-bytes.bytes ≡ to_be_bytes w64 bits = same_Some c.in_ok-bytes.bytes (to_be_bytes w64 bits) (sym c.in_ok-bytes.was ∙ e) in
    ap Some (c.from_be_bytes.ensures ∙ ap (from_be_bytes w64) b ∙ from_be_bytes-to_be_bytes_8 bits low)
