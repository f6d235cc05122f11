use Rattle.std.proofs.Common.{◌≡◌, Some, refl, ap, ◌∙◌, sym}
use Rattle.std.proofs.lemmas.Option.{none-some, same_Some}
use Rattle.std.specs.Int.{w32, to_be_bytes, from_be_bytes}
use Rattle.std.proofs.lemmas.Nat.{from_be_bytes-to_be_bytes_4}
use Rattle.value_texts.proofs.TextLaws.{small_32}
use Rattle.value_texts.proofs.candidate.bits_32.Goals as goal

pub returns-in_err-bytes : goal.returns-in_err-bytes
returns-in_err-bytes c = λ bits low is.
    let e : c.fixed_bytes.result ≡ Some (to_be_bytes w32 bits) = c.fixed_bytes.ensures (to_be_bytes w32 bits) refl (small_32 bits) is in
    absurd (none-some (to_be_bytes w32 bits) (sym c.in_err-bytes.was ∙ e))

pub returns : goal.returns
returns c = λ bits low is.
    let e : c.fixed_bytes.result ≡ Some (to_be_bytes w32 bits) = c.fixed_bytes.ensures (to_be_bytes w32 bits) refl (small_32 bits) is in
    let b : c.in_ok-bytes.bytes ≡ to_be_bytes w32 bits = same_Some c.in_ok-bytes.bytes (to_be_bytes w32 bits) (sym c.in_ok-bytes.was ∙ e) in
    ap Some (c.from_be_bytes.ensures ∙ ap (from_be_bytes w32) b ∙ from_be_bytes-to_be_bytes_4 bits low)
