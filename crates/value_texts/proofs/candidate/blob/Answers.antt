use Rattle.std.proofs.Common.{◌≡◌, ◌*◌, ◌≤◌, length, ap, sym, ◌∙◌, arith}
use Rattle.std.specs.Prelude.{codes}
use Rattle.std.specs.Result.{result_ok}
use Rattle.std.proofs.lemmas.Bool.{false≢true}
use Rattle.std.proofs.lemmas.Bool.Decides.{Decides-eqb}
use Rattle.std.proofs.lemmas.Grind.{common_steps}
use Rattle.std.proofs.lemmas.Slice.Eq.{strip_prefix_is}
use Rattle.ua_values.specs.Blobs.{blob_of}
use Rattle.value_texts.proofs.Candidates.{digits_behind, no_digits, length_digits, blob_short}
use Rattle.value_texts.proofs.candidate.blob.Goals as goal

pub returns-in_err-digits : goal.returns-in_err-digits
returns-in_err-digits c = λ bytes short is.
    absurd (no_digits c.args.word.now c.strip_prefix.result bytes c.in_err-digits.was
    (strip_prefix_is Decides-eqb c.args.word.now (codes "0x") c.strip_prefix.result c.strip_prefix.ensures.cases) is)

pub returns-then-count-gt256 : goal.returns-then-count-gt256
returns-then-count-gt256 c = λ bytes short is.
    let d = digits_behind c.args.word.now c.strip_prefix.result c.in_ok-digits.digits bytes c.in_ok-digits.was
    (strip_prefix_is Decides-eqb c.args.word.now (codes "0x") c.strip_prefix.result c.strip_prefix.ensures.cases) is in
    let len : length c.in_ok-digits.digits.now ≡ 2 * length bytes = length_digits c.in_ok-digits.digits.now bytes d in
    let most : length bytes ≤ 256 = short.at_most_256 in
    absurd (omega arith)

pub returns-then-decoded : goal.returns-then-decoded
returns-then-decoded c = λ bytes short is.
    let d = digits_behind c.args.word.now c.strip_prefix.result c.in_ok-digits.digits bytes c.in_ok-digits.was
    (strip_prefix_is Decides-eqb c.args.word.now (codes "0x") c.strip_prefix.result c.strip_prefix.ensures.cases) is in
    let len : length c.in_ok-digits.digits.now ≡ 2 * length bytes = length_digits c.in_ok-digits.digits.now bytes d in
    let h = c.decoded.ensures bytes (grind (arith, common_steps)) short.in_range d in
    c.ok.ensures.value ∙ ap result_ok (c.from_bytes.ensures ∙ ap blob_of h.1 ∙ blob_short bytes short)

pub returns-else-decoded : goal.returns-else-decoded
returns-else-decoded c = λ bytes short is.
    let d = digits_behind c.args.word.now c.strip_prefix.result c.in_ok-digits.digits bytes c.in_ok-digits.was
    (strip_prefix_is Decides-eqb c.args.word.now (codes "0x") c.strip_prefix.result c.strip_prefix.ensures.cases) is in
    let len : length c.in_ok-digits.digits.now ≡ 2 * length bytes = length_digits c.in_ok-digits.digits.now bytes d in
    let h = c.decoded.ensures bytes (grind (arith, common_steps)) short.in_range d in
    absurd (false≢true (sym c.if-decoded.false ∙ h.0))
