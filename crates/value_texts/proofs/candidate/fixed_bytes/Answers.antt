use Rattle.std.proofs.Common.{List, ℕ, ap, ◌∙◌}
use Rattle.std.specs.Prelude.{codes}
use Rattle.std.specs.Result.{result_ok}
use Rattle.std.proofs.lemmas.Bool.Decides.{Decides-eqb}
use Rattle.std.proofs.lemmas.Slice.Eq.{strip_prefix_is}
use Rattle.hex.specs.Hex.{decode_sized}
use Rattle.hex.proofs.HexLemmas.{decode_sized-encode_lower}
use Rattle.value_texts.proofs.Candidates.{digits_behind, no_digits}
use Rattle.value_texts.proofs.TextLaws.{bytes_from_All}
use Rattle.value_texts.proofs.candidate.fixed_bytes.Goals as goal

pub returns-in_err-digits : goal.returns-in_err-digits
returns-in_err-digits g c = λ bytes len all is.
    absurd (no_digits c.args.word.now c.strip_prefix.result bytes c.in_err-digits.was
    (strip_prefix_is Decides-eqb c.args.word.now (codes "0x") c.strip_prefix.result c.strip_prefix.ensures.cases) is)

pub returns : goal.returns
returns g c = λ bytes len all is.
    let digits = digits_behind c.args.word.now c.strip_prefix.result c.in_ok-digits.digits bytes c.in_ok-digits.was
    (strip_prefix_is Decides-eqb c.args.word.now (codes "0x") c.strip_prefix.result c.strip_prefix.ensures.cases) is in
    c.ok.ensures.value
    ∙ ap result_ok (c.from_hex.ensures ∙ ap (λ (l : List ℕ). decode_sized l g.row.N) digits ∙ decode_sized-encode_lower bytes g.row.N len (bytes_from_All bytes all))
