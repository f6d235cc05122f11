use Rattle.std.proofs.Common.{◌≡◌, Some, Ok, sym, ap, ◌∙◌}
use Rattle.std.proofs.lemmas.Option.{none-some, same_Some}
use Rattle.uuid.specs.Parts.{swap_fields}
use Rattle.uuid.specs.Text.{parsed}
use Rattle.uuid.proofs.RoundTrips.{parse_gives, swap_twice}
use Rattle.value_texts.proofs.TextLaws.{guid_parses}
use Rattle.value_texts.proofs.candidate.guid.Goals as goal

pub returns-in_err-id : goal.returns-in_err-id
returns-in_err-id c = λ bytes len all is.
    let r : c.try_parse_ascii.result ≡ Ok (swap_fields bytes) = parse_gives c.try_parse_ascii.result c.args.word.now (swap_fields bytes) c.try_parse_ascii.ensures.ok c.try_parse_ascii.ensures.bytes (guid_parses bytes all ∙ ap parsed (sym is)) in
    let o : c.ok.result ≡ Some (swap_fields bytes) = rw r at c.ok.ensures.value in
    absurd (none-some (swap_fields bytes) (sym c.in_err-id.was ∙ o))

pub returns : goal.returns
returns c = λ bytes len all is.
    let r : c.try_parse_ascii.result ≡ Ok (swap_fields bytes) = parse_gives c.try_parse_ascii.result c.args.word.now (swap_fields bytes) c.try_parse_ascii.ensures.ok c.try_parse_ascii.ensures.bytes (guid_parses bytes all ∙ ap parsed (sym is)) in
    let o : c.ok.result ≡ Some (swap_fields bytes) = rw r at c.ok.ensures.value in
    let id : c.in_ok-id.id ≡ swap_fields bytes = same_Some c.in_ok-id.id (swap_fields bytes) (sym c.in_ok-id.was ∙ o) in
    ap Some (c.to_bytes_le.ensures ∙ ap swap_fields id ∙ swap_twice bytes len)
