use Rattle.std.proofs.Common.{option_and_then, sym, ap, subst, ◌∙◌}
use Rattle.std.specs.Str.{IsUtf8}
use Rattle.ua_values.specs.Texts.{text_of}
use Rattle.json_frames.specs.Documents.{short_text}
use Rattle.json_frames.proofs.Values.{no_publisher}
use Rattle.json_frames.proofs.document.publisher_in.Goals as goal

pub returns-in-Err : goal.returns-in-Err
returns-in-Err c =
    let word = c.in_ok-text.text.now in
    let err = sym (ap text_of c.as_bytes.ensures.value) ∙ sym c.from_bytes.ensures ∙ c.in-Err.is in
    sym (no_publisher word _ (subst IsUtf8 c.as_bytes.ensures.value c.as_bytes.ensures.utf8) err)
    ∙ ap (option_and_then short_text) c.in_ok-text.ensures
