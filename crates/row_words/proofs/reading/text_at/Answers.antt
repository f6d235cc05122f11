use Rattle.std.proofs.Common.{ap, ◌∙◌, sym}
use Rattle.ua_values.specs.Texts.{text_of}
use Rattle.row_words.proofs.Loops.{bytes_read}
use Rattle.row_words.proofs.ValueLaws.{text_of-text}
use Rattle.row_words.proofs.reading.text_at.Goals as goal

pub unreachable-requires : goal.unreachable-requires
unreachable-requires c =
    let read = ap text_of (bytes_read c.args.words.now c.unpack.new.bytes c.requires.words c.unpack.ensures.front) ∙ text_of-text _ c.requires.text in
    let result = c.from_bytes.ensures ∙ read in
    c.in_default.not-Ok _ result

pub returns : goal.returns
returns c =
    let read = ap text_of (bytes_read c.args.words.now c.unpack.new.bytes c.requires.words c.unpack.ensures.front) ∙ text_of-text _ c.requires.text in
    let result = sym c.in-Ok.is ∙ c.from_bytes.ensures ∙ read in
    cc
