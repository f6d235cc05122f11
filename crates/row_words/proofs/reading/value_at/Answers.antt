use Rattle.std.proofs.Common.{◌∙◌}
use Rattle.row_words.proofs.ValueLaws.{text_spelled, blob_spelled, guid_spelled}
use Rattle.row_words.proofs.reading.value_at.Goals as goal

pub text_at-requires-clause-words : goal.text_at-requires-clause-words
text_at-requires-clause-words c =
    let r = c.requires in rw r.spelled (text_spelled r.cap r.value r.small r.is_value r.fits.within (r.fits.same_kind ∙ c.in-String.is)).0

pub text_at-requires-clause-text : goal.text_at-requires-clause-text
text_at-requires-clause-text c =
    let r = c.requires in rw r.spelled (text_spelled r.cap r.value r.small r.is_value r.fits.within (r.fits.same_kind ∙ c.in-String.is)).1

pub blob_at-requires : goal.blob_at-requires
blob_at-requires c =
    let r = c.requires in rw r.spelled (blob_spelled r.cap r.value r.small r.fits.within (r.fits.same_kind ∙ c.in-ByteString.is))

pub guid_at-requires : goal.guid_at-requires
guid_at-requires c =
    let r = c.requires in rw r.spelled (guid_spelled r.cap r.value (r.fits.same_kind ∙ c.in-Guid.is))
