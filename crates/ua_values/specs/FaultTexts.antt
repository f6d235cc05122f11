-- What faults say of themselves.
use Rattle.std.specs.Prelude.{ℕ, List, codes}
use Rattle.ua_values.specs.declared.text.TextFault.{TextFault}
use Rattle.ua_values.specs.declared.text.TextFault.TheVariants.{TooLong, BadUtf8}

abbrev pub text_fault : TextFault → List ℕ
text_fault TooLong = codes "the text has more than 256 bytes: shorten it"
text_fault BadUtf8 = codes "the text isn't UTF-8: encode it anew, or use a ByteString"

abbrev pub blob_too_long : List ℕ
blob_too_long = codes "the ByteString has more than 256 bytes: shorten it"
