-- There are 20 causes.
use Rattle.std.proofs.Common.{◌≡◌, length, refl}
use Rattle.ps_report.specs.Words.{cause_words}

pub twenty : length cause_words ≡ 20
unfolding cause_words
twenty = refl
