use Rattle.std.proofs.Common.{◌≡◌, refl, arith}
use Rattle.ps_report.specs.Words.{cause_words}
use Rattle.ps_report.proofs.causes.cause_word.Goals as goal

pub returns-in_default : goal.returns-in_default
unfolding cause_words
returns-in_default c = let last : c.args.place ≡ 19 = omega arith in rw last refl
