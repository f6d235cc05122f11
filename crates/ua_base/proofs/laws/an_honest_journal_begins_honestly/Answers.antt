use Rattle.ua_base.proofs.Parts.{IsHonest-append}
use Rattle.ua_base.proofs.laws.an_honest_journal_begins_honestly.Goals as goal

pub returns : goal.returns
returns c = IsHonest-append
