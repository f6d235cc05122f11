use Rattle.version_cell.proofs.Retries.{made_later, made_one}
use Rattle.version_cell.proofs.laws.own_entries_are_those_made.Goals as goal

pub returns : goal.returns
returns c = record {
  others = λ old new author more is. more.own_same author is;
  made = made_one;
  later = λ cell patch old new author made is. made_later cell patch old new author made is;
}
