use Rattle.std.proofs.Common.{refl}
use Rattle.version_cell.proofs.Keeps.{opens, reads, closes, tries, enrols, copies, moves, merges}
use Rattle.version_cell.proofs.Stores.{stores}
use Rattle.version_cell.proofs.laws.steps_keep_the_rule.Goals as goal

pub returns : goal.returns
returns c = record {
  opening = λ terms wide. opens terms _ wide refl;
  load = reads;
  closing_load = closes;
  write = λ pass author v terms row may. tries pass v author terms row _ _ may.numbered may.settled may.knows may.belongs may.left refl refl;
  store = λ pass v terms row may. stores pass v terms row _ may refl;
  enrolment = λ pass v terms may. enrols pass v terms _ _ may.settled may.knows may.room refl refl;
  split = copies;
  moving = moves;
  join = λ pass other v w. merges pass v other w;
}
