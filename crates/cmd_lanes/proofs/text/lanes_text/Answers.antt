use Rattle.cmd_lanes.specs.Standing.{all_of}
use Rattle.cmd_lanes.proofs.Texts.{counted-number}
use Rattle.cmd_lanes.proofs.text.lanes_text.Goals as goal

pub returns-clause-numbers : goal.returns-clause-numbers
returns-clause-numbers c = λ deeds stand. record {
  groups = c.in_ok-put_groups.ensures.numbers deeds stand;
  all = counted-number (all_of c.args.ran.now.sent);
  failed = c.in_ok-put_totals.ensures.numbers.1;
}
