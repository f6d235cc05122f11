use Rattle.std.proofs.Common.{rules, List, sym, subst, ◌∙◌}
use Rattle.std.specs.Prelude.{All}
use Rattle.version_cell.specs.Known.{Known}
use Rattle.version_cell.specs.Sets.{ArePassesOf}
use Rattle.cases_cell.proofs.Kept.{hands_own}
use Rattle.cases_cell.proofs.banks.BankCase.new.Goals as goal

pub invariant_of-result : goal.invariant_of-result
invariant_of-result g c =
    let made = c.in-Ok.ensures in
    let bank = c.in-Ok.made.0 in
    record {
      metas = made.metas ∙ (search rules);
      own = subst (λ (hands : List (List Known)). All (ArePassesOf bank) hands) (sym c.in_ok-push.ensures.items) (hands_own bank _ _ made.hands made.own);
    }
