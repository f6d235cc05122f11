use Rattle.std.proofs.lemmas.List.Elements.{All-set}
use Rattle.version_cell.specs.Sets.{ArePassesOf}
use Rattle.cases_cell.proofs.Kept.{all_front}
use Rattle.cases_cell.proofs.banks.BankCase.join.Goals as goal

pub invariant_of-self-2 : goal.invariant_of-self-2
invariant_of-self-2 g c =
    let own = ArePassesOf c.self.inside.bank in
    let rest = c.pop.new.self.items in
    record {
      metas = c.self.invariant.metas;
      own = All-set own rest c.args.place c.join.new.passes c.join.ensures.own (all_front own c.self.inside.hands.items rest c.in-Some.other c.in-Some.ensures.items c.self.invariant.own);
    }
