use Rattle.std.proofs.lemmas.List.Elements.{All-set}
use Rattle.version_cell.specs.Sets.{ArePassesOf}
use Rattle.cases_cell.proofs.Kept.{all_front}
use Rattle.cases_cell.proofs.targets.TargetsCase.join.Goals as goal

pub invariant_of-self-2 : goal.invariant_of-self-2
invariant_of-self-2 g c =
    let i = c.self.invariant in
    let own = ArePassesOf c.self.inside.targets.cells in
    let rest = c.pop.new.self.items in
    record {
      metas = i.metas;
      readers = i.readers;
      keeper = i.keeper;
      count = i.count;
      watches = All-set own rest c.args.place c.join.new.passes c.join.ensures.own (all_front own c.self.inside.watches.items rest c.in-Some.other c.in-Some.ensures.items i.watches);
      limit = i.limit;
    }
