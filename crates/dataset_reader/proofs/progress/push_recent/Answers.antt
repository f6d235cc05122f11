use Rattle.std.proofs.Common.{◌≡◌, ◌≤◌, arith, length}
use Rattle.std.proofs.lemmas.Bool.Decides.{nat_tests}
use Rattle.dataset_reader.proofs.Notes.{reverse-fewer, reverse-full}
use Rattle.dataset_reader.proofs.progress.push_recent.Goals as goal
use Rattle.dataset_reader.proofs.progress.push_recent.Goals.{then-is_full, else-is_full}

pub returns : goal.returns
returns c =
    elim c.if-is_full.branch [
      | then-is_full w ↦
          let full : length c.args.recent.now.items ≡ 8 = grind (arith, nat_tests, c.is_full.ensures.value, w.if-is_full.true) in
          rw (c.push.ensures.items, w.recent-is, w.remove.ensures.items) (reverse-full c.args.recent.now.items c.args.found full)
      | else-is_full w ↦
          let few : length c.args.recent.now.items ≤ 7 = grind (arith, nat_tests, c.is_full.ensures, w.if-is_full.false) in
          rw (c.push.ensures.items, w.recent-is) (reverse-fewer c.args.recent.now.items c.args.found few)
    ]
