use Rattle.std.proofs.Common.{◌<◌, List, Some, None, sym, subst, ◌∙◌}
use Rattle.std.specs.Prelude.{All}
use Rattle.std.proofs.lemmas.List.Elements.{All-push}
use Rattle.version_cell.specs.Cells.{CellData, IsCell}
use Rattle.version_cell.specs.Known.{nothing}
use Rattle.version_cell.specs.Sets.{ArePassesOf}
use Rattle.version_cell.proofs.Each.{map_more_of, new_own, new_passes-push}
use Rattle.cell_bank.proofs.bank.Bank.new.Goals as goal

pub loop-set-preserved : goal.loop-set-preserved
loop-set-preserved g c =
    let i = c.loop-set.invariant in
    let cells = c.loop-set.cells.items in
    let more = c.push.new.self.items in
    let cell = c.in_ok-cell.cell in
    let pushed = c.in_ok-push.ensures.items in
    let within = c.loop-set-test.true in
    record {
      cells = subst (λ (l : List CellData). All IsCell l) (sym pushed) (All-push IsCell cells cell i.cells c.in_ok-cell.ensures.cell);
      metas = map_more_of (λ d. d.meta) cells more cell c.args.metas.now c.loop-set.set _ pushed i.metas (c.in_ok-cell.ensures.meta ∙ c.index-metas-set.is) within;
      quotas = map_more_of (λ d. d.quotas) cells more cell c.args.quotas.now c.loop-set.set _ pushed i.quotas c.in_ok-cell.ensures.quotas (subst (λ n. c.loop-set.set < n) (sym c.requires.count) within);
      first = new_passes-push cells more cell None c.loop-set.items.items _ c.in_ok-cell.first pushed c.in_ok-push-2.ensures.items i.first c.in_ok-cell.ensures.first;
      eight = c.in_ok-hand_out.ensures.count ∙ i.eight;
      each = λ t lt. new_passes-push cells more cell (Some t) _ _ _ pushed (c.in_ok-hand_out.ensures.each t (subst (λ n. t < n) (sym i.eight) lt)) (i.each t lt) (c.in_ok-cell.ensures.numbered.each t nothing lt);
    }

pub returns-clause-own : goal.returns-clause-own
returns-clause-own g c = subst (ArePassesOf c.loop-set.cells.items) (sym c.loop-set.invariant.first) (new_own c.loop-set.cells.items None)

pub returns-clause-hands : goal.returns-clause-hands
returns-clause-hands g c =
    let i = c.loop-set.invariant in
    let cells = c.loop-set.cells.items in
    record { eight = i.eight; each = i.each; own = λ t lt. subst (ArePassesOf cells) (sym (i.each t lt)) (new_own cells (Some t)) }
