use Rattle.std.proofs.Common.{◌≡◌, ◌<◌, List, Some, None, length, sym, subst, ◌∙◌, arith}
use Rattle.version_cell.specs.Known.{Known}
use Rattle.version_cell.specs.Cells.{CellData, IsCell}
use Rattle.version_cell.specs.Sets.{ArePassesOf}
use Rattle.version_cell.proofs.Each.{new_own, new_passes-push}
use Rattle.target_cells.specs.Keeping.{AreKeepers, keeper_quotas}
use Rattle.target_cells.proofs.Keepers.{each_push, metas_push, new_keepers}
use Rattle.target_cells.proofs.targets.Targets.new.Goals as goal

pub invariant_of-result-2 : goal.invariant_of-result-2
invariant_of-result-2 g c = subst (λ (l : List Known). AreKeepers l) (sym c.loop-k.invariant.stores) (new_keepers c.args.limit c.loop-k.cells.items c.loop-k.invariant.quotas)

pub returns-clause-own : goal.returns-clause-own
returns-clause-own g c =
    let i = c.loop-k.invariant in
    let cells = c.loop-k.cells.items in
    (subst (ArePassesOf cells) (sym i.stores) (new_own cells (Some 0)), subst (ArePassesOf cells) (sym i.looks) (new_own cells None))

pub loop-k-preserved : goal.loop-k-preserved
loop-k-preserved g c =
    let i = c.loop-k.invariant in
    let cells = c.loop-k.cells.items in
    let more = c.push.new.self.items in
    let cell = c.in_ok-cell.cell in
    let pushed = c.in_ok-push.ensures.items in
    let within = c.loop-k-test.true in
    let made = c.in_ok-cell.ensures in
    record {
      metas = metas_push c.args.metas.now c.args.readers.now c.loop-k.k c.from.result _ _ cells more cell pushed i.metas made.meta c.index-metas-from.is within c.from.ensures
          (subst (λ set. set < length c.args.metas.now) (sym c.from.ensures) (c.requires.readers c.loop-k.k _ within));
      cells = each_push IsCell cells more cell pushed i.cells made.cell;
      quotas = each_push (λ (d : CellData). d.quotas ≡ keeper_quotas c.args.limit) cells more cell pushed i.quotas made.quotas;
      stores = new_passes-push cells more cell (Some 0) c.loop-k.stores.items _ c.remove.result pushed c.in_ok-push-2.ensures.items i.stores (c.remove.ensures.value ∙ made.numbered.each 0 _ (omega arith));
      looks = new_passes-push cells more cell None c.loop-k.looks.items _ c.in_ok-cell.look pushed c.in_ok-push-3.ensures.items i.looks made.first;
    }
