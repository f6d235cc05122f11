use Rattle.std.proofs.Common.{rules, ◌≡◌, ℕ, ◌<◌, length, get_or, sym, ap, ◌∙◌, subst}
use Rattle.dataset_meta.specs.Metas.{MetaData}
use Rattle.row_words.specs.Belonging.{Belongs}
use Rattle.cases_cell.proofs.Kept.{meta_of_reader}
use Rattle.cases_cell.proofs.targets.TargetsCase.store.Goals as goal

pub store-requires-clause-row : goal.store-requires-clause-row
store-requires-clause-row g c =
    let i = c.self.invariant in
    let metas = c.self.inside.metas.items in
    let readers = c.self.inside.readers.items in
    let reader = c.in_ok-reader.reader in
    let meta = c.index-2.result.now in
    let within : reader < length readers = search rules in
    let set_is : c.from-set.result ≡ get_or readers reader c.index.result.now = search rules in
    let meta_is : meta ≡ get_or metas c.from-set.result meta = search rules in
    let is = meta_of_reader c.self.inside.targets.cells metas readers reader c.index.result.now meta i.metas within (i.readers reader c.index.result.now within) in
    subst (λ (m : MetaData). Belongs m c.in_ok-row.row.words) (sym (is ∙ ap (λ (s : ℕ). get_or metas s meta) (sym set_is) ∙ sym meta_is)) c.in_ok-row.ensures
