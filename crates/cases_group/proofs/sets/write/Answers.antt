use Rattle.std.proofs.Common.{sym, subst, get_or, arith}
use Rattle.row_words.specs.Belonging.{Belongs}
use Rattle.cases_group.proofs.Rows.{zip-at, zip-set}
use Rattle.cases_group.proofs.sets.write.Goals as goal

pub written-requires : goal.written-requires
written-requires c =
    let sets = c.args.sets.now in
    let rows = c.args.rows.now.items in
    let i = c.args.set in
    let meta = c.meta_at.result.now in
    let old = c.sampled_at-old.result in
    subst (λ m. Belongs m old.row.words) (sym c.meta_at.ensures)
    (subst (λ s. Belongs (get_or sets i meta) s.row.words) (sym c.sampled_at-old.ensures)
    (zip-at (λ m s. Belongs m s.row.words) sets rows i meta old c.requires (omega arith)))

pub returns : goal.returns
returns c =
    let sets = c.args.sets.now in
    let meta = c.meta_at.result.now in
    zip-set (λ m s. Belongs m s.row.words) sets c.args.rows.now.items c.args.set meta _ c.requires (omega arith)
    (subst (λ m. Belongs m c.in_ok-row.row.words) c.meta_at.ensures c.in_ok-row.ensures)
