use Rattle.std.proofs.Common.{set, sym, subst, get_or, ◌∙◌, arith}
use Rattle.row_words.specs.Belonging.{Belongs}
use Rattle.writer_group.specs.declared.sampled.Sampled.{Sampled}
use Rattle.cases_group.specs.Kept.{AreRows, GrowsAt}
use Rattle.cases_group.proofs.Longer.{grows}
use Rattle.cases_group.proofs.Rows.{zip-at, zip-both}
use Rattle.cases_group.proofs.growth.grown_sets.Goals as goal

pub grown_row-requires : goal.grown_row-requires
grown_row-requires c =
    let sets = c.args.sets.now in
    let rows = c.args.samples.now.items in
    let short = c.meta_at-short.result.now in
    let old = c.sampled_at-old.result in
    subst (λ m. Belongs m old.row.words) (sym c.meta_at-short.ensures)
    (subst (λ s. Belongs (get_or sets c.args.set short) s.row.words) (sym c.sampled_at-old.ensures)
    (zip-at (λ m s. Belongs m s.row.words) sets rows c.args.set short old c.requires (omega arith)))

pub returns-clause-grows : goal.returns-clause-grows
returns-clause-grows c =
    let sets = c.args.sets.now in
    subst (λ metas. GrowsAt c.args.set sets (set metas c.args.set c.in-Some.long)) (sym c.in_ok-metas.ensures) (grows sets c.args.set c.in-Some.long)

pub returns-clause-rows : goal.returns-clause-rows
returns-clause-rows c =
    let k = c.args.set in
    let long = c.in-Some.long in
    let row : Sampled = record { row = c.in_ok-row.row; version = c.sampled_at-old.result.version } in
    subst (λ metas. AreRows (set metas k long) (set c.in_ok-rows.rows.items k row)) (sym c.in_ok-metas.ensures)
    (subst (λ rows. AreRows (set c.args.sets.now k long) (set rows k row)) (sym (c.in_ok-rows.ensures ∙ c.deref.ensures.value))
    (zip-both (λ m s. Belongs m s.row.words) c.args.sets.now c.args.samples.now.items k long row c.requires c.in_ok-row.ensures))
