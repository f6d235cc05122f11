use Rattle.std.proofs.Common.{rules, ◌≡◌, false, List, ℕ, sym, ap, subst, ◌∙◌, nat_eq}
use lib.Pointwise.{pointwise}
use Rattle.crossbeam_utils.specs.Seq.{cell_view}
use Rattle.version_cell.specs.Spellings.{words_of}
use Rattle.version_cell.specs.Widths.{widened}
use Rattle.version_cell.proofs.Strips.{same_answer, turns_beginning}
use Rattle.version_cell.proofs.cut.exchange_in.Goals as goal

pub compare_exchange_as-requires : goal.compare_exchange_as-requires
compare_exchange_as-requires g c =
    let p = c.args.seat.now in
    let current : List ℕ = words_of c.args.current.now in
    let new : List ℕ = words_of c.args.new.now in
    let is : widened g.row.N c.first.result ≡ current = ap (widened g.row.N) c.first.ensures ∙ sym c.requires.current in
    let is_new : widened g.row.N c.first-2.result ≡ new = ap (widened g.row.N) c.first-2.ensures ∙ sym c.requires.new in
    (search rules, (search rules, (c.requires.own, turns_beginning g.row.N p.id (cell_view p) c.first.result c.first-2.result current new g.M.Outcome.then is is_new c.requires.rule)))

pub returns-in-Err-clause-told : goal.returns-in-Err-clause-told
returns-in-Err-clause-told g c =
    let r = c.in-Err.ensures.rule in
    let current : List ℕ = words_of c.args.current.now in
    let is : widened g.row.N c.first.result ≡ current = ap (widened g.row.N) c.first.ensures ∙ sym c.requires.current in
    subst (λ (x : List ℕ). (pointwise nat_eq x current ≡ false) × g.M.Outcome.then (cell_view c.args.seat.now) x x (cell_view c.compare_exchange_as.new.pass)) (sym c.wide.ensures)
    (same_answer g.row.N c.in-Err.found c.first.result current is ∙ r.0, r.1)
