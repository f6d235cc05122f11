use Rattle.std.proofs.Common.{◌≡◌, ◌++◌, List, ℕ, Option, sym, ap, ◌∙◌, subst, arith}
use Rattle.std.specs.List.{slice_get}
use Rattle.std.specs.Option.{IfSome}
use Rattle.std.proofs.lemmas.Result.{on_ok_weaker}
use Rattle.ps_report.specs.declared.closed.HeldEnd.{HeldEnd}
use Rattle.ps_report.specs.Conditions.{BelongsTo}
use Rattle.ps_report.proofs.Rows.{set_read, load_is}
use Rattle.ps_report.proofs.summary.put_held_row.Goals as goal

pub returns-in-Some : goal.returns-in-Some
returns-in-Some c =
    let held = c.in-Some.held in
    let meta = c.index-sets-from.result in
    let at : c.from.result ≡ c.args.part.now.dataset = grind arith in
    let belongs : BelongsTo (slice_get c.args.sets.now c.args.part.now.dataset) c.in-Some.held.row.words =
    subst (λ (o : Option HeldEnd). IfSome o (λ h. BelongsTo (slice_get c.args.sets.now c.args.part.now.dataset) h.row.words)) c.in-Some.is c.requires in
    let set = set_read c.args.sets.now c.args.part.now.dataset held.row.words meta belongs (rw at at c.index-sets-from.is) in
    let text = load_is c.args.sets.now c.args.part.now c.args.end.now.why c.args.end.now.held held meta c.in-Some.is set in
    on_ok_weaker c.put_row.result (λ e. e ∙ ap (λ (l : List ℕ). c.args.out.now.items ++ l) (sym text)) c.put_row.ensures
