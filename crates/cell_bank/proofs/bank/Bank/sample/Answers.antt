use Rattle.std.proofs.Common.{sym, subst, ap, ◌∙◌}
use Rattle.row_words.specs.Belonging.{Belongs}
use Rattle.version_cell.specs.Histories.{row_after}
use Rattle.version_cell.specs.Known.{Known}
use Rattle.version_cell.specs.Sets.{cell_at, pass_at, no_cell}
use Rattle.cell_bank.proofs.bank.Bank.sample.Goals as goal

pub returns-clause-belongs : goal.returns-clause-belongs
returns-clause-belongs g c = λ cells.
    let set = c.args.set in
    let cell = cell_at c.args.self.now set in
    let pass = pass_at c.read-version.new.passes set in
    let belongs = c.histories_are_the_models.ensures.belongs cell pass (cells set no_cell c.requires.set) (c.read-version.ensures.own.each set c.requires.set) c.read-version.ensures.lawful in
    let words = c.row.ensures.row ∙ ap (λ (p : Known). row_after p.seen) c.pass.ensures.pass in
    subst (Belongs cell.meta) (sym words) belongs
