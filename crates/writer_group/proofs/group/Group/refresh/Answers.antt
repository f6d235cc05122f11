use Rattle.std.proofs.Common.{ℕ, get_or, refl, set, sym, ap, ◌∙◌, arith}
use Rattle.std.specs.Vec.{with_item}
use Rattle.std.proofs.lemmas.List.{get_or_default}
use Rattle.writer_group.specs.declared.group.Group.{Group}
use Rattle.writer_group.proofs.ReadyTurns.{keeps-refreshed}
use Rattle.writer_group.proofs.RefreshLaws.{IsRefreshed, goes-refreshed, group-refreshed, logs-refreshed}
use Rattle.writer_group.proofs.group.Group.refresh.Goals as goal
use Rattle.writer_group.proofs.group.Group.refresh.Goals.{After-refresh}

abbrev after : After-refresh → Group
after c = record c.args.self.now { writers = with_item c.args.self.now.writers c.from.result c.refresh.new.self }

refreshed : (c : After-refresh) → IsRefreshed c.args.index c.args.self.now (after c) c.index_mut.result.now c.refresh.new.self
refreshed c =
    let items = c.args.self.now.writers.items in
    let writer = c.index_mut.result.now in
    record {
      within = omega (arith, c.requires, c.args.self.now.writers.ok.0);
      old_is = λ d.
          get_or_default items c.args.index d writer (omega (arith, c.requires, c.args.self.now.writers.ok.0)) ∙ ap (λ (n : ℕ). get_or items n writer) (sym c.from.ensures) ∙ sym c.index_mut.ensures.value;
      new_is = ap (λ (n : ℕ). set items n c.refresh.new.self) c.from.ensures;
      made = refl;
      moment = refl;
      stands = c.refresh.ensures.stands;
      holds = c.refresh.ensures.holds;
      left = c.refresh.ensures.left;
      logs = record { logged = c.refresh.ensures.logged; all = c.refresh.ensures.keeps };
    }

pub returns-clause-stands : goal.returns-clause-stands
returns-clause-stands c = λ metas others part past same stood.
    let r = (goal.at.returns-clause-stands c).After-refresh in
    group-refreshed metas others part past c.args.index c.args.self.now (after r) c.index_mut.result.now c.refresh.new.self (refreshed r) same stood

pub returns-clause-goes_on : goal.returns-clause-goes_on
returns-clause-goes_on c = λ metas others part turns same goes.
    let r = (goal.at.returns-clause-goes_on c).After-refresh in
    goes-refreshed metas others part turns c.args.index c.args.self.now (after r) c.index_mut.result.now c.refresh.new.self (refreshed r) same refl c.args.self.now.writers.ok.0 goes

pub returns-clause-logs : goal.returns-clause-logs
returns-clause-logs c =
    let r = (goal.at.returns-clause-logs c).After-refresh in
    logs-refreshed c.args.index c.args.self.now (after r) c.index_mut.result.now c.refresh.new.self (refreshed r)

pub returns-clause-keeps_to : goal.returns-clause-keeps_to
returns-clause-keeps_to c = λ config keeps.
    let r = (goal.at.returns-clause-keeps_to c).After-refresh in
    keeps-refreshed config c.args.index c.args.self.now (after r) refl
    (λ config part made. record { interval = made.interval; start = made.start; writers = made.writers; slots = made.slots; rooms = made.rooms; leads = made.leads })
    (returns-clause-goes_on c) keeps
