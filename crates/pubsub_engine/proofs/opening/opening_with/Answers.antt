use Rattle.std.proofs.Common.{sym, ap, ◌∙◌, length}
use Rattle.pubsub_engine.specs.Opened.{IsNewSession}
use Rattle.pubsub_engine.proofs.OpenParts.{bank-of, full-count, new-bank, new-targets, targets-of}
use Rattle.pubsub_engine.proofs.opening.opening_with.Goals as goal

pub new_cells-requires-clause-count : goal.new_cells-requires-clause-count
new_cells-requires-clause-count g c =
    c.requires.writes.count
    ∙ sym (ap length (c.deref.ensures.value ∙ c.requires.sets.full) ∙ full-count c.args.config.now.dataset c.args.size.now.appends.items)

pub new_cells-requires-clause-writes : goal.new_cells-requires-clause-writes
new_cells-requires-clause-writes g c = c.requires.writes.small

pub new_session-requires-clause-passes : goal.new_session-requires-clause-passes
new_session-requires-clause-passes g c =
    let made = c.in_ok-cells.cells in (
      made.bank,
      new-bank c.args.config.now.dataset c.args.size.now.appends.items made.bank (c.in_ok-cells.ensures.metas ∙ c.deref.ensures.value ∙ c.requires.sets.full),
      c.in_ok-cells.ensures.first,
    )

pub new_session-requires-clause-keeper : goal.new_session-requires-clause-keeper
new_session-requires-clause-keeper g c =
    let made = c.in_ok-cells.cells in
    (made.targets.cells, new-targets c.args.config.now made.targets.cells c.in_ok-cells.ensures.seats, c.in_ok-cells.ensures.keeper)

pub returns : goal.returns
returns g c =
    let config = c.args.config.now in
    let size = c.args.size.now in
    let made = c.in_ok-cells.cells in
    let s = c.in_ok-session.session in
    let cells = c.in_ok-cells.ensures in
    let is : IsNewSession config size made.passes made.keeper s = c.in_ok-session.ensures in
    record {
      session = record {
        fresh = is.fresh;
        plan = is.plan;
        appends = is.appends;
        passes = is.passes ∙ cells.first;
        sampled = is.sampled;
        keeper = is.keeper ∙ cells.keeper;
      };
      bank = bank-of config size made.passes made.keeper s made.bank is cells.own (cells.metas ∙ c.deref.ensures.value ∙ c.requires.sets.full) cells.cells;
      quotas = cells.quotas;
      hands = cells.hands;
      targets = targets-of config size made.passes made.keeper s made.targets is cells.keeps cells.limit cells.seats;
      kept = cells.kept;
      watches = cells.looks;
      looks = cells.watch;
    }
