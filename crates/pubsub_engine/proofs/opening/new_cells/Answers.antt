use Rattle.std.proofs.Common.{ℕ, ◌<◌, List, length, All, ap, sym, subst, ◌∙◌}
use Rattle.dataset_meta.specs.Metas.{MetaData}
use Rattle.target_cells.specs.Keeping.{metas_of}
use Rattle.pubsub_engine.proofs.ReadSets.{sets-there}
use Rattle.pubsub_engine.proofs.opening.new_cells.Goals as goal

pub new-requires-clause-count : goal.new-requires-clause-count
new-requires-clause-count g c = ap length c.as_slice.ensures.value ∙ c.requires.count

pub new-requires-2-clause-readers : goal.new-requires-2-clause-readers
new-requires-2-clause-readers g c =
    let config = c.args.config.now in
    subst (λ (n : ℕ). All (λ set. set < n) c.as_slice-3.result.now) (sym (ap length c.as_slice-2.ensures))
    (subst (All (λ (set : ℕ). set < length config.dataset)) (sym (c.as_slice-3.ensures.value ∙ c.sets_read-readers.ensures)) (sets-there config c.requires.good))

pub returns : goal.returns
returns g c =
    let config = c.args.config.now in
    let bank = c.in_ok-bank.ensures in
    let targets = c.in_ok-targets.ensures in
    record {
      cells = bank.cells;
      metas = bank.metas;
      quotas = bank.quotas ∙ c.as_slice.ensures.value;
      first = bank.first;
      own = bank.own;
      hands = bank.hands;
      limit = targets.limit;
      kept = targets.kept;
      seats = targets.metas ∙ ap (λ (l : List MetaData). metas_of l c.as_slice-3.result.now) c.as_slice-2.ensures
          ∙ ap (metas_of config.dataset) (c.as_slice-3.ensures.value ∙ c.sets_read-readers.ensures);
      keeper = targets.keeper;
      keeps = targets.own.0;
      looks = targets.looks;
      watch = targets.own.1;
    }
