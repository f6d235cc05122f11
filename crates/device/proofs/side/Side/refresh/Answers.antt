use Rattle.std.proofs.Common.{◌≡◌, ℕ, refl, subst, ◌∙◌, arith}
use Rattle.device.specs.Coming.{AreRefreshed, all_writers}
use Rattle.device.proofs.Refreshing.{refreshed-more}
use Rattle.device.proofs.side.Side.refresh.Goals as goal

pub loop-writer-init : goal.loop-writer-init
loop-writer-init c = record {
  side = c.requires;
  index = refl;
  refreshed = record { group = λ metas part past is. is; on = refl; index = refl };
}

pub loop-writer-preserved : goal.loop-writer-preserved
loop-writer-preserved c =
    let invariant = c.loop-writer.invariant in
    let refresh = c.refresh.ensures in
    record {
      side = record {
        index = refresh.index ∙ invariant.side.index;
        keeps_to = refresh.keeps_to c.args.config.now invariant.side.keeps_to;
      };
      index = invariant.index;
      refreshed = refreshed-more c.loop-writer.writer c.args.self.now c.loop-writer.self c.refresh.new.self refresh.stands invariant.refreshed;
    }

pub returns-clause-refreshed : goal.returns-clause-refreshed
returns-clause-refreshed c =
    let all : c.loop-writer.writer ≡ all_writers c.args.config.now c.args.self.now =
    omega (arith, c.loop-writer-test.false, c.loop-writer.auto.writer-end, c.writer_count_of-count.ensures) in
    subst (λ (n : ℕ). AreRefreshed n c.args.self.now c.loop-writer.self) all c.loop-writer.invariant.refreshed
