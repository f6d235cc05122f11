use Rattle.std.proofs.Common.{ℕ, ◌++◌, List, ap, drop, sym, ◌∙◌}
use Rattle.uapubsub_c.specs.Laying.{IsLaidOut}
use Rattle.uapubsub_c.proofs.storing.save.Goals as goal

pub returns-clause-saves : goal.returns-clause-saves
returns-clause-saves c =
    let bytes = c.save-bytes.result in
    record {
      bytes = bytes;
      saved = c.save-bytes.ensures.saved;
      laid = record {
        count_is = c.lay.ensures.length;
        laid = c.lay.ensures.laid ∙ ap (λ (count : ℕ). bytes ++ drop count c.args.buffer.now) (sym c.lay.ensures.length);
      };
    }
